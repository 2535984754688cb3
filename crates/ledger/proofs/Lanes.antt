-- What a contract puts on the lanes of a board: on two lanes, off again, and over all agents.
use Rattle.std.proofs.Common.{◌≡◌, ℕ, ◌+◌, ◌-◌, ◌*◌, ◌<◌, ◌≤◌, Bool, true, false, cond, eqb, ◌≢◌, List, sym, refl, ap, ◌∙◌, inl, inr, arith}
use Rattle.std.proofs.lemmas.Bool.{cases_eq, cases_Bool, eq-eqb, ne_eqb, cond-true, cond-false}
use Rattle.entry.specs.declared.source.Source.{Source}
use Rattle.entry.specs.declared.source.Source.TheVariants.{Conventional, Incentivised}
use Rattle.entry.specs.Kinds.{Kind, Laws, Cancels, joins, up_to}
use Rattle.entry.proofs.Totals.{unit_left, exchange, up_same, up_none, up_join, up_only}
use Rattle.scale.specs.Shares.{Rule}
use Rattle.book.specs.declared.contract.Contract.{Contract}
use Rattle.book.specs.declared.sizes.Sizes.{Sizes}
use Rattle.book.specs.States.{in_force}
use Rattle.book.specs.Terms.{Acceptable, fields, source_number}
use Rattle.board.specs.Lanes.{lane}
use Rattle.board.specs.Moves.{share}
use Rattle.ledger.specs.Boards.{seller_lane, buyer_lane, quantity_of, puts, takes_off, stays, changes, AllCancel}
use Rattle.ledger.specs.Past.{traded, source_of}

module _ {V : Type 0} (k : Kind V) (from to : ℕ) (s : Source) (q : ℕ) where
  share_from : (l : ℕ) → l ≡ from → share k from to s q l ≡ k.sold q s
  share_from l e = cond-true (eqb l from) _ _ (eq-eqb l from e)

  share_to : (l : ℕ) → l ≢ from → l ≡ to → share k from to s q l ≡ k.bought q s
  share_to l ne e = cond-false (eqb l from) _ _ (ne_eqb l from ne) ∙ cond-true (eqb l to) _ _ (eq-eqb l to e)

  share_none : (l : ℕ) → l ≢ from → l ≢ to → share k from to s q l ≡ k.nothing
  share_none l nf nt = cond-false (eqb l from) _ _ (ne_eqb l from nf) ∙ cond-false (eqb l to) _ _ (ne_eqb l to nt)

abbrev only : {V : Type 0} → Kind V → ℕ → V → ℕ → V
only k x v l = cond (eqb l x) v k.nothing

source_back : (s : Source) → source_of (source_number s) ≡ s
source_back Conventional = refl
source_back Incentivised = refl

-- the lanes of a contract lie apart
lanes_apart : (z : Sizes) (c : Contract) → Acceptable z (fields c.terms) → seller_lane c ≢ buyer_lane c
lanes_apart z c fit e = fit.parties (omega arith)

module _ {V : Type 0} (k : Kind V) (laws : Laws (joins k)) where
  pub join_both : {a b c d : V} → a ≡ b → c ≡ d → k.join a c ≡ k.join b d
  join_both {a} {b} {c} {d} e f = ap (λ x. k.join x c) e ∙ ap (k.join b) f

  -- a share is what leaves joined with what enters
  split : (from to : ℕ) (s : Source) (q l : ℕ) → from ≢ to → share k from to s q l ≡ k.join (only k from (k.sold q s) l) (only k to (k.bought q s) l)
  split from to s q l apart = elim (cases_eq l from) [
    | inl e ↦ share_from k from to s q l e ∙ sym (laws.unit _)
        ∙ join_both (sym (cond-true _ _ _ (eq-eqb l from e))) (sym (cond-false _ _ _ (ne_eqb l to (λ x. apart (sym e ∙ x)))))
    | inr nf ↦ elim (cases_eq l to) [
      | inl e ↦ share_to k from to s q l nf e ∙ sym (unit_left (joins k) laws _)
          ∙ join_both (sym (cond-false _ _ _ (ne_eqb l from nf))) (sym (cond-true _ _ _ (eq-eqb l to e)))
      | inr nt ↦ share_none k from to s q l nf nt ∙ sym (laws.unit _)
          ∙ join_both (sym (cond-false _ _ _ (ne_eqb l from nf))) (sym (cond-false _ _ _ (ne_eqb l to nt)))
    ]
  ]

  -- what one lane has, over all agents at a submarket
  lane_sum : (agents x y m : ℕ) (v : V) → 1 ≤ x → x ≤ agents → 1 ≤ y → y ≤ 4 → m < 4
      → up_to (joins k) agents (λ a. only k (lane x y) v (a * 4 + m)) ≡ cond (eqb m (y - 1)) v k.nothing
  lane_sum agents x y m v x1 xa y1 y4 m4 = elim (cases_eq m (y - 1)) [
    | inl e ↦ up_same (joins k) laws agents _ (λ a. cond (eqb a (x - 1)) v k.nothing) (λ a p. ap (λ b. cond b v k.nothing) (elim (cases_eq a (x - 1)) [
      | inl ea ↦ eq-eqb (a * 4 + m) (lane x y) (omega arith) ∙ sym (eq-eqb a (x - 1) ea)
      | inr na ↦ ne_eqb (a * 4 + m) (lane x y) (λ z. na (omega arith)) ∙ sym (ne_eqb a (x - 1) na)
    ]))
        ∙ up_only (joins k) laws agents (x - 1) v (omega arith) ∙ sym (cond-true _ _ _ (eq-eqb m (y - 1) e))
    | inr ne ↦ up_none (joins k) laws agents _ (λ a p. cond-false _ _ _ (ne_eqb (a * 4 + m) (lane x y) (λ z. ne (omega arith)))) ∙ sym (cond-false _ _ _ (ne_eqb m (y - 1) ne))
  ]

  both : (b : Bool) (v w : V) → k.join v w ≡ k.nothing → k.join (cond b v k.nothing) (cond b w k.nothing) ≡ k.nothing
  both true v w e = e
  both false v w e = laws.unit k.nothing

  module _ (z : Sizes) (c : Contract) (fit : Acceptable z (fields c.terms)) (q : ℕ) (cancel : Cancels k q c.terms.source) where
    abbrev sold : V
    sold = k.sold q c.terms.source

    abbrev bought : V
    bought = k.bought q c.terms.source

    -- over all agents a contract puts nothing
    share_sum : (m : ℕ) → m < 4 → up_to (joins k) z.agents (λ a. share k (seller_lane c) (buyer_lane c) c.terms.source q (a * 4 + m)) ≡ k.nothing
    share_sum m m4 =
        up_same (joins k) laws z.agents _ _ (λ a p. split (seller_lane c) (buyer_lane c) c.terms.source q (a * 4 + m) (lanes_apart z c fit))
        ∙ up_join (joins k) laws z.agents (λ a. only k (seller_lane c) sold (a * 4 + m)) (λ a. only k (buyer_lane c) bought (a * 4 + m))
        ∙ join_both
        (lane_sum z.agents c.terms.seller c.terms.submarket m sold fit.seller.0 fit.seller.1 fit.submarket.0 fit.submarket.1 m4)
        (lane_sum z.agents c.terms.buyer c.terms.submarket m bought fit.buyer.0 fit.buyer.1 fit.submarket.0 fit.submarket.1 m4)
        ∙ both (eqb m (c.terms.submarket - 1)) sold bought cancel

    -- put on and taken off again, a contract puts nothing
    share_back : (l : ℕ) → k.join (share k (seller_lane c) (buyer_lane c) c.terms.source q l) (share k (buyer_lane c) (seller_lane c) c.terms.source q l) ≡ k.nothing
    share_back l =
        let sl = seller_lane c in
        let bl = buyer_lane c in
        join_both (split sl bl c.terms.source q l (lanes_apart z c fit))
        (split bl sl c.terms.source q l (λ e. lanes_apart z c fit (sym e)) ∙ laws.comm (only k bl sold l) (only k sl bought l))
        ∙ exchange (joins k) laws (only k sl sold l) (only k bl bought l) (only k sl bought l) (only k bl sold l)
        ∙ join_both (both (eqb l sl) sold bought cancel) (both (eqb l bl) bought sold (laws.comm bought sold ∙ cancel))
        ∙ laws.unit k.nothing

  module _ (rule : Rule) (z : Sizes) (hours : ℕ) (c : Contract) (row : List ℕ) (fit : Acceptable z (fields c.terms))
      (cancel : AllCancel k rule hours c row) (hour : ℕ) (inside : hour < hours) where
    pub puts_sum : (m : ℕ) → m < 4 → up_to (joins k) z.agents (λ a. puts k rule c row (a * 4 + m) hour) ≡ k.nothing
    puts_sum m m4 = elim (cases_Bool (in_force c)) [
      | inl y ↦ up_same (joins k) laws z.agents _ _ (λ a p. cond-true _ _ _ y) ∙ share_sum z c fit (quantity_of rule c row hour) (cancel y hour inside) m m4
      | inr n ↦ up_none (joins k) laws z.agents _ (λ a p. cond-false _ _ _ n)
    ]

    pub puts_back : (l : ℕ) → k.join (puts k rule c row l hour) (takes_off k rule c row l hour) ≡ k.nothing
    puts_back l = elim (cases_Bool (in_force c)) [
      | inl y ↦ join_both (cond-true _ _ _ y) (cond-true _ _ _ y) ∙ share_back z c fit (quantity_of rule c row hour) (cancel y hour inside) l
      | inr n ↦ join_both (cond-false _ _ _ n) (cond-false _ _ _ n) ∙ laws.unit k.nothing
    ]

  -- a lane is of one agent and one submarket: what a contract puts there is what it means to them
  module _ (z : Sizes) (c : Contract) (fit : Acceptable z (fields c.terms)) (q agent submarket : ℕ)
      (a1 : 1 ≤ agent) (m1 : 1 ≤ submarket) (m4 : submarket ≤ 4) where
    pub share_traded : share k (seller_lane c) (buyer_lane c) c.terms.source q (lane agent submarket) ≡ traded k (fields c.terms) agent submarket q
    share_traded = elim (cases_eq c.terms.submarket submarket) [
      | inl e ↦
          let same : (x : ℕ) → 1 ≤ x → eqb (lane agent submarket) (lane x c.terms.submarket) ≡ eqb x agent =
          λ x x1. elim (cases_eq x agent) [
            | inl ex ↦ eq-eqb (lane agent submarket) (lane x c.terms.submarket) (omega arith) ∙ sym (eq-eqb x agent ex)
            | inr nx ↦ ne_eqb (lane agent submarket) (lane x c.terms.submarket) (λ y. nx (omega arith)) ∙ sym (ne_eqb x agent nx)
          ] in
          ap (λ (b : Bool). cond b (k.sold q c.terms.source) (cond (eqb (lane agent submarket) (buyer_lane c)) (k.bought q c.terms.source) k.nothing)) (same c.terms.seller fit.seller.0)
          ∙ ap (λ (b : Bool). cond (eqb c.terms.seller agent) (k.sold q c.terms.source) (cond b (k.bought q c.terms.source) k.nothing)) (same c.terms.buyer fit.buyer.0)
          ∙ ap (λ (x : Source). cond (eqb c.terms.seller agent) (k.sold q x) (cond (eqb c.terms.buyer agent) (k.bought q x) k.nothing)) (sym (source_back c.terms.source))
          ∙ sym (cond-true _ _ _ (eq-eqb c.terms.submarket submarket e))
      | inr ne ↦
          share_none k (seller_lane c) (buyer_lane c) c.terms.source q (lane agent submarket) (λ x. ne (omega (arith, fit.seller.0, fit.submarket.0, fit.submarket.1))) (λ x. ne (omega (arith, fit.buyer.0, fit.submarket.0, fit.submarket.1)))
          ∙ sym (cond-false _ _ _ (ne_eqb c.terms.submarket submarket ne))
    ]

  -- what a place puts, joined with its change, is what it puts next
  module _ (rule : Rule) (z : Sizes) (hours : ℕ) (c d : Contract) (row new : List ℕ) (fit : Acceptable z (fields c.terms))
      (cancel : AllCancel k rule hours c row) (hour : ℕ) (inside : hour < hours)
      (same : stays c d ≡ true → (l : ℕ) → puts k rule d new l hour ≡ puts k rule c row l hour) where
    pub puts_next : (l : ℕ) → k.join (puts k rule c row l hour) (changes k rule c row d new l hour) ≡ puts k rule d new l hour
    puts_next l = elim (cases_Bool (stays c d)) [
      | inl y ↦ ap (k.join (puts k rule c row l hour)) (cond-true _ _ _ y) ∙ laws.unit (puts k rule c row l hour) ∙ sym (same y l)
      | inr n ↦ ap (k.join (puts k rule c row l hour)) (cond-false _ _ _ n)
          ∙ sym (laws.assoc (puts k rule c row l hour) (takes_off k rule c row l hour) (puts k rule d new l hour))
          ∙ ap (λ x. k.join x (puts k rule d new l hour)) (puts_back rule z hours c row fit cancel hour inside l)
          ∙ unit_left (joins k) laws (puts k rule d new l hour)
    ]
