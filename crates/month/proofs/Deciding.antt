-- The checks of a confirmation, once the contract is found.
use Rattle.std.proofs.Common.{◌≡◌, ℕ, ◌+◌, ◌-◌, leb, List, [], ◌∷◌, is_some, Ok, Option, sym, ap, ◌∙◌, arith}
use Rattle.scale.specs.Refusals.{Refusal, unless, first_of}
use Rattle.book.specs.declared.contract.Contract.{Contract}
use Rattle.book.specs.declared.contract.Event.TheVariants.{Confirmation}
use Rattle.book.specs.Limits.{most_total}
use Rattle.book.specs.Sound.{seller_total}
use Rattle.book.specs.States.{allowed, state_after}
use Rattle.book.specs.Supply.{supply_check}
use Rattle.ledger.specs.Checks.{confirm_refusal}
use Rattle.ledger.specs.States.{State, contracts, contract_at}
use Rattle.month.specs.Settling.{Chosen, DecidedAt}

-- what is examined at the place of a contract
abbrev pub confirm_of : ℕ → List Contract → Contract → ℕ → ℕ → List ℕ → Option Refusal
confirm_of hours cs c agent place weights = first_of (
    first_of (unless (allowed Confirmation c.terms agent) 9 place ∷ unless (is_some (state_after c.state Confirmation)) 10 place ∷ [])
    ∷ supply_check hours c.terms weights
    ∷ unless (leb (seller_total c.terms.seller cs + c.terms.amount) most_total) 15 place
    ∷ [])

pub confirm_decided : {V : Type 0} (s : State V) (number index : ℕ) (c : Contract) → Chosen s number (λ c. c) index c → DecidedAt s number (Ok (index, c))
    → (agent : ℕ) (weights : List ℕ) → confirm_refusal s number agent weights ≡ confirm_of s.sizes.hours (contracts s) c agent (index + 1) weights
confirm_decided s number index c chosen decided agent weights =
    decided (λ place. confirm_of s.sizes.hours (contracts s) (contract_at s (place - 1)) agent place weights)
    ∙ ap (λ (x : Contract). confirm_of s.sizes.hours (contracts s) x agent (index + 1) weights)
    (ap (contract_at s) (let e : index + 1 - 1 ≡ index = omega arith in e) ∙ sym chosen.is)
