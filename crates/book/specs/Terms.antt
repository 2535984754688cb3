-- The terms of a contract: their numbers, and which offers are refused.
use Rattle.std.specs.Prelude.{◌≡◌, ℕ, ◌≤◌, false, not, ◌&&◌, ◌≢◌, List, [], ◌∷◌, Option, Result, MatchResult, ◌==◌, nat_le}
use Rattle.scale.specs.Refusals.{Refusal, unless}
use Rattle.entry.specs.declared.source.Source.TheVariants.{Conventional}
pub use Rattle.entry.specs.Sources.{source_number}
use Rattle.book.specs.Limits.{between, most_number, most_amount}
use Rattle.book.specs.declared.contract.Class.{Class}
use Rattle.book.specs.declared.contract.UnknownClass.{UnknownClass}
use Rattle.book.specs.declared.contract.Class.TheVariants.{Free, Retail, Regulated, Plant}
use Rattle.book.specs.declared.contract.Contract.{Contract}
use Rattle.book.specs.declared.contract.Offer.{Offer}
use Rattle.book.specs.declared.contract.State.TheVariants.{Offered}
use Rattle.book.specs.declared.contract.Terms.{Terms}
use Rattle.book.specs.declared.sizes.Sizes.{Sizes}

abbrev pub class_number : Class → ℕ
class_number Free = 1
class_number Retail = 2
class_number Regulated = 3
class_number Plant = 4

-- the class that has the number, or an error with a number that no class has
abbrev pub IsClassOf : ℕ → Result Class UnknownClass → Type 0
IsClassOf number r = MatchResult r (λ class. class_number class ≡ number) (λ e. (e.0 ≡ number) × (between 1 4 number ≡ false))

-- the nine fields as plain numbers
abbrev pub fields : Terms → Offer
fields t = record {
  number = t.number;
  seller = t.seller;
  buyer = t.buyer;
  submarket = t.submarket;
  class = class_number t.class;
  source = source_number t.source;
  first = t.first;
  last = t.last;
  amount = t.amount;
}

-- the checks of an offer: each field by its position, then that seller and buyer differ
abbrev pub offer_checks : Sizes → Offer → List (Option Refusal)
offer_checks sizes o =
    unless (between 1 most_number o.number) 4 1
    ∷ unless (between 1 sizes.agents o.seller) 4 2
    ∷ unless (between 1 sizes.agents o.buyer) 4 3
    ∷ unless (between 1 4 o.submarket) 4 4
    ∷ unless (between 1 4 o.class) 4 5
    ∷ unless (between 0 1 o.source) 4 6
    ∷ unless (between 1 sizes.hours o.first) 4 7
    ∷ unless (between 1 sizes.hours o.last && nat_le o.first o.last) 4 8
    ∷ unless (between 1 most_amount o.amount) 4 9
    ∷ unless (not (o.seller == o.buyer)) 5 0
    ∷ []

-- an offer that no check refuses
pub record Acceptable (sizes : Sizes) (o : Offer) : Type 0 where
  pub number : (1 ≤ o.number) × (o.number ≤ most_number)
  pub seller : (1 ≤ o.seller) × (o.seller ≤ sizes.agents)
  pub buyer : (1 ≤ o.buyer) × (o.buyer ≤ sizes.agents)
  pub submarket : (1 ≤ o.submarket) × (o.submarket ≤ 4)
  pub class : (1 ≤ o.class) × (o.class ≤ 4)
  pub source : o.source ≤ 1
  pub first : (1 ≤ o.first) × (o.first ≤ sizes.hours)
  pub last : (o.first ≤ o.last) × (o.last ≤ sizes.hours)
  pub amount : (1 ≤ o.amount) × (o.amount ≤ most_amount)
  pub parties : o.seller ≢ o.buyer

-- what a reading past the last place counts as
abbrev pub blank : Contract
blank = record {
  terms = record {
    number = 0;
    seller = 0;
    buyer = 0;
    submarket = 0;
    class = Free;
    source = Conventional;
    first = 0;
    last = 0;
    amount = 0;
  };
  effective = 0;
  state = Offered;
}

-- a contract just offered
abbrev pub offered : Terms → Contract
offered t = record { terms = t; effective = 0; state = Offered }

-- what an accepted offer puts at its place
pub record Offers (o : Offer) (c : Contract) : Type 0 where
  pub terms : fields c.terms ≡ o
  pub effective : c.effective ≡ 0
  pub state : c.state ≡ Offered
