-- A session as its month: none yet, or one of net entries, or one of entries by source.
use Rattle.std.specs.Prelude.{◌≡◌, true, Some, None, Option, Ok, Err, Result, nat_eq}
use Rattle.scale.specs.declared.fault.Fault.{Fault}
use Rattle.entry.specs.declared.joining.Joining as joining
use Rattle.entry.specs.declared.kinds.BySource.{BySource}
use Rattle.entry.specs.declared.kinds.Net.{Net}
use Rattle.entry.specs.Meanings.{net_value, by_source_value}
use Rattle.entry.specs.Words.{Word, word, plus, Words, no_words, plus_both}
use Rattle.ledger.specs.Differences.{difference_in}
use Rattle.lines.specs.declared.reply.Reply.TheVariants.{At, AtBySource}
use Rattle.session.specs.declared.Session.{Session}
use Rattle.session.specs.declared.desk.any.AnyDesk.{AnyDesk}
use Rattle.session.specs.declared.desk.any.AnyDesk.TheVariants as desk
use Rattle.session.specs.declared.stage.Stage.{Stage}
use Rattle.session.specs.Held.{Held, held_of}
use Rattle.session.specs.Turns.{Showing}

pub data Seen : Type 0 where
  none : Seen
  net : Held Word → Seen
  by_source : Held Words → Seen

abbrev pub seen_as : {V : Type 0} → (Held V → Seen) → Option (Held V) → Seen
seen_as make None = none
seen_as make (Some h) = make h

-- what net entries, and entries by source, mean
abbrev pub net_entries : joining.Ghosts Net
net_entries = record { Value = Word; value = net_value; nothing = word 0; joined = plus }

abbrev pub by_source_entries : joining.Ghosts BySource
by_source_entries = record { Value = Words; value = by_source_value; nothing = no_words; joined = plus_both }

-- Positions are told by the entry's numbers; in every life these are the ledger's differences of sold and bought.
abbrev pub net_showing : Showing Word
net_showing = record {
  Shows = λ v reply. (e : Net) × (net_value e ≡ v) × (reply ≡ At e.units);
  tells = λ b agent submarket hour. At (difference_in b (λ _. true) agent submarket hour);
}

abbrev pub by_source_showing : Showing Words
by_source_showing = record {
  Shows = λ v reply. (e : BySource) × (by_source_value e ≡ v) × (reply ≡ AtBySource e.conventional e.incentivised);
  tells = λ b agent submarket hour. AtBySource (difference_in b (nat_eq 0) agent submarket hour) (difference_in b (nat_eq 1) agent submarket hour);
}

-- what a session's desk shows of its month
abbrev pub seen_at : AnyDesk → Seen
seen_at (desk.Net d) = seen_as net (held_of net_entries d)
seen_at (desk.BySource d) = seen_as by_source (held_of by_source_entries d)

abbrev pub seen : Session → Seen
seen s = seen_at s.desk

-- what an opening shows: a refused one has no month
abbrev pub seen_opened : Result AnyDesk Fault → Seen
seen_opened (Ok d) = seen_at d
seen_opened (Err f) = none

abbrev pub stage_of : AnyDesk → Stage
stage_of (desk.Net d) = d.stage
stage_of (desk.BySource d) = d.stage
