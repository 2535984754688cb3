use Rattle.std.proofs.Common.{refl}
use Rattle.session.specs.declared.kind.BoardKind.TheVariants.{Net, BySource}
use Rattle.session.specs.Held.{held_of}
use Rattle.session.specs.Seen.{net_entries, by_source_entries}
use Rattle.session.proofs.Stepping.{opens_of}
use Rattle.session.proofs.desk.any.AnyDesk.open.Goals as goal

pub returns-in_ok-open-in-Net : goal.returns-in_ok-open-in-Net
returns-in_ok-open-in-Net c =
    let e = c.in_ok-open-in-Net.ensures in
    opens_of _ _ _ _ _ _ c.in_ok-try_from.field-0 Net c.in-Net.is c.in_ok-try_from.ensures (e.refused, (held_of net_entries c.in_ok-open-in-Net.field-0, refl, e.begun))

pub returns-in_ok-open-in-BySource : goal.returns-in_ok-open-in-BySource
returns-in_ok-open-in-BySource c =
    let e = c.in_ok-open-in-BySource.ensures in
    opens_of _ _ _ _ _ _ c.in_ok-try_from.field-0 BySource c.in-BySource.is c.in_ok-try_from.ensures (e.refused, (held_of by_source_entries c.in_ok-open-in-BySource.field-0, refl, e.begun))
