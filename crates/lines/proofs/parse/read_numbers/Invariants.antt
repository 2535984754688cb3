use Rattle.std.proofs.Common.{◌≡◌, map, decimal}
use Rattle.lines.specs.Grammar.{AllWide}
use Rattle.lines.proofs.parse.read_numbers.Given as goal

abbrev pub invariant-loop-word : goal.invariant-loop-word
invariant-loop-word l = (map (λ x. x.now) l.yielded ≡ map decimal l.numbers.items) × AllWide l.numbers.items
