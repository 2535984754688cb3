use Rattle.std.proofs.Common.{◌≡◌, ◌^◌, ◌<◌, take}
use Rattle.std.specs.Str.Parse.{digits_value}
use Rattle.lines.proofs.Numbers.{Digits}
use Rattle.lines.proofs.parse.number.Given as goal

abbrev pub invariant-loop-b : goal.invariant-loop-b
invariant-loop-b l = Digits l.text l.b-index × (digits_value 10 (take l.b-index l.text) ≡ l.number) × (l.number < 2 ^ 64)
