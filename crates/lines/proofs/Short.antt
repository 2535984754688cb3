-- No command is longer than a line may be.
use Rattle.std.proofs.Common.{◌≡◌, ℕ, ◌+◌, ◌*◌, ◌^◌, ◌<◌, ◌≤◌, List, [], ◌∷◌, ◌++◌, length, Some, None, Option, ap, arith, length-append}
use Rattle.std.proofs.lemmas.Fmt.{length-decimal-le}
use Rattle.lines.specs.Grammar.{spaced, spelled, AllShort, InFields, written, longest, Parsed, Within}
use Rattle.lines.specs.declared.command.Command.{Command}
use Rattle.lines.specs.declared.command.Command.TheVariants.{Open, Offer, Confirm, End, Tell, Position, Close, Certificate}

-- a number of at most k digits after its space, and what follows
then : (k n : ℕ) (rest : List ℕ) → 0 < k → n < 10 ^ k → n < 2 ^ 64 → length (spaced n ++ rest) ≤ 1 + k + length rest
then k n rest some fits small = omega (arith, length-append (spaced n) rest, length-decimal-le k n some fits small)

shorts_then : (ns ms : List ℕ) → AllShort ns → length (spelled (ns ++ ms)) ≤ 6 * length ns + length (spelled ms)
shorts_then [] ms s = omega arith
shorts_then (n ∷ ns) ms s = omega (arith, then 5 n (spelled (ns ++ ms)) (omega arith) (omega arith) (omega arith), shorts_then ns ms s.1)

pub short : (c : Command) → InFields c → length (written c) ≤ longest
short (Open a b c d) s = omega (arith, shorts_then (a ∷ b ∷ c ∷ d ∷ []) [] (s.0, (s.1, (s.2, (s.3, tt)))))
short (Offer a b c d e f g h x) s = omega (arith, shorts_then (a ∷ b ∷ c ∷ d ∷ e ∷ f ∷ g ∷ h ∷ []) (x ∷ []) (s.0, (s.1, (s.2, (s.3, (s.4, (s.5, (s.6, (s.7, tt)))))))), then 10 x [] (omega arith) (omega arith) (omega arith))
short (Confirm a b) s = omega (arith, shorts_then (a ∷ b ∷ []) [] (s.0, (s.1, tt)))
short (End a b) s = omega (arith, shorts_then (a ∷ b ∷ []) [] (s.0, (s.1, tt)))
short (Tell a x) s = omega (arith, shorts_then (a ∷ []) (x ∷ []) (s.0, tt), then 20 x [] (omega arith) (omega arith) s.1)
short (Position a b c) s = omega (arith, shorts_then (a ∷ b ∷ c ∷ []) [] (s.0, (s.1, (s.2, tt))))
short Close s = omega arith
short (Certificate a) s = omega (arith, shorts_then (a ∷ []) [] (s, tt))

pub within : (line : List ℕ) (r : Option Command) → Parsed line r → Within line r
within line None h = tt
within line (Some c) h = omega (arith, ap length h.1, short c h.0)

pub too_long : (line : List ℕ) → longest < length line → (c : Command) → InFields c → line ≡ written c → ⊥
too_long line long c fits e = omega (arith, ap length e, short c fits)
