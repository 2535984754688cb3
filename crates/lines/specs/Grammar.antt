-- How a command is written on a line: its letter, then its numbers, each after one space.
use Rattle.std.specs.Prelude.{◌≡◌, ℕ, ◌^◌, ◌<◌, ◌≤◌, List, [], ◌∷◌, ◌++◌, length, IfSome, Some, decimal, Option, MatchOption, ◌≢◌}
use Rattle.lines.specs.declared.command.Command.{Command}
use Rattle.lines.specs.declared.command.Command.TheVariants.{Open, Offer, Confirm, End, Tell, Position, Close, Certificate}

-- a number after its space, in decimal digits with no zero in front
abbrev pub spaced : ℕ → List ℕ
spaced n = 32 ∷ decimal n

-- numbers, each after its space
abbrev pub spelled : List ℕ → List ℕ
spelled [] = []
spelled (n ∷ ns) = spaced n ++ spelled ns

-- the letters M, O, C, E, S, P, Z, T
abbrev pub letter : Command → ℕ
letter (Open agents hours places kind) = 77
letter (Offer number seller buyer submarket class source first last amount) = 79
letter (Confirm number agent) = 67
letter (End number agent) = 69
letter (Tell agent kwh) = 83
letter (Position agent submarket hour) = 80
letter Close = 90
letter (Certificate agent) = 84

abbrev pub numbers : Command → List ℕ
numbers (Open agents hours places kind) = agents ∷ hours ∷ places ∷ kind ∷ []
numbers (Offer number seller buyer submarket class source first last amount) = number ∷ seller ∷ buyer ∷ submarket ∷ class ∷ source ∷ first ∷ last ∷ amount ∷ []
numbers (Confirm number agent) = number ∷ agent ∷ []
numbers (End number agent) = number ∷ agent ∷ []
numbers (Tell agent kwh) = agent ∷ kwh ∷ []
numbers (Position agent submarket hour) = agent ∷ submarket ∷ hour ∷ []
numbers Close = []
numbers (Certificate agent) = agent ∷ []

-- a call number, of 16 bits
abbrev pub Short : ℕ → Type 0
Short n = n < 2 ^ 16

-- a contract number
abbrev pub Numbered : ℕ → Type 0
Numbered n = Short n

-- each number fits its field
abbrev pub InFields : Command → Type 0
InFields (Open agents hours places kind) = Short agents × Short hours × Short places × Short kind
InFields (Offer number seller buyer submarket class source first last amount) = Numbered number × Short seller × Short buyer × Short submarket × Short class × Short source × Short first × Short last × (amount < 2 ^ 32)
InFields (Confirm number agent) = Numbered number × Short agent
InFields (End number agent) = Numbered number × Short agent
InFields (Tell agent kwh) = Short agent × (kwh < 2 ^ 64)
InFields (Position agent submarket hour) = Short agent × Short submarket × Short hour
InFields Close = Unit {0}
InFields (Certificate agent) = Short agent

-- the line that a command is written as
abbrev pub written : Command → List ℕ
written c = letter c ∷ spelled (numbers c)

-- what a line is read as: the command that is written so, or nothing where no command is
abbrev pub Parsed : List ℕ → Option Command → Type 0
Parsed line r = MatchOption r ((c : Command) → InFields c → line ≢ written c) (λ c. InFields c × (line ≡ written c))

-- every command that is written so is the one that was read
abbrev pub Exact : List ℕ → Option Command → Type 0
Exact line r = (c : Command) → InFields c → line ≡ written c → r ≡ Some c

-- how many bytes a line has at most
abbrev pub longest : ℕ
longest = 80

-- a line that is read as a command is no longer than a line may be
abbrev pub Within : List ℕ → Option Command → Type 0
Within line r = IfSome r (λ c. length line ≤ longest)

-- What follows speaks of the parts of a line, between letter and end.

abbrev pub AllShort : List ℕ → Type 0
AllShort [] = Unit {0}
AllShort (n ∷ ns) = Short n × AllShort ns

-- each number has at most 64 bits
abbrev pub AllWide : List ℕ → Type 0
AllWide [] = Unit {0}
AllWide (n ∷ ns) = (n < 2 ^ 64) × AllWide ns

-- what a letter and the numbers after it mean: a command, or nothing that fits
abbrev pub Means : ℕ → List ℕ → Option Command → Type 0
Means l ns r = MatchOption r ((c : Command) → InFields c → letter c ≡ l → numbers c ≢ ns) (λ c. InFields c × (letter c ≡ l) × (numbers c ≡ ns))

-- text spells ns, and no other numbers
pub record Only (text ns : List ℕ) : Type 0 where
  pub spells : text ≡ spelled ns
  pub only : (ms : List ℕ) → AllWide ms → text ≡ spelled ms → ms ≡ ns
