-- The limits of a month's numbers.
use Rattle.std.specs.Prelude.{ℕ, Bool, ◌&&◌, nat_le}

abbrev pub between : ℕ → ℕ → ℕ → Bool
between low high x = nat_le low x && nat_le x high

-- the largest contract number
abbrev pub most_number : ℕ
most_number = 65535

-- the largest amount of a contract, in kWh
abbrev pub most_amount : ℕ
most_amount = 1000000000

-- the most that a shortfall, or the amounts in force of one seller, can come to
abbrev pub most_total : ℕ
most_total = 2000000000

-- the most places that a book can have
abbrev pub most_places : ℕ
most_places = 256
