-- Bytes written over a page, and a line at its front.
use Rattle.std.specs.Prelude.{◌≡◌, ℕ, ◌+◌, ◌≤◌, List, ◌++◌, length, take, drop}
use Rattle.page.specs.declared.pen.Pen.{Pen}

-- a page with bytes written over it, from an index on
abbrev pub over : ℕ → List ℕ → List ℕ → List ℕ
over at bytes page = take at page ++ (bytes ++ drop (at + length bytes) page)

-- a line stands at the front of a page, whose rest stays, and n is its length
pub record Fronted (line before after : List ℕ) (n : ℕ) : Type 0 where
  pub count : n ≡ length line
  pub page : after ≡ line ++ drop n before

-- a pen's page has room for n more bytes
abbrev pub HasRoom : Pen → ℕ → Type 0
HasRoom pen n = pen.at + n ≤ length pen.page.now

-- a pen's page is the one that it had: it was not put aside for another
abbrev pub SamePage : Pen → Pen → Type 0
SamePage before after = after.page.ghost_name ≡ before.page.ghost_name

-- bytes are written where the pen stood, for which there was room; the rest of the page stays, and the pen stands behind them
pub record Wrote (before : Pen) (bytes : List ℕ) (after : Pen) : Type 0 where
  pub room : HasRoom before (length bytes)
  pub page : after.page.now ≡ over before.at bytes before.page.now
  pub at : after.at ≡ before.at + length bytes
  pub long : length after.page.now ≡ length before.page.now
