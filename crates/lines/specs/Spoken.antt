-- What each reply reads like.
use Rattle.std.specs.Prelude.{ℕ, List, [], ◌∷◌, ◌++◌, Ok, Err, Result, codes, decimal}
use Rattle.std.specs.Fmt.{signed_decimal}
use Rattle.scale.specs.Refusals.{Refusal, told}
use Rattle.scale.specs.declared.fault.Fault.{Fault}
use Rattle.lines.specs.declared.reply.Reply.{Reply}
use Rattle.lines.specs.declared.reply.Reply.TheVariants.{Done, Refused, At, AtBySource}

abbrev pub spoken : Reply → List ℕ
spoken Done = codes "ok"
spoken (Refused number spot) = codes "no " ++ (decimal number ++ (codes " " ++ decimal spot))
spoken (At net) = codes "at " ++ signed_decimal net
spoken (AtBySource conventional incentivised) = codes "at " ++ (signed_decimal conventional ++ (codes " " ++ signed_decimal incentivised))

-- a reply as a line, with its line feed
abbrev pub spoken_line : Reply → List ℕ
spoken_line r = spoken r ++ (10 ∷ [])

-- the reply to a refusal, and the line that it is
abbrev pub refused : Refusal → Reply
refused f = Refused f.number f.spot

abbrev pub refused_line : Refusal → List ℕ
refused_line f = spoken_line (refused f)

-- the reply to a call that is accepted or refused, and tells no more
abbrev pub acknowledged : {A : Type 0} → Result A Fault → Reply
acknowledged (Ok a) = Done
acknowledged (Err fault) = refused (told fault)
