-- What the line of a refused refinement needs; no public contract cites it. Not in `Inner`, which rests on the struct `Pairs`: the code
-- of that struct names this.
use Rattle.std.specs.Prelude.{⊤}
use Rattle.network.specs.declared.Unrefined.{Unrefined}
use Rattle.network.specs.declared.Unrefined.TheVariants.{Refused, Unfinished, Unprepared, OutOfRange, WrongLength}

-- the refinement ran into a contradiction
abbrev pub Contradicts : Unrefined → Type 0
Contradicts (Refused contradiction rounds) = ⊤
Contradicts (Unfinished rounds area) = ⊥
Contradicts Unprepared = ⊥
Contradicts OutOfRange = ⊥
Contradicts WrongLength = ⊥
