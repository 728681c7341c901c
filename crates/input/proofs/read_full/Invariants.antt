-- `input::read_full` meets its contract. The loop's invariant: what was read stands in front of the space.
use Rattle.std.proofs.Common.{◌≡◌, ℕ, ◌-◌, ◌≤◌, List, Option, length, take}
use Rattle.std.specs.Io.KnownBytes.{Consumes}
use Rattle.input.proofs.read_full.Given as goal

pub record InFront (bytes left : Option (List ℕ)) (space space' : List ℕ) (done : ℕ) : Type 0 where
  pub long : length space' ≡ length space
  pub within : done ≤ length space'
  pub consumed : Consumes bytes left (take done space')

abbrev pub invariant-loop-done : goal.invariant-loop-done
invariant-loop-done g l = InFront (g.R.Read.remaining l.initial.reader) (g.R.Read.remaining l.reader) l.initial.space l.space l.done

abbrev pub decreases-loop-done : goal.decreases-loop-done
decreases-loop-done g l = length l.initial.space - l.done
