-- The refinement of a matrix: preparation, then rounds until one changes nothing or empties a cell.
use Rattle.std.specs.Prelude.{ℕ, zero, suc, ◌*◌, ◌-◌, ◌/◌, not, ◌&&◌, List, leb, Ok, Err}
use Rattle.answer.specs.Answer.{answer}
use Rattle.answer.specs.Ending.{Ending, accepted, refused, stop}
use Rattle.matrix.specs.Square.{in_range, has_square}
use Rattle.refinement.specs.declared.Contradiction.TheVariants.{Region, Pair, Triple}
use Rattle.refinement.specs.declared.Step.{Step}
use Rattle.refinement.specs.declared.Step.TheVariants.{Empty, Same, Changed}
use Rattle.refinement.specs.Prepare.{Preparation, prepared, preparation}
use Rattle.refinement.specs.Round.{round}
use Rattle.refinement.specs.Step.{step_of}

-- the most rounds that can change something: 7 relations lost at each pair
unfoldable pub most_rounds : ℕ → ℕ
most_rounds n = 7 * (n * (n - 1) / 2)

-- a step from `old` after `count` rounds that changed something: refused with 23, accepted, or what follows
abbrev pub stepped : Step → ℕ → List ℕ → (Unit {0} → Ending (List ℕ)) → Ending (List ℕ)
stepped (Empty i k j) count old follows = refused (answer 23 i.0 k.0 j.0 (suc count))
stepped Same count old follows = accepted old count
stepped Changed count old follows = follows tt

-- the rounds from `old` on, after `count` rounds that changed something; `more` is how many may still be made, and where they are
-- used up the ending is 24
unfoldable pub rounds : ℕ → ℕ → ℕ → List ℕ → Ending (List ℕ)
rounds zero n count old = refused (answer 24 0 0 0 count)
rounds (suc more) n count old = stepped (step_of n old) count old (λ _. rounds more n (suc count) (round n old))

-- all rounds from a matrix that the node and arc rules have passed: more than can change something, so that they are never used up
abbrev pub all_rounds : ℕ → List ℕ → Ending (List ℕ)
all_rounds n m = rounds (suc (most_rounds n)) n 0 m

-- a preparation: what follows, or refused with 21 or 22; it never ends along a triple, which is 23
abbrev pub started : Preparation → (Unit {0} → Ending (List ℕ)) → Ending (List ℕ)
started (Ok ready) follows = follows tt
started (Err (Region i)) follows = refused (answer 21 i.0 0 0 0)
started (Err (Pair i j)) follows = refused (answer 22 i.0 j.0 0 0)
started (Err (Triple i k j)) follows = refused (answer 23 i.0 k.0 j.0 0)

unfoldable pub refine : ℕ → List ℕ → Ending (List ℕ)
refine n m = started (preparation n m) (λ _. all_rounds n (prepared n m))

-- the checks of a call, with the cells and how long each area is, before what follows: n outside 1 to 64 is 1; other than n² cells or
-- a shorter area is 2
abbrev pub limited : ℕ → List ℕ → ℕ → ℕ → (Unit {0} → Ending (List ℕ)) → Ending (List ℕ)
limited n m first second follows =
    stop (not (in_range n)) (refused (answer 1 0 0 0 0))
    (λ _. stop (not (has_square n m && (leb (n * n) first && leb (n * n) second))) (refused (answer 2 0 0 0 0)) follows)

-- the whole call
unfoldable pub refined : ℕ → List ℕ → ℕ → ℕ → Ending (List ℕ)
refined n m first second = limited n m first second (λ _. refine n m)
