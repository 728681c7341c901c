-- The whole refinement from its two calls: a refused preparation is its refusal, and a run from a ready one that is not used up is its end.
use mathlib.Core.Path.{◌≡◌, refl, sym, ap, ◌∙◌}
use mathlib.Core.Bool.{false, true≢false}
use mathlib.Core.List.{List}
use Prim.Native.Nat.{ℕ, ◌*◌, ◌≤◌, ◌<◌}
use native.Mathlib.Omega.{arith}
use lib.ListN.{length, replicate}
use lib.Seq.{take_all}
use Rattle.std.specs.Prelude.{Ok, Err}
use Rattle.lists.specs.Laid.{laid}
use Rattle.lists.proofs.LaidLaws.{length-laid, take-laid, laid-again}
use Rattle.answer.specs.Ending.{Ending, accepted, refused, answered}
use Rattle.matrix.proofs.CellLaws.{in_range_lem}
use Rattle.refinement.specs.Node.{node}
use Rattle.refinement.specs.Prepare.{prepared}
use Rattle.refinement.specs.Plain.{Plain}
use Rattle.refinement.specs.Refine.{most_rounds, rounds, refined}
use Rattle.refinement.specs.Run.{is_used_up, readied, ran}
use Rattle.refinement.proofs.Stages.{length-arc}
use Rattle.refinement.proofs.Slack.{most_rounds_le}
use Rattle.refinement.proofs.Limits.{ran-rounds}
use Rattle.refinement.proofs.PlainTest.{plain_passes}
use Rattle.refinement.proofs.Readied.{Readied, readied-accepts, readied-refuses, readied-ending, readied-rounds, readied-plain}
use Rattle.refinement.proofs.Sharing.{RoundsEnd, at_network, at_triple, at_last, rounds_ended, unused_whole, rounds_finish}
use Rattle.network.specs.declared.Area.{Area}
use Rattle.network.specs.declared.Area.TheVariants.{First, Second}
use Rattle.network.specs.declared.Unrefined.{Unrefined}
use Rattle.network.specs.Verdict.{Verdict}
use Rattle.network.specs.Refined.{leaves, Refined}
use Rattle.network.specs.Prepared.{leaves_second, Prepared}
use Rattle.network.specs.Ran.{answered_from, left_by, starts_from, ran_from, Ran}
use Rattle.network.proofs.Verdicts.{number_of, unrefined_numbered, names-first}

-- ---- a refused preparation

second_refused : (n : ℕ) (ending : Ending (List ℕ)) (area : List ℕ) → ((answered ending).number ≡ 0 → ⊥)
    → leaves_second n ending area ≡ leaves n ending area
unfolding leaves_second
second_refused n (accepted matrix count) area h = absurd (h refl)
second_refused n (refused numbers) area h = refl

module _ {n : ℕ} {cells first second first₁ second₁ : List ℕ} where
  pub whole_refused : (unrefined : Unrefined) → Prepared n cells first second first₁ second₁ (Err unrefined)
      → Refined n cells first second first₁ second₁ (Err unrefined)
  whole_refused unrefined call =
      let ending : Ending (List ℕ) = readied n cells (length first) (length second) in
      let numbered : (answered ending).number ≡ 0 → ⊥ = λ z. unrefined_numbered unrefined (ap number_of call.answer ∙ z) in
      let same = readied-refuses n cells (length first) (length second) numbered in
      record {
        answer = rw same call.answer;
        names = tt;
        in_first = rw same call.in_first;
        in_second = rw same (call.in_second ∙ second_refused n ending second numbered);
      }

-- ---- rounds that are not used up

answered_done : (from : Area) {most : ℕ} {ending : Ending (List ℕ)} → RoundsEnd most ending → is_used_up ending ≡ false
    → answered_from from ending ≡ answered ending
answered_done from (at_network network count) u = refl
answered_done from (at_triple i k j count) u = refl
answered_done from at_last u = absurd (true≢false u)

-- whatever is laid in front of an area covers what was laid there before
left_done : (n : ℕ) (from area : Area) (m : List ℕ) {most : ℕ} {ending : Ending (List ℕ)} → RoundsEnd most ending → is_used_up ending ≡ false
    → (held before : List ℕ) → ((filled : List ℕ) → laid (n * n) filled held ≡ laid (n * n) filled before)
    → left_by n from m ending area held ≡ leaves n ending before
unfolding left_by leaves
left_done n from area m (at_network network count) u held before same = same network
left_done n from area m (at_triple i k j count) u held before same = same (replicate (n * n) 0)
left_done n from area m at_last u held before same = absurd (true≢false u)

-- ---- a ready preparation, and a run from it

module _ {n : ℕ} {cells first second first₁ second₁ : List ℕ}
    (call : Prepared n cells first second first₁ second₁ (Ok tt)) where
  pub ready : Readied n cells (length first) (length second)
  ready = readied-accepts n cells (length first) (length second) (ap number_of (sym call.answer))

  pub ready_plain : Plain n (prepared n cells)
  ready_plain = readied-plain n cells (length first) (length second) ready

  ended : readied n cells (length first) (length second) ≡ accepted (prepared n cells) 0
  ended = readied-ending n cells (length first) (length second) ready

  pub ready_first : first₁ ≡ laid (n * n) (prepared n cells) first
  unfolding leaves
  ready_first = call.in_first ∙ ap (λ (e : Ending (List ℕ)). leaves n e first) ended

  pub ready_second : second₁ ≡ second
  unfolding leaves_second
  ready_second = call.in_second ∙ ap (λ (e : Ending (List ℕ)). leaves_second n e second) ended

  size : length (prepared n cells) ≡ n * n
  size = length-arc n (node n cells)

  pub ready_starts : starts_from n First first₁ second₁ ≡ prepared n cells
  ready_starts =
      rw ready_first (take-laid (n * n) (prepared n cells) first (omega (arith, size)) ∙ take_all (n * n) (prepared n cells) (omega (arith, size)))

  first-long : n * n ≤ length first₁
  first-long =
      omega (
        arith,
        ready.range.first-long,
        ap length ready_first,
        length-laid (n * n) (prepared n cells) first (omega (arith, size)) ready.range.first-long,
      )

  second-long : n * n ≤ length second₁
  second-long = rw ready_second ready.range.second-long

  -- the rounds are made from what was prepared
  pub ready_runs : (most : ℕ) → ran_from n First most first₁ second₁ ≡ rounds most n 0 (prepared n cells)
  ready_runs most =
      ap (λ (m : List ℕ). ran n most m (length first₁) (length second₁)) ready_starts
      ∙ ran-rounds n most (prepared n cells) (length first₁) (length second₁)
      (in_range_lem n ready.range.square.some ready.range.square.few) first-long second-long
      (plain_passes n (prepared n cells) ready_plain)

  first_rest : (filled : List ℕ) → laid (n * n) filled first₁ ≡ laid (n * n) filled first
  first_rest filled = rw ready_first (laid-again (n * n) filled (prepared n cells) first (omega (arith, size)))

  -- a run that is not used up is the whole refinement
  pub whole_done : {most : ℕ} {first' second' : List ℕ} {verdict : Verdict} → is_used_up (rounds most n 0 (prepared n cells)) ≡ false
      → Ran n First most first₁ second₁ first' second' verdict → Refined n cells first second first' second' verdict
  whole_done {most} {first'} {second'} {verdict} done run =
      let m : List ℕ = prepared n cells in
      let ending : Ending (List ℕ) = rounds most n 0 m in
      let whole : ending ≡ refined n cells (length first) (length second) =
      unused_whole most n m ready_plain done ∙ sym (readied-rounds n cells (length first) (length second) ready) in
      record {
        answer = run.answer ∙ ap (answered_from First) (ready_runs most) ∙ answered_done First (rounds_ended most n m) done ∙ ap answered whole;
        names = names-first n verdict run.names;
        in_first = run.in_first
            ∙ ap (λ (e : Ending (List ℕ)). left_by n First (starts_from n First first₁ second₁) e First first₁) (ready_runs most)
            ∙ left_done n First First (starts_from n First first₁ second₁) (rounds_ended most n m) done first₁ first first_rest
            ∙ ap (λ (e : Ending (List ℕ)). leaves n e first) whole;
        in_second = run.in_second
            ∙ ap (λ (e : Ending (List ℕ)). left_by n First (starts_from n First first₁ second₁) e Second second₁) (ready_runs most)
            ∙ left_done n First Second (starts_from n First first₁ second₁) (rounds_ended most n m) done second₁ second
            (λ filled. ap (laid (n * n) filled) ready_second)
            ∙ ap (λ (e : Ending (List ℕ)). leaves n e second) whole;
      }

  -- more rounds than can change something of n regions are not used up
  pub enough_done : {most : ℕ} → most_rounds n < most → is_used_up (rounds most n 0 (prepared n cells)) ≡ false
  enough_done {most} h = rounds_finish most n (prepared n cells) size ready_plain h

-- the rounds that the whole refinement allows are more than can change something
pub whole_ready : {n : ℕ} {cells first second first₁ second₁ first' second' : List ℕ} {verdict : Verdict}
    → Prepared n cells first second first₁ second₁ (Ok tt)
    → Ran n First 14113 first₁ second₁ first' second' verdict → Refined n cells first second first' second' verdict
whole_ready call run = whole_done call (enough_done call (omega (arith, most_rounds_le _ (ready call).range.square.few))) run
