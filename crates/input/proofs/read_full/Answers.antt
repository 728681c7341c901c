-- `input::read_full` meets its contract. The loop's invariant: what was read stands in front of the space.
use Rattle.std.proofs.Common.{◌≡◌, ℕ, ◌+◌, ◌≤◌, List, ◌++◌, rules, length, take, drop, sym, ap, ◌∙◌, subst, le_refl, drop_at, length-take-le}
use Rattle.std.proofs.lemmas.Slice.{take-put_mid_below}
use Rattle.std.specs.Io.KnownBytes.{Consumes}
use Rattle.std.proofs.KnownBytes.{Consumes-trans}
use borrow.Rule.Slice.PartMut.{put_mid, post_of}
use lib.Seq.{take-add, take-append-le}
use Rattle.input.proofs.read_full.Goals as goal

-- what stands in front once a part is read from a place on
front_more : (at room more : ℕ) (space part : List ℕ) → at ≤ length space → more ≤ length part
    → take at space ++ take more part ≡ take (at + more) (put_mid at room space part)
front_more at room more space part within fits =
    let whole : List ℕ = put_mid at room space part in
    let behind : List ℕ = post_of at room space in
    sym
    (take-add at more whole
    ∙ ap (λ (l : List ℕ). l ++ take more (drop at whole)) (take-put_mid_below at room space part at (le_refl at) within)
    ∙ ap (λ (l : List ℕ). take at space ++ take more l) (drop_at (take at space) (part ++ behind) at (length-take-le at space within))
    ∙ ap (λ (l : List ℕ). take at space ++ l) (take-append-le more part behind fits))

pub loop-done-preserved : goal.loop-done-preserved
loop-done-preserved g c =
    let read = front_more c.loop-done.done _ c.in_ok-more.more c.loop-done.space c.read.new.buf c.loop-done.invariant.within c.in_ok-more.ensures.bound.0 in
    record {
      long = search rules;
      within = search rules;
      consumed = subst (Consumes _ _) read (Consumes-trans _ _ _ _ _ c.loop-done.invariant.consumed c.in_ok-more.ensures.bytes.0);
    }
