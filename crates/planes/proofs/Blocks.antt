-- Lanes by block: the set of a lane, planes by their lanes, and eight words by the sets of their lanes.
use Prim.Native.Nat.{ℕ, ◌+◌, ◌*◌, ◌/◌, ◌%◌, ◌^◌, ◌<◌}
use mathlib.Core.Path.{◌≡◌, sym, ap, ap₂, ◌∙◌}
use mathlib.Core.List.{List}
use native.Mathlib.Decide.{dec_lt}
use native.Mathlib.Nat.{le_refl}
use native.Mathlib.Omega.{arith}
use lib.ListN.{length, get_or}
use lib.Seq.{ext_get_or}
use Rattle.relation.specs.Sets.{has}
use Rattle.relation.proofs.Member.{ext, ext_byte}
use Rattle.lanes.specs.Lists.{mask_of}
use Rattle.lanes.specs.Words.{set_at}
use Rattle.lanes.proofs.Lists.{list_at, list_length, list_same}
use Rattle.lanes.proofs.Sets.{has_mask, mask_below, mask_same, has-set, set_is}
use Rattle.lanes.proofs.Shifts.{has_beyond}
use Rattle.planes.specs.Planes.{block_of, lane, sets_of, planes_of}
use Rattle.planes.specs.Inner.{lanes_of}

-- ---- the set of a lane

pub lane_byte : (planes : List ℕ) (p : ℕ) → lane planes p < 256
unfolding lane
lane_byte planes p = mask_below 8 (λ r. has (get_or planes (8 * (p / 64) + r) 0) (p % 64)) 8 (le_refl 8)

pub has-lane : (planes : List ℕ) (p r : ℕ) → r < 8 → has (lane planes p) r ≡ has (get_or planes (8 * (p / 64) + r) 0) (p % 64)
unfolding lane
has-lane planes p r h = has_mask 8 (λ r. has (get_or planes (8 * (p / 64) + r) 0) (p % 64)) r h

pub block_length : (planes : List ℕ) (b : ℕ) → length (block_of planes b) ≡ 8
unfolding block_of
block_length planes b = list_length 8 _

pub block_word : (planes : List ℕ) (b r : ℕ) → r < 8 → get_or (block_of planes b) r 0 ≡ get_or planes (8 * b + r) 0
unfolding block_of
block_word planes b r h = list_at 8 (λ r. get_or planes (8 * b + r) 0) r h

pub set_block : (planes : List ℕ) (b x : ℕ) → x < 64 → set_at (block_of planes b) x ≡ lane planes (64 * b + x)
unfolding block_of
set_block planes b x h =
    let at : (64 * b + x) / 64 ≡ b = omega arith in
    let in_block : (64 * b + x) % 64 ≡ x = omega arith in
    set_is (block_of planes b) x (lane planes (64 * b + x)) (lane_byte planes (64 * b + x)) (λ r l.
    ap (λ (v : ℕ). has v x) (list_at 8 (λ r. get_or planes (8 * b + r) 0) r l)
    ∙ sym (has-lane planes (64 * b + x) r l ∙ ap₂ (λ (c y : ℕ). has (get_or planes (8 * c + r) 0) y) at in_block))

-- the planes by their lanes
pub lane_planes : (blocks : ℕ) (f : ℕ → ℕ) (p : ℕ) → p < 64 * blocks → f p < 256 → lane (planes_of blocks f) p ≡ f p
unfolding planes_of
lane_planes blocks f p h b =
    ext_byte (lane (planes_of blocks f) p) (f p) (lane_byte (planes_of blocks f) p) b (λ r l.
    let w : ℕ = 8 * (p / 64) + r in
    let at : w / 8 ≡ p / 64 = omega arith in
    let rest : w % 8 ≡ r = omega arith in
    let back : 64 * (p / 64) + p % 64 ≡ p = omega arith in
    has-lane (planes_of blocks f) p r l
    ∙ ap (λ (v : ℕ). has v (p % 64)) (list_at (8 * blocks) (λ w. mask_of 64 (λ x. has (f (64 * (w / 8) + x)) (w % 8))) w (omega arith))
    ∙ has_mask 64 (λ x. has (f (64 * (w / 8) + x)) (w % 8)) (p % 64) (omega arith)
    ∙ ap₂ (λ (c q : ℕ). has (f (64 * c + p % 64)) q) at rest ∙ ap (λ (q : ℕ). has (f q) r) back)

pub length_planes : (blocks : ℕ) (f : ℕ → ℕ) → length (planes_of blocks f) ≡ 8 * blocks
unfolding planes_of
length_planes blocks f = list_length (8 * blocks) _

pub planes_same : (blocks : ℕ) (f g : ℕ → ℕ) → ((p : ℕ) → p < 64 * blocks → f p ≡ g p) → planes_of blocks f ≡ planes_of blocks g
unfolding planes_of
planes_same blocks f g e = list_same (8 * blocks) _ _ (λ w h. mask_same 64 _ _ (λ x l. ap (λ (s : ℕ). has s (w % 8)) (e (64 * (w / 8) + x) (omega arith))))

pub length-sets : (planes : List ℕ) → length (sets_of planes) ≡ 8 * length planes
unfolding sets_of
length-sets planes = list_length (8 * length planes) _

pub sets_at : (planes : List ℕ) (p : ℕ) → p < 8 * length planes → get_or (sets_of planes) p 0 ≡ lane planes p
unfolding sets_of
sets_at planes p h = list_at (8 * length planes) (λ p. lane planes p) p h

-- ---- eight words by the sets of their lanes

pub words_are : (w : List ℕ) (f : ℕ → ℕ) → length w ≡ 8 → ((r : ℕ) → r < 8 → get_or w r 0 < 2 ^ 64)
    → ((x : ℕ) → x < 64 → set_at w x ≡ f x) → w ≡ lanes_of f
unfolding lanes_of
words_are w f long small e =
    let len = list_length 8 (λ r. mask_of 64 (λ x. has (f x) r)) in
    ext_get_or 0 w _ (long ∙ sym len) (λ r h.
    let l : r < 8 = omega arith in
    ext (get_or w r 0) (mask_of 64 (λ x. has (f x) r)) (λ i. go r l i (dec_lt i 64))
    ∙ sym (list_at 8 (λ r. mask_of 64 (λ x. has (f x) r)) r l))
  where
    go : (r : ℕ) → r < 8 → (i : ℕ) → Dec (i < 64) → has (get_or w r 0) i ≡ has (mask_of 64 (λ x. has (f x) r)) i
    go r l i (yes h) =
        sym (has-set w i r l) ∙ ap (λ (s : ℕ). has s r) (e i h) ∙ sym (has_mask 64 (λ x. has (f x) r) i h)
    go r l i (no h) =
        has_beyond (get_or w r 0) 64 i (small r l) (omega arith)
        ∙ sym (has_beyond (mask_of 64 (λ x. has (f x) r)) 64 i (mask_below 64 (λ x. has (f x) r) 64 (le_refl 64)) (omega arith))

-- block b of planes made by their lanes
pub block_planes : (blocks : ℕ) (f : ℕ → ℕ) (b : ℕ) → b < blocks → block_of (planes_of blocks f) b ≡ lanes_of (λ x. f (64 * b + x))
unfolding block_of planes_of lanes_of
block_planes blocks f b h =
    list_same 8 _ _ (λ r l.
    let at : (8 * b + r) / 8 ≡ b = omega arith in
    let rest : (8 * b + r) % 8 ≡ r = omega arith in
    list_at (8 * blocks) (λ w. mask_of 64 (λ x. has (f (64 * (w / 8) + x)) (w % 8))) (8 * b + r) (omega arith)
    ∙ ap₂ (λ (c q : ℕ). mask_of 64 (λ x. has (f (64 * c + x)) q)) at rest)
