-- What a loop that fills an area from the front needs of `laid`: how it starts, one entry more, and what it is at the end.
use mathlib.Core.Path.{◌≡◌, refl, ap, ◌∙◌, subst}
use mathlib.Core.List.{List, [], ◌∷◌, ◌++◌, append-nil}
use Prim.Native.Nat.{ℕ, zero, suc, ◌+◌, ◌-◌, ◌≤◌, ◌<◌}
use native.Mathlib.Nat.{not-suc-le-zero, le_of_suc-le-suc}
use native.Mathlib.Numerals.{add-one}
use native.Mathlib.Omega.{arith}
use lib.ListN.{length, get_or, set, take, drop, length-append, length-take, length-drop, drop_of_length-le, get_or-append}
use lib.Seq.{take_all, take_at, drop_at, get_or-take, get_or-drop, get_or-append-add, length-take-le}
use Rattle.lists.specs.Laid.{laid}

-- nothing is filled yet
pub laid_none : (filled area : List ℕ) → area ≡ laid 0 filled area
unfolding laid
laid_none filled area = refl

-- one entry more
pub laid_more : (p : ℕ) (filled area : List ℕ) → p < length filled → p < length area
    → set (laid p filled area) p (get_or filled p 0) ≡ laid (p + 1) filled area
unfolding laid
laid_more p filled area hf ha = rw (add-one p) (go p filled area hf ha)
  where
    go : (p : ℕ) (a b : List ℕ) → p < length a → p < length b
        → set (take p a ++ drop p b) p (get_or a p 0) ≡ take (suc p) a ++ drop (suc p) b
    go p [] b ha hb = absurd (not-suc-le-zero ha)
    go p (x ∷ xs) [] ha hb = absurd (not-suc-le-zero hb)
    go zero (x ∷ xs) (y ∷ ys) ha hb = refl
    go (suc p) (x ∷ xs) (y ∷ ys) ha hb =
        ap (λ (r : List ℕ). x ∷ r) (go p xs ys (le_of_suc-le-suc ha) (le_of_suc-le-suc hb))

pub length-laid : (p : ℕ) (filled area : List ℕ) → p ≤ length filled → p ≤ length area
    → length (laid p filled area) ≡ length area
unfolding laid
length-laid p filled area hf ha =
    omega (arith, length-append (take p filled) (drop p area), length-take p filled, length-drop p area)

-- where the area is as long as what it is filled with, it is all
pub laid_all : (p : ℕ) (filled area : List ℕ) → length filled ≡ p → length area ≡ p → laid p filled area ≡ filled
unfolding laid
laid_all p filled area hf ha =
    rw (take_all p filled (omega arith), drop_of_length-le area {i = p} (omega arith), append-nil filled)

-- ---- what is where

pub take-laid : (p : ℕ) (filled area : List ℕ) → p ≤ length filled → take p (laid p filled area) ≡ take p filled
unfolding laid
take-laid p filled area h = take_at (take p filled) (drop p area) p (length-take-le p filled h)

-- laid over what was laid before, the last counts
pub laid-again : (p : ℕ) (filled before area : List ℕ) → p ≤ length before
    → laid p filled (laid p before area) ≡ laid p filled area
unfolding laid
laid-again p filled before area h =
    ap (λ (r : List ℕ). take p filled ++ r) (drop_at (take p before) (drop p area) p (length-take-le p before h))

-- an entry that is filled
pub get_or-laid_in : (p : ℕ) (filled area : List ℕ) (q : ℕ) → q < p → p ≤ length filled → get_or (laid p filled area) q 0 ≡ get_or filled q 0
unfolding laid
get_or-laid_in p filled area q h l =
    get_or-append (take p filled) (drop p area) 0 q (omega (arith, length-take p filled)) ∙ get_or-take p filled q 0 h

pub get_or-laid_past : (p : ℕ) (filled area : List ℕ) (q : ℕ) → p ≤ q → p ≤ length filled
    → get_or (laid p filled area) q 0 ≡ get_or area q 0
unfolding laid
get_or-laid_past p filled area q h l =
    let t : length (take p filled) ≡ p = length-take-le p filled l in
    let e : length (take p filled) + (q - p) ≡ q = omega arith in
    subst (λ (x : ℕ). get_or (take p filled ++ drop p area) x 0 ≡ get_or area q 0) e
    (get_or-append-add (take p filled) (drop p area) (q - p) 0
    ∙ get_or-drop p area (q - p) 0
    ∙ ap (λ (x : ℕ). get_or area x 0) (omega arith))
