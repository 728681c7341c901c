-- A loop that fills an area from its front with what a list holds: its turn and its end.
use mathlib.Core.Path.{◌≡◌, refl, sym, ◌∙◌}
use mathlib.Core.List.{List}
use Prim.Native.Nat.{ℕ, ◌+◌, ◌≤◌, ◌<◌}
use native.Mathlib.Omega.{arith}
use lib.ListN.{length, get_or, set, replicate, length-replicate, get_or-replicate}
use Rattle.lists.specs.Laid.{laid}
use Rattle.lists.proofs.LaidLaws.{laid_none, laid_more, laid_all, length-laid}

-- the loop's invariant: the entries before the place are the list's, the others are as they were
pub record Filling (filled before area : List ℕ) (at : ℕ) : Type 0 where
  pub within : at ≤ length before
  pub long : length area ≡ length before
  pub so_far : area ≡ laid at filled before

pub filling_begins : (filled before : List ℕ) → Filling filled before before 0
filling_begins filled before = record { within = omega arith; long = refl; so_far = laid_none filled before }

module _ (filled before area : List ℕ) (at : ℕ) (same : length filled ≡ length before) (w : Filling filled before area at) where
  pub filling_more : (x : ℕ) → at < length area → x ≡ get_or filled at 0 → Filling filled before (set area at x) (at + 1)
  filling_more x h e =
      let in_list : at < length filled = omega (arith, w.long) in
      let in_area : at < length before = omega (arith, w.long) in
      let next : set area at x ≡ laid (at + 1) filled before = rw (w.so_far, e) (laid_more at filled before in_list in_area) in
      record { within = omega arith; long = rw next (length-laid (at + 1) filled before (omega arith) (omega arith)); so_far = next }

  pub filling_ends : length area ≤ at → area ≡ filled
  filling_ends h =
      let all : at ≡ length before = omega (arith, w.long, w.within) in
      w.so_far ∙ laid_all at filled before (omega arith) (omega arith)

-- with one and the same entry
module _ (x : ℕ) (before area : List ℕ) (at : ℕ) (w : Filling (replicate (length before) x) before area at) where
  pub same_entry_more : at < length area → Filling (replicate (length before) x) before (set area at x) (at + 1)
  same_entry_more h =
      filling_more (replicate (length before) x) before area at (length-replicate {A = ℕ} (length before) x) w x h
      (sym (get_or-replicate {A = ℕ} (length before) at x 0 (omega (arith, w.long))))

  pub same_entry_ends : length area ≤ at → area ≡ replicate (length before) x
  same_entry_ends h = filling_ends (replicate (length before) x) before area at (length-replicate {A = ℕ} (length before) x) w h
