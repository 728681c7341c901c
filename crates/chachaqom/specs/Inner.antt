-- What functions inside the crate promise; no public contract cites it.
use Rattle.std.specs.Prelude.{◌≡◌, ℕ, cond, List, eqb}
use Rattle.lists.specs.BigEndian.{numbers_bytes, two_bytes_each}

-- identifiers and marks as bytes, before and after, by the number of the reading: as they were after 2
pub record HandedOver (number : ℕ) (numbers statements identifiers marks identifiers' marks' : List ℕ) : Type 0 where
  pub in_identifiers : identifiers' ≡ cond (eqb number 2) identifiers (numbers_bytes numbers)
  pub in_marks : marks' ≡ cond (eqb number 2) marks (two_bytes_each statements)
