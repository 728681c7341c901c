-- What a host may rely on that makes its rounds a few at a time.
use Rattle.std.specs.Prelude.{◌≡◌, List, ℕ}
use Rattle.lists.specs.BigEndian.{number_at}

-- beside one call for the whole: the same number, places and bytes in both areas, and the counts added up are its count
pub record AsWhole (counted number : ℕ) (first second answer : List ℕ) (whole : ℕ) (first' second' answer' : List ℕ) : Type 0 where
  pub same_number : number ≡ whole
  pub same_first_place : number_at answer 4 ≡ number_at answer' 4
  pub same_second_place : number_at answer 8 ≡ number_at answer' 8
  pub same_third_place : number_at answer 12 ≡ number_at answer' 12
  pub counts_added : counted ≡ number_at answer' 16
  pub same_first : first ≡ first'
  pub same_second : second ≡ second'

-- the rounds were made: the call is refused neither with 25 nor with 1 or 2, so it ends with 0, 23 or 24
pub record RoundsMade (number : ℕ) : Type 0 where
  pub prepared : number ≡ 25 → ⊥
  pub in_range : number ≡ 1 → ⊥
  pub long_enough : number ≡ 2 → ⊥
