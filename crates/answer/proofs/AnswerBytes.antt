-- The 20 bytes of an answer: how five numbers fill them, and that the low 32 bits of a number have its four bytes.
use mathlib.Core.Path.{◌≡◌, refl, sym, ap, ◌∙◌}
use mathlib.Core.Bool.{cond}
use mathlib.Core.List.{List, [], ◌++◌}
use Prim.Native.Nat.{ℕ, ◌/◌, ◌%◌}
use native.Mathlib.Omega.{arith}
use borrow.Author.Tests.{eq-eqb}
use lib.ListN.{length}
use lib.Seq.{take_all}
use Rattle.lists.specs.BigEndian.{big_endian, number_put}
use Rattle.lists.proofs.BigEndianLaws.{put_behind}
use Rattle.answer.specs.Answer.{answer}
use Rattle.answer.specs.Bytes.{answer_bytes, fits, Answers}

-- five numbers put one behind the other fill 20 bytes with the answer
pub five_put : (number first second third count : ℕ) (l₀ l₁ l₂ l₃ l₄ l₅ : List ℕ) → length l₀ ≡ 20
    → l₁ ≡ number_put l₀ 0 number → l₂ ≡ number_put l₁ 4 first → l₃ ≡ number_put l₂ 8 second → l₄ ≡ number_put l₃ 12 third
    → l₅ ≡ number_put l₄ 16 count → l₅ ≡ answer_bytes (answer number first second third count)
five_put number first second third count l₀ l₁ l₂ l₃ l₄ l₅ h e₁ e₂ e₃ e₄ e₅ =
    let b₁ = big_endian number in
    let b₂ = b₁ ++ big_endian first in
    let b₃ = b₂ ++ big_endian second in
    let b₄ = b₃ ++ big_endian third in
    let g₁ = put_behind l₀ l₁ [] 0 number (omega arith) refl e₁ in
    let g₂ = put_behind l₁ l₂ b₁ 4 first (omega arith) g₁.0 e₂ in
    let g₃ = put_behind l₂ l₃ b₂ 8 second (omega arith) g₂.0 e₃ in
    let g₄ = put_behind l₃ l₄ b₃ 12 third (omega arith) g₃.0 e₄ in
    let g₅ = put_behind l₄ l₅ b₄ 16 count (omega arith) g₄.0 e₅ in
    sym (take_all 20 l₅ (omega arith)) ∙ g₅.0

-- the four bytes of a number are those of its low 32 bits
crossing_bytes : (x : ℕ) → big_endian (x % 4294967296) ≡ big_endian x
crossing_bytes x =
    let e₁ : x % 4294967296 / 16777216 % 256 ≡ x / 16777216 % 256 = omega arith in
    let e₂ : x % 4294967296 / 65536 % 256 ≡ x / 65536 % 256 = omega arith in
    let e₃ : x % 4294967296 / 256 % 256 ≡ x / 256 % 256 = omega arith in
    let e₄ : x % 4294967296 % 256 ≡ x % 256 = omega arith in
    rw (e₁, e₂, e₃, e₄)

abbrev five : List ℕ → List ℕ → List ℕ → List ℕ → List ℕ → List ℕ
five a b c d e = a ++ b ++ c ++ d ++ e

-- so an answer that is put by the low 32 bits of its numbers is the answer
pub crossed_answer : {number first second third count f s t c : ℕ} {area area' : List ℕ} → length area ≡ 20 → f ≡ first % 4294967296
    → s ≡ second % 4294967296 → t ≡ third % 4294967296 → c ≡ count % 4294967296
    → area' ≡ cond (fits area) (answer_bytes (answer number f s t c)) area
    → Answers (answer number first second third count) area area' number
crossed_answer {number} {first} {second} {third} {count} {f} {s} {t} {c} {area} h e₁ e₂ e₃ e₄ put =
    let b₁ : big_endian f ≡ big_endian first = ap big_endian e₁ ∙ crossing_bytes first in
    let b₂ : big_endian s ≡ big_endian second = ap big_endian e₂ ∙ crossing_bytes second in
    let b₃ : big_endian t ≡ big_endian third = ap big_endian e₃ ∙ crossing_bytes third in
    let b₄ : big_endian c ≡ big_endian count = ap big_endian e₄ ∙ crossing_bytes count in
    let b₀ : List ℕ = big_endian number in
    let same : answer_bytes (answer number f s t c) ≡ answer_bytes (answer number first second third count) =
    ap (λ (b : List ℕ). five b₀ b (big_endian s) (big_endian t) (big_endian c)) b₁
    ∙ ap (λ (b : List ℕ). five b₀ (big_endian first) b (big_endian t) (big_endian c)) b₂
    ∙ ap (λ (b : List ℕ). five b₀ (big_endian first) (big_endian second) b (big_endian c)) b₃
    ∙ ap (λ (b : List ℕ). five b₀ (big_endian first) (big_endian second) (big_endian third) b) b₄ in
    record { returned = rw (eq-eqb (length area) 20 h); in_answer = put ∙ ap (λ (b : List ℕ). cond (fits area) b area) same }
