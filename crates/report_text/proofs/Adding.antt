-- What LineLaws says of a page, of any buffer and offset.
use mathlib.Core.Path.{◌≡◌, subst}
use mathlib.Core.List.{List, [], ◌∷◌}
use Prim.Native.Nat.{ℕ}
use Rattle.text.specs.Put.{Puts, Adds}
use Rattle.text.proofs.Adding.{puts_adds, adds-adds}

-- what is put is put under any name
pub renamed : {text other buffer buffer' : List ℕ} {at next : ℕ} → text ≡ other → Adds text buffer at buffer' next → Adds other buffer at buffer' next
renamed {text} {other} {buffer} {buffer'} {at} {next} e a = subst (λ (t : List ℕ). Adds t buffer at buffer' next) e a

-- a space and a text
pub field_adds : {text b₀ b₁ b₂ : List ℕ} {at next last : ℕ} → Puts (32 ∷ []) b₀ at b₁ next → Puts text b₁ next b₂ last
    → Adds (32 ∷ text) b₀ at b₂ last
field_adds p q = adds-adds (puts_adds p) (puts_adds q)
