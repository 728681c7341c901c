-- The list of f 0, .., f (n - 1): its length, its elements, and how a loop that stores part after part makes it.
use Prim.Native.Nat.{ℕ, ◌+◌, ◌-◌, ◌<◌, ◌≤◌}
use mathlib.Core.Path.{◌≡◌, refl, sym, ap, ap₂, ◌∙◌}
use mathlib.Core.List.{List, [], ◌++◌, append_assoc}
use native.Mathlib.Nat.{zero-add}
use native.Mathlib.Omega.{arith}
use lib.ListN.{length, get_or, take, length-append, get_or-append}
use lib.Seq.{ext_get_or, take_all, take_at, get_or-append-add}
use Rattle.lists.specs.Tabled.{tabled}
use Rattle.lists.proofs.TabledLaws.{length-tabled, get_or-tabled}
use Rattle.lists.proofs.Splits.{split_lt}
use Rattle.lanes.specs.Lists.{list_of}

pub list_length : (n : ℕ) (f : ℕ → ℕ) → length (list_of n f) ≡ n
list_length n f = length-tabled n 0 f

pub list_at : (n : ℕ) (f : ℕ → ℕ) (i : ℕ) → i < n → get_or (list_of n f) i 0 ≡ f i
list_at n f i h = get_or-tabled n 0 f i h ∙ ap f (zero-add i)

pub list_same : (n : ℕ) (f g : ℕ → ℕ) → ((i : ℕ) → i < n → f i ≡ g i) → list_of n f ≡ list_of n g
list_same n f g e =
    let long = list_length n f in
    ext_get_or 0 (list_of n f) (list_of n g) (long ∙ sym (list_length n g)) (λ i h.
    let l : i < n = omega arith in list_at n f i l ∙ e i l ∙ sym (list_at n g i l))

pub list_of_words : (n : ℕ) (w : List ℕ) → length w ≡ n → list_of n (λ i. get_or w i 0) ≡ w
list_of_words n w e =
    let len = list_length n (λ i. get_or w i 0) in
    ext_get_or 0 (list_of n (λ i. get_or w i 0)) w (len ∙ sym e) (λ i h. list_at n (λ i. get_or w i 0) i (omega arith))

pub list_split : (n m : ℕ) (f : ℕ → ℕ) → list_of (n + m) f ≡ list_of n f ++ list_of m (λ i. f (n + i))
list_split n m f =
    let rest : List ℕ = list_of m (λ i. f (n + i)) in
    let front = list_length n f in
    let behind : length rest ≡ m = list_length m (λ i. f (n + i)) in
    let both = length-append (list_of n f) rest in
    let whole = list_length (n + m) f in
    ext_get_or 0 (list_of (n + m) f) (list_of n f ++ rest) (omega arith) (λ i h.
    list_at (n + m) f i (omega arith)
    ∙ split_lt i n
    (λ l. sym (get_or-append (list_of n f) rest 0 i (omega arith) ∙ list_at n f i l))
    (λ l.
    let place : n + (i - n) ≡ i = omega arith in
    sym (ap (λ (x : ℕ). get_or (list_of n f ++ rest) x 0) (sym place ∙ ap (λ (x : ℕ). x + (i - n)) (sym front))
    ∙ get_or-append-add (list_of n f) rest (i - n) 0 ∙ list_at m (λ i. f (n + i)) (i - n) (omega arith) ∙ ap f place)))

-- ---- what a loop that stores f 0, f 1, .. has stored

pub none-stored : (f : ℕ → ℕ) → [] ≡ list_of 0 f
unfolding tabled
none-stored f = refl

pub all_stored : (n : ℕ) (w : List ℕ) (f : ℕ → ℕ) (i : ℕ) → length w ≡ n → i ≡ n → take i w ≡ list_of i f → w ≡ list_of n f
all_stored n w f i e q t = sym (take_all i w (omega arith)) ∙ t ∙ ap (λ (k : ℕ). list_of k f) q

-- a part of the elements stored at once, with whatever comes after it
pub part_stored : (l ys rest : List ℕ) (f : ℕ → ℕ) (at e : ℕ) → at ≤ e → take at l ≡ list_of at f → ys ≡ list_of (e - at) (λ i. f (at + i))
    → take e (take at l ++ (ys ++ rest)) ≡ list_of e f
part_stored l ys rest f at e h p q =
    let whole : at + (e - at) ≡ e = omega arith in
    ap (take e)
    (sym (append_assoc (take at l) ys rest)
    ∙ ap (λ (x : List ℕ). x ++ rest) (ap₂ ◌++◌ p q ∙ sym (list_split at (e - at) f) ∙ ap (λ (k : ℕ). list_of k f) whole))
    ∙ take_at (list_of e f) rest e (list_length e f)
