-- No second answer meets the contract of `read_full`: of a reader whose bytes are known, neither another count nor another byte in front.
use Rattle.std.proofs.Common.{◌≡◌, ℕ, ◌<◌, List, Option, Some, None, Result, Ok, IfOk, min, length, take, sym, ap, ◌∙◌, subst, arith, length-append, length-take-le}
use contract.Lifetimes.{Lfts}
use denote.Param.Laws.{Laws}
use denote.RattleType.{RattleType}
use denote.Triple.Clauses.{AtExit}
use mir.Syntax.{Dict}
use borrow.Fn.Kinds.{Dens, res_t, ended_of}
use lib.Seq.{take_at}
use Rattle.std.specs.declared.io.traits.Read.{Ghosts}
use Rattle.input.specs.Filled.{Filled}
use Rattle.input.proofs.read_full.Reads as reads
use Rattle.input.proofs.read_full.Kinds as kinds

-- the count is as many bytes as there are, or as have room, and the bytes are the first of them
record Front (bytes space : List ℕ) (count : ℕ) : Type 0 where
  pub counted : count ≡ min (length space) (length bytes)
  pub bytes_are : take count space ≡ take count bytes

filled-front : (bytes : List ℕ) (left : Option (List ℕ)) (space : List ℕ) (count : ℕ) → Filled (Some bytes) left space count
    → Front bytes space count
filled-front bytes None space count f = absurd f.front
filled-front bytes (Some rest) space count f =
    let short : length (take count space) ≡ count = length-take-le count space f.within in
    let all : count < length space → length rest ≡ 0 = λ h. ap length (f.end h) in
    record {
      counted = grind (arith, ap length f.front, length-append (take count space) rest, short, all, f.within);
      bytes_are = sym (ap (take count) f.front ∙ take_at (take count space) rest count short);
    }

same_front : {bytes : List ℕ} {left left' : Option (List ℕ)} {space space' : List ℕ} {count count' : ℕ} → length space ≡ length space'
    → Filled (Some bytes) left space count → Filled (Some bytes) left' space' count' → (count ≡ count') × (take count space ≡ take count' space')
same_front {bytes} {left} {left'} {space} {space'} {count} {count'} same p q =
    let one = filled-front bytes left space count p in
    let other = filled-front bytes left' space' count' q in
    let e : count ≡ count' = omega (arith, one.counted, other.counted, same) in
    (e, one.bytes_are ∙ ap (λ (k : ℕ). take k bytes) e ∙ sym other.bytes_are)

answered : {E : Type 0} {old new : Option (List ℕ)} {bytes space : List ℕ} {count : ℕ} {r : Result ℕ E} → IfOk r (Filled old new space)
    → old ≡ Some bytes → r ≡ Ok count → Filled (Some bytes) new space count
answered {old = old} {new = new} {space = space} {count = count} p known e =
    subst (λ o. Filled o new space count) known (subst (λ x. IfOk x (Filled old new space)) e p)

-- whatever reads; a space keeps its length, as every lent slice does
module _ (R : RattleType) (L : Laws R) (G : Ghosts R.Denot) (d : Dict) where
  pub read_full_unique : (κs : Lfts 3) (a : Dens κs (kinds.ps R L)) (r r' : (res_t (kinds.r R L) κs).Denot)
      (s s' : AtExit (ended_of 3 (kinds.ps R L) (kinds.r R L)) κs) → reads.Post R L G d κs a r s → reads.Post R L G d κs a r' s'
      → length s.1.0.now ≡ length s'.1.0.now → {bytes : List ℕ} {count count' : ℕ} → G.remaining a.0.now ≡ Some bytes → r ≡ Ok count → r' ≡ Ok count'
      → (count ≡ count') × (take count s.1.0.now ≡ take count' s'.1.0.now)
  read_full_unique κs a r r' s s' p q same known e e' = same_front same (answered p known e) (answered q known e')
