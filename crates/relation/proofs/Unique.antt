-- No second answer meets a public call's contract. No call writes what it is lent, so its answer is all that it leaves.
use Prim.Native.Nat.{ℕ}
use mathlib.Core.Path.{◌≡◌, sym, ap, ◌∙◌}
use mathlib.Core.List.{List}
use contract.Lifetimes.{Lfts}
use borrow.Fn.Kinds.{ParamKind, ResultKind, Dens, res_t, ended_of, Out}
use denote.Triple.Clauses.{AtExit}
use Rattle.relation.specs.declared.RelationSet.{RelationSet}
use Rattle.relation.proofs.compositions.Kinds as compositions
use Rattle.relation.proofs.compositions.Reads as compositions-reads
use Rattle.relation.proofs.RelationSet.named.Kinds as named
use Rattle.relation.proofs.RelationSet.named.Reads as named-reads
use Rattle.relation.proofs.RelationSet.has.Kinds as has
use Rattle.relation.proofs.RelationSet.has.Reads as has-reads
use Rattle.relation.proofs.RelationSet.contains.Kinds as contains
use Rattle.relation.proofs.RelationSet.contains.Reads as contains-reads
use Rattle.relation.proofs.RelationSet.intersect.Kinds as intersect
use Rattle.relation.proofs.RelationSet.intersect.Reads as intersect-reads
use Rattle.relation.proofs.RelationSet.is_empty.Kinds as is-empty
use Rattle.relation.proofs.RelationSet.is_empty.Reads as is-empty-reads
use Rattle.relation.proofs.RelationSet.size.Kinds as size
use Rattle.relation.proofs.RelationSet.size.Reads as size-reads
use Rattle.relation.proofs.RelationSet.converse.Kinds as converse
use Rattle.relation.proofs.RelationSet.converse.Reads as converse-reads
use Rattle.relation.proofs.RelationSet.compose_by.Kinds as compose-by
use Rattle.relation.proofs.RelationSet.compose_by.Reads as compose-by-reads
use Rattle.relation.proofs.RelationSet.compose.Kinds as compose
use Rattle.relation.proofs.RelationSet.compose.Reads as compose-reads

-- any two answers that meet the contract for the same arguments are one
abbrev pub OneAnswer : (n : ℕ) (ps : List (ParamKind n)) (r : ResultKind n) → Out n ps r → Type 0
OneAnswer n ps r meets =
    (κs : Lfts n) (a : Dens κs ps) (x y : (res_t r κs).Denot) (s t : AtExit (ended_of n ps r) κs)
    → meets κs a x s → meets κs a y t → x ≡ y

-- a set is its byte
one_set : (x y : RelationSet) → x.0 ≡ y.0 → x ≡ y
one_set x y e = ap (λ (b : ℕ). record { 0 = b }) e

pub compositions_unique : OneAnswer 0 compositions.ps compositions.r compositions-reads.Post
compositions_unique κs a x y s t p q = p ∙ sym q

pub named_unique : OneAnswer 0 named.ps named.r named-reads.Post
named_unique κs a x y s t p q = p ∙ sym q

pub has_unique : OneAnswer 0 has.ps has.r has-reads.Post
has_unique κs a x y s t p q = p ∙ sym q

pub contains_unique : OneAnswer 0 contains.ps contains.r contains-reads.Post
contains_unique κs a x y s t p q = p ∙ sym q

pub intersect_unique : OneAnswer 0 intersect.ps intersect.r intersect-reads.Post
intersect_unique κs a x y s t p q = one_set x y (p ∙ sym q)

pub is_empty_unique : OneAnswer 0 is-empty.ps is-empty.r is-empty-reads.Post
is_empty_unique κs a x y s t p q = p ∙ sym q

pub size_unique : OneAnswer 0 size.ps size.r size-reads.Post
size_unique κs a x y s t p q = p ∙ sym q

pub converse_unique : OneAnswer 0 converse.ps converse.r converse-reads.Post
converse_unique κs a x y s t p q = one_set x y (p ∙ sym q)

pub compose_by_unique : OneAnswer 1 compose-by.ps compose-by.r compose-by-reads.Post
compose_by_unique κs a x y s t p q = one_set x y (p ∙ sym q)

pub compose_unique : OneAnswer 0 compose.ps compose.r compose-reads.Post
compose_unique κs a x y s t p q = one_set x y (p ∙ sym q)
