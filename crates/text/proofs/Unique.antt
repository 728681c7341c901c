-- No second answer meets the contract of `put_word`, nor that of `put_decimal`: neither another next offset nor another byte of
-- the buffer.
use mathlib.Core.Path.{◌≡◌, sym, ◌∙◌}
use mathlib.Core.List.{List}
use Prim.Native.Nat.{ℕ}
use contract.Lifetimes.{Lfts}
use borrow.Fn.Kinds.{Dens, res_t, ended_of}
use denote.Triple.Clauses.{AtExit}
use Rattle.text.specs.declared.Page.{Page}
use Rattle.text.specs.Put.{PutsOn}
use Rattle.text.proofs.Page.put_word.Kinds as word-kinds
use Rattle.text.proofs.Page.put_word.Reads as word-reads
use Rattle.text.proofs.Page.put_decimal.Kinds as decimal-kinds
use Rattle.text.proofs.Page.put_decimal.Reads as decimal-reads

-- two pages after a call have the same bytes, the same offset and the same lent buffer
pub record SamePage (page page' : Page) : Type 0 where
  pub same_reference : page.buffer.ghost_name ≡ page'.buffer.ghost_name
  pub bytes : page.buffer.now ≡ page'.buffer.now
  pub offset : page.at ≡ page'.at

puts_unique : {text : List ℕ} {page one other : Page} → PutsOn text page one → PutsOn text page other → SamePage one other
puts_unique p q = record {
  same_reference = p.same_reference ∙ sym q.same_reference;
  bytes = p.puts.written ∙ sym q.puts.written;
  offset = p.puts.behind ∙ sym q.puts.behind;
}

pub put_word_unique : (κs : Lfts 3) (a : Dens κs word-kinds.ps) (r r' : (res_t word-kinds.r κs).Denot)
    (s s' : AtExit (ended_of 3 word-kinds.ps word-kinds.r) κs)
    → word-reads.Post κs a r s → word-reads.Post κs a r' s' → SamePage s.0.now s'.0.now
put_word_unique κs a r r' s s' p q = puts_unique p q

pub put_decimal_unique : (κs : Lfts 2) (a : Dens κs decimal-kinds.ps) (r r' : (res_t decimal-kinds.r κs).Denot)
    (s s' : AtExit (ended_of 2 decimal-kinds.ps decimal-kinds.r) κs)
    → decimal-reads.Post κs a r s → decimal-reads.Post κs a r' s' → SamePage s.0.now s'.0.now
put_decimal_unique κs a r r' s s' p q = puts_unique p q
