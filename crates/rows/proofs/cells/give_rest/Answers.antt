-- `rows::cells::give_rest` meets its contract: each cell is its byte of the word.
use Rattle.std.proofs.Common.{◌≡◌, ◌∙◌, ℕ, ◌*◌, ◌/◌, ◌%◌, ◌^◌, ◌<◌, ◌≤◌, List, sym, arith, length, take, get_or, rules}
use Rattle.std.proofs.lemmas.List.{get_or-take, length-take-le}
use Rattle.std.proofs.lemmas.Nat.{and_mask}
use Rattle.std.specs.Int.{w64, from_le_bytes}
use Rattle.lists.proofs.Filling.{filling_begins, filling_more, filling_ends}
use Rattle.rows.proofs.Turning.{byte_of}
use Rattle.rows.proofs.cells.give_rest.Goals as goal

-- the byte of the word at a place that is filled
taken : (bytes : List ℕ) (word place count : ℕ) → length bytes ≡ 8 → ((i : ℕ) → get_or bytes i 0 < 256) → word ≡ from_le_bytes w64 bytes
    → place < count → count ≤ 8 → word / 2 ^ (8 * place) % 256 ≡ get_or (take count bytes) place 0
taken bytes word place count long small e h few =
    byte_of bytes word place long small e (omega arith) ∙ sym (get_or-take count bytes place 0 h)

pub loop-place-init : goal.loop-place-init
loop-place-init c = filling_begins _ _

pub loop-place-preserved : goal.loop-place-preserved
loop-place-preserved c =
    filling_more _ _ _ _ (length-take-le _ c.args.bytes (search rules)) c.loop-place.invariant _ (omega arith)
    (and_mask _ 8 ∙ taken c.args.bytes _ c.loop-place.place _ (search rules) (search rules) c.from_le_bytes-word.ensures (omega arith) c.requires)

pub returns : goal.returns
returns c = filling_ends _ _ _ _ (length-take-le _ c.args.bytes (search rules)) c.loop-place.invariant (omega arith)
