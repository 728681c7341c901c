-- `rows::cells::give_lanes` meets its contract. The loop's invariant: the cells of the blocks so far are made.
use Rattle.std.proofs.Common.{◌≡◌, ◌*◌, ◌-◌, ◌/◌, ◌∙◌, ap, sym, subst, arith, length, take, rules}
use borrow.Rule.Slice.PartMut.{mid_len}
use Rattle.std.proofs.lemmas.List.{take_all}
use Rattle.lanes.proofs.Lists.{none-stored, all_stored}
use Rattle.lanes.specs.Lists.{list_of}
use Rattle.lanes.specs.Words.{set_at}
use Rattle.rows.specs.Rows.{row_cells}
use Rattle.rows.specs.Inner.{turned_of}
use Rattle.rows.proofs.Placing.{block_given}
use Rattle.rows.proofs.cells.give_lanes.Goals as goal

pub loop-block-init : goal.loop-block-init
loop-block-init c = none-stored _

pub loop-block-preserved : goal.loop-block-preserved
loop-block-preserved c =
    block_given _ c.loop-block.cells c.copy_from_slice.new.self c.turned.result _ (8 * c.loop-block.block) _ 8 (omega arith) (omega arith)
    c.loop-block.invariant (c.copy_from_slice.ensures.after ∙ sym (take_all 8 c.turned.result (search rules))) (c.turned.ensures ∙ ap turned_of c.eight_lanes.ensures)

pub returns-then-at-cells : goal.returns-then-at-cells
unfolding row_cells
returns-then-at-cells c =
    let cells = c.loop-block.cells in
    let at = length cells / 8 * 8 in
    let given : take at cells ≡ list_of at (set_at c.args.w) =
    let done : 8 * c.loop-block.block ≡ at = omega arith in
    subst (λ k. take k cells ≡ list_of k (set_at c.args.w)) done c.loop-block.invariant in
    all_stored _ _ _ (length cells) (search rules) (search rules)
    (block_given _ cells _ c.turned-then-at-cells.result _ at _ (length cells - at) (omega arith) (omega arith) given
    (c.give_rest.ensures ∙ ap (λ k. take k c.turned-then-at-cells.result) (mid_len at (length cells) cells (search rules)))
    (c.turned-then-at-cells.ensures ∙ ap turned_of c.eight_lanes-then-at-cells.ensures))

pub returns-else-at-cells : goal.returns-else-at-cells
unfolding row_cells
returns-else-at-cells c = all_stored _ c.loop-block.cells _ (8 * c.loop-block.block) (search rules) (omega arith) c.loop-block.invariant
