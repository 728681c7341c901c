-- `scene::read` meets its contract: the lengths, then what reading into the areas gives.
use Rattle.std.proofs.Common.{rules, sym, ◌∙◌}
use Rattle.filing.proofs.Lending.{lent_so}
use Rattle.scene.proofs.Promised.{wrong_length, accepted_reads, cleared_reads, reads_as}
use Rattle.scene.proofs.read.Goals as goal

pub returns-then-not-are_lent : goal.returns-then-not-are_lent
returns-then-not-are_lent c = wrong_length _ _ (sym c.are_lent.ensures ∙ c.if-not-are_lent.true)

pub read_records-reading-requires : goal.read_records-reading-requires
read_records-reading-requires c = lent_so _ (sym c.are_lent.ensures ∙ c.if-not-are_lent.false)

pub returns-else-is_err : goal.returns-else-is_err
returns-else-is_err c =
    let lent = lent_so _ (sym c.are_lent.ensures ∙ c.if-not-are_lent.false) in
    reads_as (search rules) (accepted_reads lent _ (sym c.is_err.ensures.value ∙ c.if-is_err.false) c.read_records-reading.ensures.read)

pub returns-then-is_err : goal.returns-then-is_err
returns-then-is_err c =
    let lent = lent_so _ (sym c.are_lent.ensures ∙ c.if-not-are_lent.false) in
    reads_as (search rules)
    (cleared_reads lent _ (sym c.is_err.ensures.value ∙ c.if-is_err.true) c.read_records-reading.ensures.read c.read_records-reading.ensures.lent c.clear.ensures.said)
