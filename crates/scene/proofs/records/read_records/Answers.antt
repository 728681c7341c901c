-- `scene::records::read_records` meets its contract.
use Rattle.std.proofs.Common.{arith, ap, sym, ◌∙◌, ◌+◌, Ok}
use mathlib.Core.Path.{subst}
use Rattle.std.proofs.lemmas.Result.{err_from_is_err_and}
use Rattle.filing.specs.Said.{statement as made}
use Rattle.filing.specs.Areas.{Areas, holding, filed_in}
use Rattle.filing.proofs.Lending.{same_areas}
use Rattle.filing.proofs.Held.{held_lent}
use Rattle.scene.proofs.Going.{Going, going_begins, going_passed, region_fits, going_region, statement-fits, going_statement}
use Rattle.scene.proofs.Promised.{ends_into, refused_into}
use Rattle.scene.proofs.records.read_records.Goals as goal

pub loop-identifier-init : goal.loop-identifier-init
loop-identifier-init c = (c.begin.ensures.same, going_begins _ c.requires c.begin.ensures.said)

-- a region

pub overflow_add-at : goal.overflow_add-at
overflow_add-at c =
    omega (arith, region_fits c.loop-identifier.invariant.1 c.identifiers.ensures c.record_at.ensures (c.in_ok-identifier.was ∙ ap Ok c.in-Region.is))

pub loop-identifier-smaller-in-Region : goal.loop-identifier-smaller-in-Region
loop-identifier-smaller-in-Region c =
    omega (arith, region_fits c.loop-identifier.invariant.1 c.identifiers.ensures c.record_at.ensures (c.in_ok-identifier.was ∙ ap Ok c.in-Region.is))

pub loop-identifier-preserved-in-Region : goal.loop-identifier-preserved-in-Region
loop-identifier-preserved-in-Region c = (
  same_areas c.loop-identifier.invariant.0 c.put_region.ensures.same,
  rw c.put_region.ensures.said
      (going_region c.loop-identifier.invariant.1 c.identifiers.ensures c.record_at.ensures (c.in_ok-identifier.was ∙ ap Ok c.in-Region.is)),
)

-- a statement; there are fewer than a mark can number

pub overflow_add-statements : goal.overflow_add-statements
overflow_add-statements c =
    omega (
      arith,
      statement-fits c.loop-identifier.invariant.1 c.identifiers.ensures c.record_at.ensures (c.in_ok-identifier.was ∙ ap Ok c.in-Statement.is),
      going_passed c.loop-identifier.invariant.1,
    )

pub overflow_add-at-in-Statement : goal.overflow_add-at-in-Statement
overflow_add-at-in-Statement c =
    omega (arith, statement-fits c.loop-identifier.invariant.1 c.identifiers.ensures c.record_at.ensures (c.in_ok-identifier.was ∙ ap Ok c.in-Statement.is))

pub loop-identifier-smaller : goal.loop-identifier-smaller
loop-identifier-smaller c =
    omega (arith, statement-fits c.loop-identifier.invariant.1 c.identifiers.ensures c.record_at.ensures (c.in_ok-identifier.was ∙ ap Ok c.in-Statement.is))

pub loop-identifier-preserved : goal.loop-identifier-preserved
loop-identifier-preserved c = (
  same_areas c.loop-identifier.invariant.0 (same_areas c.mark.ensures.same c.file.ensures.same),
  rw c.file.ensures.said
      (subst
      (λ (x : Areas). Going c.args.scene.now
      (holding x.identifiers (filed_in x.cells (made c.in-Statement.from c.in-Statement.to c.in-Statement.set.0)) x.marks)
      (c.loop-identifier.at + 10) c.loop-identifier.count (c.loop-identifier.statements + 1))
      (sym c.mark.ensures.said)
      (going_statement c.loop-identifier.invariant.1 c.identifiers.ensures c.record_at.ensures (c.in_ok-identifier.was ∙ ap Ok c.in-Statement.is))),
)

-- the end, and a refusal

pub returns-in-End-clause-read : goal.returns-in-End-clause-read
returns-in-End-clause-read c =
    ends_into c.requires (omega arith) c.loop-identifier.invariant.1 c.identifiers.ensures c.record_at.ensures
    (c.in_ok-identifier.was ∙ ap Ok c.in-End.is) c.pack.ensures c.pack-in-End.ensures

pub returns-in_err-identifier : goal.returns-in_err-identifier
returns-in_err-identifier c =
    let p = err_from_is_err_and c.from_residual.result c.from_residual.ensures.1 in
    rw (p.1, p.2)
    (record {
      same = c.loop-identifier.invariant.0;
      lent = held_lent c.loop-identifier.invariant.1.held;
      read = refused_into c.requires (omega arith) c.loop-identifier.invariant.1 c.identifiers.ensures c.record_at.ensures c.in_err-identifier.was;
    })
