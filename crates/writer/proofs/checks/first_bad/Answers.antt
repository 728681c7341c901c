-- `writer::checks::first_bad` meets its contract.
use mathlib.Core.Bool.{◌||◌}
use lib.ListN.{length}
use Rattle.std.proofs.Common.{rules}
use Rattle.std.proofs.iter.runs.Sources.{ranges}
use Rattle.writer.specs.Writing.{is_zero, is_repeated, first_bad}
use Rattle.writer.proofs.Search.{found_first}
use Rattle.writer.proofs.checks.first_bad.Goals as goal

pub returns : goal.returns
unfolding first_bad
returns c =
    let identifiers = c.args.identifiers.now in
    found_first (length identifiers) (λ p. is_zero identifiers p || is_repeated identifiers p) c.find.result (search (rules, ranges))
