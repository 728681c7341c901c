-- `report::print_report` is safe and ends: the report is a part of the buffer.
use Rattle.std.proofs.Common.{sym}
use lib.Seq.{length-take-le}
use Rattle.report_text.proofs.Readings.{reported_within}
use Rattle.report.proofs.print_report.Goals as goal

pub slice_bounds-buffer-end : goal.slice_bounds-buffer-end
slice_bounds-buffer-end g c = reported_within c.report-count.ensures

pub slice_bounds-write_all-end : goal.slice_bounds-write_all-end
slice_bounds-write_all-end g c = sym (length-take-le _ _ (reported_within c.report-count.ensures))
