use Rattle.std.proofs.Common.{refl}
use Rattle.hol_exec.specs.ReportView.{report_value}
use Rattle.hol_wire.specs.Replies.{Reports}
use Rattle.hol_wire.proofs.Floats.{no_float}
use Rattle.hol_wire.proofs.Said.{said}
use Rattle.hol_wire.proofs.replies.reports.Goals as goal

pub returns : goal.returns
returns c = said (Reports (report_value c.args.report)) _ c.line_of.result c.in_ok-value.ensures (no_float (report_value c.args.report)) refl c.line_of.ensures.bytes c.line_of.ensures.stays
