use Rattle.std.proofs.Common.{refl}
use Rattle.hol_wire.specs.Replies.{Counts}
use Rattle.hol_wire.proofs.Said.{said}
use Rattle.hol_wire.proofs.replies.counts.Goals as goal

pub returns : goal.returns
returns c = said (Counts c.args.ran) _ c.line_of.result c.in_ok-value.ensures refl refl c.line_of.ensures.bytes c.line_of.ensures.stays
