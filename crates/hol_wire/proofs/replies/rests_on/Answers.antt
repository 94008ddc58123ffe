use Rattle.std.proofs.Common.{refl}
use Rattle.hol_wire.specs.Replies.{RestsOn}
use Rattle.hol_wire.specs.Views.{items_text}
use Rattle.hol_wire.proofs.Floats.{no_items_float}
use Rattle.hol_wire.proofs.Said.{said}
use Rattle.hol_wire.proofs.replies.rests_on.Goals as goal

pub returns : goal.returns
returns c = said (RestsOn (items_text c.args.items)) _ c.line_of.result c.in_ok-value.ensures (no_items_float (items_text c.args.items)) refl c.line_of.ensures.bytes c.line_of.ensures.stays
