use Rattle.std.proofs.Common.{refl, map, string_bytes, String, Global}
use Rattle.hol_wire.specs.Replies.{Lists}
use Rattle.hol_wire.proofs.Floats.{no_list_float}
use Rattle.hol_wire.proofs.Said.{said}
use Rattle.hol_wire.proofs.replies.lists.Goals as goal

pub returns : goal.returns
returns c =
    let texts = map (λ (t : String Global). string_bytes t) c.args.texts.items in
    said (Lists texts) _ c.line_of.result c.in_ok-value.ensures (no_list_float texts) refl c.line_of.ensures.bytes c.line_of.ensures.stays
