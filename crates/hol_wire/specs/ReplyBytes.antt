-- The bytes of a reply.
use Rattle.std.specs.Prelude.{List, ℕ}
use Rattle.hol_wire.specs.declared.reply.ReplyText.{ReplyText}
use Rattle.hol_wire.specs.declared.reply.ReplyText.TheVariants.{Constant, Owned}

abbrev pub reply_bytes : ReplyText → List ℕ
reply_bytes (Constant text) = text.now
reply_bytes (Owned text) = text.items
