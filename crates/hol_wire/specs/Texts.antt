-- What the code's replies stand for.
use Rattle.std.specs.Prelude.{◌≡◌}
use Rattle.hol_wire.specs.declared.reply.Reply.{Reply}
use Rattle.hol_wire.specs.ReplyBytes.{reply_bytes}
use Rattle.hol_wire.specs.Replies.{ReplyValue, reply_line, closes}

-- the reply's bytes are those of this value, and it ends the session or not as the value does
abbrev pub Says : ReplyValue → Reply → Type 0
Says value reply = (reply_bytes reply.text ≡ reply_line value) × (reply.closes ≡ closes value)
