-- What only private functions speak of: requests that are served.
use Rattle.hol_wire.specs.declared.reply.Reply.{Reply}
use Rattle.hol_wire.specs.Requests.{RequestText}
use Rattle.hol_wire.specs.Replies.{ReplyValue}
use Rattle.hol_wire.specs.Texts.{Says}
use Rattle.hol_session.specs.Machine.{Counted, Serves}

-- the request may be served by the reply, with these before and after it
abbrev pub IsServed : Counted → RequestText → Counted → Reply → Type 0
IsServed old request new reply = (value : ReplyValue) × Says value reply × Serves old request value new
