-- When the bytes of a JSON value are a reply's.
use Rattle.std.proofs.Common.{◌≡◌, [], ◌∷◌, ◌++◌, false, ap, sym, ◌∙◌}
use Rattle.std.specs.Prelude.{Result, Ok, Err, IfOk}
use Rattle.serde_json.specs.Data.{Data}
use Rattle.serde_json.specs.Written.{compact_text, has_float}
use Rattle.hol_wire.specs.declared.reply.Reply.{Reply}
use Rattle.hol_wire.specs.ReplyBytes.{reply_bytes}
use Rattle.hol_wire.specs.Replies.{ReplyValue, reply_data, closes}
use Rattle.hol_wire.specs.Texts.{Says}

-- a reply that holds the text of this value's data
pub said : {E : Type 0} (value : ReplyValue) (d : Data) (r : Result Reply E) → d ≡ reply_data value → has_float (reply_data value) ≡ false → closes value ≡ false
    → IfOk r (λ reply. has_float d ≡ false → reply_bytes reply.text ≡ compact_text d ++ 10 ∷ []) → IfOk r (λ reply. reply.closes ≡ false) → IfOk r (Says value)
said value d (Ok reply) is none goes_on bytes stays = (
  bytes (ap has_float is ∙ none) ∙ ap (λ e. compact_text e ++ 10 ∷ []) is,
  stays ∙ sym goes_on,
)
said value d (Err e) is none goes_on bytes stays = tt
