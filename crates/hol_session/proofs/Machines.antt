-- What the steps of an answer come to, over plain variables.
use Rattle.std.proofs.Common.{◌≡◌, ◌≢◌, ◌<◌, ◌≤◌, ℕ, List, [], ◌∷◌, length, Option, Some, None, Result, Ok, Err, refl, sym, ◌∙◌, subst, arith}
use Rattle.std.specs.Prelude.{OnOk, OnErr, IfOk, IfErr}
use Rattle.std.specs.Str.{IsUtf8}
use Rattle.serde_json.specs.Data.{Data}
use Rattle.serde_json.specs.Read.{read}
use Rattle.serde_json.proofs.OnLiterals.{serde_json_on_literals}
use Rattle.hol_document.specs.declared.error.Refusal.{Refusal}
use Rattle.hol_document.specs.declared.error.DocsError.{DocsError}
use Rattle.hol_document.specs.Documents.{Documents, TheoryText}
use Rattle.hol_document.specs.Asked.{IfRefused}
use Rattle.hol_wire.specs.declared.reply.Reply.{Reply}
use Rattle.hol_wire.specs.ReplyBytes.{reply_bytes}
use Rattle.hol_wire.specs.Requests.{RequestText, request_of}
use Rattle.hol_wire.specs.Replies.{ReplyValue, Refused, ByDocuments, LineTooLong, NotJson, Shape, Memory, Done}
use Rattle.hol_wire.specs.Texts.{Says}
use Rattle.hol_session.specs.Lines.{line_limit}
use Rattle.hol_session.specs.Served.{IsServed}
use Rattle.hol_session.specs.Machine.{Counted, counted, ReadsAs, Edits, ServesIf, Machine, too_long, no_json, served, no_memory, MayAnswer}
use Rattle.hol_session.proofs.Theorems.{machine_tells}

-- what a refusal tells, where it is this one
pub told : (P : Refusal → Type 0) (error : DocsError) (refusal : Refusal) → error ≡ DocsError.Refused refusal → IfRefused P error → P refusal
told P error refusal is h = subst (IfRefused P) is h

same_counted : (a b : Counted) → a.documents ≡ b.documents → a.ran ≡ b.ran → a ≡ b
same_counted a b d r = λ i. counted (d i) (r i)

made_edit : (old new : Counted) (edit : Result (List TheoryText) Refusal) (Runs : Type 0) → edit ≡ Ok new.documents.theories → new.documents.setup ≡ old.documents.setup
    → new.documents.cache ≡ old.documents.cache → old.ran ≤ new.ran → Runs → Edits old edit Runs Done new
made_edit old new edit Runs made setup cache rises runs =
    subst (λ (e : Result (List TheoryText) Refusal). Edits old e Runs Done new) (sym made)
    (refl, λ i. record { theories = new.documents.theories; setup = setup i; cache = cache i }, rises, runs)

refused_edit : (old new : Counted) (edit : Result (List TheoryText) Refusal) (Runs : Type 0) (refusal : Refusal)
    → edit ≡ Err refusal → new.documents ≡ old.documents → new.ran ≡ old.ran → Edits old edit Runs (Refused (ByDocuments refusal)) new
refused_edit old new edit Runs refusal is kept uncounted =
    subst (λ (e : Result (List TheoryText) Refusal). Edits old e Runs (Refused (ByDocuments refusal)) new) (sym is) (refl, same_counted new old kept uncounted)

-- the reply to an edit, which is made or refused
pub served_edit : {E : Type 0} (old new : Counted) (edit : Result (List TheoryText) Refusal) (Runs : Type 0) (r : Result (Unit {0}) DocsError) (answer : Result Reply E)
    → OnOk r (edit ≡ Ok new.documents.theories) → IfErr r (IfRefused (λ refusal. edit ≡ Err refusal)) → OnErr r (new.documents ≡ old.documents) → new.documents.setup ≡ old.documents.setup
    → new.documents.cache ≡ old.documents.cache → old.ran ≤ new.ran → OnOk r Runs → IfErr r (IfRefused (λ refusal. new.ran ≡ old.ran))
    → IfOk answer (λ reply. OnOk r (Says Done reply))
    → IfOk answer (λ reply. IfErr r (λ error. (refusal : Refusal) × (error ≡ DocsError.Refused refusal) × Says (Refused (ByDocuments refusal)) reply))
    → IfOk answer (λ reply. (value : ReplyValue) × Says value reply × Edits old edit Runs value new)
served_edit old new edit Runs (Ok done) (Ok reply) made refused kept setup cache rises runs uncounted says_done says_refused = (Done, says_done, made_edit old new edit Runs made setup cache rises runs)
served_edit old new edit Runs (Err error) (Ok reply) made refused kept setup cache rises runs uncounted says_done (refusal, is, says) =
    (Refused (ByDocuments refusal), says, refused_edit old new edit Runs refusal (told (λ f. edit ≡ Err f) error refusal is refused) kept (told (λ f. new.ran ≡ old.ran) error refusal is uncounted))
served_edit old new edit Runs r (Err e) made refused kept setup cache rises runs uncounted says_done says_refused = tt

-- an edit that finds no memory changes nothing
pub kept_edit : {A E : Type 0} (P : Type 0) (r : Result (Unit {0}) DocsError) (answer : Result A E) → OnErr answer (r ≡ Err DocsError.Memory) → OnErr r P → OnErr answer P
kept_edit P r (Ok reply) is kept = tt
kept_edit P (Ok done) (Err e) is kept = absurd (cc)
kept_edit P (Err error) (Err e) is kept = kept

pub empty_is_no_json : (line : List ℕ) (d : Data) → read line ≡ Some d → line ≢ []
unfolding serde_json_on_literals
empty_is_no_json [] d e = absurd (cc)
empty_is_no_json (b ∷ bs) d e = λ f. absurd (cc)

-- an answer of the machine, with what it tells of theorems
told_of : (old new : Counted) (line : List ℕ) (value : ReplyValue) (reply : Reply) → Machine old line value new → Says value reply
    → MayAnswer old line (reply_bytes reply.text) reply.closes new
told_of old new line value reply machine says = (value, machine, machine_tells old new line value machine, says.0, says.1)

pub line_no_json : (old : Counted) (line : List ℕ) (reply : Reply) → length line ≤ line_limit → (IsUtf8 line → read line ≡ None) → Says (Refused NotJson) reply
    → MayAnswer old line (reply_bytes reply.text) reply.closes old
line_no_json old line reply short none says =
    told_of old old line (Refused NotJson) reply (no_json short (λ d (utf8, is). (let e : None ≡ Some d = sym (none utf8) ∙ is in absurd (cc))) refl refl) says

pub line_no_memory : (old new : Counted) (line : List ℕ) (reply : Reply) → length line ≤ line_limit → line ≢ [] → new.documents ≡ old.documents → old.ran ≤ new.ran → Says (Refused Memory) reply
    → MayAnswer old line (reply_bytes reply.text) reply.closes new
line_no_memory old new line reply short some same rises says = told_of old new line (Refused Memory) reply (no_memory short some refl same rises) says

pub line_shape : (old : Counted) (line : List ℕ) (d : Data) (reply : Reply) → length line ≤ line_limit → ReadsAs line d → request_of d ≡ None → Says (Refused Shape) reply
    → MayAnswer old line (reply_bytes reply.text) reply.closes old
line_shape old line d reply short reads none says =
    told_of old old line (Refused Shape) reply (served short d reads (subst (λ (o : Option RequestText). ServesIf old o (Refused Shape) old) (sym none) (refl, refl))) says

pub line_served : (old new : Counted) (line : List ℕ) (d : Data) (request : RequestText) (reply : Reply) → length line ≤ line_limit → ReadsAs line d → request_of d ≡ Some request
    → IsServed old request new reply
    → MayAnswer old line (reply_bytes reply.text) reply.closes new
line_served old new line d request reply short reads is (value, says, serves) =
    told_of old new line value reply (served short d reads (subst (λ (o : Option RequestText). ServesIf old o value new) (sym is) serves)) says

pub line_overlong : (old : Counted) (line : List ℕ) (reply : Reply) → line_limit < length line → Says (Refused LineTooLong) reply
    → MayAnswer old line (reply_bytes reply.text) reply.closes old
line_overlong old line reply long says = told_of old old line (Refused LineTooLong) reply (too_long long refl refl) says

pub some_line : (line : List ℕ) → 0 < length line → line ≢ []
some_line [] h = absurd (omega arith)
some_line (b ∷ bs) h = λ e. absurd (cc)

-- what the machine goes by, of a state whose documents and count are these
abbrev pub seen : {S : Type 0} → (S → Documents) → (S → ℕ) → S → Counted
seen documents ran s = counted (documents s) (ran s)
