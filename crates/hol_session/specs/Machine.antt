-- One line and its reply.
use Rattle.std.specs.Prelude.{◌≡◌, ◌≢◌, ◌<◌, ◌≤◌, ℕ, List, [], length, Bool, Option, Some, None, Result, Ok, Err}
use Rattle.std.specs.Str.{IsUtf8}
use Rattle.serde_json.specs.Data.{Data}
use Rattle.serde_json.specs.Read.{read}
use Rattle.hol_exec.specs.ReportValue.{ReportValue}
use Rattle.hol_document.specs.declared.error.Refusal.{Refusal}
use Rattle.hol_document.specs.Affected.{AddsTheory, DropsTheory, InsertsAt, ReplacesAt, RemovesAt, RunsAffected, RunsAt}
use Rattle.hol_document.specs.Documents.{Documents, TheoryText, with_theory, without_theory, with_command, with_text, without_command, with_theories}
use Rattle.hol_document.specs.Asked.{Reported, BasisOf, TheoremsOf}
use Rattle.hol_document.specs.Shown.{ShowsProved, TellsOfProved, ListsProved}
use Rattle.hol_wire.specs.Requests.{RequestText, NewTheory, DropTheory, Insert, Replace, Remove, Report, Theorems, Basis, Stats, Close, request_of}
use Rattle.hol_wire.specs.Replies.{LineTooLong, NotJson, Shape, ByDocuments, Memory, ReplyValue, Refused, Done, Reports, Lists, RestsOn, Counts, Closed, reply_line, closes}
use Rattle.hol_session.specs.Lines.{line_limit}
use Rattle.hol_session.specs.Theorems.{TellsOfTheorems}

-- the line is this JSON value, as `serde_json`'s `Value` reads it
abbrev pub ReadsAs : List ℕ → Data → Type 0
ReadsAs line d = IsUtf8 line × (read line ≡ Some d)

-- what the machine goes by: the documents, and the number of commands that were run
pub record Counted : Type 0 where
  pub documents : Documents
  pub ran : ℕ

abbrev pub counted : Documents → ℕ → Counted
counted documents ran = record { documents = documents; ran = ran }

-- An edit that gives these theories, with what is said of the commands that it ran; or it is refused, and runs none.
abbrev pub Edits : Counted → Result (List TheoryText) Refusal → Type 0 → ReplyValue → Counted → Type 0
Edits old (Ok theories) Runs reply new = (reply ≡ Done) × (new.documents ≡ with_theories old.documents theories) × (old.ran ≤ new.ran) × Runs
Edits old (Err refusal) Runs reply new = (reply ≡ Refused (ByDocuments refusal)) × (new ≡ old)

-- the reply to what the documents answer
abbrev pub reply_to : {A : Type 0} → (A → ReplyValue) → Result A Refusal → ReplyValue
reply_to shown (Ok answer) = shown answer
reply_to shown (Err refusal) = Refused (ByDocuments refusal)

-- Each theorem that a report or an answer shows is that of a `Thm`: it has a derivation over its basis, which is legal.
abbrev pub ShowsProvedIf : Documents → List ℕ → ℕ → Result ReportValue Refusal → Type 0
ShowsProvedIf docs theory at (Ok report) = ShowsProved docs theory at report
ShowsProvedIf docs theory at (Err refusal) = Unit {0}

abbrev pub ListsProvedIf : Documents → List ℕ → Result (List (List ℕ)) Refusal → Type 0
ListsProvedIf docs theory (Ok texts) = ListsProved docs theory texts
ListsProvedIf docs theory (Err refusal) = Unit {0}

abbrev pub TellsOfProvedIf : Documents → List ℕ → List ℕ → Result (Option (List (List ℕ))) Refusal → Type 0
TellsOfProvedIf docs theory name (Ok answer) = TellsOfProved docs theory name answer
TellsOfProvedIf docs theory name (Err refusal) = Unit {0}

-- A request that may be served so. A question is answered from the rows of running the documents afresh, and shows proved theorems alone. An edit that is carried out runs no
-- more commands than it affects.
abbrev pub Serves : Counted → RequestText → ReplyValue → Counted → Type 0
Serves old (NewTheory name at) reply new =
    Edits old (with_theory old.documents.theories name at) (RunsAffected old.documents new.documents (AddsTheory at) old.ran new.ran) reply new
Serves old (DropTheory name) reply new =
    Edits old (without_theory old.documents.theories name) (RunsAt DropsTheory name old.documents new.documents old.ran new.ran) reply new
Serves old (Insert theory at text) reply new =
    Edits old (with_command old.documents.theories theory at text) (RunsAt (λ i. InsertsAt i at) theory old.documents new.documents old.ran new.ran) reply new
Serves old (Replace theory at text) reply new =
    Edits old (with_text old.documents.theories theory at text) (RunsAt (λ i. ReplacesAt i at) theory old.documents new.documents old.ran new.ran) reply new
Serves old (Remove theory at) reply new =
    Edits old (without_command old.documents.theories theory at) (RunsAt (λ i. RemovesAt i at) theory old.documents new.documents old.ran new.ran) reply new
Serves old (Report theory at) reply new =
    (answer : Result ReportValue Refusal) × Reported old.documents theory at answer × ShowsProvedIf old.documents theory at answer × (reply ≡ reply_to Reports answer) × (new ≡ old)
Serves old (Theorems theory) reply new =
    (answer : Result (List (List ℕ)) Refusal) × TheoremsOf old.documents theory answer × ListsProvedIf old.documents theory answer × (reply ≡ reply_to Lists answer) × (new ≡ old)
Serves old (Basis theory name) reply new =
    (answer : Result (Option (List (List ℕ))) Refusal) × BasisOf old.documents theory name answer × TellsOfProvedIf old.documents theory name answer × (reply ≡ reply_to RestsOn answer) × (new ≡ old)
Serves old Stats reply new = (reply ≡ Counts old.ran) × (new ≡ old)
Serves old Close reply new = (reply ≡ Closed) × (new ≡ old)

abbrev pub ServesIf : Counted → Option RequestText → ReplyValue → Counted → Type 0
ServesIf old None reply new = (reply ≡ Refused Shape) × (new ≡ old)
ServesIf old (Some request) reply new = Serves old request reply new

-- The machine may answer the line so. It goes by what the line is: too long, no JSON, or a value. Want of memory can take the
-- place of any answer, but for an empty line or one that is too long: commands may have been run then.
pub data Machine (old : Counted) (line : List ℕ) (reply : ReplyValue) (new : Counted) : Type 0 where
  too_long : line_limit < length line → reply ≡ Refused LineTooLong → new ≡ old → Machine old line reply new
  no_json : length line ≤ line_limit → ((d : Data) → ReadsAs line d → ⊥) → reply ≡ Refused NotJson → new ≡ old → Machine old line reply new
  served : length line ≤ line_limit → (d : Data) → ReadsAs line d → ServesIf old (request_of d) reply new → Machine old line reply new
  no_memory : length line ≤ line_limit → line ≢ [] → reply ≡ Refused Memory → new.documents ≡ old.documents → old.ran ≤ new.ran → Machine old line reply new

-- The same of a reply's bytes. What it tells of theorems is so.
abbrev pub MayAnswer : Counted → List ℕ → List ℕ → Bool → Counted → Type 0
MayAnswer old line text closed new =
    (reply : ReplyValue) × Machine old line reply new × TellsOfTheorems old.documents reply × (text ≡ reply_line reply) × (closed ≡ closes reply)
