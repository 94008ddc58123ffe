-- What replies tell of theorems is so.
use Rattle.std.proofs.Common.{◌≡◌, ℕ, List, [], ◌∷◌, ◌++◌, true, false, Option, Some, None, Result, Ok, Err, refl, sym, ◌∙◌, ap, subst, map, length, nat_eq, get_or}
use Rattle.std.proofs.lemmas.Bool.{eq-eqb}
use Rattle.std.specs.List.{All, Contains}
use Rattle.std.proofs.lemmas.List.Elements.{All-nil, All-cons, All-head, All-tail, All-contains_itself}
use Rattle.hol_kernel.specs.Theorem.{Theorem}
use Rattle.hol_model.proofs.Consistency.{theorem_consistent}
use Rattle.hol_theory.specs.declared.key.Kind.TheVariants as key_kind
use Rattle.hol_theory.specs.Key.{KeyValue, theorem_key}
use Rattle.hol_theory.specs.Entry.{EntryValue, AType, AConstant, ATheorem, ATac, Entries, IsEntry, IsTheoremEntry, EachIsEntry}
use Rattle.hol_exec.specs.OutcomeValue.{OutcomeValue, Opens, Leaves, Undoes, Rotates, Makes, Refuses, MakesTheorems, after}
use Rattle.hol_exec.specs.ReportValue.{ReportValue}
use Rattle.hol_exec.specs.ReportOf.{entry_text, report_of}
use Rattle.hol_exec.specs.StateValue.{StateValue}
use Rattle.hol_document.specs.declared.error.Refusal.{Refusal}
use Rattle.hol_document.specs.Documents.{Documents, TheoryText, find_theory}
use Rattle.hol_document.specs.Asked.{theorem_texts}
use Rattle.hol_document.specs.Shown.{ShowsProvedIn, ListsProvedIn}
use Rattle.hol_wire.specs.Requests.{RequestText, NewTheory, DropTheory, Insert, Replace, Remove, Report, Theorems, Basis, Stats, Close}
use Rattle.hol_wire.specs.Replies.{ReplyValue, Reports, Lists, RestsOn}
use Rattle.hol_session.specs.Machine.{Counted, Edits, reply_to, ShowsProvedIf, ListsProvedIf, Serves, ServesIf, Machine, too_long, no_json, served, no_memory}
use Rattle.hol_session.specs.Theorems.{Stands, at_command, at_end, TellsOfTheorem, TellsIfTheorem, MadeAreTheorems, TellsOfTheorems}

-- ---- entries

-- each theorem among the entries stands, by its name
abbrev TheoremsStand : Documents → Entries → Type 0
TheoremsStand docs entries = (name : List ℕ) (th : Theorem) → Contains entries (theorem_key name, ATheorem th) → Stands docs name th

is_theorem_key : (key : KeyValue) → key.kind ≡ key_kind.Theorem → key ≡ theorem_key key.name
is_theorem_key key e = λ i. record { kind = e i; name = key.name }

theorem_tells : (docs : Documents) (entries : Entries) (key : KeyValue) (th : Theorem) → TheoremsStand docs entries → Contains entries (key, ATheorem th) → IsTheoremEntry key th
    → TellsOfTheorem docs (entry_text (key, ATheorem th))
theorem_tells docs entries key th stand among is = record {
  name = key.name;
  th = th;
  says = refl;
  stands = stand key.name th (subst (λ (k : KeyValue). Contains entries (k, ATheorem th)) (is_theorem_key key is.under) among);
  derived = is.theorem;
  without_hypotheses = is.without_hypotheses;
  consistent = theorem_consistent th;
}

-- two texts differ at a place
bytes_differ : (xs ys : List ℕ) (i : ℕ) → xs ≡ ys → nat_eq (get_or xs i 0) (get_or ys i 0) ≡ false → ⊥
bytes_differ xs ys i e h =
    (let f : false ≡ true = sym h ∙ (ap (λ l. nat_eq (get_or xs i 0) (get_or l i 0)) (sym e) ∙ eq-eqb (get_or xs i 0) (get_or xs i 0) refl) in absurd (cc))

entry_tells : (docs : Documents) (entries : Entries) → TheoremsStand docs entries → (e : KeyValue × EntryValue) → Contains entries e → IsEntry e.0 e.1 → TellsIfTheorem docs (entry_text e)
entry_tells docs entries stand (key, AType arity item basis) among is = λ rest e. absurd (bytes_differ _ _ 1 e refl)
entry_tells docs entries stand (key, AConstant ty item basis) among is = λ rest e. absurd (bytes_differ _ _ 0 e refl)
entry_tells docs entries stand (key, ATheorem th) among is = λ rest e. theorem_tells docs entries key th stand among is
entry_tells docs entries stand (key, ATac e bases basis) among is = λ rest e. absurd (bytes_differ _ _ 1 e refl)

-- of some entries of these
entries_tell : (docs : Documents) (all entries : Entries) → TheoremsStand docs all → All (Contains all) entries → EachIsEntry entries → All (TellsIfTheorem docs) (map entry_text entries)
entries_tell docs all [] stand among is = All-nil (TellsIfTheorem docs)
entries_tell docs all (e ∷ entries) stand among is =
    All-cons (TellsIfTheorem docs) (entry_text e) (map entry_text entries) (entry_tells docs all stand e (All-head (Contains all) e entries among) is.0)
    (entries_tell docs all entries stand (All-tail (Contains all) e entries among) is.1)

listed_tell : (docs : Documents) (all entries : Entries) → TheoremsStand docs all → All (Contains all) entries → EachIsEntry entries → All (TellsOfTheorem docs) (theorem_texts entries)
listed_tell docs all [] stand among is = All-nil (TellsOfTheorem docs)
listed_tell docs all ((key, AType arity item basis) ∷ entries) stand among is = listed_tell docs all entries stand (All-tail (Contains all) _ entries among) is.1
listed_tell docs all ((key, AConstant ty item basis) ∷ entries) stand among is = listed_tell docs all entries stand (All-tail (Contains all) _ entries among) is.1
listed_tell docs all ((key, ATheorem th) ∷ entries) stand among is =
    All-cons (TellsOfTheorem docs) (entry_text (key, ATheorem th)) (theorem_texts entries)
    (theorem_tells docs all key th stand (All-head (Contains all) (key, ATheorem th) entries among) is.0)
    (listed_tell docs all entries stand (All-tail (Contains all) (key, ATheorem th) entries among) is.1)
listed_tell docs all ((key, ATac e bases basis) ∷ entries) stand among is = listed_tell docs all entries stand (All-tail (Contains all) _ entries among) is.1

-- ---- replies

outcome_tells : (docs : Documents) (outcome : OutcomeValue) (s : StateValue) → ((entries : Entries) → outcome ≡ Makes entries → TheoremsStand docs entries) → MakesTheorems outcome
    → MadeAreTheorems docs (report_of outcome s)
outcome_tells docs (Opens name statement basis) s stand made = tt
outcome_tells docs (Leaves goal goals basis) s stand made = tt
outcome_tells docs Undoes s stand made = tt
outcome_tells docs (Rotates times) s stand made = tt
outcome_tells docs (Makes entries) s stand made = entries_tell docs entries entries (stand entries refl) (All-contains_itself entries) made
outcome_tells docs (Refuses kind arg) s stand made = tt

report_tells : (docs : Documents) (theory : Option ℕ) (at : ℕ) (report : ReportValue) → ShowsProvedIn docs theory at report → MadeAreTheorems docs report
report_tells docs None at report h = absurd h
report_tells docs (Some i) at report h =
    subst (MadeAreTheorems docs) (sym h.1.is.says)
    (outcome_tells docs h.1.is.row.outcome (after h.1.is.state h.1.is.row.outcome)
    (λ entries made name th among. at_command i at h.1.is.before h.1.is.rows h.1.is.state h.1.is.run h.1.is.row h.1.is.here entries made among) h.1.proved)

list_tells : (docs : Documents) (theory : Option ℕ) (texts : List (List ℕ)) → ListsProvedIn docs theory texts → All (TellsOfTheorem docs) texts
list_tells docs None texts h = absurd h
list_tells docs (Some i) texts h =
    subst (All (TellsOfTheorem docs)) (sym h.are.says)
    (listed_tell docs h.are.state.entries h.are.state.entries (λ name th among. at_end i h.are.before h.are.rows h.are.state h.are.run among)
    (All-contains_itself h.are.state.entries) h.proved.each)

edit_tells : (old new : Counted) (edit : Result (List TheoryText) Refusal) (Runs : Type 0) (reply : ReplyValue) → Edits old edit Runs reply new → TellsOfTheorems old.documents reply
edit_tells old new (Ok theories) Runs reply h = subst (TellsOfTheorems old.documents) (sym h.0) tt
edit_tells old new (Err refusal) Runs reply h = subst (TellsOfTheorems old.documents) (sym h.0) tt

reported_tells : (docs : Documents) (theory : List ℕ) (at : ℕ) (answer : Result ReportValue Refusal) → ShowsProvedIf docs theory at answer → TellsOfTheorems docs (reply_to Reports answer)
reported_tells docs theory at (Ok report) h = report_tells docs (find_theory theory docs.theories) at report h
reported_tells docs theory at (Err refusal) h = tt

listing_tells : (docs : Documents) (theory : List ℕ) (answer : Result (List (List ℕ)) Refusal) → ListsProvedIf docs theory answer → TellsOfTheorems docs (reply_to Lists answer)
listing_tells docs theory (Ok texts) h = list_tells docs (find_theory theory docs.theories) texts h
listing_tells docs theory (Err refusal) h = tt

resting_tells : (docs : Documents) (answer : Result (Option (List (List ℕ))) Refusal) → TellsOfTheorems docs (reply_to RestsOn answer)
resting_tells docs (Ok texts) = tt
resting_tells docs (Err refusal) = tt

request_tells : (old new : Counted) (request : RequestText) (reply : ReplyValue) → Serves old request reply new → TellsOfTheorems old.documents reply
request_tells old new (NewTheory name at) reply h = edit_tells old new _ _ reply h
request_tells old new (DropTheory name) reply h = edit_tells old new _ _ reply h
request_tells old new (Insert theory at text) reply h = edit_tells old new _ _ reply h
request_tells old new (Replace theory at text) reply h = edit_tells old new _ _ reply h
request_tells old new (Remove theory at) reply h = edit_tells old new _ _ reply h
request_tells old new (Report theory at) reply (answer, reported, shows, is, same) =
    subst (TellsOfTheorems old.documents) (sym is) (reported_tells old.documents theory at answer shows)
request_tells old new (Theorems theory) reply (answer, are, lists, is, same) = subst (TellsOfTheorems old.documents) (sym is) (listing_tells old.documents theory answer lists)
request_tells old new (Basis theory name) reply (answer, are, tells, is, same) = subst (TellsOfTheorems old.documents) (sym is) (resting_tells old.documents answer)
request_tells old new Stats reply h = subst (TellsOfTheorems old.documents) (sym h.0) tt
request_tells old new Close reply h = subst (TellsOfTheorems old.documents) (sym h.0) tt

served_tells : (old new : Counted) (request : Option RequestText) (reply : ReplyValue) → ServesIf old request reply new → TellsOfTheorems old.documents reply
served_tells old new None reply h = subst (TellsOfTheorems old.documents) (sym h.0) tt
served_tells old new (Some request) reply h = request_tells old new request reply h

pub machine_tells : (old new : Counted) (line : List ℕ) (reply : ReplyValue) → Machine old line reply new → TellsOfTheorems old.documents reply
machine_tells old new line reply (too_long long is same) = subst (TellsOfTheorems old.documents) (sym is) tt
machine_tells old new line reply (no_json short none is same) = subst (TellsOfTheorems old.documents) (sym is) tt
machine_tells old new line reply (served short d reads serves) = served_tells old new _ reply serves
machine_tells old new line reply (no_memory short some is same rises) = subst (TellsOfTheorems old.documents) (sym is) tt
