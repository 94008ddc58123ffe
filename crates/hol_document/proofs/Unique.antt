-- What running afresh says is said in one way.
use Rattle.std.proofs.Common.{◌≡◌, ℕ, ◌<◌, ◌≤◌, List, [], ◌∷◌, ◌++◌, map, take, length, refl, ap, sym, ◌∙◌, arith}
use Rattle.std.specs.Prelude.{Option, Some, None, Result, Ok, Err, slice_index_or}
use Rattle.hol_exec.specs.Setup.{SetupValue}
use Rattle.hol_exec.specs.StateValue.{StateValue, EndedTheory, start}
use Rattle.hol_exec.specs.OutcomeValue.{after}
use Rattle.hol_exec.specs.ReadsValue.{reads_at}
use Rattle.hol_exec.specs.ReportValue.{ReportValue}
use Rattle.hol_exec.specs.ReportOf.{report_of}
use Rattle.hol_exec.proofs.Unique.{one_outcome, one_text}
use Rattle.hol_document.specs.declared.error.Refusal.{Refusal}
use Rattle.hol_document.specs.Documents.{TheoryText, Documents, find_theory}
use Rattle.hol_document.specs.Afresh.{Row, IsRow, AreRows, TheoryRun, IsRun, AreRuns, ended}
use Rattle.hol_document.specs.Asked.{commands_at, IsRunUpTo, IsReport, ReportedAt, ReportedIn, Reported}

one_row : (setup : SetupValue) (earlier : List EndedTheory) (s : StateValue) (text : List ℕ) (a b : Row)
    → IsRow setup earlier s text a → IsRow setup earlier s text b → a ≡ b
one_row setup earlier s text a b h k =
    let value : a.value ≡ b.value = one_text text a.value b.value h.parsed k.parsed in
    let reads : a.reads ≡ b.reads = h.read ∙ (ap (λ v. reads_at v s) value ∙ sym k.read) in
    let same = one_outcome setup earlier s b.value b.reads a.tested b.tested a.outcome b.outcome (rw (value, reads) at h.gets) k.gets in
    λ i. record { value = value i; reads = reads i; tested = same.1 i; outcome = same.0 i }

-- rows and the state that they lead to
record Same {X Y : Type 0} (a b : X) (p q : Y) : Type 0 where
  first : a ≡ b
  second : p ≡ q

one_rows : (setup : SetupValue) (earlier : List EndedTheory) (s : StateValue) (texts : List (List ℕ)) (a b : List Row) (p q : StateValue)
    → AreRows setup earlier s texts a p → AreRows setup earlier s texts b q → Same a b p q
one_rows setup earlier s [] [] [] p q h k = record { first = refl; second = h ∙ sym k }
one_rows setup earlier s [] [] (y ∷ b) p q h k = absurd k
one_rows setup earlier s [] (x ∷ a) b p q h k = absurd h
one_rows setup earlier s (text ∷ texts) [] b p q h k = absurd h
one_rows setup earlier s (text ∷ texts) (x ∷ a) [] p q h k = absurd k
one_rows setup earlier s (text ∷ texts) (x ∷ a) (y ∷ b) p q h k =
    let row : x ≡ y = one_row setup earlier s text x y h.0 k.0 in
    let rest : Same a b p q = one_rows setup earlier (after s y.outcome) texts a b p q (rw row at h.1) k.1 in
    let tail : a ≡ b = rest.first in
    record { first = cc; second = rest.second }

pub rows_are_one : (setup : SetupValue) (earlier : List EndedTheory) (s : StateValue) (texts : List (List ℕ)) (a b : List Row) (p q : StateValue)
    → AreRows setup earlier s texts a p → AreRows setup earlier s texts b q → a ≡ b
rows_are_one setup earlier s texts a b p q h k = (one_rows setup earlier s texts a b p q h k).first

pub last_is_one : (setup : SetupValue) (earlier : List EndedTheory) (s : StateValue) (texts : List (List ℕ)) (a b : List Row) (p q : StateValue)
    → AreRows setup earlier s texts a p → AreRows setup earlier s texts b q → p ≡ q
last_is_one setup earlier s texts a b p q h k = (one_rows setup earlier s texts a b p q h k).second

one_run : (setup : SetupValue) (earlier : List EndedTheory) (theory : TheoryText) (a b : TheoryRun)
    → IsRun setup earlier theory a → IsRun setup earlier theory b → a ≡ b
one_run setup earlier theory a b h k =
    let name : a.name ≡ b.name = h.named ∙ sym k.named in
    let rows : a.rows ≡ b.rows = rows_are_one setup earlier start theory.commands a.rows b.rows a.last b.last h.are k.are in
    let last : a.last ≡ b.last = last_is_one setup earlier start theory.commands a.rows b.rows a.last b.last h.are k.are in
    λ i. record { name = name i; rows = rows i; last = last i }

pub runs_are_one : (setup : SetupValue) (earlier : List EndedTheory) (theories : List TheoryText) (a b : List TheoryRun)
    → AreRuns setup earlier theories a → AreRuns setup earlier theories b → a ≡ b
runs_are_one setup earlier [] [] [] h k = refl
runs_are_one setup earlier [] [] (y ∷ b) h k = absurd k
runs_are_one setup earlier [] (x ∷ a) b h k = absurd h
runs_are_one setup earlier (t ∷ theories) [] b h k = absurd h
runs_are_one setup earlier (t ∷ theories) (x ∷ a) [] h k = absurd k
runs_are_one setup earlier (t ∷ theories) (x ∷ a) (y ∷ b) h k =
    let run : x ≡ y = one_run setup earlier t x y h.0 k.0 in
    let rest : a ≡ b = runs_are_one setup (earlier ++ ended y ∷ []) theories a b (rw run at h.1) k.1 in
    cc

-- the runs before, and the state that the commands lead to
one_up_to : (docs : Documents) (i count : ℕ) (a b : List TheoryRun) (rows others : List Row) (s t : StateValue)
    → IsRunUpTo docs i count a rows s → IsRunUpTo docs i count b others t → Same a b s t
one_up_to docs i count a b rows others s t h k =
    let before : a ≡ b = runs_are_one docs.setup [] (take i docs.theories) a b h.runs k.runs in record {
      first = before;
      second = last_is_one docs.setup (map ended b) start (take count (commands_at docs i)) rows others s t (rw before at h.leads) k.leads;
    }

pub before_is_one : (docs : Documents) (i count : ℕ) (a b : List TheoryRun) (rows others : List Row) (s t : StateValue)
    → IsRunUpTo docs i count a rows s → IsRunUpTo docs i count b others t → a ≡ b
before_is_one docs i count a b rows others s t h k = (one_up_to docs i count a b rows others s t h k).first

pub state_is_one : (docs : Documents) (i count : ℕ) (a b : List TheoryRun) (rows others : List Row) (s t : StateValue)
    → IsRunUpTo docs i count a rows s → IsRunUpTo docs i count b others t → s ≡ t
state_is_one docs i count a b rows others s t h k = (one_up_to docs i count a b rows others s t h k).second

one_report : (docs : Documents) (i at : ℕ) (r q : ReportValue) → IsReport docs i at r → IsReport docs i at q → r ≡ q
one_report docs i at r q h k =
    let before : h.before ≡ k.before = before_is_one docs i at h.before k.before h.rows k.rows h.state k.state h.run k.run in
    let states : h.state ≡ k.state = state_is_one docs i at h.before k.before h.rows k.rows h.state k.state h.run k.run in
    let rows : h.row ≡ k.row = one_row docs.setup (map ended k.before) k.state (slice_index_or (commands_at docs i) at []) h.row k.row (rw (states, before) at h.here) k.here in
    h.says ∙ (ap (λ (row : Row). report_of row.outcome (after h.state row.outcome)) rows
    ∙ (ap (λ s. report_of k.row.outcome (after s k.row.outcome)) states ∙ sym k.says))

apart : (n at : ℕ) → at < n → n ≤ at → ⊥
apart n at h k = omega (arith, h, k)

one_answer_at : (docs : Documents) (i at : ℕ) (r q : Result ReportValue Refusal) → ReportedAt docs i at r → ReportedAt docs i at q → r ≡ q
one_answer_at docs i at (Ok r) (Ok q) h k = ap Ok (one_report docs i at r q h.1 k.1)
one_answer_at docs i at (Ok r) (Err f) h k = absurd (apart (length (commands_at docs i)) at h.0 k.1)
one_answer_at docs i at (Err e) (Ok q) h k = absurd (apart (length (commands_at docs i)) at k.0 h.1)
one_answer_at docs i at (Err e) (Err f) h k = ap Err (h.0 ∙ sym k.0)

one_answer_in : (docs : Documents) (o : Option ℕ) (at : ℕ) (r q : Result ReportValue Refusal) → ReportedIn docs o at r → ReportedIn docs o at q → r ≡ q
one_answer_in docs None at r q h k = h ∙ sym k
one_answer_in docs (Some i) at r q h k = one_answer_at docs i at r q h k

pub one_answer : (docs : Documents) (name : List ℕ) (at : ℕ) (r q : Result ReportValue Refusal) → Reported docs name at r → Reported docs name at q → r ≡ q
one_answer docs name at r q h k = one_answer_in docs (find_theory name docs.theories) at r q h k
