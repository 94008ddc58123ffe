-- What a theory's rows made: each `qed` the theorem of its `g`, and each entry that stands after them.
use Rattle.std.proofs.Common.{◌≡◌, ℕ, List, [], ◌∷◌, ◌++◌, refl, ap, ◌∙◌, subst, append_assoc, arith}
use Rattle.std.specs.List.{All, Contains}
use Rattle.std.proofs.lemmas.Grind.{common_steps}
use Rattle.std.proofs.lemmas.List.Elements.{All-nil, All-cons, All-append, All-weaker, All-contains_itself}
use Rattle.hol_theory.specs.Key.{KeyValue}
use Rattle.hol_theory.specs.Entry.{EntryValue}
use Rattle.hol_exec.specs.OutcomeValue.{OutcomeValue, Opens, Leaves, Undoes, Rotates, Makes, Refuses, after}
use Rattle.hol_exec.specs.Setup.{SetupValue}
use Rattle.hol_exec.specs.StateValue.{StateValue, EndedTheory, start}
use Rattle.hol_document.specs.Documents.{TheoryText}
use Rattle.hol_document.specs.Afresh.{Row, AreRows, TheoryRun, AreRuns, ended}
use Rattle.hol_document.specs.Shown.{IsMadeIn, AreMadeIn, IsFinishedRun}
use Rattle.hol_document.proofs.Goals.{finished_goals}

-- ---- one row more

abbrev pub made_more : (rows : List Row) (row : Row) (e : KeyValue × EntryValue) → IsMadeIn rows e → IsMadeIn (rows ++ row ∷ []) e
made_more rows row e h = record {
  before = h.before;
  row = h.row;
  later = h.later ++ row ∷ [];
  splits = ap (λ xs. xs ++ row ∷ []) h.splits ∙ append_assoc h.before (h.row ∷ h.later) (row ∷ []);
  entries = h.entries;
  made = h.made;
  among = h.among;
}

next_made : (before : List Row) (row : Row) (s : StateValue) (outcome : OutcomeValue) → row.outcome ≡ outcome → All (IsMadeIn before) s.entries
    → All (IsMadeIn (before ++ row ∷ [])) (after s outcome).entries
next_made before row s (Opens name statement basis) e h = All-weaker (IsMadeIn before) (IsMadeIn (before ++ row ∷ [])) (made_more before row) s.entries h
next_made before row s (Leaves goal goals basis) e h = All-weaker (IsMadeIn before) (IsMadeIn (before ++ row ∷ [])) (made_more before row) s.entries h
next_made before row s Undoes e h = All-weaker (IsMadeIn before) (IsMadeIn (before ++ row ∷ [])) (made_more before row) s.entries h
next_made before row s (Rotates times) e h = All-weaker (IsMadeIn before) (IsMadeIn (before ++ row ∷ [])) (made_more before row) s.entries h
next_made before row s (Makes entries) e h =
    All-append (IsMadeIn (before ++ row ∷ [])) s.entries entries (All-weaker (IsMadeIn before) (IsMadeIn (before ++ row ∷ [])) (made_more before row) s.entries h)
    (All-weaker (Contains entries) (IsMadeIn (before ++ row ∷ [])) (λ entry among. record {
      before = before;
      row = row;
      later = [];
      splits = refl;
      entries = entries;
      made = e;
      among = among;
    }) entries (All-contains_itself entries))
next_made before row s (Refuses kind arg) e h = All-weaker (IsMadeIn before) (IsMadeIn (before ++ row ∷ [])) (made_more before row) s.entries h

rows_made : (setup : SetupValue) (earlier : List EndedTheory) (before : List Row) (s : StateValue) (texts : List (List ℕ)) (rows : List Row) (last : StateValue)
    → AreRows setup earlier s texts rows last → All (IsMadeIn before) s.entries → All (IsMadeIn (before ++ rows)) last.entries
rows_made setup earlier before s [] [] last h m =
    let none : before ++ [] ≡ before = grind (arith, common_steps) in
    rw (none, h) m
rows_made setup earlier before s [] (row ∷ rows) last h m = absurd h
rows_made setup earlier before s (text ∷ texts) [] last h m = absurd h
rows_made setup earlier before s (text ∷ texts) (row ∷ rows) last h m =
    subst (λ done. All (IsMadeIn done) last.entries) (append_assoc before (row ∷ []) rows)
    (rows_made setup earlier (before ++ row ∷ []) (after s row.outcome) texts rows last h.1 (next_made before row s row.outcome refl m))

-- ---- a theory's rows, and those of theories before

pub all_made : (setup : SetupValue) (earlier : List EndedTheory) (texts : List (List ℕ)) (rows : List Row) (last : StateValue)
    → AreRows setup earlier start texts rows last → AreMadeIn rows last.entries
all_made setup earlier texts rows last h = record {
  finishes = finished_goals setup earlier texts rows last h;
  each = rows_made setup earlier [] start texts rows last h (All-nil (IsMadeIn []));
}

pub runs_finished : (setup : SetupValue) (earlier : List EndedTheory) (theories : List TheoryText) (runs : List TheoryRun) → AreRuns setup earlier theories runs → All IsFinishedRun runs
runs_finished setup earlier [] [] h = All-nil IsFinishedRun
runs_finished setup earlier [] (run ∷ runs) h = absurd h
runs_finished setup earlier (theory ∷ theories) [] h = absurd h
runs_finished setup earlier (theory ∷ theories) (run ∷ runs) h =
    All-cons IsFinishedRun run runs (all_made setup earlier theory.commands run.rows run.last h.0.are) (runs_finished setup (earlier ++ ended run ∷ []) theories runs h.1)
