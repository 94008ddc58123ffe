-- What is asked of a theory that stands is what running the documents afresh says.
use Rattle.std.specs.Prelude.{◌≡◌, ◌<◌, ◌+◌, ℕ, List, [], ◌∷◌, ◌++◌, map, take, drop, length, Option, Some, get_or, slice_index_or, slice_get, zero, suc, refl}
use Rattle.std.proofs.Common.{ap, sym, ◌∙◌, subst, append_assoc, add-one, arith}
use Rattle.std.proofs.lemmas.List.{append-nil}
use Rattle.std.proofs.Math.Seq.{drop-cons, take-length}
use Rattle.hol_goal.specs.Goal.{GoalValue}
use Rattle.hol_exec.specs.OutcomeValue.{after, MakesTheorems}
use Rattle.hol_exec.specs.ReportOf.{report_with}
use Rattle.hol_exec.specs.ReportValue.{ReportValue}
use Rattle.hol_exec.specs.StateValue.{ProofValue, open_goals, newest_of, start}
use Rattle.hol_theory.specs.Entry.{EntryValue, Entries, entry_at}
use Rattle.hol_theory.specs.Key.{KeyValue, theorem_key}
use Rattle.hol_theory.specs.Theory.{IsTheory}
use Rattle.hol_document.specs.Afresh.{IsRow, AreRows, ended}
use Rattle.hol_document.specs.Asked.{commands_at, IsRunUpTo, BasisTexts, theorem_texts, theorem_texts_of}
use Rattle.hol_document.specs.Documents.{TheoryText, Documents}
use Rattle.hol_document.specs.Settled.{rows_of, texts_of}
use Rattle.hol_document.specs.Shown.{IsProvedReport, IsProvedBasis, AreProvedTheorems}
use Rattle.hol_document.specs.Slots.{SlotValue, IsSlot, AreSlots, StandingValue, IsStandingAt}
use Rattle.hol_document.proofs.Goals.{next_finishes}
use Rattle.hol_document.proofs.Made.{all_made, runs_finished}
use Rattle.hol_document.proofs.Redone.{map_length, take_map}
use Rattle.hol_document.proofs.Standing.{slots_split, rows_of_slots}

commands_are : (docs : Documents) (i : ℕ) (theory : StandingValue) → IsStandingAt docs i theory → commands_at docs i ≡ texts_of theory.slots
commands_are docs i theory h = ap (λ (t : TheoryText). t.commands) h.is

-- a place where a command stands is one of the slots
pub within_theory : (docs : Documents) (i at : ℕ) (theory : StandingValue) → IsStandingAt docs i theory → at < length (commands_at docs i) → at < length theory.slots
within_theory docs i at theory h stands = subst (λ n. at < n) (ap length (commands_are docs i theory h) ∙ map_length (λ (slot : SlotValue). slot.text) theory.slots) stands

slot_there : (slots : List SlotValue) (at : ℕ) (slot : SlotValue) → at < length slots → slot ≡ get_or slots at slot → drop at slots ≡ slot ∷ drop (at + 1) slots
slot_there slots at slot h is = rw (add-one, drop-cons slots at slot h, ← is) refl

none : (n : ℕ) → n < 0 → ⊥
none n h = omega (arith, h)

text_there : (slots : List SlotValue) (at : ℕ) (slot : SlotValue) → slot ≡ get_or slots at slot → at < length slots → slice_index_or (texts_of slots) at [] ≡ slot.text
text_there [] at slot is h = absurd (none at h)
text_there (x ∷ slots) zero slot is h = ap (λ (s : SlotValue). s.text) (sym is)
text_there (x ∷ slots) (suc at) slot is h = text_there slots at slot is (omega (arith, h))

-- the report on the slot at a place
pub report_stands : (docs : Documents) (i at : ℕ) (theory : StandingValue) (slot : SlotValue) (goals : List GoalValue) (report : ReportValue)
    → IsStandingAt docs i theory → at < length (commands_at docs i) → slot ≡ get_or theory.slots at slot → ((proof : Option ProofValue) → slot.opened ≡ newest_of proof → goals ≡ open_goals proof) → MakesTheorems slot.row.outcome
    → report ≡ report_with slot.row.outcome goals → IsProvedReport docs i at report
report_stands docs i at theory slot goals report h stands is shows makes says =
    let within = within_theory docs i at theory h stands in
    let split = slots_split docs.setup (map ended h.before) start theory.last at theory.slots h.are in
    let here : IsSlot docs.setup (map ended h.before) split.0 slot = (subst (λ slots. AreSlots docs.setup (map ended h.before) split.0 slots theory.last) (slot_there theory.slots at slot within is) split.2).0 in
    let text : slice_index_or (commands_at docs i) at [] ≡ slot.text = ap (λ (texts : List (List ℕ)). slice_index_or texts at []) (commands_are docs i theory h) ∙ text_there theory.slots at slot is within in
    let texts : take at (commands_at docs i) ≡ texts_of (take at theory.slots) = ap (take at) (commands_are docs i theory h) ∙ sym (take_map (λ (slot : SlotValue). slot.text) theory.slots at) in
    let leads : AreRows docs.setup (map ended h.before) start (texts_of (take at theory.slots)) (rows_of (take at theory.slots)) split.0 = rows_of_slots docs.setup (map ended h.before) start (take at theory.slots) split.0 split.1 in
    let shown : goals ≡ open_goals (after split.0 slot.row.outcome).proof = shows (after split.0 slot.row.outcome).proof here.opened in
    record {
      is = record {
        before = h.before;
        rows = rows_of (take at theory.slots);
        state = split.0;
        run = record { runs = h.runs; leads = subst (λ ts. AreRows docs.setup (map ended h.before) start ts (rows_of (take at theory.slots)) split.0) (sym texts) leads };
        row = slot.row;
        here = subst (λ t. IsRow docs.setup (map ended h.before) split.0 t slot.row) (sym text) here.row;
        says = says ∙ ap (report_with slot.row.outcome) shown;
      };
      stands = here.stands;
      proved = makes;
      finished = next_finishes docs.setup (map ended h.before) (texts_of (take at theory.slots)) (rows_of (take at theory.slots)) split.0 slot.text slot.row leads here.row;
      earlier = runs_finished docs.setup [] (take i docs.theories) h.before h.runs;
    }

-- running the theory to its end
all_run : (docs : Documents) (i : ℕ) (theory : StandingValue) (h : IsStandingAt docs i theory) → IsRunUpTo docs i (length (commands_at docs i)) h.before (rows_of theory.slots) theory.last
all_run docs i theory h =
    let all : take (length (commands_at docs i)) (commands_at docs i) ≡ texts_of theory.slots = take-length (commands_at docs i) ∙ commands_are docs i theory h in
    record { runs = h.runs; leads = subst (λ ts. AreRows docs.setup (map ended h.before) start ts (rows_of theory.slots) theory.last) (sym all) (rows_of_slots docs.setup (map ended h.before) start theory.slots theory.last h.are) }

-- the answer from the last state
pub basis_stands : (docs : Documents) (i : ℕ) (theory : StandingValue) (name : List ℕ) (key : KeyValue) (found : Option EntryValue) (answer : Option (List (List ℕ)))
    → IsStandingAt docs i theory → IsTheory theory.last.entries → key ≡ theorem_key name → found ≡ entry_at key theory.last.entries → BasisTexts found answer → IsProvedBasis docs i name answer
basis_stands docs i theory name key found answer h stands key_is found_is texts = record {
  is = record {
    before = h.before;
    rows = rows_of theory.slots;
    state = theory.last;
    run = all_run docs i theory h;
    texts = rw (← key_is, ← found_is) texts;
  };
  proved = stands;
  made = all_made docs.setup (map ended h.before) (texts_of theory.slots) (rows_of theory.slots) theory.last (rows_of_slots docs.setup (map ended h.before) start theory.slots theory.last h.are);
  earlier = runs_finished docs.setup [] (take i docs.theories) h.before h.runs;
}

-- the theorems of the last state
pub theorems_stand : (docs : Documents) (i : ℕ) (theory : StandingValue) (texts : List (List ℕ))
    → IsStandingAt docs i theory → IsTheory theory.last.entries → texts ≡ theorem_texts theory.last.entries → AreProvedTheorems docs i texts
theorems_stand docs i theory texts h stands says = record {
  are = record {
    before = h.before;
    rows = rows_of theory.slots;
    state = theory.last;
    run = all_run docs i theory h;
    says = says;
  };
  proved = stands;
  made = all_made docs.setup (map ended h.before) (texts_of theory.slots) (rows_of theory.slots) theory.last (rows_of_slots docs.setup (map ended h.before) start theory.slots theory.last h.are);
  earlier = runs_finished docs.setup [] (take i docs.theories) h.before h.runs;
}

-- one entry's text more
texts_next : (entries : Entries) (i : ℕ) (e : KeyValue × EntryValue) → slice_get entries i ≡ Some e → theorem_texts (take (suc i) entries) ≡ theorem_texts (take i entries) ++ theorem_texts_of e
texts_next [] i e h = absurd (cc)
texts_next (f ∷ entries) zero e h =
    let is : f ≡ e = cc in
    append-nil (theorem_texts_of f) ∙ ap theorem_texts_of is
texts_next (f ∷ entries) (suc i) e h =
    ap (λ ts. theorem_texts_of f ++ ts) (texts_next entries i e h) ∙ sym (append_assoc (theorem_texts_of f) (theorem_texts (take i entries)) (theorem_texts_of e))

pub texts_more : (entries : Entries) (i : ℕ) (e : KeyValue × EntryValue) → slice_get entries i ≡ Some e → theorem_texts (take (i + 1) entries) ≡ theorem_texts (take i entries) ++ theorem_texts_of e
texts_more entries i e h = rw add-one (texts_next entries i e h)
