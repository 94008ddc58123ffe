-- Slots of answers, and of rows that stand again.
use Rattle.std.specs.Prelude.{◌≡◌, ◌≤◌, ◌+◌, ℕ, Bool, List, [], ◌∷◌, true, false, Option, Some, None, Result, Ok, Err, IfOk, IfSome, refl}
use Rattle.std.specs.Map.{keys_of}
use Rattle.std.proofs.Common.{ap, sym, ◌∙◌, subst}
use Rattle.hol_theory.specs.Entry.{Entries}
use Rattle.hol_theory.specs.Key.{KeyValue}
use Rattle.hol_theory.specs.Theory.{IsTheory}
use Rattle.hol_exec.specs.At.{IsOutcome}
use Rattle.hol_exec.specs.ChangedKeys.{AreApart}
use Rattle.hol_exec.specs.CommandText.{LocalText, DirectText, Local, Direct}
use Rattle.hol_exec.specs.Keys.{cited_keys, made_keys}
use Rattle.hol_exec.specs.OutcomeValue.{OutcomeValue, after}
use Rattle.hol_exec.specs.Reading.{ReadText, Reads, IsRead}
use Rattle.hol_exec.specs.ReadsValue.{ReadsValue, values_of, reads_of, reads_at}
use Rattle.hol_exec.specs.SameReads.{same_tested, same_tested_are}
use Rattle.hol_exec.specs.Tested.{TestedValue, agrees}
use Rattle.hol_exec.specs.Setup.{SetupValue}
use Rattle.hol_exec.specs.StateValue.{StateValue, EndedTheory, newest_of}
use Rattle.hol_document.specs.Affected.{counts_beside, counts_where, counts}
use Rattle.hol_document.specs.Afresh.{Row, IsRow}
use Rattle.hol_document.specs.Alike.{DriftValue, AreAlike, IsPassedOver}
use Rattle.hol_document.specs.Settled.{IsAnswer, IsKeyed}
use Rattle.hol_document.specs.Slots.{SlotValue, IsSlot}
use Rattle.std.proofs.lemmas.Bool.{false_from_ne_true}
use Rattle.hol_document.proofs.Alike.{next_alike, row_told}

-- ---- answers

-- the slot of an answer
pub answer_slot : (setup : SetupValue) (earlier : List EndedTheory) (s next : StateValue) (value : ReadText) (reads : Option ReadsValue) (tested : TestedValue) (outcome : OutcomeValue) (slot : SlotValue)
    → IsAnswer setup earlier s value reads tested outcome → IsRead slot.text value → slot.row.value ≡ value → slot.row.reads ≡ reads → slot.row.tested ≡ tested → slot.row.outcome ≡ outcome
    → next ≡ after s outcome → slot.opened ≡ newest_of next.proof → IsTheory next.entries → IfSome slot.kept (λ kept. kept ≡ s) → IsSlot setup earlier s slot
answer_slot setup earlier s next value reads tested outcome slot is parsed v r t o e opened stands kept =
    let leads : next ≡ after s slot.row.outcome = e ∙ ap (after s) (sym o) in record {
      row = record {
        parsed = subst (λ w. IsRead slot.text w) (sym v) parsed;
        read = r ∙ (is.read ∙ ap (λ w. reads_at w s) (sym v));
        gets = subst (λ w. IsOutcome setup earlier s w slot.row.reads slot.row.tested slot.row.outcome) (sym v) (subst (λ w. IsOutcome setup earlier s value w slot.row.tested slot.row.outcome) (sym r)
            (subst (λ w. IsOutcome setup earlier s value reads w slot.row.outcome) (sym t) (subst (λ w. IsOutcome setup earlier s value reads tested w) (sym o) is.gets)));
      };
      opened = opened ∙ ap (λ (u : StateValue). newest_of u.proof) leads;
      stands = subst (λ (u : StateValue). IsTheory u.entries) leads stands;
      kept = kept;
    }

-- ---- rows that stand again

keys_here : (entries : Entries) (keys : List KeyValue) → keys_of (values_of entries keys) ≡ keys
keys_here entries [] = refl
keys_here entries (key ∷ keys) = ap (λ ks. key ∷ ks) (keys_here entries keys)

-- what a row reads is under its command's keys
pub row_keyed : (setup : SetupValue) (earlier : List EndedTheory) (s : StateValue) (text : List ℕ) (row : Row) → IsRow setup earlier s text row → IsKeyed row
row_keyed setup earlier s text row is = λ command e. (
  reads_of command s,
  is.read ∙ ap (λ value. reads_at value s) e,
  record { cited = keys_here s.entries (cited_keys command); made = keys_here s.entries (made_keys command) },
)

-- what a command reads is untouched, and the open proof is the same
pub passed_over : (drift : DriftValue) (row : Row) (command : LocalText) (reads : ReadsValue) → row.value ≡ Reads (Local command) → row.reads ≡ Some reads → IsKeyed row → drift.proof ≡ true
    → AreApart drift.changed (keys_of reads.cited) × AreApart drift.changed (keys_of reads.made) → IsPassedOver drift row.value
passed_over drift row command reads is read keyed held apart =
    let (own, own_read, keys) = keyed command is in
    let one : Some own ≡ Some reads = sym own_read ∙ read in
    let same : own ≡ reads = cc in
    subst (IsPassedOver drift) (sym is) (
      (
        subst (AreApart drift.changed) (ap (λ (r : ReadsValue). keys_of r.cited) (sym same) ∙ keys.cited) apart.0,
        subst (AreApart drift.changed) (ap (λ (r : ReadsValue). keys_of r.made) (sym same) ∙ keys.made) apart.1,
      ),
      held,
    )

-- ---- one slot at the state of now

-- the element that was the newest is that again, where the proof is the same
pub opened_again : (drift : DriftValue) (s state : StateValue) (slot : SlotValue) → slot.opened ≡ newest_of (after s slot.row.outcome).proof → AreAlike drift s state
    → drift.proof ≡ true → slot.opened ≡ newest_of (after state slot.row.outcome).proof
opened_again drift s state slot opened alike e = opened ∙ ap newest_of ((next_alike drift s state slot.row.outcome alike).held e)

-- what is run again is counted: no row of the text at the state is passed over
pub run_counts : (setup : SetupValue) (earlier : List EndedTheory) (s : StateValue) (old new : SlotValue) (n m : ℕ)
    → IsSlot setup earlier s new → new.text ≡ old.text
    → ((row : Row) → IsRow setup earlier s old.text row → counts (Some old.row) row ≡ counts None row)
    → m ≤ n + counts None new.row → m ≤ n + counts (Some old.row) new.row
run_counts setup earlier s old new n m is text counted few = subst (λ c. m ≤ n + c) (sym (counted new.row (subst (λ t. IsRow setup earlier s t new.row) text is.row))) few

pub few_again : {R E : Type 0} (f : R → SlotValue) (r : Result R E) (setup : SetupValue) (earlier : List EndedTheory) (s : StateValue) (old : SlotValue) (n m : ℕ)
    → IfOk r (λ new. IsSlot setup earlier s (f new)) → IfOk r (λ new. (f new).text ≡ old.text) → ((row : Row) → IsRow setup earlier s old.text row → counts (Some old.row) row ≡ counts None row)
    → IfOk r (λ new. m ≤ n + counts None (f new).row) → IfOk r (λ new. m ≤ n + counts (Some old.row) (f new).row)
few_again f (Ok new) setup earlier s old n m is text counted few = run_counts setup earlier s old (f new) n m is text counted few
few_again f (Err e) setup earlier s old n m is text counted few = tt

-- where other names were tested, or these stand otherwise, it is counted
pub counts_tested : (old new : Row) → same_tested old.tested new.tested ≡ false → counts (Some old) new ≡ counts None new
counts_tested old new e = ap (λ b. counts_where b old.reads new.reads) e

-- and where it reads something else
counts_else : (old new : Row) → counts_beside old.reads new.reads ≡ counts_beside None new.reads → counts (Some old) new ≡ counts None new
counts_else old new e = by (same_tested old.tested new.tested)
  where
    by : (b : Bool) → counts_where b old.reads new.reads ≡ counts_beside None new.reads
    by true = e
    by false = refl

-- the row of the same text at the state
module _ (setup : SetupValue) (earlier : List EndedTheory) (s : StateValue) (text : List ℕ) where
  pub counts_read : (old row : Row) → row.value ≡ old.value → counts_beside old.reads (reads_at old.value s) ≡ counts_beside None (reads_at old.value s) → IsRow setup earlier s text row → counts (Some old) row ≡ counts None row
  counts_read old row same e is =
      let read : row.reads ≡ reads_at old.value s = is.read ∙ ap (λ v. reads_at v s) same in
      counts_else old row (ap (counts_beside old.reads) read ∙ (e ∙ ap (counts_beside None) (sym read)))

  none_counts : (o : Option ReadsValue) → counts_beside o None ≡ 0
  none_counts None = refl
  none_counts (Some reads) = refl

  -- what is answered from the state reads nothing
  pub counts_direct : (command : DirectText) (old row : Row) → row.value ≡ old.value → old.value ≡ Reads (Direct command) → IsRow setup earlier s text row → counts (Some old) row ≡ counts None row
  counts_direct command old row same direct is =
      let none : reads_at old.value s ≡ None = ap (λ v. reads_at v s) direct in
      let counted : counts_beside old.reads (reads_at old.value s) ≡ counts_beside None (reads_at old.value s) =
      ap (counts_beside old.reads) none ∙ (none_counts old.reads ∙ sym (ap (counts_beside None) none)) in
      counts_read old row same counted is

  pub row_untold : (command : LocalText) (old row : Row) → row.value ≡ old.value → old.value ≡ Reads (Local command) → agrees old.tested s.entries ≡ false → IsRow setup earlier s text row → counts (Some old) row ≡ counts None row
  row_untold command old row same local none is = counts_tested old row (false_from_ne_true (same_tested old.tested row.tested) (λ e.
      let one : old.tested ≡ row.tested = (same_tested_are old.tested row.tested).0 e in
      let told : agrees row.tested s.entries ≡ true = row_told setup earlier s text command row (same ∙ local) is in
      let clash : false ≡ true = sym none ∙ ap (λ t. agrees t s.entries) one ∙ told in
      absurd (cc)))

-- the slots of an answer that is carried out
pub run_slots : {R E : Type 0} (f : R → SlotValue) (r : Result R E) (setup : SetupValue) (earlier : List EndedTheory) (s next : StateValue) (text : List ℕ) (value : ReadText) (reads : Option ReadsValue) (tested : TestedValue) (outcome : OutcomeValue) (kept : Option StateValue)
    → IfSome kept (λ k. k ≡ s) → IsRead text value → IsAnswer setup earlier s value reads tested outcome
    → IfOk r (λ new. (f new).text ≡ text) → IfOk r (λ new. (f new).row.value ≡ value) → IfOk r (λ new. (f new).row.reads ≡ reads) → IfOk r (λ new. (f new).row.tested ≡ tested) → IfOk r (λ new. (f new).row.outcome ≡ outcome)
    → IfOk r (λ new. (f new).opened ≡ newest_of next.proof) → IfOk r (λ new. (f new).kept ≡ kept) → IfOk r (λ new. next ≡ after s outcome) → IfOk r (λ new. IsTheory next.entries)
    → IfOk r (λ new. IsSlot setup earlier s (f new))
run_slots f (Ok new) setup earlier s next text value reads tested outcome kept at parsed is t v d w o p k e stands =
    answer_slot setup earlier s next value reads tested outcome (f new) is (subst (λ (bytes : List ℕ). IsRead bytes value) (sym t) parsed) v d w o e p stands (subst (λ found. IfSome found (λ k. k ≡ s)) (sym k) at)
run_slots f (Err e) setup earlier s next text value reads tested outcome kept at parsed is t v d w o p k n stands = tt
