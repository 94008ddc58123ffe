-- What an import brings, and on what an open proof rests.
use Rattle.std.specs.Prelude.{◌≡◌, ℕ, Bool, true, false, cond, List, [], ◌∷◌, Some, is_none, Result, Ok, Err, OnOk, OnErr, refl}
use Rattle.std.proofs.Common.{sym, subst}
use Rattle.hol_kernel.specs.Items.{Items, IsSubset}
use Rattle.hol_kernel.proofs.Subsets.{union_subset}
use Rattle.hol_goal.specs.Goal.{GoalValue}
use Rattle.hol_stack.specs.StackValue.{StepValue}
use Rattle.hol_theory.specs.Entry.{Entries, EachIsEntry, entry_at}
use Rattle.hol_theory.specs.Theory.{items_in, IsTheory}
use Rattle.hol_theory.specs.Adding.{missing}
use Rattle.hol_exec.specs.StateValue.{ProofValue}
use Rattle.hol_exec.specs.OutcomeValue.{stepped, without_newest, rotated}
use Rattle.hol_exec.specs.Valid.{IsHistoryWithin, IsProofWithin}

-- ---- what an import brings

pub missing_entries : (es theory : Entries) → EachIsEntry theory → EachIsEntry (missing es theory)
missing_entries es [] h = tt
missing_entries es (e ∷ theory) h = by (is_none (entry_at e.0 es)) (missing_entries es theory h.1)
  where
    by : (b : Bool) → EachIsEntry (missing es theory) → EachIsEntry (cond b (e ∷ missing es theory) (missing es theory))
    by true rest = (h.0, rest)
    by false rest = rest

pub missing_made : (es theory : Entries) → IsTheory theory → EachIsEntry (missing es theory)
missing_made es theory t = missing_entries es theory t.each

-- ---- on what an open proof rests

pub newest_within : (items : Items) (newest : StepValue) (earlier : List StepValue) → IsHistoryWithin items newest earlier → IsSubset newest.basis items
newest_within items newest [] h = h
newest_within items newest (step ∷ earlier) h = h.0

pub begun_within : (es : Entries) (p : ProofValue) → p.earlier ≡ [] → IsSubset p.newest.basis (items_in es) → IsProofWithin es (Some p)
begun_within es p none h = subst (λ (steps : List StepValue). IsHistoryWithin (items_in es) p.newest steps) (sym none) h

pub stepped_within : (es : Entries) (goals : List GoalValue) (basis : Items) (p : ProofValue) → IsProofWithin es (Some p) → IsSubset basis (items_in es) → IsProofWithin es (Some (stepped goals basis p))
stepped_within es goals basis p h within = (union_subset p.newest.basis basis (items_in es) (newest_within (items_in es) p.newest p.earlier h) within, h)

pub rotated_within : (es : Entries) (times : ℕ) (p : ProofValue) → IsProofWithin es (Some p) → IsProofWithin es (Some (rotated times p))
rotated_within es times p h = (newest_within (items_in es) p.newest p.earlier h, h)

-- the same after a call that may want memory, and then changes nothing
pub step_within : {T E : Type 0} (es : Entries) (goals : List GoalValue) (basis : Items) (p q : ProofValue) (result : Result T E) → OnOk result (q ≡ stepped goals basis p) → OnErr result (q ≡ p) → IsProofWithin es (Some p) → IsSubset basis (items_in es) →
    IsProofWithin es (Some q)
step_within es goals basis p q (Ok x) ok err h within = subst (λ (r : ProofValue). IsProofWithin es (Some r)) (sym ok) (stepped_within es goals basis p h within)
step_within es goals basis p q (Err x) ok err h within = subst (λ (r : ProofValue). IsProofWithin es (Some r)) (sym err) h

pub rotate_within : {T E : Type 0} (es : Entries) (times : ℕ) (p q : ProofValue) (result : Result T E) → OnOk result (q ≡ rotated times p) → OnErr result (q ≡ p) → IsProofWithin es (Some p) → IsProofWithin es (Some q)
rotate_within es times p q (Ok x) ok err h = subst (λ (r : ProofValue). IsProofWithin es (Some r)) (sym ok) (rotated_within es times p h)
rotate_within es times p q (Err x) ok err h = subst (λ (r : ProofValue). IsProofWithin es (Some r)) (sym err) h

pub undone_within : (es : Entries) (p : ProofValue) (steps : List StepValue) → IsHistoryWithin (items_in es) p.newest steps → p.earlier ≡ steps → IsProofWithin es (Some (without_newest p steps))
undone_within es p [] h is = begun_within es p is h
undone_within es p (step ∷ steps) h is = h.1

pub back_within : (es : Entries) (p : ProofValue) → IsProofWithin es (Some p) → IsProofWithin es (Some (without_newest p p.earlier))
back_within es p h = undone_within es p p.earlier h refl
