-- What a command does to a state, and the state after it.
-- Source: HOL Light's goal stacks (tactics.ml), and the scheme of goals and subgoals of Edinburgh LCF (LNCS 78).
use Rattle.std.specs.Prelude.{ℕ, List, [], ◌∷◌, ◌++◌, Option, Some, None, drop}
use Rattle.std.specs.FinSet as set
use Rattle.hol_terms.specs.Nameless.{Nameless}
use Rattle.hol_kernel.specs.Items.{Items}
use Rattle.hol_goal.specs.Goal.{GoalValue}
use Rattle.hol_stack.specs.StackValue.{StepValue, turned}
use Rattle.hol_exec.specs.declared.reports.refusal.RefusalKind.{RefusalKind}
use Rattle.hol_theory.specs.Entry.{Entries, EachIsEntry}
use Rattle.hol_exec.specs.StateValue.{ProofValue, StateValue}

pub data OutcomeValue : Type 0 where
  -- a proof is opened, of this name, statement and basis
  Opens : List ℕ → Nameless → Items → OutcomeValue
  -- the first goal, which is this one, gives way to these; the basis is that of all that was resolved
  Leaves : GoalValue → List GoalValue → Items → OutcomeValue
  -- the newest element of the proof's history is dropped
  Undoes : OutcomeValue
  -- the first goal is put last, so many times
  Rotates : ℕ → OutcomeValue
  -- these entries are made, if any, and no proof is open any more
  Makes : Entries → OutcomeValue
  -- the command is refused, with what the refusal speaks of
  Refuses : RefusalKind → List ℕ → OutcomeValue

abbrev pub opened : List ℕ → Nameless → Items → ProofValue
opened name statement basis = record {
  name = name;
  statement = statement;
  newest = record { goals = record { assumptions = []; conclusion = statement } ∷ []; basis = basis };
  earlier = [];
}

-- a new element of the history: the goals in the place of the first, and the basis joined with the proof's
abbrev pub stepped : List GoalValue → Items → ProofValue → ProofValue
stepped goals basis p = record {
  name = p.name;
  statement = p.statement;
  newest = record { goals = goals ++ drop 1 p.newest.goals; basis = set.union p.newest.basis basis };
  earlier = p.newest ∷ p.earlier;
}

-- (no such outcome comes without an open proof: `IsOutcomeAt`; `None` makes `after` total)
abbrev pub stepped_in : List GoalValue → Items → Option ProofValue → Option ProofValue
stepped_in goals basis None = None
stepped_in goals basis (Some p) = Some (stepped goals basis p)

-- b: the element before the newest one, if there is one
abbrev pub without_newest : ProofValue → List StepValue → ProofValue
without_newest p [] = p
without_newest p (step ∷ earlier) = record { name = p.name; statement = p.statement; newest = step; earlier = earlier }

abbrev pub undone_in : Option ProofValue → Option ProofValue
undone_in None = None
undone_in (Some p) = Some (without_newest p p.earlier)

-- r: a new element of the history, over the same basis
abbrev pub rotated : ℕ → ProofValue → ProofValue
rotated times p = record {
  name = p.name;
  statement = p.statement;
  newest = record { goals = turned times p.newest.goals; basis = p.newest.basis };
  earlier = p.newest ∷ p.earlier;
}

abbrev pub rotated_in : ℕ → Option ProofValue → Option ProofValue
rotated_in times None = None
rotated_in times (Some p) = Some (rotated times p)

-- the next state: the same one for a refusal
abbrev pub after : StateValue → OutcomeValue → StateValue
after s (Opens name statement basis) = record { entries = s.entries; proof = Some (opened name statement basis) }
after s (Leaves goal goals basis) = record { entries = s.entries; proof = stepped_in goals basis s.proof }
after s Undoes = record { entries = s.entries; proof = undone_in s.proof }
after s (Rotates times) = record { entries = s.entries; proof = rotated_in times s.proof }
after s (Makes entries) = record { entries = s.entries ++ entries; proof = None }
after s (Refuses kind arg) = s

-- each theorem that is made has no hypotheses and a derivation over its basis, which is legal; each type and constant is made by an item of its basis;
-- and the basis of each named expression, which is legal, suits it
abbrev pub MakesTheorems : OutcomeValue → Type 0
MakesTheorems (Opens name statement basis) = Unit {0}
MakesTheorems (Leaves goal goals basis) = Unit {0}
MakesTheorems Undoes = Unit {0}
MakesTheorems (Rotates times) = Unit {0}
MakesTheorems (Makes entries) = EachIsEntry entries
MakesTheorems (Refuses kind arg) = Unit {0}
