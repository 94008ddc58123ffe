-- Goals made of a goal, and arguments of a kind.
use Rattle.std.specs.Prelude.{List, ◌∷◌, Option, None}
use Rattle.std.specs.FinSet as set
use Rattle.hol_terms.specs.Nameless.{Nameless}
use Rattle.hol_kernel.specs.Given.{Given, given_sequent}
use Rattle.hol_goal.specs.Goal.{GoalValue}
use Rattle.hol_goal.specs.Arguments.{TacArgsValue, Nothing, Term, Pair, Theorem, TermAndTheorem, Theorems}

-- the goal with another conclusion
abbrev pub concluding : GoalValue → Nameless → GoalValue
concluding goal p = record goal { conclusion = p }

-- the goal with p as its newest assumption and the conclusion q
abbrev pub assuming : GoalValue → Nameless → Nameless → GoalValue
assuming goal p q = record { assumptions = p ∷ goal.assumptions; conclusion = q }

-- all its terms
abbrev pub goal_terms : GoalValue → List Nameless
goal_terms goal = goal.conclusion ∷ goal.assumptions

-- all terms of a theorem
abbrev pub theorem_terms : Given → List Nameless
theorem_terms th = (given_sequent th).concl ∷ set.items (given_sequent th).hyps

-- ---- arguments of another kind fit no goal

abbrev pub with_nothing : {X : Type 0} → TacArgsValue → Option X → Option X
with_nothing Nothing o = o
with_nothing (Term t) o = None
with_nothing (Pair s t) o = None
with_nothing (Theorem th) o = None
with_nothing (TermAndTheorem t th) o = None
with_nothing (Theorems ths) o = None

abbrev pub with_term : {X : Type 0} → TacArgsValue → (Nameless → Option X) → Option X
with_term Nothing f = None
with_term (Term t) f = f t
with_term (Pair s t) f = None
with_term (Theorem th) f = None
with_term (TermAndTheorem t th) f = None
with_term (Theorems ths) f = None

abbrev pub with_theorem : {X : Type 0} → TacArgsValue → (Given → Option X) → Option X
with_theorem Nothing f = None
with_theorem (Term t) f = None
with_theorem (Pair s t) f = None
with_theorem (Theorem th) f = f th
with_theorem (TermAndTheorem t th) f = None
with_theorem (Theorems ths) f = None

abbrev pub with_pair : {X : Type 0} → TacArgsValue → (Nameless → Nameless → Option X) → Option X
with_pair Nothing f = None
with_pair (Term t) f = None
with_pair (Pair s t) f = f s t
with_pair (Theorem th) f = None
with_pair (TermAndTheorem t th) f = None
with_pair (Theorems ths) f = None

abbrev pub with_term_and_theorem : {X : Type 0} → TacArgsValue → (Nameless → Given → Option X) → Option X
with_term_and_theorem Nothing f = None
with_term_and_theorem (Term t) f = None
with_term_and_theorem (Pair s t) f = None
with_term_and_theorem (Theorem th) f = None
with_term_and_theorem (TermAndTheorem t th) f = f t th
with_term_and_theorem (Theorems ths) f = None

abbrev pub with_theorems : {X : Type 0} → TacArgsValue → (List Given → Option X) → Option X
with_theorems Nothing f = None
with_theorems (Term t) f = None
with_theorems (Pair s t) f = None
with_theorems (Theorem th) f = None
with_theorems (TermAndTheorem t th) f = None
with_theorems (Theorems ths) f = f ths
