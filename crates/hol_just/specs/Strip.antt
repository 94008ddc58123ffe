-- Stripping: what STRIP_ASSUME_TAC and STRIP_TAC do with what is to be assumed (HOL Light Reference Manual; in tactics.ml a formula is taken apart by STRIP_THM_THEN, and its parts are
-- assumed by CONTR_TAC, ACCEPT_TAC, a test whether they are assumed already, and ASSUME_TAC). It goes over a list of pieces. That T is dropped, and turns, are this project's: each
-- disjunction that is split costs one.
use Rattle.std.specs.Prelude.{ℕ, zero, suc, ◌+◌, List, [], ◌∷◌, ◌++◌, cond, ◌||◌, Option, Some, None}
use Rattle.std.specs.Option.{option_map, option_or, unwrap_or}
use Rattle.std.specs.List.{list_any}
use Rattle.hol_terms.specs.Nameless.{Nameless, free}
use Rattle.hol_terms.specs.Alpha.{alpha_eq}
use Rattle.hol_subst.specs.Closing.{open_with}
use Rattle.hol_formulas.specs.Formula.{Abstraction, falsity, is_truth, is_falsity, dest_conj, dest_disj, dest_exists, dest_imp, dest_neg}
use Rattle.hol_kernel.specs.Given.{Given, given_sequent}
use Rattle.hol_match.specs.Rules.{nodes}
use Rattle.hol_goal.specs.Goal.{GoalValue}
use Rattle.hol_goal.specs.Answer.{UsedValue, testing, AnswerValue, Left, OutOfTurns, answered}
use Rattle.hol_just.specs.Fresh.{FreshValue, fresh}
use Rattle.hol_just.specs.Leaving.{concluding, assuming, goal_terms, theorem_terms}
use Rattle.hol_just.specs.ConnectiveTacs.{conj_tac}
use Rattle.hol_just.specs.QuantifierTacs.{gen_tac}

-- ---- what becomes of a piece

pub data Piece : Type 0 where
  -- p /\ q: both are pieces
  Conjuncts : Nameless → Nameless → Piece
  -- p \/ q: each is a piece, on a goal of its own
  Disjuncts : Nameless → Nameless → Piece
  -- ?x. p: p at a new variable is a piece
  Property : Abstraction → Piece
  -- F, or the conclusion: the goal is closed
  Closing : Piece
  -- T, or an assumption: it is dropped
  Dropped : Piece
  -- it becomes the newest assumption
  Kept : Piece

-- the first of these that fits, terms being compared up to bound names
abbrev pub plain_piece : GoalValue → Nameless → Piece
plain_piece goal p = cond (is_falsity p || alpha_eq p goal.conclusion) Closing (cond (is_truth p || list_any (alpha_eq p) goal.assumptions) Dropped Kept)

abbrev pub compound_piece : Nameless → Option Piece
compound_piece p =
    option_or (option_map (λ r. Conjuncts r.0 r.1) (dest_conj p)) (option_or (option_map (λ r. Disjuncts r.0 r.1) (dest_disj p)) (option_map (λ x. Property x) (dest_exists p)))

abbrev pub piece : GoalValue → Nameless → Piece
piece goal p = unwrap_or (compound_piece p) (plain_piece goal p)

-- pieces that wait, the first one first, on a goal
pub record WaitingValue : Type 0 where
  pub pieces : List Nameless
  pub goal : GoalValue

abbrev pub waiting : List Nameless → GoalValue → WaitingValue
waiting ps goal = record { pieces = ps; goal = goal }

-- what a new name avoids: the names in terms, and those that constants have
pub record AvoidedValue : Type 0 where
  pub terms : List Nameless
  pub names : List (List ℕ)

abbrev pub avoiding : List Nameless → List (List ℕ) → AvoidedValue
avoiding terms names = record { terms = terms; names = names }

-- the new name: that of nothing in the terms that are avoided, in the pieces and in the goal
abbrev pub new_name : AvoidedValue → List Nameless → GoalValue → Abstraction → FreshValue
new_name avoided ps goal x = fresh avoided.names (avoided.terms ++ (ps ++ goal_terms goal)) x.base

-- the property is a piece, at a variable of this name
abbrev pub property_at : List Nameless → GoalValue → Abstraction → FreshValue → UsedValue → List WaitingValue × UsedValue
property_at ps goal x f used = (waiting (open_with (free (f.name, x.domain)) 0 x.body ∷ ps) goal ∷ [], testing f.tested used)

-- each disjunct is a piece on a goal of its own, where a turn is left to be paid
abbrev pub split_by : Nameless → Nameless → List Nameless → GoalValue → List (List ℕ) → ℕ → Option (List WaitingValue × UsedValue)
split_by a b ps goal tested zero = None
split_by a b ps goal tested (suc turns) = Some (waiting (a ∷ ps) goal ∷ waiting (b ∷ ps) goal ∷ [], record { turns_left = turns; tested = tested })

-- What the pieces p and then ps on the goal become, by what becomes of p: what is to be stripped one after the other, and what may still be used. Nothing where a turn is to be
-- paid and none is left.
abbrev pub becomes : AvoidedValue → Nameless → List Nameless → GoalValue → Piece → UsedValue → Option (List WaitingValue × UsedValue)
becomes avoided p ps goal (Conjuncts a b) used = Some (waiting (a ∷ b ∷ ps) goal ∷ [], used)
becomes avoided p ps goal (Disjuncts a b) used = split_by a b ps goal used.tested used.turns_left
becomes avoided p ps goal (Property x) used = Some (property_at ps goal x (new_name avoided (p ∷ ps) goal x) used)
becomes avoided p ps goal Closing used = Some ([], used)
becomes avoided p ps goal Dropped used = Some (waiting ps goal ∷ [], used)
becomes avoided p ps goal Kept used = Some (waiting ps (assuming goal p goal.conclusion) ∷ [], used)

-- ---- the goals that are left

-- the goals and what may still be used, or the turns run out
pub data Stripped : Type 0 where
  Leaves : List GoalValue → UsedValue → Stripped
  RunsOut : List (List ℕ) → Stripped

abbrev pub before_goals : List GoalValue → Stripped → Stripped
before_goals goals (Leaves more used) = Leaves (goals ++ more) used
before_goals goals (RunsOut tested) = RunsOut tested

-- the goals of the one and then those of the other, which may use what the one leaves
abbrev pub and_also : Stripped → (UsedValue → Stripped) → Stripped
and_also (Leaves goals used) other = before_goals goals (other used)
and_also (RunsOut tested) other = RunsOut tested

-- one after the other
abbrev pub strip_each : (WaitingValue → UsedValue → Stripped) → List WaitingValue → UsedValue → Stripped
strip_each f [] used = Leaves [] used
strip_each f (w ∷ ws) used = and_also (f w used) (strip_each f ws)

abbrev pub strip_parts : (WaitingValue → UsedValue → Stripped) → List (List ℕ) → Option (List WaitingValue × UsedValue) → Stripped
strip_parts f tested None = RunsOut tested
strip_parts f tested (Some parts) = strip_each f parts.0 parts.1

abbrev pub strip_first : (WaitingValue → UsedValue → Stripped) → AvoidedValue → List Nameless → GoalValue → UsedValue → Stripped
strip_first f avoided [] goal used = Leaves (goal ∷ []) used
strip_first f avoided (p ∷ ps) goal used = strip_parts f used.tested (becomes avoided p ps goal (piece goal p) used)

-- in at most so many steps
abbrev pub strip_in : ℕ → AvoidedValue → WaitingValue → UsedValue → Stripped
strip_in zero avoided w used = Leaves (w.goal ∷ []) used
strip_in (suc steps) avoided w used = strip_first (strip_in steps avoided) avoided w.pieces w.goal used

-- No more steps are needed than the pieces have nodes, since what becomes of a piece has fewer: `strip_goes_by_pieces` of laws.rt.
abbrev pub all_nodes : List Nameless → ℕ
all_nodes [] = 0
all_nodes (p ∷ ps) = nodes p + all_nodes ps

abbrev pub strip : AvoidedValue → WaitingValue → UsedValue → Stripped
strip avoided w used = strip_in (all_nodes w.pieces) avoided w used

-- ---- the functions

-- STRIP_ASSUME_TAC assumes the parts of a theorem.
abbrev pub strip_assume_tac : List (List ℕ) → Given → GoalValue → UsedValue → Option Stripped
strip_assume_tac names th goal used = Some (strip (avoiding (theorem_terms th) names) (waiting ((given_sequent th).concl ∷ []) goal) used)

-- STRIP_TAC is GEN_TAC, or CONJ_TAC, or assumes the parts of p, of `p ==> q`, which leaves q, and of `~p`, which leaves F.
abbrev pub antecedent : Nameless → Option (Nameless × Nameless)
antecedent w = option_or (dest_imp w) (option_map (λ p. (p, falsity)) (dest_neg w))

abbrev pub strip_tac : List (List ℕ) → GoalValue → UsedValue → Option Stripped
strip_tac names goal used =
    option_or (option_map (λ r. Leaves r.0 (testing r.1 used)) (gen_tac names goal))
    (option_or (option_map (λ goals. Leaves goals used) (conj_tac goal))
    (option_map (λ r. strip (avoiding [] names) (waiting (r.0 ∷ []) (concluding goal r.1)) used) (antecedent goal.conclusion)))

-- the answer: where turns run out none is left
abbrev pub stripped : Option Stripped → UsedValue → AnswerValue
stripped None used = answered None used
stripped (Some (Leaves goals left)) used = record { result = Left goals; used = left }
stripped (Some (RunsOut tested)) used = record { result = OutOfTurns; used = record { turns_left = 0; tested = tested } }
