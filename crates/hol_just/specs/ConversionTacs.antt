-- What the functions that convert the conclusion of a goal leave of it (HOL Light Reference Manual, where a goal T is closed too; turns and the limit on sizes are this project's).
use Rattle.std.specs.Prelude.{ℕ, List, [], ◌∷◌, ◌++◌, map, cond, Option, Some, None}
use Rattle.hol_terms.specs.Nameless.{Nameless}
use Rattle.hol_formulas.specs.Formula.{is_truth}
use Rattle.hol_kernel.specs.Given.{Given, proved, assumed, given_sequent}
use Rattle.hol_prelude.specs.Statements.{basic_rewrites}
use Rattle.hol_match.specs.RuleSets.{RuleEntry, rule_entries}
use Rattle.hol_conv.specs.Beta.{beta_turn}
use Rattle.hol_conv.specs.Turns.{Outcome, finished, limit, too_large, all_turns}
use Rattle.hol_conv.specs.Rewriting.{rewrite_turn}
use Rattle.hol_conv.specs.Once.{rewritten_once}
use Rattle.hol_goal.specs.Goal.{GoalValue}
use Rattle.hol_goal.specs.Answer.{UsedValue, AnswerValue, Left, OutOfTurns, TooLarge, answered}
use Rattle.hol_just.specs.Leaving.{concluding}

-- the goal with the conclusion u; T is closed
abbrev pub left_with : GoalValue → Nameless → List GoalValue
left_with goal u = cond (is_truth u) [] (concluding goal u ∷ [])

-- BETA_TAC reduces the redexes of the conclusion, a turn each.
abbrev pub beta_tac : GoalValue → ℕ → Option Outcome
beta_tac goal turns = Some (all_turns beta_turn turns goal.conclusion)

-- ---- rewriting by theorems (HOL Light's simp.ml; which rewrites are basic, the order of redexes and turns are this project's)

unfoldable pub basic : List Given
basic = map proved basic_rewrites

-- the rules of what is given, in order
abbrev pub rules_by : List Given → List RuleEntry
rules_by givens = rule_entries 0 (map given_sequent givens)

-- the conclusion rewritten to the end, and each topmost part of it once, a turn each
abbrev pub rewritten_by : List Given → GoalValue → ℕ → Option Outcome
rewritten_by givens goal turns = Some (all_turns (rewrite_turn (rules_by givens)) turns goal.conclusion)

abbrev pub rewritten_once_by : List Given → GoalValue → ℕ → Option Outcome
rewritten_once_by givens goal turns = Some (rewritten_once (rules_by givens) turns goal.conclusion)

-- PURE_REWRITE_TAC rewrites by the theorems alone.
abbrev pub pure_rewrite_tac : List Given → GoalValue → ℕ → Option Outcome
pure_rewrite_tac ths goal turns = rewritten_by ths goal turns

-- REWRITE_TAC and ONCE_REWRITE_TAC rewrite by the theorems and then the basic rewrites.
abbrev pub rewrite_tac : List Given → GoalValue → ℕ → Option Outcome
rewrite_tac ths goal turns = rewritten_by (ths ++ basic) goal turns

abbrev pub once_rewrite_tac : List Given → GoalValue → ℕ → Option Outcome
once_rewrite_tac ths goal turns = rewritten_once_by (ths ++ basic) goal turns

-- ASM_REWRITE_TAC and ONCE_ASM_REWRITE_TAC take the assumptions between these, the newest first.
abbrev pub asm_rewrite_tac : List Given → GoalValue → ℕ → Option Outcome
asm_rewrite_tac ths goal turns = rewritten_by (ths ++ (map assumed goal.assumptions ++ basic)) goal turns

abbrev pub once_asm_rewrite_tac : List Given → GoalValue → ℕ → Option Outcome
once_asm_rewrite_tac ths goal turns = rewritten_once_by (ths ++ (map assumed goal.assumptions ++ basic)) goal turns

-- ---- the answer

-- the answer, by what turns make of the conclusion: where turns run out none is left
abbrev pub converted : Option Outcome → GoalValue → UsedValue → AnswerValue
converted None goal used = answered None used
converted (Some (finished u turns)) goal used = record { result = Left (left_with goal u); used = record used { turns_left = turns } }
converted (Some limit) goal used = record { result = OutOfTurns; used = record used { turns_left = 0 } }
converted (Some too_large) goal used = record { result = TooLarge; used = used }
