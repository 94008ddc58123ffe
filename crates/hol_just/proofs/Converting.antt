-- Conversions leave no more turns than they had.
use Rattle.std.specs.Prelude.{◌≡◌, ℕ, zero, suc, ◌+◌, ◌≤◌, Bool, true, false, cond, nat_lt, List, [], Option, Some, None, refl}
use Rattle.std.proofs.Common.{arith}
use Rattle.hol_terms.specs.Nameless.{Nameless}
use Rattle.hol_terms.specs.Size.{term_size}
use Rattle.hol_kernel.specs.Given.{Given}
use Rattle.hol_match.specs.Contracta.{contractum}
use Rattle.hol_match.specs.RuleSets.{RuleEntry}
use Rattle.hol_conv.specs.Beta.{beta_turn}
use Rattle.hol_conv.specs.Turns.{Outcome, finished, limit, too_large, ended, all_turns}
use Rattle.hol_conv.specs.Rewriting.{rewrite_turn}
use Rattle.hol_conv.specs.Once.{rewritten_once, topmost_count}
use Rattle.hol_conv.proofs.OnceLaws.{topmost_replaced}
use Rattle.hol_goal.specs.Goal.{GoalValue}
use Rattle.hol_goal.specs.Answer.{starting}
use Rattle.hol_goal.specs.Arguments.{TacArgsValue, Nothing, Term, Pair, Theorem, TermAndTheorem, Theorems}
use Rattle.hol_just.specs.Leaving.{with_nothing, with_theorems}
use Rattle.hol_just.specs.ConversionTacs.{beta_tac, rules_by, rewritten_by, rewritten_once_by, converted}

-- the outcome leaves no more turns than there were
abbrev Falls : ℕ → Outcome → Type 0
Falls turns o = (u : Nameless) (left : ℕ) → o ≡ finished u left → left ≤ turns

turns_fall : (turn : Nameless → Option Nameless) (n : ℕ) (t : Nameless) → Falls n (all_turns turn n t)
turns_fall turn zero t u left e = by (turn t) e
  where
    by : (o : Option Nameless) → ended t 0 (λ w. limit) o ≡ finished u left → left ≤ 0
    by None k = let is : 0 ≡ left = cc in omega (arith, is)
    by (Some w) k = absurd (cc)
turns_fall turn (suc n) t u left e = by (turn t) (λ w k. turns_fall turn n w u left k) e
  where
    after : (b : Bool) (w : Nameless) → (all_turns turn n w ≡ finished u left → left ≤ n) → cond b too_large (all_turns turn n w) ≡ finished u left → left ≤ suc n
    after true w on k = absurd (cc)
    after false w on k = omega (arith, on k)

    by :
        (o : Option Nameless) → ((w : Nameless) → all_turns turn n w ≡ finished u left → left ≤ n) →
        ended t (suc n) (λ w. cond (nat_lt 20000 (term_size [] w)) too_large (all_turns turn n w)) o ≡ finished u left → left ≤ suc n
    by None on k = let is : suc n ≡ left = cc in omega (arith, is)
    by (Some w) on k = after (nat_lt 20000 (term_size [] w)) w (on w) k

each_falls : (rules : List RuleEntry) (n : ℕ) (t : Nameless) → Falls n (rewritten_once rules n t)
each_falls rules n t u left e =
    let counted : left + topmost_count (λ env m. contractum env rules m) [] t ≡ n = (topmost_replaced rules n left t u e).1 in
    omega (arith, counted)

converted_falls : (o : Outcome) (goal : GoalValue) (turns : ℕ) → Falls turns o → (converted (Some o) goal (starting turns)).used.turns_left ≤ turns
converted_falls (finished u left) goal turns h = h u left refl
converted_falls limit goal turns h = omega arith
converted_falls too_large goal turns h = omega arith

pub beta_falls : (args : TacArgsValue) (goal : GoalValue) (turns : ℕ) → (converted (with_nothing args (beta_tac goal turns)) goal (starting turns)).used.turns_left ≤ turns
beta_falls Nothing goal turns = converted_falls (all_turns beta_turn turns goal.conclusion) goal turns (turns_fall beta_turn turns goal.conclusion)
beta_falls (Term t) goal turns = omega arith
beta_falls (Pair s t) goal turns = omega arith
beta_falls (Theorem th) goal turns = omega arith
beta_falls (TermAndTheorem t th) goal turns = omega arith
beta_falls (Theorems ths) goal turns = omega arith

-- by whatever is given for the theorems
pub rewrite_falls : (args : TacArgsValue) (goal : GoalValue) (turns : ℕ) (givens : List Given → List Given) → (converted (with_theorems args (λ ths. rewritten_by (givens ths) goal turns)) goal (starting turns)).used.turns_left ≤ turns
rewrite_falls Nothing goal turns givens = omega arith
rewrite_falls (Term t) goal turns givens = omega arith
rewrite_falls (Pair s t) goal turns givens = omega arith
rewrite_falls (Theorem th) goal turns givens = omega arith
rewrite_falls (TermAndTheorem t th) goal turns givens = omega arith
rewrite_falls (Theorems ths) goal turns givens =
    converted_falls (all_turns (rewrite_turn (rules_by (givens ths))) turns goal.conclusion) goal turns (turns_fall (rewrite_turn (rules_by (givens ths))) turns goal.conclusion)

pub once_falls : (args : TacArgsValue) (goal : GoalValue) (turns : ℕ) (givens : List Given → List Given) → (converted (with_theorems args (λ ths. rewritten_once_by (givens ths) goal turns)) goal (starting turns)).used.turns_left ≤ turns
once_falls Nothing goal turns givens = omega arith
once_falls (Term t) goal turns givens = omega arith
once_falls (Pair s t) goal turns givens = omega arith
once_falls (Theorem th) goal turns givens = omega arith
once_falls (TermAndTheorem t th) goal turns givens = omega arith
once_falls (Theorems ths) goal turns givens = converted_falls (rewritten_once (rules_by (givens ths)) turns goal.conclusion) goal turns (each_falls (rules_by (givens ths)) turns goal.conclusion)
