-- What the functions on equations leave of a goal, or nothing where they do not fit it (HOL Light Reference Manual). Terms are compared up to bound names.
use Rattle.std.specs.Prelude.{Bool, false, List, [], ◌∷◌, cond, Option, Some, None}
use Rattle.std.specs.Option.{option_map, option_and_then}
use Rattle.hol_types.specs.Tree.{TypeTree}
use Rattle.hol_types.specs.Equal.{type_eq}
use Rattle.hol_terms.specs.Nameless.{Nameless, nameless_type}
use Rattle.hol_terms.specs.Alpha.{alpha_eq}
use Rattle.hol_formulas.specs.Equation.{bool_type, equation, Sides, dest_eq, dest_comb}
use Rattle.hol_formulas.specs.Formula.{implication}
use Rattle.hol_kernel.specs.Given.{Given, given_sequent}
use Rattle.hol_goal.specs.Goal.{GoalValue}
use Rattle.hol_just.specs.Leaving.{concluding}
use Rattle.hol_just.specs.Replacing.{replace_each}

-- REFL_TAC closes `s = s`.
abbrev pub refl_tac : GoalValue → Option (List GoalValue)
refl_tac goal = option_and_then (λ s. cond (alpha_eq s.left s.right) (Some []) None) (dest_eq goal.conclusion)

-- EQ_TAC leaves `p ==> q` and `q ==> p` of `p <=> q`.
abbrev pub implications : GoalValue → Sides → Option (List GoalValue)
implications goal s = cond (type_eq s.sides_type bool_type) (Some (concluding goal (implication s.left s.right) ∷ concluding goal (implication s.right s.left) ∷ [])) None

abbrev pub eq_tac : GoalValue → Option (List GoalValue)
eq_tac goal = option_and_then (implications goal) (dest_eq goal.conclusion)

-- SUBST1_TAC leaves the conclusion with t for each s, by a theorem `s = t`.
abbrev pub subst1_tac : Given → GoalValue → Option (List GoalValue)
subst1_tac th goal = option_map (λ e. concluding goal (replace_each e.left e.right goal.conclusion) ∷ []) (dest_eq (given_sequent th).concl)

-- ---- `f x = g y`

-- the goal `s = t`
abbrev pub equating : GoalValue → Nameless → Nameless → Option GoalValue
equating goal s t = option_map (λ a. concluding goal (equation a s t)) (nameless_type [] s)

abbrev pub only : Option GoalValue → Option (List GoalValue)
only o = option_map (λ g. g ∷ []) o

abbrev pub both : Option GoalValue → Option GoalValue → Option (List GoalValue)
both o p = option_and_then (λ g. option_map (λ h. g ∷ h ∷ []) p) o

-- what is left of the function and the argument of both sides
abbrev pub of_applications : (Nameless × Nameless → Nameless × Nameless → Option (List GoalValue)) → GoalValue → Option (List GoalValue)
of_applications left goal = option_and_then (λ s. option_and_then (λ p. option_and_then (left p) (dest_comb s.right)) (dest_comb s.left)) (dest_eq goal.conclusion)

-- AP_TERM_TAC leaves `x = y` of `f x = f y`.
abbrev pub ap_term_tac : GoalValue → Option (List GoalValue)
ap_term_tac goal = of_applications (λ p q. cond (alpha_eq p.0 q.0) (only (equating goal p.1 q.1)) None) goal

-- AP_THM_TAC leaves `f = g` of `f x = g x`.
abbrev pub ap_thm_tac : GoalValue → Option (List GoalValue)
ap_thm_tac goal = of_applications (λ p q. cond (alpha_eq p.1 q.1) (only (equating goal p.0 q.0)) None) goal

-- MK_COMB_TAC leaves `f = g` and `x = y`, where f and g are of one type.
abbrev pub same_type : Option TypeTree → Option TypeTree → Bool
same_type None b = false
same_type (Some a) None = false
same_type (Some a) (Some b) = type_eq a b

abbrev pub mk_comb_tac : GoalValue → Option (List GoalValue)
mk_comb_tac goal = of_applications (λ p q. cond (same_type (nameless_type [] p.0) (nameless_type [] q.0)) (both (equating goal p.0 q.0) (equating goal p.1 q.1)) None) goal
