-- What the functions on quantifiers leave of a goal, or nothing where they do not fit it (HOL Light Reference Manual).
use Rattle.std.specs.Prelude.{ℕ, List, [], ◌∷◌, ◌++◌, cond, not, ◌&&◌, ◌||◌, Option, Some, None}
use Rattle.std.specs.Option.{option_map, option_and_then}
use Rattle.hol_types.specs.Tree.{TypeTree}
use Rattle.hol_types.specs.Equal.{type_eq}
use Rattle.hol_terms.specs.Nameless.{Nameless, free, bound, fixed, app, lam, nameless_type, free_occurrences}
use Rattle.hol_terms.specs.Alpha.{alpha_eq}
use Rattle.hol_terms.specs.Scoped.{binds}
use Rattle.hol_subst.specs.Closing.{open_with}
use Rattle.hol_subst.specs.Variant.{is_free_in}
use Rattle.hol_formulas.specs.Formula.{Abstraction, universal, dest_forall, dest_exists}
use Rattle.hol_kernel.specs.Typing.{is_type_at}
use Rattle.hol_kernel.specs.Given.{Given, given_sequent}
use Rattle.hol_derived.specs.Rules.{over_variable}
use Rattle.hol_goal.specs.Goal.{GoalValue}
use Rattle.hol_just.specs.Fresh.{FreshValue, fresh}
use Rattle.hol_just.specs.Leaving.{concluding, assuming, goal_terms, theorem_terms}
use Rattle.hol_just.specs.Replacing.{replace_each}

-- what the quantifier says of the term
abbrev pub of_term : GoalValue → Nameless → Abstraction → GoalValue
of_term goal t x = concluding goal (open_with t 0 x.body)

-- GEN_TAC leaves p of `!x. p` at a variable of a new name, that of nothing in the goal. The names that are tested for it are told too.
abbrev pub of_fresh : GoalValue → Abstraction → FreshValue → List GoalValue × List (List ℕ)
of_fresh goal x f = (of_term goal (free (f.name, x.domain)) x ∷ [], f.tested)

abbrev pub gen_tac : List (List ℕ) → GoalValue → Option (List GoalValue × List (List ℕ))
gen_tac names goal = option_map (λ x. of_fresh goal x (fresh names (goal_terms goal) x.base)) (dest_forall goal.conclusion)

-- X_GEN_TAC leaves p of `!x. p` at a variable of x's type that is not free in the goal.
abbrev pub of_variable : GoalValue → List ℕ × TypeTree → Abstraction → Option (List GoalValue)
of_variable goal v x = cond (type_eq v.1 x.domain && not (is_free_in (goal_terms goal) v)) (Some (of_term goal (free v) x ∷ [])) None

abbrev pub x_gen_tac : Nameless → GoalValue → Option (List GoalValue)
x_gen_tac (free v) goal = option_and_then (of_variable goal v) (dest_forall goal.conclusion)
x_gen_tac (bound i) goal = None
x_gen_tac (fixed c s) goal = None
x_gen_tac (app f x) goal = None
x_gen_tac (lam a s b) goal = None

-- EXISTS_TAC leaves p of `?x. p` at a term of x's type.
abbrev pub of_witness : GoalValue → Nameless → Abstraction → Option (List GoalValue)
of_witness goal t x = cond (is_type_at (nameless_type [] t) x.domain) (Some (of_term goal t x ∷ [])) None

abbrev pub exists_tac : Nameless → GoalValue → Option (List GoalValue)
exists_tac t goal = option_and_then (of_witness goal t) (dest_exists goal.conclusion)

-- SPEC_TAC leaves `!x. w`, with x for each t, for a variable x of t's type that is t or not free in the conclusion.
abbrev pub spec_tac : Nameless → Nameless → GoalValue → Option (List GoalValue)
spec_tac t (free v) goal =
    cond (is_type_at (nameless_type [] t) v.1 && (alpha_eq t (free v) || not (binds (free_occurrences goal.conclusion) v)))
    (Some (concluding goal (universal (over_variable v (replace_each t (free v) goal.conclusion))) ∷ [])) None
spec_tac t (bound i) goal = None
spec_tac t (fixed c s) goal = None
spec_tac t (app f x) goal = None
spec_tac t (lam a s b) goal = None

-- ---- by a theorem `?x. p`

-- all terms of the goal and the theorem
abbrev pub terms_by : Given → GoalValue → List Nameless
terms_by th goal = goal_terms goal ++ theorem_terms th

-- what the quantifier says of the term, assumed
abbrev pub assuming_of : GoalValue → Nameless → Abstraction → GoalValue
assuming_of goal t x = assuming goal (open_with t 0 x.body) goal.conclusion

-- CHOOSE_TAC assumes p at a variable of a new name, that of nothing in the goal and the theorem. The names that are tested for it are told too.
abbrev pub assuming_fresh : GoalValue → Abstraction → FreshValue → List GoalValue × List (List ℕ)
assuming_fresh goal x f = (assuming_of goal (free (f.name, x.domain)) x ∷ [], f.tested)

abbrev pub choose_tac : List (List ℕ) → Given → GoalValue → Option (List GoalValue × List (List ℕ))
choose_tac names th goal = option_map (λ x. assuming_fresh goal x (fresh names (terms_by th goal) x.base)) (dest_exists (given_sequent th).concl)

-- X_CHOOSE_TAC assumes p at a variable of x's type that is free neither in the goal nor in the theorem.
abbrev pub of_chosen : Given → GoalValue → List ℕ × TypeTree → Abstraction → Option (List GoalValue)
of_chosen th goal v x = cond (type_eq v.1 x.domain && not (is_free_in (terms_by th goal) v)) (Some (assuming_of goal (free v) x ∷ [])) None

abbrev pub x_choose_tac : Nameless → Given → GoalValue → Option (List GoalValue)
x_choose_tac (free v) th goal = option_and_then (of_chosen th goal v) (dest_exists (given_sequent th).concl)
x_choose_tac (bound i) th goal = None
x_choose_tac (fixed c s) th goal = None
x_choose_tac (app f x) th goal = None
x_choose_tac (lam a s b) th goal = None
