-- MATCH_MP_TAC (HOL Light Reference Manual): by a theorem `!xs. s ==> t` whose t matches the conclusion it leaves what s is at the match.
-- What may be instantiated are the xs, which the outer quantifiers bind, and the type variables and free variables of the conclusion that no hypothesis has. As for a rule by which
-- terms are rewritten, the theorem is generalized over the latter, and all variables are called apart from all that occurs, so that no two of the theorem's become one where types
-- are instantiated. Those that s has and t lacks are not determined by the match: of the xs it is left that some exist, and the theorem's own variables stay as they are, their types
-- instantiated.
use Rattle.std.specs.Prelude.{ℕ, zero, suc, List, [], ◌∷◌, ◌++◌, map, drop, length, Bool, cond, not, ◌&&◌, Option, Some, None}
use Rattle.std.specs.List.{filter, zip}
use Rattle.std.specs.Option.{option_map, option_and_then}
use Rattle.std.specs.FinSet as set
use Rattle.hol_types.specs.Tree.{TypeTree}
use Rattle.hol_terms.specs.Nameless.{Nameless, free, free_occurrences}
use Rattle.hol_terms.specs.Scoped.{binds}
use Rattle.hol_subst.specs.Closing.{open_with}
use Rattle.hol_subst.specs.Substitution.{variable_inst}
use Rattle.hol_subst.specs.Variant.{is_free_in}
use Rattle.hol_formulas.specs.Formula.{Abstraction, universal, existential, dest_forall, dest_imp}
use Rattle.hol_kernel.specs.Given.{Given, given_sequent}
use Rattle.hol_derived.specs.Rules.{over_variable}
use Rattle.hol_match.specs.Instance.{InstanceValue, instance_of, instantiated}
use Rattle.hol_match.specs.Fixed.{fixed_variables, stays_of}
use Rattle.hol_match.specs.FreeNames.{free_name}
use Rattle.hol_match.specs.Matching.{matched}
use Rattle.hol_match.specs.Rules.{apart, nodes, pattern_variables}
use Rattle.hol_goal.specs.Goal.{GoalValue}
use Rattle.hol_just.specs.Leaving.{concluding}
use Rattle.hol_just.specs.QuantifierTacs.{terms_by}

-- ---- the theorem

-- !vs. p, where the first is outermost; in `generalized` of hol_match the last is
abbrev pub universals : List (List ℕ × TypeTree) → Nameless → Nameless
universals [] p = p
universals (v ∷ vs) p = universal (over_variable v (universals vs p))

-- its own variables that may be instantiated: those that are free in its conclusion and in no hypothesis, in the order in which they occur
abbrev pub own_variables : Given → List (List ℕ × TypeTree)
own_variables th = pattern_variables (fixed_variables [] (set.items (given_sequent th).hyps)) (given_sequent th).concl

-- its conclusion, generalized over them
abbrev pub generalized_concl : Given → Nameless
generalized_concl th = universals (own_variables th) (given_sequent th).concl

-- ---- outer quantifiers taken off

-- the variables that they bind, the outermost first, and what stands under them
pub record OpenedValue : Type 0 where
  pub variables : List (List ℕ × TypeTree)
  pub body : Nameless

abbrev pub under : List ℕ × TypeTree → OpenedValue → OpenedValue
under v o = record { variables = v ∷ o.variables; body = o.body }

abbrev pub opened_at : (List Nameless → Nameless → OpenedValue) → List Nameless → Nameless → Option Abstraction → OpenedValue
opened_at f avoid p None = record { variables = []; body = p }
opened_at f avoid p (Some x) = under (apart avoid x) (f (free (apart avoid x) ∷ avoid) (open_with (free (apart avoid x)) 0 x.body))

-- in at most so many steps
abbrev pub opened_in : ℕ → List Nameless → Nameless → OpenedValue
opened_in zero avoid p = record { variables = []; body = p }
opened_in (suc n) avoid p = opened_at (opened_in n) avoid p (dest_forall p)

-- No more steps are needed than p has nodes (Openings.antt). Each variable's name is that of no other one, and of none that the terms have.
abbrev pub opened : List Nameless → Nameless → OpenedValue
opened avoid p = opened_in (nodes p) avoid p

-- ---- what the match does not determine

-- s has the variable, and t lacks it
abbrev pub is_undetermined : Nameless → Nameless → List ℕ × TypeTree → Bool
is_undetermined s t v = binds (free_occurrences s) v && not (binds (free_occurrences t) v)

abbrev pub undetermined : Nameless → Nameless → List (List ℕ × TypeTree) → List (List ℕ × TypeTree)
undetermined s t vs = filter (is_undetermined s t) vs

-- the variable, or one of its type with the fewest primes that make its name new to the terms, where it is free in one of them
abbrev pub own_name : List Nameless → List ℕ × TypeTree → List ℕ × TypeTree
own_name terms v = cond (is_free_in terms v) (free_name terms v.0, v.1) v

-- Each pair is a variable of the theorem's own and what it is called apart. The latter, at an instance of types, becomes a variable of the former's name, told from those of
-- the terms and from those before it.
abbrev pub kept : List (TypeTree × List ℕ) → List Nameless → List ((List ℕ × TypeTree) × (List ℕ × TypeTree)) → List (Nameless × (List ℕ × TypeTree))
kept types terms [] = []
kept types terms (p ∷ ps) =
    let u : List ℕ × TypeTree = variable_inst types p.1 in
    let v : List ℕ × TypeTree = own_name terms (p.0.0, u.1) in
    (free v, u) ∷ kept types (terms ++ free v ∷ []) ps

-- ---- what is left, beside hypotheses, where the first of the variables are called apart from the theorem's own, and s and t are the parts

-- the xs that the match does not determine, of the types that they have there
abbrev pub left_open : List (List ℕ × TypeTree) → List (List ℕ × TypeTree) → Nameless × Nameless → InstanceValue → List (List ℕ × TypeTree)
left_open own vs r a = map (variable_inst a.types) (undetermined r.0 r.1 (drop (length own) vs))

-- the match, where the theorem's own variables stay as they are if it does not determine them
abbrev pub completed : List Nameless → List (List ℕ × TypeTree) → List (List ℕ × TypeTree) → Nameless × Nameless → InstanceValue → InstanceValue
completed hyps own vs r a =
    instance_of a.types (a.terms ++ kept a.types (map (λ v. free v) (left_open own vs r a) ++ hyps) (filter (λ p. is_undetermined r.0 r.1 p.1) (zip own vs)))

-- ?vs. p
abbrev pub existentials : List (List ℕ × TypeTree) → Nameless → Nameless
existentials [] p = p
existentials (v ∷ vs) p = existential (over_variable v (existentials vs p))

abbrev pub premise_at : List Nameless → List (List ℕ × TypeTree) → List (List ℕ × TypeTree) → Nameless × Nameless → InstanceValue → Nameless
premise_at hyps own vs r a = existentials (left_open own vs r a) (instantiated (completed hyps own vs r a) 0 r.0)

abbrev pub left_of_match : Given → GoalValue → OpenedValue → Nameless × Nameless → Option (List GoalValue)
left_of_match th goal o r =
    option_map (λ a. concluding goal (premise_at (set.items (given_sequent th).hyps) (own_variables th) o.variables r a) ∷ [])
    (matched 0 r.1 (stays_of (set.items (given_sequent th).hyps)) goal.conclusion)

abbrev pub match_mp_by : Given → GoalValue → OpenedValue → Option (List GoalValue)
match_mp_by th goal o = option_and_then (left_of_match th goal o) (dest_imp o.body)

abbrev pub match_mp_tac : Given → GoalValue → Option (List GoalValue)
match_mp_tac th goal = match_mp_by th goal (opened (terms_by th goal) (generalized_concl th))
