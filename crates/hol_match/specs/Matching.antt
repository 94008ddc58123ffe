-- First-order matching of a pattern with a term: the pattern's variables take types and terms at their first places in preorder.
-- Source: HOL Light's drule.ml, term_match, without its higher-order cases. What a match is, says Matches.antt.
--
-- The term may stand under binders that are no part of the match. Then its indices reach out to them, and `env` has their types, the
-- innermost first. A variable that is bound there is an index, so that it is equal to no free variable of the pattern: one that stays
-- doesn't meet it, whatever its name.
use Rattle.std.specs.Prelude.{ℕ, ◌+◌, List, [], ◌∷◌, ◌++◌, cond, bytes_eq, Option, Some, None}
use Rattle.std.specs.Option.{option_map, option_and_then}
use Rattle.hol_types.specs.Tree.{TypeTree}
use Rattle.hol_types.specs.Match.{match_type}
use Rattle.hol_terms.specs.Nameless.{Nameless, free, bound, fixed, app, lam, nameless_type}
use Rattle.hol_terms.specs.Alpha.{alpha_eq}
use Rattle.hol_subst.specs.Substitution.{term_lookup}
use Rattle.hol_formulas.specs.Equation.{dest_comb}
use Rattle.hol_formulas.specs.Formula.{dest_abs}
use Rattle.hol_match.specs.Instance.{InstanceValue, instance_of}
use Rattle.hol_match.specs.Lowering.{lowered}

-- the variable v takes u, where `earlier` is what it has taken
abbrev pub taken : Option Nameless → InstanceValue → List ℕ × TypeTree → Nameless → Option InstanceValue
taken None found v u = Some (instance_of found.types (found.terms ++ (u, v) ∷ []))
taken (Some s) found v u = cond (alpha_eq s u) (Some found) None

-- a type of the pattern is to become t
abbrev pub with_type : TypeTree → InstanceValue → TypeTree → Option InstanceValue
with_type s found t = option_map (λ types. instance_of types found.terms) (match_type s found.types t)

-- the variable v, whose type is to become s, takes u
abbrev pub variable_takes : List ℕ × TypeTree → InstanceValue → Nameless → TypeTree → Option InstanceValue
variable_takes v found u s = option_and_then (λ more. taken (term_lookup more.terms (v.0, s)) more (v.0, s) u) (with_type v.1 found s)

-- the variable v meets u
abbrev pub variable_meets_under : List TypeTree → List ℕ × TypeTree → InstanceValue → Nameless → Option InstanceValue
variable_meets_under env v found u = option_and_then (λ s. variable_takes v found u s) (nameless_type env u)

-- the same of a whole term
abbrev pub variable_meets : List ℕ × TypeTree → InstanceValue → Nameless → Option InstanceValue
variable_meets v found u = variable_meets_under [] v found u

-- the constant c of type s meets a term
abbrev pub constant_meets : List ℕ → TypeTree → InstanceValue → Nameless → Option InstanceValue
constant_meets c s found (free v) = None
constant_meets c s found (bound i) = None
constant_meets c s found (fixed d t) = cond (bytes_eq c d) (with_type s found t) None
constant_meets c s found (app f x) = None
constant_meets c s found (lam a t b) = None

-- a part of the pattern, k binders down, meets a part of the term at the same place: what is found with what was found before
abbrev pub matched_under : List TypeTree → ℕ → Nameless → InstanceValue → Nameless → Option InstanceValue
matched_under env k (free v) found t = option_and_then (λ u. variable_meets_under env v found u) (lowered k 0 t)
matched_under env k (bound i) found t = cond (alpha_eq (bound i) t) (Some found) None
matched_under env k (fixed c s) found t = constant_meets c s found t
matched_under env k (app f x) found t = option_and_then (λ q. option_and_then (λ more. matched_under env k x more q.1) (matched_under env k f found q.0)) (dest_comb t)
matched_under env k (lam a s b) found t = option_and_then (λ q. option_and_then (λ more. matched_under env (k + 1) b more q.body) (with_type s found q.domain)) (dest_abs t)

-- the same of a whole term
abbrev pub matched : ℕ → Nameless → InstanceValue → Nameless → Option InstanceValue
matched k p found t = matched_under [] k p found t
