-- Substitution of nameless terms for free variables, and of types for type variables. Indices are shifted, and nothing is renamed.
-- Source: HOL Light's fusion.ml, vsubst and inst, on terms in de Bruijn's form, where no capture can happen.
use Rattle.std.specs.Prelude.{ℕ, ◌+◌, List, [], ◌∷◌, cond, Option, Some, None, unwrap_or}
use Rattle.hol_types.specs.Tree.{TypeTree}
use Rattle.hol_types.specs.Subst.{type_subst}
use Rattle.hol_types.specs.Equal.{variable_eq}
use Rattle.hol_terms.specs.Nameless.{Nameless, free, bound, fixed, app, lam}
use Rattle.hol_subst.specs.Shift.{shift}

-- the term of the first pair of the variable v
abbrev pub term_lookup : List (Nameless × (List ℕ × TypeTree)) → List ℕ × TypeTree → Option Nameless
term_lookup [] v = None
term_lookup (p ∷ pairs) v = cond (variable_eq p.1 v) (Some p.0) (term_lookup pairs v)

-- what stands for the variable v
abbrev pub term_for : List (Nameless × (List ℕ × TypeTree)) → List ℕ × TypeTree → Nameless
term_for pairs v = unwrap_or (term_lookup pairs v) (free v)

-- terms for the free variables of a term of which k binders are passed; of a whole term at k = 0
abbrev pub term_subst : List (Nameless × (List ℕ × TypeTree)) → ℕ → Nameless → Nameless
term_subst pairs k (free v) = shift k 0 (term_for pairs v)
term_subst pairs k (bound i) = bound i
term_subst pairs k (fixed c s) = fixed c s
term_subst pairs k (app f x) = app (term_subst pairs k f) (term_subst pairs k x)
term_subst pairs k (lam a s b) = lam a s (term_subst pairs (k + 1) b)

-- a variable with types for the variables of its type
abbrev pub variable_inst : List (TypeTree × List ℕ) → List ℕ × TypeTree → List ℕ × TypeTree
variable_inst pairs v = (v.0, type_subst pairs v.1)

-- types for the type variables in all types of a term
abbrev pub types_inst : List (TypeTree × List ℕ) → Nameless → Nameless
types_inst pairs (free v) = free (variable_inst pairs v)
types_inst pairs (bound i) = bound i
types_inst pairs (fixed c s) = fixed c (type_subst pairs s)
types_inst pairs (app f x) = app (types_inst pairs f) (types_inst pairs x)
types_inst pairs (lam a s b) = lam a (type_subst pairs s) (types_inst pairs b)
