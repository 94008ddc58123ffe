-- An instance of what stands under a theorem's outer quantifiers (HOL Light's PART_MATCH, of the whole).
use Rattle.std.specs.Prelude.{ℕ, List, [], ◌∷◌, codes, cond, ◌&&◌, Option, Some, None}
use Rattle.std.specs.Option.{option_map, option_and_then}
use Rattle.std.specs.FinSet as set
use Rattle.hol_types.specs.Tree.{TypeTree}
use Rattle.hol_terms.specs.Named.{Named, var, constant, comb, abs}
use Rattle.hol_terms.specs.Nameless.{Nameless, free, nameless}
use Rattle.hol_formulas.specs.Equation.{bool_type}
use Rattle.hol_formulas.specs.Formula.{quantifier_type, is_constant}
use Rattle.hol_kernel.specs.Items.{Items}
use Rattle.hol_kernel.specs.Sequent.{Sequent, sequent_of}
use Rattle.hol_kernel.specs.Typing.{has_type}
use Rattle.hol_derived.specs.Rules.{spec_of}
use Rattle.hol_match.specs.Instance.{instantiated}
use Rattle.hol_match.specs.Fixed.{stays_of}
use Rattle.hol_match.specs.Matching.{matched}
use Rattle.hol_match.specs.Patterns.{is_apart}

-- the variables that the outer quantifiers of a formula bind, the outermost first
abbrev mutual
  pub bound_variables : Named → List (List ℕ × TypeTree)
  bound_variables (var v) = []
  bound_variables (constant c s) = []
  bound_variables (comb f x) = bound_by (nameless [] f) x
  bound_variables (abs v b) = []

  pub bound_by : Nameless → Named → List (List ℕ × TypeTree)
  bound_by f (var v) = []
  bound_by f (constant c s) = []
  bound_by f (comb g x) = []
  bound_by f (abs v b) = cond (is_constant (codes "!") (quantifier_type v.1) f) (v ∷ bound_variables b) []

-- SPEC at the variables, one after the other
abbrev pub specialized : Items → List (List ℕ × TypeTree) → Sequent → Option Sequent
specialized basis [] a = Some a
specialized basis (v ∷ vs) a = option_and_then (specialized basis vs) (spec_of basis (free v) a)

-- The instance of a sequent that a match of its conclusion with t gives (INST_TYPE and INST), for a formula t and a conclusion whose variables are apart. What its hypotheses have
-- stays, so that they stay.
abbrev pub instance_like : Items → Nameless → Sequent → Option Sequent
instance_like basis t a =
    cond (has_type basis t bool_type && is_apart (set.items a.hyps) a.concl) (option_map (λ i. sequent_of a.hyps (instantiated i 0 a.concl)) (matched 0 a.concl (stays_of (set.items a.hyps)) t)) None

-- the same of what stands under outer quantifiers, which are taken off by SPEC at the variables
abbrev pub matching : Items → List (List ℕ × TypeTree) → Nameless → Sequent → Option Sequent
matching basis vs t a = option_and_then (instance_like basis t) (specialized basis vs a)
