-- Theorems as values, and what every theorem promises.
use Rattle.std.specs.Prelude.{◌≡◌, [], true, Option, Some, refl}
use Rattle.std.specs.Option.{option_map}
use Rattle.std.specs.Coded.{Coded, code_by, coded×}
use Rattle.std.specs.FinSet as set
use Rattle.hol_terms.specs.Nameless.{Nameless, nameless}
use Rattle.hol_terms.specs.Named.{Named, named_type}
use Rattle.hol_kernel.specs.Items.{Items, items_code}
use Rattle.hol_kernel.specs.Sequent.{Hyps, Sequent, sequent_of, sequent_code}
use Rattle.hol_formulas.specs.Equation.{bool_type}
use Rattle.hol_kernel.specs.Typing.{HasType}
use Rattle.hol_kernel.specs.Derivation.{Derives}
use Rattle.hol_kernel.specs.Legal.{IsLegalSet}

-- a sequent over a set of items
pub record Theorem : Type 0 where
  pub basis : Items
  pub sequent : Sequent

abbrev pub theorem_on : Items → Sequent → Theorem
theorem_on basis s = record { basis = basis; sequent = s }

abbrev pub theorem_over : Items → Hyps → Nameless → Theorem
theorem_over basis hyps concl = theorem_on basis (sequent_of hyps concl)

-- the theorem of a sequent, where there is one
abbrev pub over : Items → Option Sequent → Option Theorem
over basis s = option_map (theorem_on basis) s

abbrev pub theorem_code : Coded Theorem
theorem_code = code_by (Items × Sequent) (coded× items_code sequent_code) (λ t. (t.basis, t.sequent)) (λ p. record { basis = p.0; sequent = p.1 }) (λ _. refl)

-- The basis is legal in some order, and the sequent has a derivation over it.
pub record IsTheorem (t : Theorem) : Type 0 where
  pub legal : IsLegalSet t.basis
  pub derives : Derives t.basis t.sequent.hyps t.sequent.concl

-- Each hypothesis and the conclusion is a term of type bool that is well typed over the prelude and the basis.
pub record IsWellTyped (t : Theorem) : Type 0 where
  pub hypotheses : (p : Nameless) → set.contains t.sequent.hyps p ≡ true → HasType t.basis p bool_type
  pub conclusion : HasType t.basis t.sequent.concl bool_type

-- What a theorem of the program keeps: a derivation over its basis, and a conclusion of type bool.
pub record IsDerived (basis : Items) (hyps : Hyps) (concl : Named) : Type 0 where
  pub derives : Derives basis hyps (nameless [] concl)
  pub typed : named_type concl ≡ Some bool_type
