-- F isn't derived over legal items: in the finite universe without INFINITY_AX, in an infinite one not at all.
use Rattle.std.proofs.Common.{◌≡◌, inl, inr, List, sym, subst, true, false}
use Rattle.std.proofs.lemmas.Bool.{or_parts}
use Rattle.hol_formulas.specs.Formula.{falsity}
use Rattle.hol_kernel.specs.Item.{Item}
use Rattle.hol_kernel.specs.Items.{Items, item_set}
use Rattle.hol_kernel.specs.Sequent.{Sequent, no_hyps}
use Rattle.hol_kernel.specs.Legal.{IsLegal}
use Rattle.hol_kernel.specs.Theorem.{Theorem, theorem_on, theorem_over, IsTheorem}
use Rattle.hol_kernel.specs.Derivation.{Derives}
use Rattle.hol_model.specs.Infinity.{uses_infinity, members_use_infinity, theorem_uses_infinity, StatesFalsity, HasNoAxiom}
use Rattle.hol_model.specs.Universe.{UniverseOf, IsInfinite}
use Rattle.hol_model.proofs.Finite.{finite}
use Rattle.hol_model.proofs.Legal.{never_derived}
use Rattle.hol_model.proofs.PreludeConsistent.{unless_false}

pub legal_consistent :
    (order : List Item) (legal : IsLegal order) → HasNoAxiom (item_set order) → members_use_infinity order legal ≡ false → (t : Derives (item_set order) no_hyps falsity) →
    uses_infinity (item_set order) no_hyps falsity t ≡ true
legal_consistent order legal none avoids t = unless_false (uses_infinity (item_set order) no_hyps falsity t) (λ e. never_derived finite order legal none (inl avoids) t (inl e))

sequent_consistent : (items : Items) → HasNoAxiom items → (is : IsTheorem (theorem_over items no_hyps falsity)) → theorem_uses_infinity (theorem_over items no_hyps falsity) is ≡ true
sequent_consistent items none is =
    unless_false (theorem_uses_infinity (theorem_over items no_hyps falsity) is)
    (λ e.
    let both = or_parts (uses_infinity items no_hyps falsity is.derives) (members_use_infinity is.legal.0 is.legal.1) e in
    subst (λ (s : Items). (t : Derives s no_hyps falsity) → uses_infinity s no_hyps falsity t ≡ false → ⊥) is.legal.2
    (λ t avoids. never_derived finite is.legal.0 is.legal.1 (subst HasNoAxiom (sym is.legal.2) none) (inl both.1) t (inl avoids)) is.derives both.0)

pub theorem_consistent : (t : Theorem) → StatesFalsity t → HasNoAxiom t.basis → (is : IsTheorem t) → theorem_uses_infinity t is ≡ true
theorem_consistent t states none =
    subst (λ (s : Sequent). (is : IsTheorem (theorem_on t.basis s)) → theorem_uses_infinity (theorem_on t.basis s) is ≡ true) (sym states) (sequent_consistent t.basis none)

-- in a universe in which INFINITY_AX is true F has no derivation
pub infinite_consistent :
    (Value Set : Type 0) (U : UniverseOf Value Set) → IsInfinite Value Set U → (order : List Item) → IsLegal order → HasNoAxiom (item_set order) → Derives (item_set order) no_hyps falsity → ⊥
infinite_consistent Value Set U infinite order legal none t = never_derived (record { Value = Value; Set = Set; laws = U }) order legal none (inr infinite) t (inr infinite)
