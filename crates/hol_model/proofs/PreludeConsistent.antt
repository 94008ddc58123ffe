-- F isn't derived from the prelude without INFINITY_AX. It is apart from what is so over all legal items, so that a check of this needs no more than it says.
use Rattle.std.proofs.Common.{◌≡◌, inl, Bool, true, false}
use Rattle.hol_formulas.specs.Formula.{falsity}
use Rattle.hol_kernel.specs.Items.{no_items}
use Rattle.hol_kernel.specs.Sequent.{no_hyps}
use Rattle.hol_kernel.specs.Derivation.{Derives}
use Rattle.hol_model.specs.Infinity.{uses_infinity}
use Rattle.hol_model.proofs.Finite.{finite}
use Rattle.hol_model.proofs.Modelled.{model_consistent}
use Rattle.hol_model.proofs.Prelude.{standard_model}
use Rattle.hol_model.proofs.Standard.{standard}

pub unless_false : (b : Bool) → (b ≡ false → ⊥) → b ≡ true
unless_false true h = λ _. true
unless_false false h = absurd (h (λ _. false))

pub prelude_consistent : (t : Derives no_items no_hyps falsity) → uses_infinity no_items no_hyps falsity t ≡ true
prelude_consistent t =
    unless_false (uses_infinity no_items no_hyps falsity t) (λ e. model_consistent finite no_items (standard finite, standard_model finite) t (inl e))
