-- Over items that have a model, F has no derivation which uses what is accepted.
use Rattle.std.proofs.Common.{sym, ◌∙◌}
use Rattle.hol_formulas.specs.Formula.{falsity}
use Rattle.hol_kernel.specs.Items.{Items}
use Rattle.hol_kernel.specs.Sequent.{no_hyps}
use Rattle.hol_kernel.specs.Derivation.{Derives}
use Rattle.hol_kernel.proofs.Members.{not_in_empty}
use Rattle.hol_kernel.proofs.HypothesisLists.{hyps_total, hyps_same}
use Rattle.hol_model.specs.Infinity.{uses_infinity}
use Rattle.hol_model.proofs.Interpretations.{Assignment, Interpretation, Valuation, some_values}
use Rattle.hol_model.proofs.Types.{IsInhabited, inhabited}
use Rattle.hol_model.proofs.Models.{IsModel}
use Rattle.hol_model.proofs.Soundness.{derived_follows}
use Rattle.hol_model.proofs.Universes.{Universe, Accepts}

module _ (U : Universe) where
  open U.laws use {off, off_in, off_is_not_on, booleans, first_in}

  abbrev pub HasModel : Items → Type 0
  HasModel items = (m : Interpretation U) × IsModel U items m

  -- over items that have a model a derivation of F from no hypotheses uses INFINITY_AX
  pub model_consistent : (items : Items) → HasModel items → (t : Derives items no_hyps falsity) → Accepts U (uses_infinity items no_hyps falsity t) → ⊥
  model_consistent items m t avoids =
      let d : Assignment U = λ a. booleans in
      let full : IsInhabited U d = λ a. first_in off booleans off_in in
      let f : Valuation U = some_values U m.0.constructors d in
      off_is_not_on (sym (m.1.falsity _) ∙ derived_follows U items m.0 m.1.frame m.1 no_hyps falsity t avoids d full f (λ v. inhabited U m.0.constructors m.1.frame.inhabited d full v.1) (λ h i. absurd (not_in_empty hyps_total hyps_same h i)))
