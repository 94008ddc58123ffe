use Rattle.std.proofs.Common.{refl}
use Rattle.hol_kernel.specs.Items.{no_items}
use Rattle.hol_kernel.specs.Sequent.{no_hyps}
use Rattle.hol_formulas.specs.Prelude.{postulated}
use Rattle.hol_kernel.specs.Derivation.{by_postulate}
use Rattle.hol_formulas.proofs.PartTypes.{postulated_typed}
use Rattle.hol_kernel.proofs.TermRules.{along}
use Rattle.hol_kernel.proofs.thm.Thm.prelude.Goals as goal

pub unconditional-requires : goal.unconditional-requires
unconditional-requires c =
    along no_items c.in_ok-basis.basis no_hyps no_hyps (postulated c.args.which) c.in_ok-concl.concl c.in_ok-basis.ensures refl c.in_ok-concl.ensures
    (by_postulate c.args.which) (postulated_typed c.args.which)
