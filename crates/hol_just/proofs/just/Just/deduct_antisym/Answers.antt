use Rattle.hol_just.specs.Justifies.{SplitsEquivalence}
use Rattle.hol_just.specs.declared.reason.Reason.TheVariants.{Antisymmetry}
use Rattle.hol_just.proofs.Applied.{made_plain}
use Rattle.hol_just.proofs.OneMove.{one}
use Rattle.hol_just.proofs.EquationRules.{antisymmetry_splits}
use Rattle.hol_just.proofs.just.Just.deduct_antisym.Goals as goal

pub returns : goal.returns
returns c = made_plain c.one.result SplitsEquivalence (one Antisymmetry) antisymmetry_splits c.one.ensures
