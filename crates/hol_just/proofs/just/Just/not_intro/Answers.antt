use Rattle.hol_just.specs.Justifies.{UnfoldsNegation}
use Rattle.hol_just.specs.declared.reason.Reason.TheVariants.{Negation}
use Rattle.hol_just.proofs.Applied.{made_plain}
use Rattle.hol_just.proofs.OneMove.{one}
use Rattle.hol_just.proofs.ConnectiveRules.{negation_unfolds}
use Rattle.hol_just.proofs.just.Just.not_intro.Goals as goal

pub returns : goal.returns
returns c = made_plain c.one.result UnfoldsNegation (one Negation) negation_unfolds c.one.ensures
