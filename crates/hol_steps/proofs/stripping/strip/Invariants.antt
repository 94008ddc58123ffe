use Rattle.std.proofs.Common.{[], map}
use Rattle.hol_terms.specs.Nameless.{nameless}
use Rattle.hol_just.specs.Strip.{avoiding}
use Rattle.hol_just.specs.Weights.{all_weights}
use Rattle.hol_steps.specs.Progress.{progress_value}
use Rattle.hol_steps.proofs.UnderWay.{IsUnderWay}
use Rattle.hol_steps.proofs.stripping.strip.Given as goal

abbrev pub invariant-pieces : goal.invariant-pieces
invariant-pieces l = IsUnderWay (avoiding (map (nameless []) l.others) l.names) l.fn.before l.fn.first l.turns (progress_value l.progress)

abbrev pub decreases-pieces : goal.decreases-pieces
decreases-pieces l = all_weights (progress_value l.progress).waiting
