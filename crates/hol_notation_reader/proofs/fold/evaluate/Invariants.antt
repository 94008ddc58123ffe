use Rattle.std.proofs.Common.{◌≡◌, [], length}
use Rattle.hol_notation_grammar.specs.Step.{step_texts}
use Rattle.hol_notation_reader.specs.Fold.{evaluate, Fit}
use Rattle.hol_notation_reader.specs.View.{pieces_of}
use Rattle.hol_notation_reader.proofs.fold.evaluate.Given as goal

abbrev pub invariant-loop-step : goal.invariant-loop-step
invariant-loop-step l = record {
  value : evaluate (step_texts l.left.items) (pieces_of l.pieces.items) ≡ evaluate (step_texts l.fn.steps.items) [];
  fit : Fit (step_texts l.left.items) (pieces_of l.pieces.items);
}

abbrev pub decreases-loop-step : goal.decreases-loop-step
decreases-loop-step l = length l.left.items
