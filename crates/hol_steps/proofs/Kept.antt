-- What is true of the moves that a step was made of is true of its own.
use Rattle.std.specs.Prelude.{◌≡◌, List, Result, Ok, Err, IfOk}
use Rattle.std.proofs.Common.{sym, subst}
use Rattle.hol_just.specs.declared.reason.Move.{Move}
use Rattle.hol_just.specs.declared.tried.Step.{Step}

pub step_keeps : {E : Type 0} (r : Result Step E) (P : List Move → Type 0) (moves : List Move) → P moves → IfOk r (λ step. step.just ≡ moves) → IfOk r (λ step. P step.just)
step_keeps (Ok step) P moves p h = subst P (sym h) p
step_keeps (Err e) P moves p h = h
