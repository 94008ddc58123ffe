-- What a justification gives for sequents of the goals that are left (LNCS 78, Edinburgh LCF: the validation of a tactic). It speaks of the program's justifications, whose traces meet
-- their invariant: of a trace it takes the equation of its terms, without looking at how one became the other.
use Rattle.std.specs.Prelude.{ℕ, zero, suc, ◌+◌, List, [], ◌∷◌, map, Option, Some, None}
use Rattle.std.specs.Option.{option_map}
use Rattle.hol_kernel.specs.Items.{Items}
use Rattle.hol_kernel.specs.Sequent.{Sequent}
use Rattle.hol_just.specs.Inference.{Inference, inferred}
use Rattle.hol_just.specs.Reasons.{inference}
use Rattle.hol_just.specs.declared.reason.Move.{Move}

-- a rule at a place of the list: the sequents before it stay
abbrev pub inferred_at : ℕ → Inference → List Sequent → Option (List Sequent)
inferred_at zero rule sequents = inferred rule sequents
inferred_at (suc n) rule [] = None
inferred_at (suc n) rule (s ∷ sequents) = option_map (λ rest. s ∷ rest) (inferred_at n rule sequents)

abbrev pub then_by : Items → Move → Option (List Sequent) → Option (List Sequent)
then_by basis one None = None
then_by basis one (Some sequents) = inferred_at one.place (inference basis one.reason) sequents

-- The moves stand in the order in which goals were left, so the last one is applied first.
abbrev pub gives : Items → List Move → List Sequent → Option (List Sequent)
gives basis [] sequents = Some sequents
gives basis (one ∷ moves) sequents = then_by basis one (gives basis moves sequents)

-- moves at places so many further on
abbrev pub move_by : ℕ → Move → Move
move_by k one = record one { place = k + one.place }

abbrev pub moved : ℕ → List Move → List Move
moved k moves = map (move_by k) moves
