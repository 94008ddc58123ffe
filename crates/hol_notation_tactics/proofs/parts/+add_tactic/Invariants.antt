use Rattle.std.proofs.Common.{◌≡◌, ◌++◌, ◌+◌, ◌*◌, drop}
use Rattle.hol_notation_tactics.specs.Text.{tac_texts, tac_nodes, tacs_nodes}
use Rattle.hol_notation_tactics.specs.Parts.{parts_of_each}
use Rattle.hol_notation_tactics.proofs.parts.+add_tactic.Given as goal

abbrev pub decreases-add_tactic : goal.decreases-add_tactic
decreases-add_tactic l = 2 * tac_nodes l.tactic.now

abbrev pub decreases-add_tactics : goal.decreases-add_tactics
decreases-add_tactics l = 2 * tacs_nodes (tac_texts l.tactics.now) + 1

abbrev pub invariant-add_tactics-loop-tactic : goal.invariant-add_tactics-loop-tactic
invariant-add_tactics-loop-tactic l =
    l.initial.parts.items ++ parts_of_each (tac_texts l.tactics) ≡ l.parts.items ++ parts_of_each (tac_texts (drop l.tactic-index l.tactics))
