use Rattle.std.proofs.Common.{◌≡◌, take, length, ◌+◌, ◌*◌}
use Rattle.hol_notation_terms.specs.Text.{type_texts, type_nodes, types_nodes}
use Rattle.hol_notation_terms.proofs.pre_type.+same.Given as goal

abbrev pub decreases-PreType::same : goal.decreases-PreType::same
decreases-PreType::same l = 2 * type_nodes l.self.now

abbrev pub decreases-same_types : goal.decreases-same_types
decreases-same_types l = 2 * types_nodes (type_texts l.types.now) + 1

abbrev pub invariant-same_types-loop-i : goal.invariant-same_types-loop-i
invariant-same_types-loop-i l = record {
  long : length l.types ≡ length l.others;
  same : take l.i l.types ≡ take l.i l.others;
}
