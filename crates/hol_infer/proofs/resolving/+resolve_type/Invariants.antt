use Rattle.std.proofs.Common.{◌≡◌, map, take, true}
use Rattle.hol_notation_terms.specs.Text.{type_texts, type_nodes}
use Rattle.hol_infer.specs.Resolving.{type_of_text, have_arities}
use Rattle.hol_infer.proofs.resolving.+resolve_type.Given as goal

abbrev pub invariant-loop-arg : goal.invariant-loop-arg
invariant-loop-arg l = record {
  types : l.types.items ≡ map (type_of_text l.arities) (take l.arg-index l.arg-items);
  right : have_arities l.arities (type_texts (take l.arg-index l.arg-items)) ≡ true;
}

abbrev pub decreases-resolve_type : goal.decreases-resolve_type
decreases-resolve_type l = type_nodes l.ty.now
