use Rattle.std.proofs.Common.{◌≡◌, reverse, length}
use Rattle.hol_notation_grammar.specs.Step.{name_texts}
use Rattle.hol_notation_reader.specs.Build.{postfix}
use Rattle.hol_notation_reader.proofs.types.postfix.Given as goal

abbrev pub invariant-loop-name : goal.invariant-loop-name
invariant-loop-name l = postfix l.built (reverse (name_texts l.left.items)) ≡ postfix l.fn.ty (reverse (name_texts l.fn.names.items))

abbrev pub decreases-loop-name : goal.decreases-loop-name
decreases-loop-name l = length l.left.items
