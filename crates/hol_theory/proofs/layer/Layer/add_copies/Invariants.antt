use Rattle.std.proofs.Common.{◌≡◌, ◌++◌}
use Rattle.hol_theory.specs.Adding.{AreNew}
use Rattle.hol_theory.proofs.layer.Layer.add_copies.Given as goal

abbrev pub invariant-loop-key : goal.invariant-loop-key
invariant-loop-key l = record {
  entries : l.self ++ l.key-iterator ≡ l.fn.self ++ l.more;
  new : AreNew l.self l.key-iterator;
}
