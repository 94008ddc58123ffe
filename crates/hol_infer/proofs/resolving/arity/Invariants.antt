use Rattle.std.proofs.Common.{◌≡◌, drop}
use Rattle.hol_infer.specs.Resolving.{arity_of}
use Rattle.hol_infer.proofs.resolving.arity.Given as goal

abbrev pub invariant-loop-entry : goal.invariant-loop-entry
invariant-loop-entry l = arity_of l.arities l.name ≡ arity_of (drop l.entry-index l.arities) l.name
