use Rattle.std.proofs.Common.{◌≡◌, ◌++◌, take}
use Rattle.hol_terms.proofs.lists.add_copies.Given as goal

abbrev pub invariant-loop-term : goal.invariant-loop-term
invariant-loop-term l = l.to.items ≡ l.initial.to.items ++ take l.term-index l.terms
