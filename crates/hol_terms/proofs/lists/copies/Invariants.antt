use Rattle.std.proofs.Common.{◌≡◌, take}
use Rattle.hol_terms.proofs.lists.copies.Given as goal

abbrev pub invariant-loop-term : goal.invariant-loop-term
invariant-loop-term l = l.copied.items ≡ take l.term-index l.terms
