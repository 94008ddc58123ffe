use Rattle.std.proofs.Common.{◌≡◌, drop}
use Rattle.hol_subst.specs.Pairs.{nameless_pairs}
use Rattle.hol_subst.specs.Substitution.{term_lookup}
use Rattle.hol_match.proofs.instance.term_in.Given as goal

abbrev pub invariant-loop-pair : goal.invariant-loop-pair
invariant-loop-pair l = term_lookup (nameless_pairs l.pairs) l.v ≡ term_lookup (nameless_pairs (drop l.pair-index l.pairs)) l.v
