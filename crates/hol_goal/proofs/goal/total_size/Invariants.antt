use Rattle.std.proofs.Common.{◌≡◌, ◌+◌, ◌≤◌, [], map, min, drop}
use Rattle.hol_terms.specs.Nameless.{nameless}
use Rattle.hol_terms.specs.Size.{term_size}
use Rattle.hol_goal.specs.Goal.{terms_size}
use Rattle.hol_goal.proofs.goal.total_size.Given as goal

abbrev pub invariant-loop-term : goal.invariant-loop-term
invariant-loop-term l = record {
  rest : min (l.size + terms_size (map (nameless []) (drop l.term-index l.terms))) 20001 ≡ min (term_size [] (nameless [] l.last) + terms_size (map (nameless []) l.terms)) 20001;
  small : l.size ≤ 20001;
}
