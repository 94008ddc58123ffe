use Rattle.std.proofs.Common.{◌≡◌, [], map, length}
use Rattle.hol_terms.specs.Nameless.{nameless}
use Rattle.hol_goal.specs.Formulas.{AreFormulas}
use Rattle.hol_just.specs.ConnectiveTacs.{taken_out}
use Rattle.hol_steps.specs.Behind.{behind}
use Rattle.hol_steps.proofs.assumptions.take_out.Given as goal

abbrev pub invariant-search : goal.invariant-search
invariant-search l = record {
  all : taken_out (nameless [] l.t) (map (nameless []) l.terms) ≡ behind (map (nameless []) l.newer.items) (taken_out (nameless [] l.t) (map (nameless []) l.left));
  formulas : AreFormulas l.newer.items;
  rest : AreFormulas l.left;
}

abbrev pub decreases-search : goal.decreases-search
decreases-search l = length l.left
