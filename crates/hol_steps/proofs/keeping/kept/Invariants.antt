use Rattle.std.proofs.Common.{◌≡◌, ◌++◌, [], map, length}
use Rattle.std.specs.List.{zip}
use Rattle.hol_terms.specs.Nameless.{nameless}
use Rattle.hol_steps.specs.Matching.{kept_of}
use Rattle.hol_steps.proofs.keeping.kept.Given as goal

abbrev pub invariant-own : goal.invariant-own
invariant-own l = record {
  types : l.whole.types ≡ l.fn.found.types;
  terms :
      l.fn.found.terms ++ kept_of (nameless [] l.s) (nameless [] l.t) l.fn.found.types (map (nameless []) l.fn.avoid.items) (zip l.fn.own l.fn.apart)
      ≡ l.whole.terms ++ kept_of (nameless [] l.s) (nameless [] l.t) l.fn.found.types (map (nameless []) l.avoid.items) (zip l.own l.apart);
}

abbrev pub decreases-own : goal.decreases-own
decreases-own l = length l.own
