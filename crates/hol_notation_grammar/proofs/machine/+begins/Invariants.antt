use Rattle.std.proofs.Common.{◌≡◌, ◌+◌, ◌*◌, ◌-◌, drop}
use Rattle.hol_notation_grammar.specs.Table.{symbols}
use Rattle.hol_notation_grammar.specs.Grammar.{language, begins, some_leads}
use Rattle.hol_notation_grammar.proofs.machine.+begins.Given as goal

abbrev pub decreases-begins : goal.decreases-begins
decreases-begins l = 2 * l.depth

abbrev pub decreases-leads : goal.decreases-leads
decreases-leads l = 2 * l.depth + 1

abbrev pub invariant-begins-loop-production : goal.invariant-begins-loop-production
invariant-begins-loop-production l =
    some_leads (λ m j. begins language (l.depth - 1) m j) (λ p. symbols p) (drop l.production-index l.production-items) l.sort
    ≡ some_leads (λ m j. begins language (l.depth - 1) m j) (λ p. symbols p) l.production-items l.sort
