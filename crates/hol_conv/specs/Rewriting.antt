-- Rewriting by rules, a redex a turn: what the left side of a rule matches becomes the rule's right side.
-- Source: term rewriting, as HOL Light's REWRITE_CONV without its conditions and orders; the order of redexes is this project's.
--
-- A turn looks at the whole term first and at its parts after, from left to right, so that the term that a rule gave is looked at before
-- what stands inside it: by `p <=> ~p` the p in `~p` is the next one.
use Rattle.std.specs.Prelude.{[], List, Option}
use Rattle.hol_terms.specs.Nameless.{Nameless}
use Rattle.hol_match.specs.RuleSets.{RuleEntry}
use Rattle.hol_match.specs.Contracta.{contractum}
use Rattle.hol_conv.specs.Turns.{turn}

abbrev pub rewrite_turn : List RuleEntry → Nameless → Option Nameless
rewrite_turn rules t = turn (λ env n. contractum env rules n) [] t
