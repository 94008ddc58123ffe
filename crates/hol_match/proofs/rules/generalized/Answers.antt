use Rattle.std.proofs.Common.{◌∙◌, ◌+◌, ap, [], drop}
use Rattle.hol_types.proofs.Steps.{next_of}
use Rattle.hol_terms.specs.Nameless.{nameless}
use Rattle.hol_match.specs.Rules.{generalized}
use Rattle.hol_match.proofs.Opened.{generalized_more}
use Rattle.hol_match.proofs.rules.generalized.Goals as goal

pub loop-v-preserved : goal.loop-v-preserved
loop-v-preserved c = (
  c.loop-v.invariant.0
      ∙ ap (λ vs. generalized vs (nameless [] c.loop-v.whole)) (next_of c.args.variables.now c.loop-v.v-index c.v-item.result c.loop-v-test.true c.v-item.is)
      ∙ generalized_more c.v-item.result (drop (c.loop-v.v-index + 1) c.args.variables.now) c.loop-v.whole c.in_ok-whole-2.whole c.in_ok-whole-2.ensures.is,
  c.in_ok-whole-2.ensures.typed,
)
