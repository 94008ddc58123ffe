use Rattle.std.proofs.Common.{length, ap, sym, ◌∙◌, subst}
use Rattle.hol_terms.specs.Named.{Named}
use Rattle.hol_terms.specs.View.{named_of}
use Rattle.hol_steps.specs.Unused.{AreShort}
use Rattle.hol_steps.proofs.Templates.{shorter}
use Rattle.hol_steps.proofs.replacing.+longest.Goals as goal

pub returns-in-Comb-clause-longest : goal.returns-in-Comb-clause-longest
returns-in-Comb-clause-longest t c =
    subst (λ (s : Named). AreShort (length c.longest-in-Comb.result.now) s) (sym (sym c.node.ensures ∙ ap named_of c.in-Comb.is))
    (shorter (length c.longest.result.now) (length c.longest-in-Comb.result.now) c.in-Comb.f c.longest-in-Comb.ensures.grows c.longest.ensures.longest, c.longest-in-Comb.ensures.longest)
