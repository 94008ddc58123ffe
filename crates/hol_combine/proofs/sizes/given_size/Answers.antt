use Rattle.std.proofs.Common.{sym, ◌∙◌, ap}
use Rattle.hol_kernel.specs.Given.{given_of}
use Rattle.hol_combine.proofs.SizeSums.{theorem_size, assumed_size}
use Rattle.hol_combine.proofs.sizes.given_size.Goals as goal

pub returns-in-Theorem : goal.returns-in-Theorem
returns-in-Theorem c =
    theorem_size c.args.given.now c.in-Theorem.th c.hyps.result.now c.concl.result.now c.total_size.result (sym c.node.ensures.value ∙ ap given_of c.in-Theorem.is) c.hyps.ensures.set c.hyps.ensures.ordered c.concl.ensures.concl c.total_size.ensures

pub returns-in-Assumed : goal.returns-in-Assumed
returns-in-Assumed c =
    assumed_size c.args.given.now c.in-Assumed.p c.size.result c.size-in-Assumed.result c.plus.result (sym c.node.ensures.value ∙ ap given_of c.in-Assumed.is) c.size.ensures.size c.size-in-Assumed.ensures.size c.plus.ensures
