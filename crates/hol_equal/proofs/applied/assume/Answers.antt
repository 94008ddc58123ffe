use Rattle.std.proofs.Common.{[]}
use Rattle.hol_terms.specs.Nameless.{nameless}
use Rattle.hol_kernel.specs.Sequent.{only_hyp, sequent_of}
use Rattle.hol_kernel.specs.Rules.{assume_of}
use Rattle.hol_equal.proofs.Applies.{assume_yes}
use Rattle.hol_equal.proofs.Steps.{known}
use Rattle.hol_equal.proofs.applied.assume.Goals as goal

pub returns : goal.returns
returns c =
    let B = c.args.basis.now in
    let p = nameless [] c.args.p.now in
    known B (assume_of B p) (sequent_of (only_hyp p) p) (assume_yes B p c.requires.typed) c.assume_typed.result c.assume_typed.ensures.sequent
