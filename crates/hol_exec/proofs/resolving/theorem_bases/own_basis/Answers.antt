use Rattle.std.proofs.Common.{◌∙◌, ap}
use Rattle.hol_exec.specs.OwnBases.{values_under}
use Rattle.hol_exec.specs.ReadsValue.{Values}
use Rattle.hol_exec.proofs.CitedBases.{under_in_theory}
use Rattle.hol_exec.proofs.resolving.theorem_bases.own_basis.Goals as goal

pub basis_of-requires : goal.basis_of-requires
basis_of-requires c =
    under_in_theory c.args.reads.now.cited c.args.reads.now.made c.deref-5.result.now c.deref-3.result.now
    (c.deref-5.ensures.value ∙ c.in_ok-values.ensures ∙ ap (λ (vs : Values). values_under vs c.deref-3.result.now) c.cited.ensures.value) c.cited.ensures.theory
