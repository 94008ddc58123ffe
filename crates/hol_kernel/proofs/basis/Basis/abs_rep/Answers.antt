use Rattle.std.proofs.Common.{[], refl}
use Rattle.hol_terms.specs.Nameless.{nameless}
use Rattle.hol_kernel.specs.Sequent.{no_hyps}
use Rattle.hol_kernel.proofs.TypeDefinitions.{abs_rep_derived}
use Rattle.hol_kernel.proofs.basis.Basis.abs_rep.Goals as goal

pub unconditional-requires : goal.unconditional-requires
unconditional-requires c =
    abs_rep_derived c.args.self.now c.args.new.now.name.now c.args.new.now.abs.now c.args.new.now.rep.now (nameless [] c.args.new.now.predicate.term.now) c.args.new.now.predicate.domain.now c.args.ty.now
    c.requires.holds c.requires.known c.requires.made c.args.self.now no_hyps c.in_ok-concl.concl refl refl c.in_ok-concl.ensures.typed c.in_ok-concl.ensures.is
