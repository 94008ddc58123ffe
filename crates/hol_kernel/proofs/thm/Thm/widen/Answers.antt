use Rattle.std.proofs.Common.{[], refl, ap, ◌∙◌}
use Rattle.hol_terms.specs.Named.{named_type}
use Rattle.hol_terms.specs.Nameless.{nameless}
use Rattle.hol_kernel.proofs.Held.{wider_derived}
use Rattle.hol_kernel.proofs.thm.Thm.widen.Goals as goal

pub closed-requires : goal.closed-requires
closed-requires c =
    record {
      derives =
          wider_derived c.args.self.now.basis c.args.basis.now c.args.basis.now c.args.self.now.sequent.hyps c.in_ok-hyps.hyps c.args.self.now.sequent.concl (nameless [] c.in_ok-concl.concl)
          c.requires.within refl (c.in_ok-hyps.ensures ∙ c.hypotheses.ensures) (ap (nameless []) c.in_ok-concl.ensures ∙ c.concl.ensures.concl) c.promise.ensures.derives;
      typed = ap named_type c.in_ok-concl.ensures ∙ c.concl.ensures.typed;
    }
