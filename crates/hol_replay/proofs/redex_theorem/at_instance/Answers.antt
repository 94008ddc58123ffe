use Rattle.std.proofs.Common.{◌≡◌}
use Rattle.std.proofs.lemmas.Result.{IfOk-weaker}
use Rattle.hol_subst.specs.Substitution.{types_inst}
use Rattle.hol_kernel.specs.Rules.{sequent_image}
use Rattle.hol_kernel.specs.Theorem.{theorem_on}
use Rattle.hol_kernel.specs.declared.error.Rule.TheVariants.{InstType, Inst}
use Rattle.hol_replay.proofs.Instances.{type_told, term_unrefused, term_told}
use Rattle.hol_replay.proofs.redex_theorem.at_instance.Goals as goal

pub unrefused-requires-2 : goal.unrefused-requires-2
unrefused-requires-2 c =
    let A = c.args.a.now in
    let TH = c.args.th.now in
    let image = sequent_image (types_inst A.types) TH.sequent in
    let typed : c.in_ok-typed.typed ≡ theorem_on TH.basis image = type_told InstType TH.basis c.types.result.now A.types TH.sequent c.inst_type.result c.in_ok-typed.typed c.types.ensures c.requires.types c.inst_type.ensures.sequent c.in_ok-typed.ensures in
    term_unrefused Inst TH.basis image c.in_ok-typed.typed typed c.terms.result.now A.terms c.terms.ensures.good c.terms.ensures.terms c.requires.terms c.inst.result c.inst.ensures.sequent

pub returns : goal.returns
returns c =
    let A = c.args.a.now in
    let TH = c.args.th.now in
    let image = sequent_image (types_inst A.types) TH.sequent in
    let typed : c.in_ok-typed.typed ≡ theorem_on TH.basis image = type_told InstType TH.basis c.types.result.now A.types TH.sequent c.inst_type.result c.in_ok-typed.typed c.types.ensures c.requires.types c.inst_type.ensures.sequent c.in_ok-typed.ensures in
    IfOk-weaker c.unrefused-2.result _ _ (λ r e. term_told Inst TH.basis image c.in_ok-typed.typed typed c.terms.result.now A.terms c.terms.ensures.good c.terms.ensures.terms c.requires.terms c.inst.result c.inst.ensures.sequent r e) c.unrefused-2.ensures
