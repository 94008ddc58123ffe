use Rattle.std.proofs.Common.{ap, ◌∙◌}
use Rattle.hol_terms.specs.Basic.{basic_constants, has_form}
use Rattle.hol_terms.proofs.BasicTerms.{no_form}
use Rattle.hol_terms.proofs.basic.is_basic_constant.Goals as goal

pub returns-in_default : goal.returns-in_default
returns-in_default c =
    let n = c.in_default in
    no_form basic_constants c.as_str.result.now c.args.ty.now
    (n.not-text, (n.not-text-2, (n.not-T, (n.not-F, (n.not-text-3, (n.not-text-4, (n.not-text-5, (n.not-text-6, (n.not-text-7, (n.not-text-8, (n.not-text-9, (n.not-ONE_ONE, (n.not-ONTO, tt)))))))))))))
    ∙ ap (λ name. has_form basic_constants name c.args.ty.now) c.as_str.ensures
