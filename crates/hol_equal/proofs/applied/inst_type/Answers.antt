use Rattle.std.proofs.Common.{◌≡◌, ap, ◌∙◌, [], ◌∷◌, Some, rules}
use Rattle.hol_types.specs.Tree.{TypeTree}
use Rattle.hol_subst.specs.Substitution.{types_inst}
use Rattle.hol_kernel.specs.Rules.{inst_type_of, sequent_image}
use Rattle.hol_equal.proofs.Steps.{unrefused, told}
use Rattle.hol_kernel.specs.declared.error.Rule.TheVariants.{InstType}
use Rattle.hol_equal.proofs.Applies.{inst_type_yes}
use Rattle.std.specs.Prelude.{List, ℕ}
use Rattle.hol_equal.proofs.applied.inst_type.Goals as goal

pub unrefused-requires : goal.unrefused-requires
unrefused-requires c =
    let B = c.args.a.now.basis in
    let s = c.args.a.now.sequent in
    let pair = (c.args.ty.now, c.args.name.now) ∷ [] in
    let all : c.deref.result.now ≡ pair = search rules in
    let image = sequent_image (types_inst ((c.args.ty.now, c.args.name.now) ∷ [])) s in
    let gives : inst_type_of B c.deref.result.now s ≡ Some image = ap (λ (ps : List (TypeTree × List ℕ)). inst_type_of B ps s) all ∙ inst_type_yes B c.args.ty.now c.args.name.now s c.requires.stands in
    unrefused InstType B (inst_type_of B c.deref.result.now s) image gives c.inst_type.result c.inst_type.ensures.sequent

pub returns : goal.returns
returns c =
    let B = c.args.a.now.basis in
    let s = c.args.a.now.sequent in
    let pair = (c.args.ty.now, c.args.name.now) ∷ [] in
    let all : c.deref.result.now ≡ pair = search rules in
    let image = sequent_image (types_inst ((c.args.ty.now, c.args.name.now) ∷ [])) s in
    let gives : inst_type_of B c.deref.result.now s ≡ Some image = ap (λ (ps : List (TypeTree × List ℕ)). inst_type_of B ps s) all ∙ inst_type_yes B c.args.ty.now c.args.name.now s c.requires.stands in
    told InstType B (inst_type_of B c.deref.result.now s) image gives c.inst_type.result c.unrefused.result c.inst_type.ensures.sequent c.unrefused.ensures
