use Rattle.std.proofs.Common.{◌≡◌, [], Some, true, ap, sym, ◌∙◌, codes, bytes_eq, rules}
use Rattle.std.proofs.lemmas.Slice.Eq.{bytes_eq-Decides}
use Rattle.hol_types.specs.Equal.{type_eq}
use Rattle.hol_types.specs.Fun.{fun_type, fun_parts}
use Rattle.hol_terms.specs.Named.{Named, constant, comb, named_type}
use Rattle.hol_terms.specs.Nameless.{nameless}
use Rattle.hol_formulas.specs.Equation.{bool_type, equality_type, dest_eq}
use Rattle.hol_formulas.proofs.TypeTests.{same_type, fun_parts_is}
use Rattle.hol_formulas.proofs.TakingApart.{IsEquation, equation_parts, sides_yes}
use Rattle.hol_formulas.proofs.equations.dest_eq.Goals as goal

-- the term taken apart
term_is : (c : goal.Else-not-is_property_type) → c.args.term.now ≡ comb (comb (constant c.in-Const.name c.in-Const.ty) c.in-Comb-node.left) c.in-Comb.right
term_is c = search rules

parts_are : (c : goal.Else-not-is_property_type) → fun_parts c.in-Const.ty ≡ Some (c.in_ok-domain.domain.now, c.in_ok-domain.property.now)
parts_are c = search rules

is_equation : (c : goal.Else-not-is_property_type) → IsEquation c.in-Comb-node.left c.in-Comb.right c.in_ok-domain.domain.now c.type_of-ty.result.now
is_equation c =
    equation_parts c.in-Const.name c.in-Const.ty c.in-Comb-node.left c.in-Comb.right c.type_of-ty.result.now (c.in_ok-domain.domain.now, c.in_ok-domain.property.now)
    (ap named_type (sym (term_is c)) ∙ c.type_of-ty.ensures.named) (parts_are c) (search rules)

-- it is made with `=`
made_with : (c : goal.Else-not-is_property_type) → constant c.in-Const.name c.in-Const.ty ≡ constant (codes "=") (equality_type c.in_ok-domain.domain.now)
made_with c =
    let name : bytes_eq c.in-Const.name (codes "=") ≡ true = search rules in
    let property : type_eq c.in_ok-domain.property.now (fun_type c.in_ok-domain.domain.now bool_type) ≡ true = search rules in
    let named = (bytes_eq-Decides c.in-Const.name (codes "=")).0 name in
    let typed =
    fun_parts_is c.in-Const.ty (c.in_ok-domain.domain.now, c.in_ok-domain.property.now) (parts_are c)
    ∙ ap (fun_type c.in_ok-domain.domain.now) (same_type c.in_ok-domain.property.now (fun_type c.in_ok-domain.domain.now bool_type) property) in
    λ i. constant (named i) (typed i)

pub returns-clause-sides : goal.returns-clause-sides
returns-clause-sides c =
    let name : bytes_eq c.in-Const.name (codes "=") ≡ true = search rules in
    ap (λ (t : Named). dest_eq (nameless [] t)) (term_is c)
    ∙ sides_yes c.in-Const.name c.in-Const.ty (nameless [] c.in-Comb-node.left) (nameless [] c.in-Comb.right) (c.in_ok-domain.domain.now, c.in_ok-domain.property.now) (parts_are c) name (search rules)

pub returns-clause-left : goal.returns-clause-left
returns-clause-left c = (is_equation c).left

pub returns-clause-right : goal.returns-clause-right
returns-clause-right c = (is_equation c).right

pub returns-clause-sign : goal.returns-clause-sign
returns-clause-sign c =
    let is : c.in-Comb-node.sign ≡ constant c.in-Const.name c.in-Const.ty = search rules in
    is ∙ made_with c

pub returns-clause-half : goal.returns-clause-half
returns-clause-half c =
    let is : c.in-Comb.half ≡ comb (constant c.in-Const.name c.in-Const.ty) c.in-Comb-node.left = search rules in
    is ∙ ap (λ (sign : Named). comb sign c.in-Comb-node.left) (made_with c)
