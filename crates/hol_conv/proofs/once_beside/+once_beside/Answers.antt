use Rattle.std.proofs.Common.{◌≡◌, ◌∙◌, ap, min, refl}
use Rattle.hol_types.specs.Tree.{type_size}
use Rattle.hol_terms.specs.Named.{abs}
use Rattle.hol_conv.proofs.OnceParts.{body_ends, told_parts}
use Rattle.hol_conv.proofs.once_beside.+once_beside.Goals as goal

-- what the opened body comes to, under the binder again
pub once_in_body-returns-clause-tells : goal.once_in_body-returns-clause-tells
once_in_body-returns-clause-tells t c =
    let size : c.size.result ≡ min (type_size c.args.v.now.1) 20001 = c.size.ensures ∙ ap (λ s. min (type_size s) 20001) c.ty.ensures in
    let w = c.in_ok-inside.inside.variable in
    let d = c.in_ok-body.body.value.term in
    told_parts c.in_abstraction.result _ (abs w d) c.in_ok-body.body.value.left c.in_abstraction.ensures.memory c.in_abstraction.ensures.term c.in_abstraction.ensures.left
    (body_ends c.args.redexes.now c.args.outside c.beside-nodes.result c.size.result c.args.left c.args.v.now w c.args.b.now c.in_ok-inside.inside.body size c.beside-nodes.ensures.is c.in_ok-inside.ensures.same c.in_ok-inside.ensures.outside
    c.in_ok-body.body.value.left d (abs w d) c.in_ok-body.ensures.tells refl)
