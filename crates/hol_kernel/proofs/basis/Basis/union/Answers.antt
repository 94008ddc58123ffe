use Rattle.std.proofs.Common.{List, ◌∙◌}
use Rattle.std.proofs.lemmas.Result.{IfOk-weaker}
use Rattle.std.specs.FinSet as set
use Rattle.hol_kernel.specs.Item.{Item}
use Rattle.hol_kernel.proofs.Clashes.{lists_agree, merged_set, storable_union}
use Rattle.hol_kernel.proofs.basis.Basis.union.Goals as goal

pub made-requires : goal.made-requires
made-requires c =
    let xs : List Item = c.items.result.now in
    let ys : List Item = c.items-2.result.now in
    storable_union c.args.a.now c.args.b.now xs ys c.in_ok-all.all.items c.items.ensures.set c.items-2.ensures.set c.items.ensures.legal
    c.items-2.ensures.legal c.items.ensures.ordered c.items-2.ensures.ordered (lists_agree c.args.a.now c.args.b.now xs ys c.items.ensures.set c.items-2.ensures.set c.requires) c.in_ok-all.ensures

pub returns : goal.returns
returns c =
    let xs : List Item = c.items.result.now in
    let ys : List Item = c.items-2.result.now in
    let agree = lists_agree c.args.a.now c.args.b.now xs ys c.items.ensures.set c.items-2.ensures.set c.requires in
    IfOk-weaker c.made.result _ _
    (λ basis e. e ∙ merged_set xs ys c.in_ok-all.all.items agree c.in_ok-all.ensures ∙ (λ i. set.union (c.items.ensures.set i) (c.items-2.ensures.set i)))
    c.made.ensures
