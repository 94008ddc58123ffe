use Rattle.std.proofs.Common.{◌∙◌, ap}
use Rattle.hol_typing.specs.Graph.{bound_names}
use Rattle.hol_typing.proofs.Parts.{row_step, row_whole}
use Rattle.hol_typing.proofs.finding.bound_found.Goals as goal

pub loop-at-preserved : goal.loop-at-preserved
loop-at-preserved c =
    let added = rw c.if-not-branch.false at c.in_ok-add_bound.ensures in
    let lt = rw (c.deref-name-items.ensures.value ∙ ap (λ v. v.items) c.deref.ensures) at c.loop-at-test.true in
    let is = rw (c.deref-name-items.ensures.value ∙ ap (λ v. v.items) c.deref.ensures) at c.name-item.is in
    let r = row_step c.args.found.now c.args.part.now.ty c.args.part.now.base (bound_names c.args.part.now) c.loop-at.at c.name-item.result c.loop-at.bound.items c.add_bound.new.bound.items lt is added.0 added.1 c.loop-at.invariant.row c.loop-at.invariant.bound in
    record { row = r.0; bound = r.1 }

pub returns : goal.returns
returns c =
    let le = rw (c.deref-name-items.ensures.value ∙ ap (λ v. v.items) c.deref.ensures) at c.loop-at-test.false in
    row_whole c.args.found.now c.args.part.now.ty c.args.part.now.base (bound_names c.args.part.now) c.loop-at.at c.loop-at.bound.items le c.loop-at.invariant.row c.loop-at.invariant.bound
