use Rattle.std.proofs.Common.{List, sym, ◌∙◌, subst}
use Rattle.hol_kernel.specs.Item.{Item}
use Rattle.hol_kernel.specs.Items.{Items, IsSubset}
use Rattle.hol_kernel.proofs.Clashes.{none_between, some_between, agree_sets, clash_sets}
use Rattle.hol_kernel.proofs.Subsets.{subset_left, subset_right}
use Rattle.hol_kernel.proofs.basis.Basis.join.Goals as goal

pub returns-in-Some-clause-joins : goal.returns-in-Some-clause-joins
returns-in-Some-clause-joins c =
    let xs : List Item = c.items.result.now in
    let ys : List Item = c.items-2.result.now in
    let found = clash_sets c.args.a.now c.args.b.now xs ys c.in-Some.name.now c.items.ensures.set c.items-2.ensures.set (some_between xs ys c.in-Some.name.now c.in-Some.ensures) in
    (found.0, found.1 ∙ sym c.in_ok-copy.ensures, found.2)

pub union-requires : goal.union-requires
union-requires c =
    let xs : List Item = c.items.result.now in
    let ys : List Item = c.items-2.result.now in
    agree_sets c.args.a.now c.args.b.now xs ys c.items.ensures.set c.items-2.ensures.set (none_between xs ys c.in_default.ensures)

pub returns-clause-joins : goal.returns-clause-joins
returns-clause-joins c =
    let xs : List Item = c.items.result.now in
    let ys : List Item = c.items-2.result.now in
    (c.in_ok-union.ensures, agree_sets c.args.a.now c.args.b.now xs ys c.items.ensures.set c.items-2.ensures.set (none_between xs ys c.in_default.ensures))

pub returns-clause-first : goal.returns-clause-first
returns-clause-first c = subst (λ (u : Items). IsSubset c.args.a.now u) (sym c.in_ok-union.ensures) (subset_left c.args.a.now c.args.b.now)

pub returns-clause-second : goal.returns-clause-second
returns-clause-second c = subst (λ (u : Items). IsSubset c.args.b.now u) (sym c.in_ok-union.ensures) (subset_right c.args.a.now c.args.b.now)
