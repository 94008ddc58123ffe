use Rattle.std.proofs.Common.{◌≡◌, true, List, [], ◌∷◌, ap, sym, ◌∙◌, subst, rules}
use Rattle.std.proofs.lemmas.Result.{IfOk-weaker}
use Rattle.std.specs.Set.{sorted_merge}
use Rattle.hol_kernel.specs.Item.{Item}
use Rattle.hol_kernel.specs.Items.{Items, IsSubset}
use Rattle.hol_kernel.specs.Clashing.{name_order}
use Rattle.hol_kernel.proofs.Subsets.{subset_insert}
use Rattle.hol_kernel.proofs.Clashes.{storable_insert, extended_set}
use Rattle.hol_kernel.proofs.basis.Basis.extended.Goals as goal

pub made-requires : goal.made-requires
made-requires c =
    let one : c.deref.result.now ≡ c.args.item ∷ [] = search rules in
    storable_insert c.args.self.now c.items.result.now c.in_ok-all.all.items c.args.item c.items.ensures.set c.items.ensures.legal c.items.ensures.ordered c.requires.new c.requires.sound
    (c.in_ok-all.ensures ∙ ap (λ (ys : List Item). sorted_merge name_order true c.items.result.now ys) one)

pub returns-clause-is : goal.returns-clause-is
returns-clause-is c =
    let one : c.deref.result.now ≡ c.args.item ∷ [] = search rules in
    let is =
    extended_set c.args.self.now c.items.result.now c.in_ok-all.all.items c.args.item c.items.ensures.set c.requires.new
    (c.in_ok-all.ensures ∙ ap (λ (ys : List Item). sorted_merge name_order true c.items.result.now ys) one)
    in
    IfOk-weaker c.made.result _ _ (λ basis e. e ∙ is) c.made.ensures

pub returns-clause-larger : goal.returns-clause-larger
returns-clause-larger c =
    let one : c.deref.result.now ≡ c.args.item ∷ [] = search rules in
    let is =
    extended_set c.args.self.now c.items.result.now c.in_ok-all.all.items c.args.item c.items.ensures.set c.requires.new
    (c.in_ok-all.ensures ∙ ap (λ (ys : List Item). sorted_merge name_order true c.items.result.now ys) one)
    in
    IfOk-weaker c.made.result _ _
    (λ basis e. subst (λ (u : Items). IsSubset c.args.self.now u) (sym (e ∙ is)) (subset_insert c.args.self.now c.args.item))
    c.made.ensures
