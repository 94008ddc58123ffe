use Rattle.std.proofs.Common.{◌≡◌, ◌++◌, ◌-◌, List, take, drop, length, ap, sym, ◌∙◌, append_assoc}
use Rattle.std.proofs.lemmas.List.{take_rest}
use Rattle.hol_terms.specs.Named.{Named}
use Rattle.hol_subst.proofs.HypothesisLists.{hyp_cmp}
use Rattle.hol_subst.proofs.Merging.{merge, merge_rest_first, merge_rest_second}
use Rattle.hol_subst.proofs.hypotheses.merged.Goals as goal
use Rattle.hol_subst.proofs.hypotheses.merged.Goals.{then-loop-i-test+else-j-second, else-loop-i-test}

pub returns : goal.returns
returns c =
    let xs : List Named = c.args.first.now in
    let ys : List Named = c.args.second.now in
    let us : List Named = drop c.loop-i.i xs in
    let vs : List Named = drop c.loop-i.j ys in
    let rest : merge hyp_cmp us vs ≡ us ++ vs =
    elim c.loop-i-test.branch [
      | then-loop-i-test+else-j-second w ↦ merge_rest_first hyp_cmp xs ys c.loop-i.i c.loop-i.j w.if-j-second.false
      | else-loop-i-test w ↦ merge_rest_second hyp_cmp xs ys c.loop-i.i c.loop-i.j w.loop-i-test.false
    ] in
    let first : c.add_copies.new.to.items ≡ c.loop-i.all.items ++ take (length xs - c.loop-i.i) us = c.in_ok-add_copies.ensures in
    let second : c.add_copies-2.new.to.items ≡ c.add_copies.new.to.items ++ take (length ys - c.loop-i.j) vs = c.in_ok-add_copies-2.ensures in
    second
    ∙ (λ k. (first ∙ ap (λ (zs : List Named). c.loop-i.all.items ++ zs) (take_rest xs c.loop-i.i)) k ++ take_rest ys c.loop-i.j k)
    ∙ append_assoc c.loop-i.all.items us vs
    ∙ sym (c.loop-i.invariant.left ∙ ap (λ (zs : List Named). c.loop-i.all.items ++ zs) rest)
