use Rattle.std.proofs.Common.{◌≡◌, ◌∙◌, ◌-◌, ap, take, drop, map, length, List, arith}
use Rattle.std.proofs.lemmas.List.{length-drop, take_all}
use Rattle.hol_kernel.specs.Given.{proved}
use Rattle.hol_prelude.proofs.Names.{Entry, all_named}
use Rattle.hol_prelude.proofs.prelude.Prelude.new.Goals as goal

pub invariant_of-result : goal.invariant_of-result
invariant_of-result c =
    let all = all_named c.new-theorems.result.items c.add_given.new.theorems.items c.add_rewrites.new.theorems.items c.new-theorems.ensures.items c.in_ok-add_given.ensures c.in_ok-add_rewrites.ensures in
    let xs = c.deref.result.now in
    let rest : take (length xs - 15) (drop 15 xs) ≡ drop 15 xs = take_all (length xs - 15) (drop 15 xs) (omega (arith, length-drop 15 xs)) in
    (all, c.in_ok-basic.ensures ∙ ap (λ es. map proved (map (λ e. e.1) es)) rest ∙ ap (λ (es : List Entry). map proved (map (λ (e : Entry). e.1) (drop 15 es))) (c.deref.ensures.value ∙ all))
