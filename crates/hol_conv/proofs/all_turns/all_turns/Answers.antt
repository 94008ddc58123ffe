use Rattle.std.proofs.Common.{rules, ◌≡◌, ◌-◌, ◌<◌, ◌≤◌, [], reverse, ap, sym, ◌∙◌, Some, None}
use Rattle.hol_terms.specs.Nameless.{nameless}
use Rattle.hol_terms.specs.Size.{term_size}
use Rattle.hol_conv.specs.Redexes.{contraction}
use Rattle.hol_conv.specs.Turns.{turn, all_turns, finished}
use Rattle.hol_conv.specs.Tracing.{Traces, redex_givens}
use Rattle.hol_conv.specs.Places.{whole}
use Rattle.hol_conv.proofs.AllTurns.{all_end, all_limit, all_large, all_more}
use Rattle.hol_conv.proofs.Places.{next_turn, no_next_turn}
use Rattle.hol_conv.proofs.all_turns.all_turns.Goals as goal

-- no redex is there
pub returns-in_default-clause-tells : goal.returns-in_default-clause-tells
returns-in_default-clause-tells c =
    let r = c.args.redexes.now in
    let fs = reverse c.turns.place.frames.items in
    let n = nameless [] c.turns.place.part in
    let m = nameless [] c.next.new.self.part in
    let top : c.next.new.self.frames.items ≡ [] = search rules in
    let none : turn (contraction r) [] m ≡ None = search rules in
    let end = no_next_turn r fs c.next.new.self.frames.items n m c.in_ok-redex.ensures.lands top none in
    c.turns.invariant.same ∙ all_end r c.turns.left (whole fs n) end.0 ∙ ap (λ z. finished z c.turns.left) end.1

-- no turn is left for the redex
pub returns-then-left-eq0-clause-tells : goal.returns-then-left-eq0-clause-tells
returns-then-left-eq0-clause-tells c =
    let r = c.args.redexes.now in
    let fs = reverse c.turns.place.frames.items in
    let gs = reverse c.next.new.self.frames.items in
    let n = nameless [] c.turns.place.part in
    let m = nameless [] c.next.new.self.part in
    let u = nameless [] c.in-Some.redex.term in
    let redex : contraction r [] m ≡ Some u = search rules in
    let zero : c.turns.left ≡ 0 = search rules in
    c.turns.invariant.same ∙ all_limit r c.turns.left (whole fs n) (whole gs u) (next_turn r fs gs n m u c.in_ok-redex.ensures.lands redex) zero

-- the turn made too large a term
pub returns-then-size_with-gt20000-clause-tells : goal.returns-then-size_with-gt20000-clause-tells
returns-then-size_with-gt20000-clause-tells c =
    let r = c.args.redexes.now in
    let fs = reverse c.turns.place.frames.items in
    let gs = reverse c.next.new.self.frames.items in
    let n = nameless [] c.turns.place.part in
    let m = nameless [] c.next.new.self.part in
    let u = nameless [] c.in-Some.redex.term in
    let redex : contraction r [] m ≡ Some u = search rules in
    let some : 0 < c.turns.left = search rules in
    let large : 20000 < term_size [] (whole gs u) = search rules in
    c.turns.invariant.same ∙ all_large r c.turns.left (whole fs n) (whole gs u) (next_turn r fs gs n m u c.in_ok-redex.ensures.lands redex) some large

-- one turn more
pub turns-preserved : goal.turns-preserved
turns-preserved c =
    let r = c.args.redexes.now in
    let fs = reverse c.turns.place.frames.items in
    let gs = reverse c.next.new.self.frames.items in
    let n = nameless [] c.turns.place.part in
    let m = nameless [] c.next.new.self.part in
    let u = nameless [] c.in-Some.redex.term in
    let redex : contraction r [] m ≡ Some u = search rules in
    let some : 0 < c.turns.left = search rules in
    let small : term_size [] (whole gs u) ≤ 20000 = search rules in
    let lands = c.in_ok-redex.ensures.lands in
    let whole_is = c.in_ok-put.ensures.lands.same in
    let part : Traces (redex_givens r) c.in-Some.redex.node.value m u = search rules in
    record {
      same = c.turns.invariant.same ∙ all_more r c.turns.left (whole fs n) (whole gs u) (next_turn r fs gs n m u lands redex) some small ∙ ap (all_turns (turn (contraction r) []) (c.turns.left - 1)) (sym whole_is);
      stands = c.in_ok-put.ensures.lands.stands;
      led = c.in_ok-put.ensures.led (nameless [] c.args.term.now) part (c.in_ok-redex.ensures.led (nameless [] c.args.term.now) c.turns.invariant.led);
    }
