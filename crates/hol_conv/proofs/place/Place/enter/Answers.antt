use Rattle.std.proofs.Common.{rules, ◌≡◌, [], reverse, sym, subst}
use Rattle.hol_terms.specs.Named.{Named, abs}
use Rattle.hol_terms.specs.Nameless.{nameless}
use Rattle.hol_conv.specs.Redexes.{IsOutside}
use Rattle.hol_conv.specs.Places.{Lands}
use Rattle.hol_conv.proofs.PlaceTraces.{led_into_body}
use Rattle.hol_conv.proofs.Places.{in_body}
use Rattle.hol_conv.proofs.place.Place.enter.Goals as goal

-- into the body
pub returns-in_ok-step_in-in-Abs-clause-lands : goal.returns-in_ok-step_in-in-Abs-clause-lands
returns-in_ok-step_in-in-Abs-clause-lands c =
    let r = c.args.redexes.now in
    let inside = c.in_ok-inside-in-Abs.inside in
    let entered = c.in_ok-step_in-in-Abs.ensures.frames in
    let is : c.args.self.now.part ≡ abs c.in-Abs.v c.in-Abs.b = search rules in
    let same : nameless [] (abs inside.variable inside.body) ≡ nameless [] (abs c.in-Abs.v c.in-Abs.b) = search rules in
    let out : IsOutside r inside.variable = search rules in
    subst (λ (z : Named). Lands r (reverse c.args.self.now.frames.items) (nameless [] c.args.self.now.part) (reverse c.step_in-in-Abs.new.self.frames.items) (nameless [] z)) (sym c.in_ok-step_in-in-Abs.ensures.part)
    (in_body r c.args.self.now.frames.items c.step_in-in-Abs.new.self.frames.items entered.frame c.args.self.now.part c.in-Abs.b inside.body c.in-Abs.v inside.variable entered.pushed entered.how entered.unseen is same out c.requires.none c.requires.stands)

pub returns-in_ok-step_in-in-Abs-clause-led : goal.returns-in_ok-step_in-in-Abs-clause-led
returns-in_ok-step_in-in-Abs-clause-led c =
    let inside = c.in_ok-inside-in-Abs.inside in
    let entered = c.in_ok-step_in-in-Abs.ensures in
    let is : c.args.self.now.part ≡ abs c.in-Abs.v c.in-Abs.b = search rules in
    let same : nameless [] (abs inside.variable inside.body) ≡ nameless [] (abs c.in-Abs.v c.in-Abs.b) = search rules in
    led_into_body c.args.redexes.now c.args.self.now c.step_in-in-Abs.new.self c.in-Abs.v inside.variable c.in-Abs.b inside.body entered.frames entered.part entered.node entered.before entered.functions is same
