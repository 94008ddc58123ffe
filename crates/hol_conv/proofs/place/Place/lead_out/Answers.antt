use Rattle.std.proofs.Common.{ap, subst, ◌∙◌, reverse}
use Rattle.hol_conv.specs.Kept.{node_of, kept_at, kept_outside, LeadsOut}
use Rattle.hol_conv.proofs.PlaceTraces.{led_out}
use Rattle.hol_conv.proofs.place.Place.lead_out.Goals as goal

-- the term around went on by how its parts did
pub returns-clause-led : goal.returns-clause-led
returns-clause-led c = λ r ss t n d none l.
    let bs = reverse c.args.self.now.before.items in
    let es = reverse c.args.self.now.functions.items in
    let e = node_of c.take-function.result in
    let w = node_of c.in_ok-turn.turn in
    led_out r c.args.step.now ss bs es (reverse c.take-2.new.kept.items) (reverse c.take-function.new.kept.items) (node_of c.args.self.now.node) e (node_of c.take-2.result) w (node_of c.in_ok-self.field-0) t n
    (c.take-function.ensures.node ∙ ap (λ z. kept_at z es) d) (c.take-2.ensures.node ∙ ap (λ z. kept_at z bs) d) (c.take-2.ensures.outside ∙ ap (λ z. kept_outside z bs) d) (c.take-function.ensures.outside ∙ ap (λ z. kept_outside z es) d)
    (subst (λ z. LeadsOut c.args.step.now e (node_of z) w) c.take.ensures.value c.in_ok-turn.ensures) c.in_ok-self.ensures none l
