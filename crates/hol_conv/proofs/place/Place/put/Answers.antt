use Rattle.std.proofs.Common.{[], reverse, ap, refl, sym, subst}
use Rattle.hol_terms.specs.Nameless.{nameless}
use Rattle.hol_conv.specs.Kept.{node_of, steps_of}
use Rattle.hol_conv.specs.Places.{Lands}
use Rattle.hol_conv.specs.Tracing.{IsAfter}
use Rattle.hol_conv.proofs.PlaceTraces.{led_at, led_put}
use Rattle.hol_conv.proofs.Rising.{walked_put}
use Rattle.hol_conv.proofs.Traces.{on_ok_all}
use Rattle.hol_conv.proofs.place.Place.put.Goals as goal

pub returns-clause-lands : goal.returns-clause-lands
returns-clause-lands c =
    let r = c.args.redexes.now in
    let fs = reverse c.args.self.now.frames.items in
    let n = nameless [] c.args.redex.term in
    on_ok_all c.lead_through.result _ _ _ _
    (λ frames part led. subst (λ z. Lands r fs n (reverse z) (nameless [] c.lead_through.new.self.part)) (sym frames) (subst (λ z. Lands r fs n (reverse c.put_part.new.self.frames.items) (nameless [] z)) (sym part) c.in_ok-put_part.ensures.lands))
    c.lead_through.ensures.frames c.lead_through.ensures.part c.lead_through.ensures.led

-- the trace goes on with the turn's, and is led to the term that was gone up to
pub returns-clause-led : goal.returns-clause-led
returns-clause-led c =
    let r = c.args.redexes.now in
    let p = c.args.self.now in
    let q = c.put_part.new.self in
    let z = c.lead_through.new.self in
    let m = nameless [] c.args.redex.term in
    let put = c.in_ok-put_part.ensures in
    on_ok_all c.lead_through.result _ _ _ _
    (λ frames part led t turn l.
    let ss = steps_of (reverse q.frames.items) in
    led_at r ss (steps_of (reverse z.frames.items)) (reverse z.before.items) (reverse z.before.items) (reverse z.functions.items) (reverse z.functions.items) (node_of z.node) (node_of z.node) t (nameless [] q.part) (nameless [] z.part)
    (ap (λ fs. steps_of (reverse fs)) (sym frames)) refl refl refl (ap (nameless []) (sym part))
    (led_put r p.frames.items q.frames.items (reverse c.put_part.new.steps.items) (reverse q.before.items) (reverse q.functions.items) (reverse z.before.items) (reverse z.functions.items) (node_of p.node) c.args.redex.node.value (node_of q.node) (node_of z.node) t (nameless [] p.part) m (nameless [] q.part)
    (walked_put r (reverse p.frames.items) p.part c.args.redex.term c.requires.typed c.requires.stands) (subst (λ x. IsAfter (node_of p.node) c.args.redex.node.value (node_of x)) (sym put.node) (subst (λ x. IsAfter (node_of x) c.args.redex.node.value (node_of c.in_ok-self.field-0)) c.take.ensures.value c.in_ok-self.ensures)) turn put.leaves (led r t m)
    (led_at r (steps_of (reverse p.frames.items)) (steps_of (reverse p.frames.items)) (reverse p.before.items) (reverse q.before.items) (reverse p.functions.items) (reverse q.functions.items) (node_of p.node) (node_of p.node) t (nameless [] p.part) (nameless [] p.part) refl (ap reverse (sym put.before)) (ap reverse (sym put.functions)) refl refl l)))
    c.lead_through.ensures.frames c.lead_through.ensures.part c.lead_through.ensures.led
