use Rattle.std.proofs.Common.{rules, ◌≡◌, length, reverse, ap, sym, ◌∙◌}
use Rattle.hol_conv.specs.Kept.{node_of, is_kept, steps_of}
use Rattle.hol_conv.proofs.PlaceTraces.{led_untraced, out_by, so_many_steps}
use Rattle.hol_conv.proofs.Traces.{on_ok}
use Rattle.hol_conv.proofs.place.Place.lead_on.Goals as goal

pub returns-in-Argument-clause-led : goal.returns-in-Argument-clause-led
returns-in-Argument-clause-led c =
    let fs = c.args.self.now.frames.items in
    let own : c.len-depth.result ≡ length fs = search rules in
    let depth : c.len-depth.result ≡ length (steps_of (reverse fs)) = own ∙ sym (so_many_steps fs) in
    on_ok c.lead_out.result _ _ (λ h r t n none l. out_by r c.args.step.now (steps_of (reverse fs)) (reverse c.lead_out.new.self.before.items) (reverse c.lead_out.new.self.functions.items) (node_of c.lead_out.new.self.node) t n (λ x k. absurd (cc (c.in-Argument.is, k))) (h r (steps_of (reverse fs)) t n depth none l)) c.lead_out.ensures.led

pub returns-in-Body-clause-led : goal.returns-in-Body-clause-led
returns-in-Body-clause-led c =
    let fs = c.args.self.now.frames.items in
    let own : c.len-depth.result ≡ length fs = search rules in
    let depth : c.len-depth.result ≡ length (steps_of (reverse fs)) = own ∙ sym (so_many_steps fs) in
    on_ok c.lead_out-in-Body.result _ _ (λ h r t n none l. out_by r c.args.step.now (steps_of (reverse fs)) (reverse c.lead_out-in-Body.new.self.before.items) (reverse c.lead_out-in-Body.new.self.functions.items) (node_of c.lead_out-in-Body.new.self.node) t n (λ x k. absurd (cc (c.in-Body.is, k))) (h r (steps_of (reverse fs)) t n depth none l)) c.lead_out-in-Body.ensures.led

pub returns-then-is_untraced-clause-led : goal.returns-then-is_untraced-clause-led
returns-then-is_untraced-clause-led c = λ r t n none l.
    let fs = c.args.self.now.frames.items in
    let own : c.len-depth.result ≡ length fs = search rules in
    let depth : c.len-depth.result ≡ length (steps_of (reverse fs)) = own ∙ sym (so_many_steps fs) in
    let bs = reverse c.args.self.now.before.items in
    let es = reverse c.args.self.now.functions.items in
    led_untraced r c.args.step.now (steps_of (reverse fs)) bs es (node_of c.args.self.now.node) t n (c.is_untraced.ensures.node c.if-is_untraced.true)
    (ap (λ d. is_kept d es) (sym depth) ∙ c.is_untraced.ensures.functions c.if-is_untraced.true) (ap (λ d. is_kept d bs) (sym depth) ∙ c.is_untraced.ensures.before c.if-is_untraced.true) none l
