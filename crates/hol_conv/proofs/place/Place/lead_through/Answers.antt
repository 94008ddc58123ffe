use Rattle.std.proofs.Common.{rules, ◌≡◌, [], ◌∷◌, ◌++◌, length, reverse, refl, ap, ◌∙◌, arith}
use Rattle.std.proofs.lemmas.List.{length-append, length-reverse, reverse-append}
use Rattle.hol_conv.specs.Kept.{node_of, steps_of, outward}
use Rattle.hol_conv.proofs.PlaceTraces.{going_begins, going_further, going_ends, so_many_steps}
use Rattle.hol_conv.proofs.place.Place.lead_through.Goals as goal

pub steps-init : goal.steps-init
steps-init c = record {
  frames = refl;
  part = refl;
  led = λ r t n none l. going_begins r (reverse c.args.steps.items) (steps_of (reverse c.args.self.now.frames.items)) (reverse c.args.self.now.before.items) (reverse c.args.self.now.functions.items) (node_of c.args.self.now.node) t n none l;
}

-- out by one step more
pub steps-preserved : goal.steps-preserved
steps-preserved c =
    let xs = c.pop.new.self.items in
    let s = c.in-Some.step in
    let ss = steps_of (reverse c.args.self.now.frames.items) in
    let is : c.steps.steps.items ≡ xs ++ s ∷ [] = search rules in
    let back : reverse c.steps.steps.items ≡ s ∷ reverse xs = ap reverse is ∙ reverse-append xs (s ∷ []) in
    let many = so_many_steps c.args.self.now.frames.items in
    let own = ap length c.steps.invariant.frames in
    let both = length-append (reverse xs) ss in
    let turned = length-reverse xs in
    record {
      frames = c.in_ok-lead_out.ensures.frames ∙ c.steps.invariant.frames;
      part = c.in_ok-lead_out.ensures.part ∙ c.steps.invariant.part;
      led = λ r t n none l. going_further r (reverse c.steps.steps.items) (reverse xs) ss s (reverse c.steps.self.before.items) (reverse c.steps.self.functions.items) (reverse c.lead_out.new.self.before.items) (reverse c.lead_out.new.self.functions.items) (node_of c.steps.self.node) (node_of c.lead_out.new.self.node) t (outward (reverse c.args.steps.items) n) back
          (λ m free led. c.in_ok-lead_out.ensures.led r (reverse xs ++ ss) t m (omega (arith, many, own, both, turned)) free led) (c.steps.invariant.led r t n none l);
    }

pub returns-clause-led : goal.returns-clause-led
returns-clause-led c = λ r t n none l.
    let empty : c.steps.steps.items ≡ [] = search rules in
    going_ends r (reverse c.steps.steps.items) (steps_of (reverse c.args.self.now.frames.items)) (reverse c.steps.self.before.items) (reverse c.steps.self.functions.items) (node_of c.steps.self.node) t (outward (reverse c.args.steps.items) n) (ap reverse empty) (c.steps.invariant.led r t n none l)
