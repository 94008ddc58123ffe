use Rattle.std.proofs.Common.{rules, ◌≡◌, [], ◌∷◌, ◌++◌, reverse, ◌∙◌, refl, ap, sym, subst, None}
use Rattle.hol_terms.specs.Named.{Named, comb, abs, named_type}
use Rattle.hol_terms.specs.Nameless.{nameless}
use Rattle.hol_conv.specs.declared.frame.Step.TheVariants.{Function, Argument, Body}
use Rattle.hol_conv.specs.Kept.{node_of, steps_of}
use Rattle.hol_conv.specs.Places.{around, FitsIn, waiting}
use Rattle.hol_conv.proofs.Places.{around_argument, around_body, fits_argument, fits_innermost, goes_out, less_in_argument, not_function, not_function_body}
use Rattle.hol_conv.proofs.PlaceTraces.{led_at, led_left_by, led_right_by}
use Rattle.hol_conv.proofs.place.Place.leave.Goals as goal

-- the argument no longer waits
pub returns-in-Function-clause-on : goal.returns-in-Function-clause-on
returns-in-Function-clause-on c =
    let fs = c.frames.self.frames.items in
    let gs = c.pop.new.self.items in
    let f = c.in-Some.frame in
    let x = c.in-Function.argument in
    let moved = c.in_ok-move_on-in-Function.ensures in
    let popped : fs ≡ gs ++ f ∷ [] = search rules in
    let pushed : c.move_on.new.self.frames.items ≡ gs ++ moved.frames.frame ∷ [] = moved.frames.pushed ∙ ap (λ z. z ++ moved.frames.frame ∷ []) c.in_ok-lead_on.ensures.frames in
    let how : moved.frames.frame.step ≡ Argument c.lead_on.new.self.part = moved.frames.how in
    λ h. less_in_argument fs gs c.move_on.new.self.frames.items f moved.frames.frame c.lead_on.new.self.part c.move_on.new.self.part (waiting (reverse c.args.self.now.frames.items)) popped pushed (c.in-Function.is ∙ ap Function (sym moved.part)) how c.frames.invariant.waiting c.args.self.now.part

-- the function's trace is kept beside the argument
pub returns-in-Function-clause-led : goal.returns-in-Function-clause-led
returns-in-Function-clause-led c =
    let r = c.args.redexes.now in
    let fs = c.frames.self.frames.items in
    let gs = c.pop.new.self.items in
    let hs = c.move_on.new.self.frames.items in
    let f = c.in-Some.frame in
    let t0 = c.frames.self.part in
    let moved = c.in_ok-move_on-in-Function.ensures in
    let k = moved.frames.frame in
    let popped : fs ≡ gs ++ f ∷ [] = search rules in
    let pushed : hs ≡ gs ++ k ∷ [] = moved.frames.pushed ∙ ap (λ z. z ++ k ∷ []) c.in_ok-lead_on.ensures.frames in
    let how : k.step ≡ Argument t0 = moved.frames.how ∙ ap Argument c.in_ok-lead_on.ensures.part in
    let cs = reverse c.lead_on.new.self.before.items in
    let ds = reverse c.lead_on.new.self.functions.items in
    let b = node_of c.lead_on.new.self.node in
    λ t h. led_at r (steps_of (reverse hs)) (steps_of (reverse hs)) cs (reverse c.move_on.new.self.before.items) ds (reverse c.move_on.new.self.functions.items) b (node_of c.move_on.new.self.node) t (nameless [] c.in-Function.argument) (nameless [] c.move_on.new.self.part)
    refl (sym (ap reverse moved.before)) (sym (ap reverse moved.functions)) (sym (ap node_of moved.node)) (sym (ap (nameless []) moved.part))
    (led_right_by r fs gs hs f k t t0 c.in-Function.argument (reverse c.frames.self.before.items) (reverse c.frames.self.functions.items) cs ds (node_of c.frames.self.node) b popped pushed c.frames.invariant.lands.stands.walked c.in-Function.is how
    (c.in_ok-lead_on.ensures.led r t (nameless [] t0)) (c.frames.invariant.led t h))

pub out_of_argument-requires : goal.out_of_argument-requires
out_of_argument-requires c =
    let fs = c.frames.self.frames.items in
    let gs = c.pop.new.self.items in
    let f = c.in-Some.frame in
    let popped : fs ≡ gs ++ f ∷ [] = search rules in
    let fits : FitsIn f.step (nameless [] c.frames.self.part) = fits_innermost c.args.redexes.now fs gs f (nameless [] c.frames.self.part) popped c.frames.invariant.lands.stands in
    subst (λ (z : Named). named_type (comb c.in-Argument.f z) ≡ None → ⊥) (sym c.in_ok-lead_on.ensures.part) (fits_argument f.step c.in-Argument.f c.frames.self.part c.in-Argument.is fits)

-- the term around has no redex either
pub frames-preserved-in-Argument : goal.frames-preserved-in-Argument
frames-preserved-in-Argument c =
    let r = c.args.redexes.now in
    let fs = c.frames.self.frames.items in
    let gs = c.pop.new.self.items in
    let hs = c.out_of_argument.new.self.frames.items in
    let f = c.in-Some.frame in
    let t0 = c.frames.self.part in
    let u = c.out_of_argument.new.self.part in
    let moved = c.in_ok-out_of_argument-in-Argument.ensures in
    let popped : fs ≡ gs ++ f ∷ [] = search rules in
    let kept : hs ≡ gs = moved.frames ∙ c.in_ok-lead_on.ensures.frames in
    let is : fs ≡ hs ++ f ∷ [] = popped ∙ ap (λ z. z ++ f ∷ []) (sym kept) in
    let at : nameless [] u ≡ around f.step (nameless [] t0) = around_argument f.step c.in-Argument.f t0 u c.in-Argument.is (moved.part ∙ ap (comb c.in-Argument.f) c.in_ok-lead_on.ensures.part) in
    let other = not_function f.step c.in-Argument.f c.in-Argument.is in
    let gone = goes_out r (reverse c.args.self.now.frames.items) fs hs f (nameless [] c.args.self.now.part) (nameless [] t0) (nameless [] u) is at other c.frames.invariant.lands c.frames.invariant.none in
    let cs = reverse c.lead_on.new.self.before.items in
    let ds = reverse c.lead_on.new.self.functions.items in
    let b = node_of c.lead_on.new.self.node in
    record {
      lands = gone.0;
      led = λ t h. led_at r (steps_of (reverse gs)) (steps_of (reverse hs)) cs (reverse c.out_of_argument.new.self.before.items) ds (reverse c.out_of_argument.new.self.functions.items) b (node_of c.out_of_argument.new.self.node) t (nameless [] u) (nameless [] u)
          (ap (λ z. steps_of (reverse z)) (sym kept)) (sym (ap reverse moved.before)) (sym (ap reverse moved.functions)) (sym (ap node_of moved.node)) refl
          (led_left_by r fs gs f t (nameless [] t0) (nameless [] u) (reverse c.frames.self.before.items) (reverse c.frames.self.functions.items) cs ds (node_of c.frames.self.node) b popped c.frames.invariant.lands.stands.walked other at
          (c.in_ok-lead_on.ensures.led r t (nameless [] t0)) (c.frames.invariant.led t h));
      none = gone.1;
      waiting = gone.2 ∙ c.frames.invariant.waiting;
    }

pub frames-preserved : goal.frames-preserved
frames-preserved c =
    let r = c.args.redexes.now in
    let fs = c.frames.self.frames.items in
    let gs = c.pop.new.self.items in
    let hs = c.out_of_body.new.self.frames.items in
    let f = c.in-Some.frame in
    let t0 = c.frames.self.part in
    let u = c.out_of_body.new.self.part in
    let moved = c.in_ok-out_of_body-in-Body.ensures in
    let popped : fs ≡ gs ++ f ∷ [] = search rules in
    let kept : hs ≡ gs = moved.frames ∙ c.in_ok-lead_on.ensures.frames in
    let is : fs ≡ hs ++ f ∷ [] = popped ∙ ap (λ z. z ++ f ∷ []) (sym kept) in
    let at : nameless [] u ≡ around f.step (nameless [] t0) = around_body f.step c.in-Body.v t0 u c.in-Body.is (moved.part ∙ ap (abs c.in-Body.v) c.in_ok-lead_on.ensures.part) in
    let other = not_function_body f.step c.in-Body.v c.in-Body.is in
    let gone = goes_out r (reverse c.args.self.now.frames.items) fs hs f (nameless [] c.args.self.now.part) (nameless [] t0) (nameless [] u) is at other c.frames.invariant.lands c.frames.invariant.none in
    let cs = reverse c.lead_on.new.self.before.items in
    let ds = reverse c.lead_on.new.self.functions.items in
    let b = node_of c.lead_on.new.self.node in
    record {
      lands = gone.0;
      led = λ t h. led_at r (steps_of (reverse gs)) (steps_of (reverse hs)) cs (reverse c.out_of_body.new.self.before.items) ds (reverse c.out_of_body.new.self.functions.items) b (node_of c.out_of_body.new.self.node) t (nameless [] u) (nameless [] u)
          (ap (λ z. steps_of (reverse z)) (sym kept)) (sym (ap reverse moved.before)) (sym (ap reverse moved.functions)) (sym (ap node_of moved.node)) refl
          (led_left_by r fs gs f t (nameless [] t0) (nameless [] u) (reverse c.frames.self.before.items) (reverse c.frames.self.functions.items) cs ds (node_of c.frames.self.node) b popped c.frames.invariant.lands.stands.walked other at
          (c.in_ok-lead_on.ensures.led r t (nameless [] t0)) (c.frames.invariant.led t h));
      none = gone.1;
      waiting = gone.2 ∙ c.frames.invariant.waiting;
    }
