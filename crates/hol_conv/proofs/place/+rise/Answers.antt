use Rattle.std.proofs.Common.{rules, ◌≡◌, [], ◌∷◌, ◌++◌, length, ap, sym, ◌∙◌, reverse, subst, None, ◌&&◌, arith}
use Rattle.std.proofs.lemmas.List.{length-append}
use Rattle.hol_terms.specs.Nameless.{nameless}
use Rattle.hol_conv.specs.Redexes.{contraction, passes_over}
use Rattle.hol_conv.specs.Places.{around, is_marked, Lands, Took}
use Rattle.hol_conv.specs.Kept.{steps_of, Leaves}
use Rattle.hol_conv.proofs.PlaceTraces.{leaves_back}
use Rattle.hol_conv.proofs.Rising.{walked_out, took_out, lands_back}
use Rattle.hol_conv.proofs.place.+rise.Goals as goal

-- the term around, one frame further out
pub rise-requires : goal.rise-requires
rise-requires t c =
    let r = c.args.redexes.now in
    let fs = c.args.frames.now.items in
    let gs = c.pop.new.self.items in
    let f = c.in-Some.frame in
    let n = nameless [] c.args.part.now in
    let m = nameless [] c.in_ok-term.term in
    let is : fs ≡ gs ++ f ∷ [] = search rules in
    let term : m ≡ around f.step n = search rules in
    let longer = ap length is ∙ length-append gs (f ∷ []) in
    let left = c.one_less.ensures in (
      omega (arith, longer, c.decreases),
      (walked_out r fs gs f n m is term c.requires.walked, (subst (λ z. Took r z (reverse gs) m) (sym left) (took_out r c.args.left fs gs f n m is term c.requires.took), c.requires.steps)),
    )

-- the frame again, where the term around is no redex
pub returns-clause-lands : goal.returns-clause-lands
returns-clause-lands t c =
    let r = c.args.redexes.now in
    let fs = c.args.frames.now.items in
    let gs = c.pop.new.self.items in
    let hs = c.rise.new.frames.items in
    let ks = c.come_back.new.frames.items in
    let f = c.in-Some.frame in
    let n = nameless [] c.args.part.now in
    let m = nameless [] c.in_ok-term.term in
    let is : fs ≡ gs ++ f ∷ [] = search rules in
    let term : m ≡ around f.step n = search rules in
    let back = c.in_ok-come_back.ensures in
    let seen : back.frame.is_passed_over ≡ (is_marked (reverse hs) && passes_over r m) = search rules in
    let none : contraction r [] m ≡ None = search rules in
    let stayed : Lands r (reverse gs) m (reverse hs) m = search rules in
    lands_back r fs gs hs ks f back.frame n m is back.pushed term back.how seen c.requires.walked none stayed

pub returns-clause-leaves : goal.returns-clause-leaves
returns-clause-leaves t c =
    let fs = c.args.frames.now.items in
    let gs = c.pop.new.self.items in
    let hs = c.rise.new.frames.items in
    let ks = c.come_back.new.frames.items in
    let f = c.in-Some.frame in
    let n = nameless [] c.args.part.now in
    let m = nameless [] c.in_ok-term.term in
    let is : fs ≡ gs ++ f ∷ [] = search rules in
    let back = c.in_ok-come_back.ensures in
    let stayed : Leaves [] (steps_of (reverse gs)) (steps_of (reverse hs)) m m = search rules in
    leaves_back fs gs hs ks f back.frame n m is back.pushed back.how stayed
