use Rattle.std.proofs.Common.{◌≡◌, [], ◌∷◌, ◌++◌, rules}
use Rattle.hol_notation_reader.specs.View.{pieces_of}
use Rattle.hol_notation_reader.proofs.Values.{after_word, after_production, parts_there}
use Rattle.hol_notation_reader.proofs.fold.evaluate.Goals as goal

pub reduce-requires : goal.reduce-requires
reduce-requires c =
    let was : c.loop-step.left.items ≡ c.pop.new.self.items ++ c.in-Some.step ∷ [] = search rules in
    parts_there c.loop-step.left.items c.pop.new.self.items c.in-Some.step c.in-Choose.production (pieces_of c.loop-step.pieces.items) was c.in-Choose.is c.loop-step.invariant.fit

pub loop-step-preserved-in-Continue-1 : goal.loop-step-preserved-in-Continue-1
loop-step-preserved-in-Continue-1 c =
    let was : c.loop-step.left.items ≡ c.pop.new.self.items ++ c.in-Some.step ∷ [] = search rules in
    let next = after_word c.loop-step.left.items c.pop.new.self.items c.in-Some.step c.in-Take._class c.in-Take.word (pieces_of c.loop-step.pieces.items) (pieces_of c.push.new.pieces.items) _ was c.in-Take.is c.in_ok-push-in-Take.ensures
    (c.loop-step.invariant.value, c.loop-step.invariant.fit) in
    record { value = next.0; fit = next.1 }

pub loop-step-preserved : goal.loop-step-preserved
loop-step-preserved c =
    let was : c.loop-step.left.items ≡ c.pop.new.self.items ++ c.in-Some.step ∷ [] = search rules in
    let next = after_production c.loop-step.left.items c.pop.new.self.items c.in-Some.step c.in-Choose.production (pieces_of c.loop-step.pieces.items) (pieces_of c.reduce.new.pieces.items) _ was c.in-Choose.is c.in_ok-reduce-in-Choose.ensures
    (c.loop-step.invariant.value, c.loop-step.invariant.fit) in
    record { value = next.0; fit = next.1 }
