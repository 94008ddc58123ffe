use Rattle.std.proofs.Common.{◌≡◌, ◌<◌, ◌∷◌, ◌∙◌, length, sym, arith}
use Rattle.hol_types.proofs.Steps.{next_of}
use Rattle.hol_match.proofs.Lookups.{equal_variables}
use Rattle.hol_match.proofs.fixed.are_same_variables.Goals as goal

-- the two at this place are one
pub loop-i-preserved : goal.loop-i-preserved
loop-i-preserved c = λ e.
    let i = c.loop-i.i in
    let v = c.index-variables-i.result in
    let w = c.index-others-i.result in
    let same : v ≡ w = equal_variables v w (sym c.same.ensures ∙ c.if-not-same.false) in
    let long : i < length c.args.others.now = omega (arith, c.loop-i-test.true, c.if-variables-others.false) in
    c.loop-i.invariant
    (next_of c.args.variables.now i v c.loop-i-test.true c.index-variables-i.is ∙ (λ k. same k ∷ e k) ∙ sym (next_of c.args.others.now i w long c.index-others-i.is))
