use Rattle.std.proofs.Common.{rules, ◌≡◌, true}
use Rattle.hol_types.specs.Equal.{variable_eq}
use Rattle.hol_terms.specs.Named.{abs}
use Rattle.hol_conv.proofs.Places.{very_abstraction}
use Rattle.hol_conv.proofs.frame.is_abstraction_of.Goals as goal

pub returns-then-same : goal.returns-then-same
returns-then-same c =
    let is : c.args.t.now ≡ abs c.in-Abs.w c.in-Abs.b = search rules in
    let decided : variable_eq c.in-Abs.w c.args.v.now ≡ true = search rules in
    λ h. very_abstraction c.args.v.now c.in-Abs.w c.in-Abs.b c.args.body.now c.args.t.now is decided (c.same_node.ensures h)
