use Rattle.std.proofs.Common.{sym, ◌∙◌}
use mathlib.Core.Bool.{true≢false}
use Rattle.hol_kernel.proofs.Clashes.{same_no_clash, other_clash}
use Rattle.hol_kernel.proofs.join.clash_of.Goals as goal

pub returns-then-same : goal.returns-then-same
returns-then-same c = same_no_clash c.args.x.now c.args.y.now c.in_ok-name.name.now c.in_ok-name.ensures (c.same.ensures.0 c.if-same.true)

pub returns : goal.returns
returns c = other_clash c.args.x.now c.args.y.now c.in_ok-name.name.now c.in_ok-name.ensures (λ e. true≢false (sym (c.same.ensures.1 e) ∙ c.if-same.false))
