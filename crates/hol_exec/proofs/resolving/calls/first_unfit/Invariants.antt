use Rattle.std.proofs.Common.{◌≡◌, drop}
use Rattle.std.specs.Prelude.{option_copied}
use Rattle.hol_exec.specs.SetupView.{setup_value}
use Rattle.hol_exec.specs.Expr.{first_unfit}
use Rattle.hol_exec.proofs.resolving.calls.first_unfit.Given as goal

abbrev pub invariant-loop-call : goal.invariant-loop-call
invariant-loop-call g l =
    first_unfit (setup_value l.setup) (option_copied l.own) l.calls l.reads.cited ≡ first_unfit (setup_value l.setup) (option_copied l.own) (drop l.call-index l.calls) l.reads.cited
