use Rattle.std.proofs.Common.{sym}
use Rattle.hol_exec.proofs.Rows.{row_found}
use Rattle.hol_exec.proofs.running.setup.Setup.find.Goals as goal

pub returns : goal.returns
returns g c = row_found c.args.name.now _ _ _ (sym c.in_ok-index.ensures.index) c.code-code.ensures
