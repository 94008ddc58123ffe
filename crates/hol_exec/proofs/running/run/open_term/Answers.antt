use Rattle.std.proofs.Common.{[], true, refl}
use Rattle.hol_terms.specs.Nameless.{nameless}
use Rattle.hol_exec.proofs.ReadOver.{statement_over}
use Rattle.hol_exec.proofs.running.run.open_term.Goals as goal

pub open_statement-requires : goal.open_statement-requires
open_statement-requires c =
    statement_over c.args.reads.now.cited c.args.reads.now.made c.args.place c.requires.0 (nameless [] c.args.term) true c.promise.ensures c.requires.1 refl c.if-not-is_statement.ensures
