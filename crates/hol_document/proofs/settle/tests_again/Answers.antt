use Rattle.std.proofs.Common.{◌∙◌, sym, rules}
use Rattle.hol_document.proofs.Alike.{told_here}
use Rattle.hol_document.proofs.settle.tests_again.Goals as goal

-- The entries are the same, so that of the names that were tested the same are constants.
pub returns-then-has_same_entries-clause-yes : goal.returns-then-has_same_entries-clause-yes
returns-then-has_same_entries-clause-yes c = λ yes setup before s command is alike h.
    told_here setup before s c.args.state.now c.args.slot.now.text command c.args.slot.now.row is (alike.whole (sym c.has_same_entries.ensures ∙ c.if-has_same_entries.true)) h
