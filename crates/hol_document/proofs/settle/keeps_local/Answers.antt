use Rattle.std.proofs.Common.{refl}
use Rattle.hol_exec.specs.CommandView.{local_text}
use Rattle.hol_exec.proofs.Unique.{one_text}
use Rattle.hol_document.proofs.Settled.{counts_read, row_untold}
use Rattle.hol_document.proofs.settle.keeps_local.Goals as goal

pub returns-then-reads_again-clause-yes : goal.returns-then-reads_again-clause-yes
returns-then-reads_again-clause-yes c = λ yes setup before earlier s alike is.
    c.if-reads_again.ensures.yes refl setup before earlier s alike (c.tests_again.ensures.yes yes setup before s (local_text c.args.command.now) c.requires.value alike is) is

pub returns-then-reads_again-clause-no : goal.returns-then-reads_again-clause-no
returns-then-reads_again-clause-no c = λ no setup earlier row is.
    row_untold setup earlier c.args.state.now c.args.slot.now.text (local_text c.args.command.now) c.args.slot.now.row row (one_text c.args.slot.now.text row.value c.args.slot.now.row.value is.parsed c.requires.parsed) c.requires.value
    (c.tests_again.ensures.no no) is

pub returns-else-reads_again-clause-no : goal.returns-else-reads_again-clause-no
returns-else-reads_again-clause-no c = λ no setup earlier row is.
    counts_read setup earlier c.args.state.now c.args.slot.now.text c.args.slot.now.row row (one_text c.args.slot.now.text row.value c.args.slot.now.row.value is.parsed c.requires.parsed) (c.if-reads_again.ensures.no refl) is
