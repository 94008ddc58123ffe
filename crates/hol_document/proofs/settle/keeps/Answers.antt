use Rattle.std.proofs.Common.{◌≡◌, rules}
use Rattle.hol_exec.specs.CommandText.{Direct}
use Rattle.hol_exec.specs.CommandView.{direct_text}
use Rattle.hol_exec.specs.Reading as read
use Rattle.hol_exec.specs.Reading.{IsRead}
use Rattle.hol_exec.proofs.Unique.{one_text}
use Rattle.hol_document.proofs.Settled.{counts_direct}
use Rattle.hol_document.proofs.settle.keeps.Goals as goal

pub returns-in-Direct-clause-no : goal.returns-in-Direct-clause-no
returns-in-Direct-clause-no c = λ again setup earlier row is.
    let value : c.args.slot.now.row.value ≡ read.Reads (Direct (direct_text c.in-Direct.command)) = search rules in
    let parsed : IsRead c.args.slot.now.text c.args.slot.now.row.value = search rules in
    counts_direct setup earlier c.args.state.now c.args.slot.now.text (direct_text c.in-Direct.command) c.args.slot.now.row row (one_text c.args.slot.now.text row.value c.args.slot.now.row.value is.parsed parsed) value is
