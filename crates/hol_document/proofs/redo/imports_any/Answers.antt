-- What the slot's text reads as, and what a command that is answered from the state imports.
use Rattle.std.proofs.Common.{rules, ◌≡◌, sym, subst}
use Rattle.hol_exec.specs.CommandText.{Direct}
use Rattle.hol_exec.specs.CommandView.{direct_text}
use Rattle.hol_exec.specs.Reading.{Reads}
use Rattle.hol_document.specs.Alike.{ImportsAlike}
use Rattle.hol_document.proofs.redo.imports_any.Goals as goal

pub returns-in-Direct : goal.returns-in-Direct
returns-in-Direct c = λ no before earlier alike.
    let value : c.args.slot.now.row.value ≡ Reads (Direct (direct_text c.in-Direct.command)) = search rules in
    subst (ImportsAlike before earlier) (sym value) (c.direct_imports_any.ensures no before earlier alike)
