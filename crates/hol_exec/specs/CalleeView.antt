-- What the code's calls stand for.
use Rattle.std.specs.Prelude.{Option, Some, None}
use Rattle.hol_exec.specs.declared.resolving.callee.Callee.{Callee}
use Rattle.hol_exec.specs.declared.resolving.callee.Callee.TheVariants as calls
use Rattle.hol_resolve.specs.declared.written.WrittenArgs.{WrittenArgs}
use Rattle.hol_resolve.specs.Forms.{WrittenArgsValue}
use Rattle.hol_resolve.specs.FormsView.{written_value}
use Rattle.hol_exec.specs.Callee.{CalleeValue, Registered, Defined}

abbrev pub callee_value : Callee → CalleeValue
callee_value (calls.Registered tac) = Registered tac.index tac.code
callee_value (calls.Defined e bases) = Defined e.now bases.now

abbrev pub callee_option : Option Callee → Option CalleeValue
callee_option None = None
callee_option (Some c) = Some (callee_value c)

abbrev pub called_with : Callee × WrittenArgs → CalleeValue × WrittenArgsValue
called_with c = (callee_value c.0, written_value c.1)
