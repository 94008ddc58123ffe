-- What the code's forms stand for.
use Rattle.hol_resolve.specs.declared.written.WrittenArgs.{WrittenArgs}
use Rattle.hol_resolve.specs.declared.written.WrittenArgs.TheVariants as code
use Rattle.hol_resolve.specs.Forms.{WrittenArgsValue, Nothing, Term, Pair, Theorem, TermAndTheorem, Theorems}

abbrev pub written_value : WrittenArgs → WrittenArgsValue
written_value code.Nothing = Nothing
written_value (code.Term t) = Term t.now
written_value (code.Pair s t) = Pair s.now t.now
written_value (code.Theorem th) = Theorem th.now
written_value (code.TermAndTheorem t th) = TermAndTheorem t.now th.now
written_value (code.Theorems ths) = Theorems ths.now
