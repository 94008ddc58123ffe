use Rattle.std.proofs.lemmas.Result.{IfOk-weaker}
use Rattle.hol_resolve.specs.ReadingView.{readings_value}
use Rattle.hol_resolve.specs.FormsView.{written_value}
use Rattle.hol_resolve.proofs.Suiting.{forms_suit}
use Rattle.hol_resolve.proofs.arguments.arguments_given.Goals as goal

pub returns-clause-suits : goal.returns-clause-suits
returns-clause-suits c =
    IfOk-weaker c.of_form.result _ _ (λ r e. forms_suit c.args.basis.now (readings_value c.args.readings.now) c.requires.over c.args.cited.now (written_value c.args.written) r e) c.of_form.ensures
