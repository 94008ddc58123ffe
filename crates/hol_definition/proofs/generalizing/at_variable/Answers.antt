use Rattle.std.proofs.Common.{[], ap, sym, ◌∙◌, subst}
use Rattle.std.proofs.lemmas.Result.{IfOk-weaker}
use Rattle.hol_terms.specs.Nameless.{Nameless, nameless}
use Rattle.hol_kernel.specs.Theorem.{theorem_on}
use Rattle.hol_kernel.specs.Typing.{HasType}
use Rattle.hol_derived.specs.Applied.{unfolded}
use Rattle.hol_definition.proofs.generalizing.at_variable.Goals as goal

pub unfold-requires-clause-typed : goal.unfold-requires-clause-typed
unfold-requires-clause-typed c = subst (λ (t : Nameless). HasType c.args.a.now.basis t c.args.domain.now) (sym (ap (nameless []) c.in_ok-x.ensures)) c.requires.typed

pub returns : goal.returns
returns c = IfOk-weaker c.unfold.result _ _ (λ th e. e ∙ ap (λ (t : Nameless). theorem_on c.args.a.now.basis (unfolded t c.args.a.now.sequent)) (ap (nameless []) c.in_ok-x.ensures)) c.unfold.ensures
