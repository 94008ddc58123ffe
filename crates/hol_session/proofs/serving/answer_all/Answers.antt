use Rattle.std.proofs.Common.{◌≡◌, ℕ, List, [], ◌∙◌, ap, subst}
use Rattle.std.specs.Prelude.{Some}
use Rattle.hol_session.specs.Machine.{Counted, counted, MayAnswer}
use Rattle.hol_session.specs.Session.{Finishes}
use Rattle.hol_session.proofs.WholeTexts.{whole_text}
use Rattle.hol_session.proofs.serving.answer_all.Goals as goal

pub returns : goal.returns
returns g c =
    let old : Counted = counted (g.D.Editable.value c.args.docs.now) (g.D.Editable.ran c.args.docs.now) in
    let new : Counted = counted (g.D.Editable.value c.run.new.docs) (g.D.Editable.ran c.run.new.docs) in
    let left : List ℕ = c.run.new.reader.inner.now in
    let bytes : List ℕ = c.run.new.writer.inner.items in
    let empty : c.new-writer.result.inner.items ≡ [] = ap (λ v. v.items) c.new-writer.ensures.inner ∙ c.new.ensures.items in
    whole_text MayAnswer old new c.args.text.now left bytes
    (subst (λ t. Finishes MayAnswer old new (Some t.now) (Some left) (Some []) (Some bytes)) c.new-reader.ensures.inner
    (subst (λ l. Finishes MayAnswer old new (Some c.new-reader.result.inner.now) (Some left) (Some l) (Some bytes)) empty c.in_ok-run.ensures.ok))
