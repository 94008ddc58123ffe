use Rattle.std.proofs.Common.{ap, ◌∙◌, [], ◌∷◌, ◌++◌}
use Rattle.std.proofs.lemmas.Result.{IfOk-weaker}
use Rattle.hol_theory.specs.Entry.{Entries, ATheorem}
use Rattle.hol_theory.specs.Key.{theorem_key}
use Rattle.hol_theory.proofs.Defining.{theorems_added}
use Rattle.hol_theory.proofs.making.definition_entries.Goals as goal

pub returns : goal.returns
returns c = λ x found.
    IfOk-weaker c.with_theorem-2.result _ _
    (λ more is. theorems_added _ _ _ _ _ (c.in_ok-entries-2.ensures ∙ ap (λ (es : Entries). es ++ (theorem_key c.args.names.now.abs_rep.now, ATheorem c.args.made.abs_rep) ∷ []) (c.in_ok-entries.ensures x found)) is)
    c.with_theorem-2.ensures
