use Rattle.std.proofs.Common.{◌≡◌, ◌∙◌, ◌++◌, ◌∷◌, [], None, ap}
use Rattle.hol_theory.specs.Entry.{Entries, entry_at}
use Rattle.hol_theory.proofs.Entries.{inserted_new}
use Rattle.hol_theory.proofs.layer.Layer.add.Goals as goal

pub returns-clause-ok : goal.returns-clause-ok
returns-clause-ok c =
    let none : entry_at c.args.key c.self.inside.entries.entries ≡ None = ap (λ (t : Entries). entry_at c.args.key t) c.self.view_is ∙ c.requires in
    c.in_ok-insert.ensures.entries ∙ (inserted_new c.self.inside.entries.entries c.args.key c.args.value none ∙ ap (λ (t : Entries). t ++ (c.args.key, c.args.value) ∷ []) c.self.view_is)
