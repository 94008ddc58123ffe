use Rattle.std.proofs.Common.{[], ◌++◌, ◌∙◌, ap, sym, subst, length}
use Rattle.hol_theory.specs.Constants.{constant_names}
use Rattle.hol_theory.specs.Entry.{Entries}
use Rattle.hol_theory.specs.Adding.{AreNew}
use Rattle.hol_theory.specs.Theory.{IsTheory}
use Rattle.hol_theory.proofs.Theories.{theory_without_entries}
use Rattle.hol_theory.proofs.env.Env.new.Goals as goal

pub invariant_of-result : goal.invariant_of-result
invariant_of-result c =
    let none = ap (λ (t : Entries). t ++ c.new-2.result) c.new.ensures ∙ c.new-2.ensures in
    (subst (AreNew []) (sym none) tt, subst IsTheory (sym none) theory_without_entries, ap length (sym none), c.none.ensures ∙ ap constant_names (sym none))
