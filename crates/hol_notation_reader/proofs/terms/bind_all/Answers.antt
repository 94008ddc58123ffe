use Rattle.std.proofs.Common.{◌≡◌, List, [], ◌∷◌, ◌++◌, ap, ◌∙◌, sym, rules}
use Rattle.hol_notation_terms.specs.Text.{VariableText}
use Rattle.hol_notation_reader.specs.Build.{bind_all}
use Rattle.hol_notation_reader.proofs.Lists.{bind_last}
use Rattle.hol_notation_reader.proofs.terms.bind_all.Goals as goal

pub loop-variable-preserved : goal.loop-variable-preserved
loop-variable-preserved c =
    let was : c.loop-variable.left.items ≡ c.pop.new.self.items ++ c.in-Some.variable ∷ [] = search rules in
    ap (bind_all c.args.binder c.pop.new.self.items) c.in_ok-term.ensures
    ∙ sym (bind_last c.args.binder c.pop.new.self.items c.in-Some.variable c.loop-variable.term)
    ∙ ap (λ (vs : List VariableText). bind_all c.args.binder vs c.loop-variable.term) (sym was)
    ∙ c.loop-variable.invariant
