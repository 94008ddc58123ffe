use Rattle.std.proofs.Common.{◌≡◌, [], ℕ, List, length, ◌==◌, ap, ◌∙◌, rules}
use Rattle.hol_types.specs.Tree.{TypeTree}
use Rattle.hol_terms.specs.Nameless.{nameless, free_occurrences}
use Rattle.hol_subst.proofs.ClosedTerm.{none_free}
use Rattle.hol_subst.proofs.closed.is_closed.Goals as goal

pub returns : goal.returns
returns c =
    let empty : c.is_empty.result ≡ (length c.in_ok-variables.variables.items == 0) = search rules in
    empty ∙ ap (λ (vs : List (List ℕ × TypeTree)). length vs == 0) c.in_ok-variables.ensures ∙ none_free (free_occurrences (nameless [] c.args.term.now))
