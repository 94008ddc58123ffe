use Rattle.std.proofs.Common.{◌≡◌, List, ℕ, [], ◌∙◌, subst, length, rules}
use Rattle.hol_types.specs.Names.{type_names}
use Rattle.hol_typing.specs.Linear.{AreDistinctBut}
use Rattle.hol_typing.proofs.Linear.{none_twice, empty_of}
use Rattle.hol_typing.proofs.scheme.Scheme.count.Goals as goal

pub invariant_of-self : goal.invariant_of-self
invariant_of-self c =
    let no_length : length c.in_ok-names-in-Unknown.names.items ≡ 0 = search rules in
    let none : c.in_ok-names-in-Unknown.names.items ≡ [] = empty_of c.in_ok-names-in-Unknown.names.items no_length in (
      λ e. none_twice (type_names c.self.inside.ty) (subst (λ (but : List (List ℕ)). AreDistinctBut but (type_names c.self.inside.ty)) none (search rules)),
      c.self.invariant.1,
      c.in_ok-new-in-Unknown.ensures.ok ∙ (search rules),
    )
