use Rattle.std.proofs.Common.{◌≡◌, ◌++◌, ◌∷◌, [], ap, ◌∙◌, refl, Some, rules}
use Rattle.hol_terms.specs.Nameless.{nameless}
use Rattle.hol_match.specs.Instance.{instance_of}
use Rattle.hol_steps.proofs.KeptVariables.{terms_longer}
use Rattle.hol_steps.proofs.keeping.put_term.Goals as goal

pub add_term-requires : goal.add_term-requires
add_term-requires c = c.in_ok-term.ensures.typed ∙ ap Some c.requires

pub returns-clause-avoid : goal.returns-clause-avoid
returns-clause-avoid c =
    let push : c.push.new.self.items ≡ c.args.avoid.now.items ++ c.in_ok-term.term ∷ [] = search rules in
    terms_longer c.args.avoid.now.items c.push.new.self.items c.in_ok-term.term c.args.own.now c.args.own.now push c.in_ok-term.ensures.is refl

pub returns-clause-whole : goal.returns-clause-whole
returns-clause-whole c =
    let old = c.args.whole.now in
    c.in_ok-add_term.ensures ∙ (λ i. instance_of old.types (old.terms ++ (nameless [] (c.in_ok-term.ensures.is i), c.args.apart.now) ∷ []))
