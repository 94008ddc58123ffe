use Rattle.std.proofs.Common.{[], ap, sym, ◌∙◌, ℕ, List, subst, length, rules, ◌≡◌}
use Rattle.std.specs.Vec.{vec_len}
use Rattle.hol_terms.specs.Nameless.{nameless, fixed}
use Rattle.hol_kernel.specs.declared.error.Rule.TheVariants as rule
use Rattle.hol_kernel.specs.Extends.{IsDefine}
use Rattle.hol_kernel.specs.Theorem.{Theorem}
use Rattle.hol_exec.proofs.MadeKeys.{definition_keys, with_theorem_entries, quantified_entry, makes_defined}
use Rattle.hol_exec.proofs.NewNames.{only_memory}
use Rattle.hol_exec.proofs.declaring.made.defined.Goals as goal

pub for_all-requires : goal.for_all-requires
for_all-requires c = let d = c.in-Ok.ensures.made.defined in (d.of_type, (fixed c.in_ok-constant.constant d.of_type, (nameless [] c.args.right.now, ap (λ (t : Theorem). t.sequent) d.gives)))

pub makes-requires-clause-entries : goal.makes-requires-clause-entries
makes-requires-clause-entries c =
    let d = c.in-Ok.ensures.made.defined in
    with_theorem_entries c.in-Ok.entries.items c.push.new.self.items c.in_ok-key-in-Ok.key c.in_ok-value-in-Ok.value c.args.name.now c.in_ok-theorem-in-Ok.theorem c.in-Ok.ensures.entries
    (quantified_entry c.args.name.now _ _ c.in_ok-theorem-in-Ok.theorem c.promise.ensures (c.in_ok-theorem-in-Ok.ensures d.of_type _ _ (ap (λ (t : Theorem). t.sequent) d.gives))) c.in_ok-key-in-Ok.ensures c.in_ok-value-in-Ok.ensures c.in_ok-push-in-Ok.ensures.items

pub makes-requires-clause-keys : goal.makes-requires-clause-keys
makes-requires-clause-keys c =
    definition_keys c.in_ok-constant.constant c.args.name.now (nameless [] c.args.right.now) _ c.in_ok-theorem-in-Ok.theorem c.in-Ok.entries.items c.push.new.self.items c.in_ok-key-in-Ok.key c.in_ok-value-in-Ok.value
    c.in-Ok.ensures.made.entries_are c.in_ok-key-in-Ok.ensures c.in_ok-value-in-Ok.ensures c.in_ok-push-in-Ok.ensures.items

pub returns-in-Ok : goal.returns-in-Ok
returns-in-Ok c =
    let d = c.in-Ok.ensures.made.defined in
    makes_defined c.args.basis.now c.args.name.now c.in_ok-constant.constant c.args.definition.now (nameless [] c.args.right.now) c.in-Ok.entries.items c.push.new.self.items c.in-Ok.definition_theorem c.in_ok-theorem-in-Ok.theorem c.len.result
    c.in_ok-key-in-Ok.key c.in_ok-value-in-Ok.value c.makes.result (c.in_ok-constant.ensures ∙ c.as_str.ensures.value ∙ ap (λ d. d.name) c.definition.view_is) (let e : vec_len c.definition.inside.parameters ≡ length c.definition.inside.parameters.items = search rules in c.len.ensures ∙ e ∙ ap (λ d. length d.parameters) c.definition.view_is) c.in-Ok.ensures.made
    (c.in_ok-theorem-in-Ok.ensures d.of_type _ _ (ap (λ (t : Theorem). t.sequent) d.gives)) c.in_ok-key-in-Ok.ensures c.in_ok-value-in-Ok.ensures c.in_ok-push-in-Ok.ensures.items c.makes.ensures

pub memory_alone-requires : goal.memory_alone-requires
memory_alone-requires c =
    only_memory rule.Define _ c.in-Err.error c.in-Err.ensures.refused
    (λ refused. refused (c.requires.0, c.requires.1.0)
    (subst (λ (n : List ℕ). IsDefine c.args.basis.now n (nameless [] c.args.right.now) c.requires.0 c.requires.1.0) (ap (λ d. d.name) (sym c.definition.view_is) ∙ sym (c.in_ok-constant.ensures ∙ c.as_str.ensures.value)) c.requires.1.1))
