use Rattle.std.specs.FinSet as set
use Rattle.hol_bool.proofs.DisjunctionRules.{choose_gives, existential_is, fresh}
use Rattle.hol_derived.specs.Applied.{chosen}
use Rattle.hol_bool.specs.Rules.{choose_left, choose_of}
use Rattle.hol_derived.proofs.Instances.{applies_by, over_basis}
use Rattle.hol_formulas.proofs.TypeTests.{same_type}
use Rattle.hol_formulas.specs.Formula.{Abstraction, dest_exists, existential}
use Rattle.hol_subst.specs.Variant.{is_free_in}
use Rattle.hol_terms.specs.Named.{Named, var}
use Rattle.hol_terms.specs.Nameless.{base_of, free_occurrences, lam, nameless}
use Rattle.hol_terms.specs.Scoped.{binds}
use Rattle.hol_types.specs.Equal.{type_eq}
use Rattle.std.proofs.Common.{Some, [], ap, false, rules, sym, true, ◌∙◌, ◌∷◌, ◌≡◌}
use Rattle.hol_bool.proofs.rules.choose.Goals as goal

pub is_free_in_left-requires : goal.is_free_in_left-requires
is_free_in_left-requires c =
    let B = c.args.a.now.basis in
    let s = c.args.a.now.sequent in
    let v = c.in-Var.variable in
    let w = c.in-Some.x.now in
    let own = lam (base_of w.0) w.1 (nameless (w ∷ []) c.in-Some.p.now) in
    let x : Abstraction = record { base = base_of w.0; domain = w.1; body = nameless (w ∷ []) c.in-Some.p.now } in
    let found_is : dest_exists s.concl ≡ Some x = ap dest_exists (sym c.concl.ensures.concl) ∙ c.in-Some.ensures.parts in
    let whole : s.concl ≡ existential x = existential_is s.concl x found_is in
    let tested : type_eq v.1 w.1 ≡ true = search rules in
    let domain : v.1 ≡ w.1 = same_type v.1 w.1 tested in
    record { fits = domain }

pub choose-requires : goal.choose-requires
choose-requires c =
    let B = c.args.a.now.basis in
    let s = c.args.a.now.sequent in
    let b = c.args.b.now.sequent in
    let v = c.in-Var.variable in
    let w = c.in-Some.x.now in
    let x : Abstraction = record { base = base_of w.0; domain = w.1; body = nameless (w ∷ []) c.in-Some.p.now } in
    let found_is : dest_exists s.concl ≡ Some x = ap dest_exists (sym c.concl.ensures.concl) ∙ c.in-Some.ensures.parts in
    let is : c.args.v.now ≡ var v = search rules in
    let tested : type_eq v.1 w.1 ≡ true = search rules in
    let outside : binds (free_occurrences s.concl) v ≡ false = search rules in
    let beside : binds (free_occurrences b.concl) v ≡ false = search rules in
    let rest : is_free_in (set.items (choose_left v b.hyps x)) v ≡ false = search rules in
    let none_free = fresh v s b x found_is outside beside rest in
    record { same_basis = c.requires.one_basis; applies = applies_by B (choose_of c.args.v.now s b) (chosen v s b) (ap (λ (u : Named). choose_of u s b) is ∙ choose_gives v s b x found_is tested none_free) }

pub returns-clause-sequent : goal.returns-clause-sequent
returns-clause-sequent c = c.in_ok-choose.ensures

pub returns-clause-basis : goal.returns-clause-basis
returns-clause-basis c =
    let B = c.args.a.now.basis in
    let s = c.args.a.now.sequent in
    let b = c.args.b.now.sequent in
    let v = c.in-Var.variable in
    over_basis B (choose_of c.args.v.now s b) c.in_ok-choose.field-0 c.in_ok-choose.ensures
