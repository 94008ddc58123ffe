use Rattle.std.proofs.Common.{◌≡◌, ◌++◌, ◌∷◌, List, [], map, ap, ◌∙◌, refl, sym, subst, Some, rules}
use Rattle.std.specs.Prelude.{ℕ}
use Rattle.hol_types.specs.Tree.{TypeTree}
use Rattle.hol_terms.specs.Named.{var}
use Rattle.hol_terms.specs.Nameless.{Nameless, nameless, free_occurrences}
use Rattle.hol_terms.specs.Scoped.{binds}
use Rattle.hol_subst.specs.Closing.{open_with}
use Rattle.hol_formulas.specs.Formula.{dest_forall}
use Rattle.hol_steps.proofs.Stages.{IsStage, IsWithin, init_stage, init_longer, init_apart, init_different, init_within, differ_pushed, within_pushed, last_stage, pushed, apart_pushed, longer_pushed}
use Rattle.hol_steps.proofs.Together.{left, inside, left_first, left_more, left_quantified, left_last, left_typed, variables_more, no_pairs, none_bad, rest_fewer}
use Rattle.hol_steps.proofs.opening.Opened.of.Goals as goal

pub put_apart-requires : goal.put_apart-requires
put_apart-requires c = ap (λ (u : List ℕ × TypeTree). u.1) (c.in_ok-v.ensures.is (map (nameless []) c.deref.result.now) (λ a. refl))

-- nothing is taken off yet
pub binders-init : goal.binders-init
binders-init c =
    let none : c.new-variables.result.items ≡ [] = search rules in
    let nothing : c.new-pairs.result.items ≡ [] = search rules in
    let whole : nameless [] c.args.p.now ≡ left c.new-pairs.result.items c.args.p.now = sym (left_first c.new-pairs.result.items c.args.p.now nothing) in
    record {
      stage = λ names alike.
          subst (λ n. IsStage names (map (nameless []) c.args.avoid.items) c.new-variables.result.items (nameless [] c.args.p.now) n) whole
          (init_stage names (map (nameless []) c.args.avoid.items) c.new-variables.result.items c.args.p.now c.args.p.now none refl alike);
      longer = init_longer c.args.avoid.items c.new-variables.result.items none;
      apart = init_apart (map (nameless []) c.args.avoid.items) c.new-variables.result.items none;
      different = init_different c.new-variables.result.items none;
      within = subst (λ n. IsWithin c.new-variables.result.items (nameless [] c.args.p.now) n) whole (init_within c.new-variables.result.items c.args.p.now c.args.p.now refl);
      typed = search rules;
      named = no_pairs c.new-pairs.result.items nothing;
      good = none_bad c.new-pairs.result.items nothing;
    }

-- one more is taken off
pub binders-preserved : goal.binders-preserved
binders-preserved c =
    let inv = c.binders.invariant in
    let v = c.in_ok-v.v in
    let variable = var v in
    let pairs = c.binders.pairs.items in
    let added = c.put_apart.new.pairs.items in
    let rest = c.binders.rest.now in
    let q = c.in-Some.q.now in
    let x = inside pairs c.in-Some.x.now q in
    let typed : v.1 ≡ c.in-Some.x.now.1 = ap (λ (u : List ℕ × TypeTree). u.1) (c.in_ok-v.ensures.is (map (nameless []) c.deref.result.now) (λ a. refl)) in
    let opens : left added q ≡ open_with (nameless [] variable) 0 x.body = left_more pairs added v c.in-Some.x.now variable q refl c.in_ok-put_apart.ensures.put inv.named in
    let parts : dest_forall (left pairs rest) ≡ Some x = left_quantified pairs c.in-Some.x.now rest q c.in-Some.ensures.parts inv.named in
    let more = c.in_ok-put_apart.ensures.avoid in
    let longer = c.in_ok-put_apart.ensures.variables in
    record {
      stage = λ names alike.
          pushed names c.binders.avoid.items c.put_apart.new.avoid.items c.binders.variables.items c.put_apart.new.variables.items (nameless [] c.args.p.now) (left pairs rest) (left added q) x v variable
          more longer refl opens parts (inv.stage names alike) (rw c.deref.ensures.value at c.in_ok-v.ensures.is);
      longer = longer_pushed c.args.avoid.items c.binders.avoid.items c.put_apart.new.avoid.items c.binders.variables.items c.put_apart.new.variables.items v variable inv.longer more longer refl;
      apart = apart_pushed c.args.avoid.items c.binders.avoid.items c.binders.variables.items c.put_apart.new.variables.items v inv.longer longer (rw c.deref.ensures.value at c.in_ok-v.ensures.absent) inv.apart;
      different =
          differ_pushed c.args.avoid.items c.binders.avoid.items c.binders.variables.items c.put_apart.new.variables.items v inv.longer longer (rw c.deref.ensures.value at c.in_ok-v.ensures.absent) inv.different;
      within = within_pushed c.binders.variables.items c.put_apart.new.variables.items (nameless [] c.args.p.now) (left pairs rest) (left added q) x v variable longer refl opens parts inv.within;
      typed = c.in-Some.ensures.typed;
      named = variables_more pairs added v c.in-Some.x.now variable refl typed c.in_ok-put_apart.ensures.put inv.named;
      good = c.in_ok-put_apart.ensures.good inv.good;
    }

pub binders-smaller : goal.binders-smaller
binders-smaller c = rest_fewer c.in-Some.x.now c.binders.rest.now c.in-Some.q.now c.in-Some.ensures.parts

-- the new variables stand for those that were bound
pub returns-clause-opened : goal.returns-clause-opened
returns-clause-opened c = λ names alike.
    let body : nameless [] c.in_ok-body.body ≡ left c.binders.pairs.items c.binders.rest.now = search rules in
    last_stage names (map (nameless []) c.binders.avoid.items) c.binders.variables.items (nameless [] c.args.p.now) (left c.binders.pairs.items c.binders.rest.now)
    (left_last c.binders.pairs.items c.binders.rest.now (search rules) c.binders.invariant.named) (c.binders.invariant.stage names alike)
    ∙ ap (λ (n : Nameless). record { variables = c.binders.variables.items; body = n }) (sym body)

pub returns-clause-free : goal.returns-clause-free
returns-clause-free c = λ v e.
    let body : nameless [] c.in_ok-body.body ≡ left c.binders.pairs.items c.binders.rest.now = search rules in
    c.binders.invariant.within v (ap (λ (n : Nameless). binds (free_occurrences n) v) (sym body) ∙ e)

pub returns-clause-typed : goal.returns-clause-typed
returns-clause-typed c = left_typed c.binders.pairs.items c.binders.rest.now c.in_ok-body.body (search rules) c.binders.invariant.named c.binders.invariant.typed

pub returns-clause-last : goal.returns-clause-last
returns-clause-last c =
    let body : nameless [] c.in_ok-body.body ≡ left c.binders.pairs.items c.binders.rest.now = search rules in
    ap dest_forall body ∙ left_last c.binders.pairs.items c.binders.rest.now (search rules) c.binders.invariant.named
