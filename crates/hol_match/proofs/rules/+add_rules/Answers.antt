use Rattle.std.proofs.Common.{arith, ◌∙◌, ap, [], ◌∷◌, ◌++◌, map, append_assoc}
use Rattle.std.proofs.lemmas.Result.{IfOk-weaker}
use Rattle.hol_terms.specs.Nameless.{nameless, base_of}
use Rattle.hol_formulas.specs.Formula.{Abstraction}
use Rattle.hol_match.specs.Rules.{single_rule, rules_under}
use Rattle.hol_match.specs.RuleView.{rule_values}
use Rattle.hol_match.specs.Ways.{rule_ways}
use Rattle.hol_match.proofs.Opened.{opened_smaller}
use Rattle.hol_match.proofs.RuleLists.{of_body, of_parts, of_itself}
use Rattle.hol_match.proofs.Ways.{along_body, along_parts, at_end, values_added}
use Rattle.hol_match.proofs.rules.+add_rules.Goals as goal

-- the body is smaller
pub add_rules-requires : goal.add_rules-requires
add_rules-requires t c =
    let v = c.in-Some.v.now in
    let p = nameless [] c.args.p.now in
    let x : Abstraction = record { base = base_of v.0; domain = v.1; body = nameless (v ∷ []) c.in-Some.body.now } in (
      omega (arith, opened_smaller (map (λ t. nameless [] t) c.args.hyps.now) p (nameless [] c.in_ok-inside.inside.body) x c.in_ok-inside.inside.variable c.in-Some.ensures.parts c.in_ok-inside.ensures.opened, c.decreases),
      (c.in_ok-inside.ensures.typed ∙ c.in-Some.ensures.typed, c.requires.fixed),
    )

-- the rules of the body
pub returns-in-Some-clause-are : goal.returns-in-Some-clause-are
returns-in-Some-clause-are t c =
    let v = c.in-Some.v.now in
    let p = nameless [] c.args.p.now in
    let x : Abstraction = record { base = base_of v.0; domain = v.1; body = nameless (v ∷ []) c.in-Some.body.now } in
    IfOk-weaker c.add_rules.result _ _
    (λ _ h. h ∙ ap (λ rs. rule_values c.args.rules.now.items ++ rs) (of_body (map (λ t. nameless [] t) c.args.hyps.now) p (nameless [] c.in_ok-inside.inside.body) x c.in_ok-inside.inside.variable c.in-Some.ensures.parts c.in_ok-inside.ensures.opened))
    c.add_rules.ensures.are

pub returns-in-Some-clause-ways : goal.returns-in-Some-clause-ways
returns-in-Some-clause-ways t c =
    let v = c.in-Some.v.now in
    let x : Abstraction = record { base = base_of v.0; domain = v.1; body = nameless (v ∷ []) c.in-Some.body.now } in
    IfOk-weaker c.add_rules.result _ _
    (λ _ h.
    along_body c.args.fixed.now.names.items c.args.fixed.now.variables.items c.args.way.now c.in_ok-further.further _ (nameless [] c.args.p.now) (nameless [] c.in_ok-inside.inside.body) x c.in_ok-inside.inside.variable
    (rule_ways c.args.rules.now.items) (rule_ways c.add_rules.new.rules.items) c.in_ok-further.ensures c.in-Some.ensures.parts c.in_ok-inside.ensures.opened h)
    c.add_rules.ensures.ways

-- the rules of both parts
pub returns-in-Some-dest_conj-clause-are : goal.returns-in-Some-dest_conj-clause-are
returns-in-Some-dest_conj-clause-are t c =
    let hyps = map (λ t. nameless [] t) c.args.hyps.now in
    let q = nameless [] c.in-Some-dest_conj.q.now in
    let r = nameless [] c.in-Some-dest_conj.r.now in
    let old = rule_values c.args.rules.now.items in
    IfOk-weaker c.add_rules-in-Some-dest_conj-2.result _ _
    (λ _ h.
    h ∙ ap (λ rs. rs ++ rules_under hyps r) c.in_ok-add_rules.ensures.are ∙ append_assoc old (rules_under hyps q) (rules_under hyps r)
    ∙ ap (λ rs. old ++ rs) (of_parts hyps (nameless [] c.args.p.now) (q, r) c.in-Some-dest_conj.ensures.parts))
    c.add_rules-in-Some-dest_conj-2.ensures.are

pub returns-in-Some-dest_conj-clause-ways : goal.returns-in-Some-dest_conj-clause-ways
returns-in-Some-dest_conj-clause-ways t c =
    IfOk-weaker c.add_rules-in-Some-dest_conj-2.result _ _
    (λ _ h.
    along_parts c.args.fixed.now.names.items c.args.fixed.now.variables.items c.args.way.now c.in_ok-left.left c.in_ok-right.right (nameless [] c.args.p.now) (nameless [] c.in-Some-dest_conj.q.now, nameless [] c.in-Some-dest_conj.r.now)
    (rule_ways c.args.rules.now.items) (rule_ways c.add_rules-in-Some-dest_conj.new.rules.items) (rule_ways c.add_rules-in-Some-dest_conj-2.new.rules.items) c.in_ok-left.ensures c.in_ok-right.ensures
    c.in-Some-dest_conj.ensures.parts c.in_ok-add_rules.ensures.ways h)
    c.add_rules-in-Some-dest_conj-2.ensures.ways

-- the formula's own rule
pub returns-clause-are : goal.returns-clause-are
returns-clause-are t c =
    IfOk-weaker c.add_rule.result _ _
    (λ _ h.
    values_added c.args.rules.now.items c.add_rule.new.rules.items c.in_ok-rule.rule h
    ∙ ap (λ rs. rule_values c.args.rules.now.items ++ rs)
    (ap (λ r. r ∷ []) (c.in_ok-rule.ensures.is ∙ (λ i. single_rule (c.requires.fixed.0 i) (c.requires.fixed.1 i) (nameless [] c.args.p.now)))
    ∙ of_itself (map (λ t. nameless [] t) c.args.hyps.now) (nameless [] c.args.p.now) c.in_default.ensures.parts c.in_default-dest_conj.ensures.parts))
    c.add_rule.ensures

pub returns-clause-ways : goal.returns-clause-ways
returns-clause-ways t c =
    IfOk-weaker c.add_rule.result _ _
    (λ _ h.
    at_end c.args.fixed.now.names.items c.args.fixed.now.variables.items c.args.way.now (nameless [] c.args.p.now) c.in_ok-rule.rule (rule_ways c.args.rules.now.items) (rule_ways c.add_rule.new.rules.items) c.in_ok-rule.ensures.is c.in_ok-rule.ensures.way h)
    c.add_rule.ensures
