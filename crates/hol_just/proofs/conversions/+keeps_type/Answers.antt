use Rattle.std.proofs.Common.{sym, subst}
use Rattle.hol_match.specs.RuleSets.{IsTypedRule}
use Rattle.hol_match.specs.SetView.{set_rule}
use Rattle.hol_just.specs.TraceTypes.{KeepsType}
use Rattle.hol_just.proofs.TraceTypes.{body_keeps, parts_keep, both_keep, rule_keeps, beta_keeps}
use Rattle.hol_just.proofs.conversions.+keeps_type.Goals as goal

pub returns-in-Parts : goal.returns-in-Parts
returns-in-Parts t c = subst KeepsType (sym c.in-Parts.is) (parts_keep c.in-Parts.f.value c.in-Parts.x.value (subst KeepsType c.deref.ensures c.keeps_type.ensures) (subst KeepsType c.deref-in-Parts.ensures c.keeps_type-in-Parts.ensures))

pub returns-in-Body : goal.returns-in-Body
returns-in-Body t c = subst KeepsType (sym c.in-Body.is) (body_keeps c.in-Body.field-0 c.in-Body.b.value (subst KeepsType c.deref-in-Body.ensures c.keeps_type-in-Body.ensures))

pub returns-in-Rule : goal.returns-in-Rule
returns-in-Rule t c = subst KeepsType (sym c.in-Rule.is) (rule_keeps c.in-Rule.rule.value (subst (λ r. IsTypedRule (set_rule r).rule) c.deref-in-Rule.ensures c.left-left.ensures.typed))

pub returns-in-Beta : goal.returns-in-Beta
returns-in-Beta t c = subst KeepsType (sym c.in-Beta.is) beta_keeps

pub returns-in-Both : goal.returns-in-Both
returns-in-Both t c = subst KeepsType (sym c.in-Both.is) (both_keep c.in-Both.a.value c.in-Both.b.value (subst KeepsType c.deref-in-Both.ensures c.keeps_type-in-Both.ensures) (subst KeepsType c.deref-in-Both-2.ensures c.keeps_type-in-Both-2.ensures))
