-- What a trace makes of a well-typed term has the term's type.
use Rattle.std.proofs.Common.{◌≡◌, ℕ, List, [], ◌∷◌, refl, sym, ap, ◌∙◌, Bool, true, false, cond, not, ◌&&◌, bytes_eq, Option, Some, None}
use Rattle.std.specs.Option.{option_map, option_and_then}
use Rattle.hol_kernel.proofs.Sound.{strip_type}
use Rattle.hol_types.specs.Tree.{TypeTree}
use Rattle.hol_types.specs.Equal.{type_eq}
use Rattle.hol_types.specs.Fun.{fun_type}
use Rattle.hol_types.specs.Subst.{type_subst}
use Rattle.hol_types.proofs.OrderLaws.{type_cmp_decides}
use Rattle.hol_terms.specs.Nameless.{Nameless, free, bound, fixed, app, lam, nameless_type, free_occurrences, base_of}
use Rattle.hol_terms.specs.Named.{applied_type}
use Rattle.hol_terms.specs.Scoped.{binds}
use Rattle.hol_subst.specs.Closing.{open_with}
use Rattle.hol_subst.proofs.Typing.{typed_closed, mapped_part}
use Rattle.hol_subst.proofs.TypeLaws.{bind_type, open_type}
use Rattle.hol_kernel.proofs.Stands.{some_is, app_parts}
use Rattle.hol_match.specs.Contracta.{contracted}
use Rattle.hol_match.specs.Instance.{InstanceValue, instantiated}
use Rattle.hol_match.specs.Matching.{matched}
use Rattle.hol_match.specs.RuleSets.{IsTypedRule, beside}
use Rattle.hol_match.specs.SetView.{set_rule}
use Rattle.hol_match.specs.declared.set_rule.SetRule.{SetRule}
use Rattle.hol_match.proofs.Contracta.{instance_type}
use Rattle.hol_match.proofs.RuleSets.{beside_both, fit_match}
use Rattle.hol_match.proofs.Standing.{AddsTo, matched_adds}
use Rattle.hol_conv.specs.Redexes.{beta_contractum}
use Rattle.hol_conv.specs.Traces.{used, opened, in_parts, in_body, traced}
use Rattle.hol_conv.specs.declared.trace_node.TraceNode.{TraceNode}
use Rattle.hol_conv.proofs.Traces.{parts_of, body_of, then_gives}
use Rattle.hol_just.specs.TraceTypes.{KeepsType}

-- ---- an application of an abstraction
pub beta_keeps : (t u : Nameless) (a : TypeTree) → beta_contractum t ≡ Some u → nameless_type [] t ≡ Some a → nameless_type [] u ≡ Some a
beta_keeps (free v) u a e h = absurd (cc)
beta_keeps (bound i) u a e h = absurd (cc)
beta_keeps (fixed c s) u a e h = absurd (cc)
beta_keeps (app (free v) x) u a e h = absurd (cc)
beta_keeps (app (bound i) x) u a e h = absurd (cc)
beta_keeps (app (fixed c s) x) u a e h = absurd (cc)
beta_keeps (app (app f y) x) u a e h = absurd (cc)
beta_keeps (app (lam c s d) x) u a e h =
    let made : open_with x 0 d ≡ u = cc in
    let parts = app_parts [] (lam c s d) x a h in
    let under = mapped_part (λ t. fun_type s t) (nameless_type (s ∷ []) d) (fun_type parts.0 a) parts.1 in
    let same : fun_type s under.0 ≡ fun_type parts.0 a = some_is (fun_type s under.0) (fun_type parts.0 a) (sym (ap (option_map (λ t. fun_type s t)) under.1) ∙ parts.1) in
    let domain : parts.0 ≡ s = cc in
    let range : under.0 ≡ a = cc in
    ap (nameless_type []) (sym made) ∙ open_type x s [] d (parts.2 ∙ ap (λ z. Some z) domain) (typed_closed (s ∷ []) d under.0 under.1) ∙ under.1 ∙ ap (λ z. Some z) range
beta_keeps (lam c s d) u a e h = absurd (cc)

-- ---- the body of an abstraction
opened_typed : (v : List ℕ × TypeTree) (t n : Nameless) (a : TypeTree) → opened v t ≡ Some n → nameless_type [] t ≡ Some a → (r : TypeTree) × (fun_type v.1 r ≡ a) × (nameless_type [] n ≡ Some r)
opened_typed v (free w) n a e h = absurd (cc)
opened_typed v (bound i) n a e h = absurd (cc)
opened_typed v (fixed c s) n a e h = absurd (cc)
opened_typed v (app f x) n a e h = absurd (cc)
opened_typed v (lam c s d) n a e h = by (bytes_eq c (base_of v.0)) (type_eq s v.1) (not (binds (free_occurrences d) v)) refl e
  where
    by : (x y z : Bool) → type_eq s v.1 ≡ y → cond (x && (y && z)) (Some (open_with (free v) 0 d)) None ≡ Some n → (r : TypeTree) × (fun_type v.1 r ≡ a) × (nameless_type [] n ≡ Some r)
    by false y z q g = absurd (cc)
    by true false z q g = absurd (cc)
    by true true false q g = absurd (cc)
    by true true true q g =
        let under = mapped_part (λ t. fun_type s t) (nameless_type (s ∷ []) d) a h in
        let same : s ≡ v.1 = (type_cmp_decides s v.1).0 q in
        let made : open_with (free v) 0 d ≡ n = cc in (
          under.0,
          ap (λ z. fun_type z under.0) (sym same) ∙ some_is (fun_type s under.0) a (sym (ap (option_map (λ t. fun_type s t)) under.1) ∙ h),
          ap (nameless_type []) (sym made) ∙ open_type (free v) s [] d (ap (λ z. Some z) (sym same)) (typed_closed (s ∷ []) d under.0 under.1) ∙ under.1,
        )

pub body_keeps : (v : List ℕ × TypeTree) (b : TraceNode) → KeepsType b → (t u : Nameless) (a : TypeTree) → in_body v (used b) (traced b) t ≡ Some u → nameless_type [] t ≡ Some a → nameless_type [] u ≡ Some a
body_keeps v b k t u a e h =
    let d = body_of v (used b) (traced b) t u e in
    let o = opened_typed v t d.body a d.old h in
    ap (nameless_type []) d.new ∙ bind_type v d.new_body o.0 (k d.body d.new_body o.0 d.in_body o.2) ∙ ap (λ z. Some z) o.1

-- ---- the parts of an application
pub parts_keep : (f x : TraceNode) → KeepsType f → KeepsType x → (t u : Nameless) (a : TypeTree) → in_parts (traced f) (traced x) t ≡ Some u → nameless_type [] t ≡ Some a → nameless_type [] u ≡ Some a
parts_keep f x k l t u a e h =
    let d = parts_of (traced f) (traced x) t u e in
    let own : nameless_type [] (app d.function d.argument) ≡ Some a = ap (nameless_type []) (sym d.old) ∙ h in
    let parts = app_parts [] d.function d.argument a own in
    let function : nameless_type [] d.new_function ≡ nameless_type [] d.function = k d.function d.new_function (fun_type parts.0 a) d.in_function parts.1 ∙ sym parts.1 in
    let argument : nameless_type [] d.new_argument ≡ nameless_type [] d.argument = l d.argument d.new_argument parts.0 d.in_argument parts.2 ∙ sym parts.2 in
    ap (nameless_type []) d.new ∙ (λ i. option_and_then (λ s. option_and_then (λ r. applied_type s r) (argument i)) (function i)) ∙ own

-- ---- one after the other
pub both_keep : (m n : TraceNode) → KeepsType m → KeepsType n → (t u : Nameless) (a : TypeTree) → option_and_then (traced n) (traced m t) ≡ Some u → nameless_type [] t ≡ Some a → nameless_type [] u ≡ Some a
both_keep m n k l t u a e h = let d = then_gives (traced n) (traced m t) u e in l d.0 u a d.2 (k t d.0 a d.1 h)

-- ---- a rule, whose sides have one type
pub rule_keeps : (r : SetRule) → IsTypedRule (set_rule r).rule → (t u : Nameless) (a : TypeTree) → contracted [] (set_rule r) t ≡ Some u → nameless_type [] t ≡ Some a → nameless_type [] u ≡ Some a
rule_keeps r sides t u b e h = by (matched 0 left stay t) refl (matched_adds 0 left stay t) e
  where
    left : Nameless
    left = (set_rule r).rule.left

    right : Nameless
    right = (set_rule r).rule.right

    stay : InstanceValue
    stay = (set_rule r).stays

    by : (o : Option InstanceValue) → matched 0 left stay t ≡ o → AddsTo stay o → option_map (λ a. instantiated a 0 right) (option_map (beside stay) o) ≡ Some u → nameless_type [] u ≡ Some b
    by None q g f = absurd (cc)
    by (Some all) q g f =
        let a = g.0 in
        let is : beside stay all ≡ a = ap (beside stay) g.1 ∙ beside_both stay a in
        let made : instantiated (beside stay all) 0 right ≡ u = cc in
        let fits = fit_match r t a (q ∙ ap (λ z. Some z) g.1) in
        let l : nameless_type [] (instantiated a 0 left) ≡ Some (type_subst a.types sides.0) = instance_type a left sides.0 fits.typed sides.1 in
        let same : Some (type_subst a.types sides.0) ≡ Some b = sym l ∙ sym (strip_type [] (instantiated a 0 left)) ∙ ap (nameless_type []) fits.gives ∙ strip_type [] t ∙ h in
        ap (nameless_type []) (sym made) ∙ ap (λ z. nameless_type [] (instantiated z 0 right)) is ∙ instance_type a right sides.0 fits.typed sides.2 ∙ same

-- ---- whole traces
pub types_same : (n : TraceNode) (t u : Nameless) (a : TypeTree) → KeepsType n → traced n t ≡ Some u → nameless_type [] t ≡ Some a → nameless_type [] u ≡ nameless_type [] t
types_same n t u a k e h = k t u a e h ∙ sym h
