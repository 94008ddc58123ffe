-- What a trace makes of a term has the term's type.
use Rattle.std.proofs.Common.{◌≡◌, ℕ, List, refl, sym, ap, ◌∙◌, subst, Bool, true, false, cond, not, ◌&&◌, bytes_eq, Some, None}
use Rattle.hol_types.specs.Tree.{TypeTree}
use Rattle.hol_types.specs.Equal.{type_eq}
use Rattle.hol_types.specs.Fun.{fun_type}
use Rattle.hol_types.proofs.OrderLaws.{type_cmp_decides}
use Rattle.hol_terms.specs.Nameless.{Nameless, free, bound, fixed, app, lam, free_occurrences, base_of}
use Rattle.hol_terms.specs.Scoped.{binds}
use Rattle.hol_subst.specs.Closing.{open_with}
use Rattle.hol_kernel.specs.Items.{Items}
use Rattle.hol_kernel.specs.Typing.{is_type, HasType}
use Rattle.hol_kernel.proofs.Stands.{both}
use Rattle.hol_kernel.proofs.Variables.{variable_typed}
use Rattle.hol_equal.proofs.Abstractions.{bound_typed}
use Rattle.hol_equal.proofs.Typings.{parts_typed, applied_typed}
use Rattle.hol_match.specs.Givens.{holds_given, all_hold}
use Rattle.hol_match.specs.SetView.{set_given}
use Rattle.hol_match.proofs.Held.{held_front, held_back}
use Rattle.hol_conv.specs.Redexes.{beta_contractum}
use Rattle.hol_conv.specs.Traces.{used, opened, traced, KeepsTypes}
use Rattle.hol_conv.specs.declared.trace_node.TraceNode.{TraceNode, Parts', Body', Both'}
use Rattle.hol_conv.specs.declared.trace_node.TraceNode.TheVariants.{Same, Rule, Beta}
use Rattle.hol_conv.proofs.RuleTypes.{function_parts, body_typed, contracted_typed}
use Rattle.hol_conv.proofs.Traces.{parts_of, body_of, then_gives}

module _ (basis : Items) where
  -- ---- an application of an abstraction
  beta_typed : (t u : Nameless) (a : TypeTree) → beta_contractum t ≡ Some u → HasType basis t a → HasType basis u a
  beta_typed (free v) u a e h = absurd (cc)
  beta_typed (bound i) u a e h = absurd (cc)
  beta_typed (fixed c s) u a e h = absurd (cc)
  beta_typed (app (free v) x) u a e h = absurd (cc)
  beta_typed (app (bound i) x) u a e h = absurd (cc)
  beta_typed (app (fixed c s) x) u a e h = absurd (cc)
  beta_typed (app (app f y) x) u a e h = absurd (cc)
  beta_typed (app (lam c s d) x) u a e h =
      let made : open_with x 0 d ≡ u = cc in
      let parts = parts_typed basis (lam c s d) x a h in
      let f = function_parts basis c s d (fun_type parts.domain a) parts.function in
      let is : fun_type s f.range ≡ fun_type parts.domain a = f.is in
      let domain : parts.domain ≡ s = cc in
      let range : f.range ≡ a = cc in
      subst (λ z. HasType basis z a) made (body_typed basis x s a d (parts.argument ∙ ap (λ b. Some b) domain) f.known (f.typed ∙ ap (λ b. Some b) range))
  beta_typed (lam c s d) u a e h = absurd (cc)

  -- ---- the body of an abstraction
  record IsInside (v : List ℕ × TypeTree) (n : Nameless) (a : TypeTree) : Type 0 where
    range : TypeTree
    is : fun_type v.1 range ≡ a
    stands : is_type basis v.1 ≡ true
    typed : HasType basis n range

  opened_typed : (v : List ℕ × TypeTree) (t n : Nameless) (a : TypeTree) → opened v t ≡ Some n → HasType basis t a → IsInside v n a
  opened_typed v (free w) n a e h = absurd (cc)
  opened_typed v (bound i) n a e h = absurd (cc)
  opened_typed v (fixed c s) n a e h = absurd (cc)
  opened_typed v (app f x) n a e h = absurd (cc)
  opened_typed v (lam c s d) n a e h = by (bytes_eq c (base_of v.0)) (type_eq s v.1) (not (binds (free_occurrences d) v)) refl e
    where
      by : (x y z : Bool) → type_eq s v.1 ≡ y → cond (x && (y && z)) (Some (open_with (free v) 0 d)) None ≡ Some n → IsInside v n a
      by false y z q g = absurd (cc)
      by true false z q g = absurd (cc)
      by true true false q g = absurd (cc)
      by true true true q g =
          let f = function_parts basis c s d a h in
          let same : s ≡ v.1 = (type_cmp_decides s v.1).0 q in
          let made : open_with (free v) 0 d ≡ n = cc in
          let stands : is_type basis v.1 ≡ true = ap (is_type basis) (sym same) ∙ f.domain in
          record {
            range = f.range;
            is = ap (λ z. fun_type z f.range) (sym same) ∙ f.is;
            stands = stands;
            typed = subst (λ z. HasType basis z f.range) made (body_typed basis (free v) s f.range d (variable_typed basis v stands ∙ ap (λ b. Some b) (sym same)) f.known f.typed);
          }

  -- ---- a trace
  node_keeps : (n : TraceNode) (t u : Nameless) (a : TypeTree) → traced n t ≡ Some u → all_hold (used n) basis ≡ true → HasType basis t a → HasType basis u a
  node_keeps Same t u a e h k = let is : t ≡ u = cc in subst (λ z. HasType basis z a) is k
  node_keeps (Parts' p f q x) t u a e h k =
      let front = held_front basis (used f) (used x) h in
      let back = held_back basis (used f) (used x) h in
      let d = parts_of (λ z. traced f z) (λ z. traced x z) t u e in
      let parts = parts_typed basis d.function d.argument a (subst (λ z. HasType basis z a) d.old k) in
      subst (λ z. HasType basis z a) (sym d.new)
      (applied_typed basis parts.domain a d.new_function d.new_argument (node_keeps f d.function d.new_function (fun_type parts.domain a) d.in_function front parts.function) (node_keeps x d.argument d.new_argument parts.domain d.in_argument back parts.argument))
  node_keeps (Body' v p b) t u a e h k =
      let d = body_of v (used b) (λ z. traced b z) t u e in
      let o = opened_typed v t d.body a d.old k in
      subst (λ z. HasType basis z a) (sym d.new) (bound_typed basis v o.range d.new_body o.stands (node_keeps b d.body d.new_body o.range d.in_body h o.typed) ∙ ap (λ z. Some z) o.is)
  node_keeps (Rule r) t u a e h k = contracted_typed basis r.value t u a (both (holds_given (set_given r.value) basis) true h).0 e k
  node_keeps Beta t u a e h k = beta_typed t u a e k
  node_keeps (Both' n p x q y) t u a e h k =
      let front = held_front basis (used x) (used y) h in
      let back = held_back basis (used x) (used y) h in
      let m = then_gives (λ z. traced y z) (traced x t) u e in
      node_keeps y m.0 u a m.2 back (node_keeps x t m.0 a m.1 front k)

pub trace_keeps : (n : TraceNode) (t u : Nameless) → traced n t ≡ Some u → KeepsTypes (record { old = t; new = u; used = used n })
trace_keeps n t u e = λ basis a h k. node_keeps basis n t u a e h k
