-- What the rules of the quantifiers make of sequents that achieve goals.
use Rattle.std.specs.Prelude.{◌≡◌, ℕ, true, false, cond, not, ◌&&◌, ◌||◌, List, [], ◌∷◌, map, codes, Some, None, is_some, refl}
use Rattle.std.specs.Option.{option_and_then}
use Rattle.std.specs.FinSet as set
use Rattle.std.proofs.Common.{ap, sym, ◌∙◌, subst, inl, inr}
use Rattle.std.proofs.lemmas.Bool.{or_parts}
use Rattle.hol_types.specs.Tree.{TypeTree}
use Rattle.hol_terms.specs.Named.{Named, var}
use Rattle.hol_terms.specs.Nameless.{Nameless, free, fixed, app, lam, nameless, free_occurrences}
use Rattle.hol_terms.specs.Scoped.{binds}
use Rattle.hol_terms.specs.Alpha.{strip}
use Rattle.hol_terms.proofs.Alpha.{alpha_eq_decides}
use Rattle.hol_subst.specs.Closing.{close, open_with}
use Rattle.hol_subst.specs.Variant.{is_free_in}
use Rattle.hol_subst.proofs.Strip.{strip_close, strip_free}
use Rattle.hol_subst.proofs.Opening.{close_open}
use Rattle.hol_formulas.specs.Equation.{bool_type}
use Rattle.hol_formulas.specs.Formula.{quantifier_type, Abstraction, universal, existential}
use Rattle.hol_formulas.proofs.FormulaLaws.{dest_exists_existential}
use Rattle.hol_kernel.specs.Items.{Items}
use Rattle.hol_kernel.specs.Sequent.{Hyps, Sequent, sequent_of}
use Rattle.hol_kernel.specs.Typing.{is_type, HasType}
use Rattle.hol_kernel.proofs.Declared.{has_type_of}
use Rattle.hol_kernel.proofs.HypothesisLists.{hyps_total, hyps_same}
use Rattle.hol_kernel.proofs.Members.{Among, in_union_cases, among_from_list, from_list_among, from_list_items}
use Rattle.hol_derived.specs.Rules.{gen_of, over_variable, exists_of, exists_at}
use Rattle.hol_goal.specs.Achieves.{assumed, Achieves, AreAllowed}
use Rattle.hol_kernel.proofs.Variables.{variable_typed}
use Rattle.hol_just.specs.declared.reason.Reason.TheVariants.{Generalization, Existence}
use Rattle.hol_just.specs.Justifies.{goal_at, always, holds_term, LeavesProperty, LeavesAtWitness}
use Rattle.hol_just.proofs.OneMove.{one, one_valid, by_one, IsAnswer, answer_by}
use Rattle.hol_just.proofs.Typings.{typed_at, property_typed, opened_typed}

abbrev Variable : Type 0
Variable = List ℕ × TypeTree

-- ---- where a variable is not free

one_not_free : (v : Variable) (n : Nameless) (ns : List Nameless) → is_free_in ns v ≡ false → Among n ns → binds (free_occurrences n) v ≡ false
one_not_free v n [] none h = absurd h
one_not_free v n (m ∷ ns) none (inl e) = ap (λ t. binds (free_occurrences t) v) e ∙ (or_parts (binds (free_occurrences m) v) (is_free_in ns v) none).0
one_not_free v n (m ∷ ns) none (inr h) = one_not_free v n ns (or_parts (binds (free_occurrences m) v) (is_free_in ns v) none).1 h

none_free : (v : Variable) (ns : List Nameless) → ((n : Nameless) → Among n ns → binds (free_occurrences n) v ≡ false) → is_free_in ns v ≡ false
none_free v [] each = refl
none_free v (n ∷ ns) each = λ i. each n (inl refl) i || none_free v ns (λ m h. each m (inr h)) i

stripped_free : (v : Variable) (ns : List Nameless) → is_free_in (map strip ns) v ≡ is_free_in ns v
stripped_free v [] = refl
stripped_free v (n ∷ ns) = λ i. binds (strip_free n i) v || stripped_free v ns i

held : (hs : Hyps) (n : Nameless) → Among n (set.items hs) → set.contains hs n ≡ true
held hs n h = subst (λ (ks : Hyps). set.contains ks n ≡ true) (from_list_items hyps_total hyps_same hs) (from_list_among hyps_total hyps_same (set.items hs) n h)

listed : (hs : Hyps) (n : Nameless) → set.contains hs n ≡ true → Among n (set.items hs)
listed hs n h = among_from_list hyps_total hyps_same (set.items hs) n (subst (λ (ks : Hyps). set.contains ks n ≡ true) (sym (from_list_items hyps_total hyps_same hs)) h)

-- a variable that is free in no assumption and no extra hypothesis is free in no hypothesis that is allowed
pub allowed_fresh :
    (extra : Hyps) (assumptions : List Nameless) (hs : Hyps) (v : Variable) → is_free_in (set.items extra) v ≡ false → is_free_in assumptions v ≡ false → AreAllowed extra assumptions hs →
    is_free_in (set.items hs) v ≡ false
allowed_fresh extra assumptions hs v of_extra of_assumptions allowed =
    none_free v (set.items hs)
    (λ n h. elim (in_union_cases hyps_total hyps_same extra (assumed assumptions) n (allowed n (held hs n h))) [
      | inl i ↦ one_not_free v n (set.items extra) of_extra (listed extra n i)
      | inr i ↦ one_not_free v n (map strip assumptions) (stripped_free v assumptions ∙ of_assumptions) (among_from_list hyps_total hyps_same (map strip assumptions) n i)
    ])

-- ---- the rules

module _ (extra : Hyps) (assumptions : List Nameless) where
  pub gen_achieves :
      (basis : Items) (x : Abstraction) (v : Variable) (s : Sequent) → v.1 ≡ x.domain → is_type basis x.domain ≡ true → is_free_in (set.items extra) v ≡ false → is_free_in assumptions v ≡ false →
      binds (free_occurrences x.body) v ≡ false → Achieves extra s (goal_at assumptions (open_with (free v) 0 x.body)) → IsAnswer extra (gen_of basis (var v) s) (goal_at assumptions (universal x))
  gen_achieves basis x v s same stands of_extra of_assumptions of_body h =
      answer_by extra (gen_of basis (var v) s) (sequent_of s.hyps (universal (over_variable v s.concl))) (goal_at assumptions (universal x))
      (λ i. cond ((ap (is_type basis) same ∙ stands) i && not (allowed_fresh extra assumptions s.hyps v of_extra of_assumptions h.allowed i)) (Some (sequent_of s.hyps (universal (over_variable v s.concl)))) None)
      (record { concludes = λ i. app (fixed (codes "!") (quantifier_type (same i))) (lam [] (same i) (body i)); allowed = h.allowed })
    where
      body : strip (close v 0 s.concl) ≡ strip x.body
      body =
          strip_close v 0 s.concl
          ∙ ap (close v 0) h.concludes
          ∙ sym (strip_close v 0 (open_with (free v) 0 x.body))
          ∙ ap strip (close_open v 0 x.body of_body)

  exists_achieves :
      (basis : Items) (x : Abstraction) (e t : Nameless) (s : Sequent) → e ≡ existential x → HasType basis (existential x) bool_type → HasType basis t x.domain →
      Achieves extra s (goal_at assumptions (open_with t 0 x.body)) → IsAnswer extra (exists_of basis e t s) (goal_at assumptions (existential x))
  exists_achieves basis x e t s is whole typed h =
      answer_by extra (exists_of basis e t s) (sequent_of s.hyps (existential x)) (goal_at assumptions (existential x))
      ((λ i. exists_of basis (is i) t s)
      ∙ (λ i. cond (is_some (whole i)) (option_and_then (exists_at basis (existential x) t s) (dest_exists_existential x i)) None)
      ∙ (λ i. cond (has_type_of basis t x.domain typed i && (alpha_eq_decides (open_with t 0 x.body) s.concl).1 (sym h.concludes) i) (Some (sequent_of s.hyps (existential x))) None))
      (record { concludes = refl; allowed = h.allowed })

-- ---- the justifications

pub generalization_leaves : (v : Variable) → LeavesProperty v (one (Generalization (var v)))
generalization_leaves v extra assumptions x same of_extra of_assumptions of_body =
    one_valid always extra (Generalization (var v)) (goal_at assumptions (universal x)) (goal_at assumptions (open_with (free v) 0 x.body) ∷ [])
    (λ basis suit typed.
    let property = property_typed basis (codes "!") x typed.conclusion in
    record {
      typed = (
        record {
          assumptions = typed.assumptions;
          conclusion = opened_typed basis x (free v) property (variable_typed basis v (ap (is_type basis) same ∙ property.domain) ∙ ap Some same);
        },
        tt,
      );
      fits = tt;
      justifies = by_one extra (goal_at assumptions (universal x)) (gen_of basis (var v)) (goal_at assumptions (open_with (free v) 0 x.body))
          (λ s h. gen_achieves extra assumptions basis x v s same property.domain of_extra of_assumptions of_body h);
    })

pub existence_leaves : (e t : Named) → LeavesAtWitness (nameless [] e) (nameless [] t) (one (Existence e t))
existence_leaves e t extra assumptions x is of_type =
    one_valid (holds_term (nameless [] t)) extra (Existence e t) (goal_at assumptions (existential x)) (goal_at assumptions (open_with (nameless [] t) 0 x.body) ∷ [])
    (λ basis suit typed.
    let witness = typed_at basis (nameless [] t) x.domain suit of_type in
    record {
      typed = (record { assumptions = typed.assumptions; conclusion = opened_typed basis x (nameless [] t) (property_typed basis (codes "?") x typed.conclusion) witness }, tt);
      fits = tt;
      justifies = by_one extra (goal_at assumptions (existential x)) (exists_of basis (nameless [] e) (nameless [] t)) (goal_at assumptions (open_with (nameless [] t) 0 x.body))
          (λ s h. exists_achieves extra assumptions basis x (nameless [] e) (nameless [] t) s is typed.conclusion witness h);
    })
