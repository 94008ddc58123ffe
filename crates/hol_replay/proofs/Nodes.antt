-- The theorems of a trace's nodes: that the rules of equations apply, and what they give.
use Rattle.std.proofs.Common.{◌≡◌, ℕ, List, [], ◌∷◌, ◌++◌, refl, sym, ap, ◌∙◌, subst, Bool, true, false, cond, not, ◌&&◌, bytes_eq, Box, Global, Option, Some, None}
use Rattle.std.specs.Prelude.{IsSome}
use Rattle.std.specs.Option.{option_map, option_and_then}
use Rattle.std.proofs.lemmas.Bool.{false≢true}
use Rattle.std.proofs.lemmas.Slice.Eq.{bytes_eq-Decides}
use Rattle.hol_types.specs.Tree.{TypeTree}
use Rattle.hol_types.specs.Equal.{type_eq}
use Rattle.hol_types.specs.Fun.{fun_type}
use Rattle.hol_types.proofs.OrderLaws.{type_cmp_decides}
use Rattle.hol_terms.specs.Named.{Named, var, constant, comb, abs, named_type}
use Rattle.hol_terms.specs.Nameless.{Nameless, free, bound, fixed, app, lam, nameless, free_occurrences, base_of}
use Rattle.hol_terms.specs.Alpha.{strip}
use Rattle.hol_terms.specs.Scoped.{binds}
use Rattle.hol_terms.proofs.Typing.{type_outside}
use Rattle.hol_subst.specs.Closing.{bind, open_with}
use Rattle.hol_subst.proofs.Opening.{close_open}
use Rattle.hol_formulas.specs.Equation.{bool_type, equation, dest_eq}
use Rattle.hol_formulas.proofs.FormulaLaws.{dest_eq_equation}
use Rattle.hol_kernel.specs.Given.{Given, given_sequent}
use Rattle.hol_kernel.specs.Items.{Items}
use Rattle.hol_kernel.specs.NamedTyping.{is_known_named}
use Rattle.hol_kernel.specs.Rules.{reflexive, mk_comb_of, abs_of, trans_of}
use Rattle.hol_kernel.specs.Sequent.{Hyps, no_hyps, sequent_of}
use Rattle.hol_kernel.specs.Theorem.{Theorem, theorem_on, IsWellTyped}
use Rattle.hol_kernel.specs.Typing.{is_type, is_base, is_known, type_over, is_typed, HasType}
use Rattle.hol_kernel.proofs.Stands.{both, known_open}
use Rattle.hol_kernel.proofs.Typed.{known_outside, typed_type}
use Rattle.hol_kernel.proofs.Variables.{known_typed}
use Rattle.hol_kernel.proofs.WellTyped.{sides_typed}
use Rattle.hol_equal.specs.Applied.{rhs, combined, abstracted, transitive, contraction}
use Rattle.hol_equal.specs.Rules.{beta_conv_of}
use Rattle.hol_equal.proofs.Applies.{mk_comb_yes, abs_yes, trans_yes, beta_yes}
use Rattle.hol_match.specs.Contracta.{contracted}
use Rattle.hol_match.specs.SetView.{set_rule, set_given}
use Rattle.hol_match.specs.declared.set_rule.SetRule.{SetRule}
use Rattle.hol_match.proofs.Held.{held_front, held_back}
use Rattle.hol_replay.specs.Parts.{IsApplication, IsAbstraction}
use Rattle.hol_conv.specs.Redexes.{beta_contractum}
use Rattle.hol_replay.specs.RuleTheorems.{redex_equation}
use Rattle.hol_conv.specs.Traces.{used, is_outside, opened, in_parts, in_body, traced, TraceValue}
use Rattle.hol_match.specs.Givens.{holds_given, all_hold, all_hyps}
use Rattle.hol_replay.specs.Replays.{trace_equation}
use Rattle.hol_replay.specs.NodeTheorems.{IsNode}
use Rattle.hol_conv.specs.declared.trace_node.TraceNode.{TraceNode}
use Rattle.hol_conv.specs.declared.trace_node.TraceNode.TheVariants.{Same, Rule, Beta}
use Rattle.hol_replay.proofs.Known.{known_has, known_parts, known_body, fun_is, abs_is}
use Rattle.hol_replay.proofs.GivenHyps.{hyps_both, hyps_one, absent}
use Rattle.hol_conv.proofs.Traces.{body_gives}

abbrev Var : Type 0
Var = List ℕ × TypeTree

-- ---- what was given for a rule
pub read_rule : (basis : Items) (n : TraceNode) (r : Box SetRule Global) → n ≡ Rule r → all_hold (used n) basis ≡ true → holds_given (set_given r.value) basis ≡ true
read_rule basis n r e h = (both (holds_given (set_given r.value) basis) true (subst (λ z. all_hold (used z) basis ≡ true) e h)).0

-- ---- a term that stays, a rule, a redex
pub node_of : (basis : Items) (hs : Hyps) (a : TypeTree) (t : Nameless) (o : Option Nameless) (th : Theorem) → option_map (λ u. theorem_on basis (sequent_of hs (equation a t u))) o ≡ Some th → IsNode basis hs a t o th
node_of basis hs a t None th e = absurd (cc)
node_of basis hs a t (Some u) th e = let is : theorem_on basis (sequent_of hs (equation a t u)) ≡ th = cc in record { new = u; gives = refl; is = sym is }

module _ (basis : Items) (a : TypeTree) (n : TraceNode) (t : Nameless) (th : Theorem) where
  pub same_node : n ≡ Same → th ≡ theorem_on basis (reflexive t a) → IsNode basis (all_hyps (used n)) a t (traced n t) th
  same_node e is = subst (λ z. IsNode basis (all_hyps (used z)) a t (traced z t) th) (sym e) (record { new = t; gives = refl; is = is })

  pub rule_matches : (r : Box SetRule Global) → n ≡ Rule r → IsSome (traced n t) → IsSome (contracted [] (set_rule r.value) t)
  rule_matches r e h = subst (λ z. IsSome (traced z t)) e h

  pub rule_node : (r : Box SetRule Global) → n ≡ Rule r → redex_equation basis a r.value t ≡ Some th → IsNode basis (all_hyps (used n)) a t (traced n t) th
  rule_node r e is =
      subst (λ z. IsNode basis (all_hyps (used z)) a t (traced z t) th) (sym e)
      (subst (λ hs. IsNode basis hs a t (contracted [] (set_rule r.value) t) th) (sym (hyps_one (set_given r.value))) (node_of basis (given_sequent (set_given r.value)).hyps a t (contracted [] (set_rule r.value) t) th is))

beta_both : (basis : Items) (t : Nameless) (a : TypeTree) → IsSome (beta_contractum t) → HasType basis t a → (beta_conv_of basis t ≡ Some (contraction a t)) × ((th : Theorem) → th ≡ theorem_on basis (contraction a t) → IsNode basis no_hyps a t (beta_contractum t) th)
beta_both basis (free v) a h k = absurd (false≢true h)
beta_both basis (bound i) a h k = absurd (false≢true h)
beta_both basis (fixed c s) a h k = absurd (false≢true h)
beta_both basis (app (free v) y) a h k = absurd (false≢true h)
beta_both basis (app (bound i) y) a h k = absurd (false≢true h)
beta_both basis (app (fixed c s) y) a h k = absurd (false≢true h)
beta_both basis (app (app f x) y) a h k = absurd (false≢true h)
beta_both basis (app (lam b s d) y) a h k = (beta_yes basis b s d y a k, λ th e. record { new = open_with y 0 d; gives = refl; is = e })
beta_both basis (lam b s d) a h k = absurd (false≢true h)

module _ (basis : Items) (a : TypeTree) (n : TraceNode) (t : Named) (known : is_known_named basis t ≡ true) (typed : named_type t ≡ Some a) (e : n ≡ Beta) (h : IsSome (traced n (nameless [] t))) where
  beta_there : (beta_conv_of basis (nameless [] t) ≡ Some (contraction a (nameless [] t))) × ((th : Theorem) → th ≡ theorem_on basis (contraction a (nameless [] t)) → IsNode basis no_hyps a (nameless [] t) (beta_contractum (nameless [] t)) th)
  beta_there = beta_both basis (nameless [] t) a (subst (λ z. IsSome (traced z (nameless [] t))) e h) (known_has basis t a known typed)

  pub beta_applies : beta_conv_of basis (nameless [] t) ≡ Some (contraction a (nameless [] t))
  beta_applies = beta_there.0

  pub beta_node : (th : Theorem) → th ≡ theorem_on basis (contraction a (nameless [] t)) → IsNode basis (all_hyps (used n)) a (nameless [] t) (traced n (nameless [] t)) th
  beta_node th is = subst (λ z. IsNode basis (all_hyps (used z)) a (nameless [] t) (traced z (nameless [] t)) th) (sym e) (beta_there.1 th is)

pub ruleset nodes = (read_rule, known_has, same_node, rule_matches, rule_node, beta_applies, beta_node)

-- ---- in the parts of an application
pub parts_application : (F X : Nameless → Option Nameless) (t : Named) → IsSome (in_parts F X (nameless [] t)) → IsApplication t
parts_application F X (var v) h = absurd (false≢true h)
parts_application F X (constant c s) h = absurd (false≢true h)
parts_application F X (comb f x) h = tt
parts_application F X (abs v b) h = absurd (false≢true h)

module _ (F X : Nameless → Option Nameless) (t f x : Named) (e : t ≡ comb f x) (h : IsSome (in_parts F X (nameless [] t))) where
  there : IsSome (option_and_then (λ g. option_map (λ y. app g y) (X (nameless [] x))) (F (nameless [] f)))
  there = subst (λ z. IsSome (in_parts F X (nameless [] z))) e h

  pub function_some : IsSome (F (nameless [] f))
  function_some = by (F (nameless [] f)) there
    where
      by : (o : Option Nameless) → IsSome (option_and_then (λ g. option_map (λ y. app g y) (X (nameless [] x))) o) → IsSome o
      by None k = absurd (false≢true k)
      by (Some g) k = refl

  pub argument_some : IsSome (X (nameless [] x))
  argument_some = by (F (nameless [] f)) (X (nameless [] x)) there
    where
      by : (o p : Option Nameless) → IsSome (option_and_then (λ g. option_map (λ y. app g y) p) o) → IsSome p
      by None p k = absurd (false≢true k)
      by (Some g) None k = absurd (false≢true k)
      by (Some g) (Some y) k = refl

pub function_known : (basis : Items) (t f x : Named) → t ≡ comb f x → is_known_named basis t ≡ true → is_known_named basis f ≡ true
function_known basis t f x e k = (known_parts basis t f x e k).0

pub argument_known : (basis : Items) (t f x : Named) → t ≡ comb f x → is_known_named basis t ≡ true → is_known_named basis x ≡ true
argument_known basis t f x e k = (known_parts basis t f x e k).1

pub one_basis : (basis : Items) (hs ks : Hyps) (a b : TypeTree) (t u : Nameless) (o p : Option Nameless) (left right : Theorem) → IsNode basis hs a t o left → IsNode basis ks b u p right → left.basis ≡ right.basis
one_basis basis hs ks a b t u o p left right l r = ap (λ (z : Theorem). z.basis) l.is ∙ sym (ap (λ (z : Theorem). z.basis) r.is)

module _ (basis : Items) (xs ys : List Given) (F X : Nameless → Option Nameless) (t f x : Named) (c s a : TypeTree) (e : t ≡ comb f x) (p : named_type f ≡ Some c) (q : named_type x ≡ Some s) (h : named_type t ≡ Some a) (left right : Theorem) (l : IsNode basis (all_hyps xs) c (nameless [] f) (F (nameless [] f)) left) (r : IsNode basis (all_hyps ys) s (nameless [] x) (X (nameless [] x)) right) where
  function_is : left ≡ theorem_on basis (sequent_of (all_hyps xs) (equation (fun_type s a) (nameless [] f) l.new))
  function_is = l.is ∙ ap (λ d. theorem_on basis (sequent_of (all_hyps xs) (equation d (nameless [] f) l.new))) (fun_is f x c s a p q (sym (ap named_type e) ∙ h))

  pub parts_apply : mk_comb_of left.sequent right.sequent ≡ Some (combined left.sequent right.sequent)
  parts_apply =
      (λ i. mk_comb_of (function_is i).sequent (r.is i).sequent) ∙ mk_comb_yes (all_hyps xs) (all_hyps ys) s a (nameless [] f) l.new (nameless [] x) r.new
      ∙ sym (λ i. Some (combined (function_is i).sequent (r.is i).sequent))

  pub parts_node : (th : Theorem) → th ≡ theorem_on left.basis (combined left.sequent right.sequent) → IsNode basis (all_hyps (xs ++ ys)) a (nameless [] t) (in_parts F X (nameless [] t)) th
  parts_node th k = record {
    new = app l.new r.new;
    gives = ap (λ z. in_parts F X (nameless [] z)) e ∙ (λ i. option_and_then (λ g. option_map (λ y. app g y) (r.gives i)) (l.gives i));
    is = k ∙ (λ i. theorem_on (function_is i).basis (combined (function_is i).sequent (r.is i).sequent))
        ∙ (λ i. theorem_on basis (sequent_of (hyps_both xs ys i) (equation a (nameless [] (sym e i)) (app l.new r.new))));
  }

pub ruleset application_nodes = (parts_application, function_some, argument_some, function_known, argument_known, held_front, held_back, one_basis, parts_apply, parts_node)

-- ---- in the body of an abstraction
pub body_abstraction : (v : List ℕ × TypeTree) (gs : List Given) (B : Nameless → Option Nameless) (t : Named) → IsSome (in_body v gs B (nameless [] t)) → IsAbstraction t
body_abstraction v gs B (var w) h = none (is_outside v gs) h
  where
    none : (b : Bool) → IsSome (cond b (option_and_then (λ n. option_map (bind v) (B n)) None) None) → ⊥
    none true k = false≢true k
    none false k = false≢true k
body_abstraction v gs B (constant c s) h = none (is_outside v gs) h
  where
    none : (b : Bool) → IsSome (cond b (option_and_then (λ n. option_map (bind v) (B n)) None) None) → ⊥
    none true k = false≢true k
    none false k = false≢true k
body_abstraction v gs B (comb f x) h = none (is_outside v gs) h
  where
    none : (b : Bool) → IsSome (cond b (option_and_then (λ n. option_map (bind v) (B n)) None) None) → ⊥
    none true k = false≢true k
    none false k = false≢true k
body_abstraction v gs B (abs w b) h = tt

-- the abstraction of w in b is opened at v
record IsOpened (v : Var) (gs : List Given) (B : Nameless → Option Nameless) (w : Var) (b : Named) : Type 0 where
  base : base_of w.0 ≡ base_of v.0
  typed : w.1 ≡ v.1
  absent : binds (free_occurrences (nameless (w ∷ []) b)) v ≡ false
  outside : is_outside v gs ≡ true
  inside : IsSome (B (open_with (free v) 0 (nameless (w ∷ []) b)))

module _ (v : List ℕ × TypeTree) (gs : List Given) (B : Nameless → Option Nameless) (t : Named) (w : List ℕ × TypeTree) (b : Named) (e : t ≡ abs w b) (h : IsSome (in_body v gs B (nameless [] t))) where
  is_opened : IsOpened v gs B w b
  is_opened = by (is_outside v gs) (bytes_eq (base_of w.0) (base_of v.0)) (type_eq w.1 v.1) (binds (free_occurrences (nameless (w ∷ []) b)) v) refl refl refl refl (subst (λ z. IsSome (in_body v gs B (nameless [] z))) e h)
    where
      mapped : (o : Option Nameless) → IsSome (option_map (bind v) o) → IsSome o
      mapped None k = absurd (false≢true k)
      mapped (Some d) k = refl

      by : (o p q r : Bool) → is_outside v gs ≡ o → bytes_eq (base_of w.0) (base_of v.0) ≡ p → type_eq w.1 v.1 ≡ q → binds (free_occurrences (nameless (w ∷ []) b)) v ≡ r → IsSome (cond o (option_and_then (λ n. option_map (bind v) (B n)) (cond (p && (q && not r)) (Some (open_with (free v) 0 (nameless (w ∷ []) b))) None)) None) → IsOpened v gs B w b
      by false p q r i j k l m = absurd (false≢true m)
      by true false q r i j k l m = absurd (false≢true m)
      by true true false r i j k l m = absurd (false≢true m)
      by true true true true i j k l m = absurd (false≢true m)
      by true true true false i j k l m = record {
        base = (bytes_eq-Decides (base_of w.0) (base_of v.0)).0 j;
        typed = (type_cmp_decides w.1 v.1).0 k;
        absent = l;
        outside = i;
        inside = mapped (B (open_with (free v) 0 (nameless (w ∷ []) b))) m;
      }

  pub own_typed : (own : Named) → own ≡ var v → named_type own ≡ Some w.1
  own_typed own k = ap named_type k ∙ ap (λ z. Some z) (sym is_opened.typed)

  module _ (own inside : Named) (k : own ≡ var v) (m : nameless [] inside ≡ open_with (nameless [] own) 0 (nameless (w ∷ []) b)) where
    inside_is : nameless [] inside ≡ open_with (free v) 0 (nameless (w ∷ []) b)
    inside_is = m ∙ ap (λ z. open_with (nameless [] z) 0 (nameless (w ∷ []) b)) k

    pub inside_some : IsSome (B (nameless [] inside))
    inside_some = subst (λ z. IsSome (B z)) (sym inside_is) is_opened.inside

    module _ (basis : Items) (known : is_known_named basis t ≡ true) where
      type_stands : is_type basis v.1 ≡ true
      type_stands = ap (is_type basis) (sym is_opened.typed) ∙ (known_body basis t w b e known).0

      pub inside_known : is_known_named basis inside ≡ true
      inside_known =
          let whole : is_known basis (nameless [] (abs w b)) ≡ true = ap (λ z. is_known basis (nameless [] z)) (sym e) ∙ known_outside basis t ∙ known in
          let parts = both (is_base (base_of w.0)) (is_type basis w.1 && is_known basis (nameless (w ∷ []) b)) whole in
          let rest = both (is_type basis w.1) (is_known basis (nameless (w ∷ []) b)) parts.1 in
          sym (known_outside basis inside) ∙ ap (is_known basis) inside_is ∙ known_open basis (free v) 0 (nameless (w ∷ []) b) type_stands rest.1

      module _ (c a : TypeTree) (q : named_type inside ≡ Some c) (same : named_type inside ≡ named_type b) (typed : named_type t ≡ Some a) (th : Theorem) (n : IsNode basis (all_hyps gs) c (nameless [] inside) (B (nameless [] inside)) th) where
        pub body_applies : abs_of th.basis (var v) th.sequent ≡ Some (abstracted v th.sequent)
        body_applies =
            (λ i. abs_of (n.is i).basis (var v) (n.is i).sequent) ∙ abs_yes basis v (all_hyps gs) c (nameless [] inside) n.new type_stands (absent v gs is_opened.outside)
            ∙ sym (λ i. Some (abstracted v (n.is i).sequent))

        opened_there : opened v (nameless [] (abs w b)) ≡ Some (nameless [] inside)
        opened_there =
            (λ i. cond ((bytes_eq-Decides (base_of w.0) (base_of v.0)).1 is_opened.base i && ((type_cmp_decides w.1 v.1).1 is_opened.typed i && not (is_opened.absent i))) (Some (open_with (free v) 0 (nameless (w ∷ []) b))) None)
            ∙ ap (λ z. Some z) (sym inside_is)

        bound_back : bind v (nameless [] inside) ≡ nameless [] t
        bound_back =
            ap (bind v) inside_is ∙ ap (lam (base_of v.0) v.1) (close_open v 0 (nameless (w ∷ []) b) is_opened.absent)
            ∙ (λ i. lam (sym is_opened.base i) (sym is_opened.typed i) (nameless (w ∷ []) b)) ∙ ap (nameless []) (sym e)

        body_type : fun_type v.1 c ≡ a
        body_type = ap (λ s. fun_type s c) (sym is_opened.typed) ∙ abs_is w b c a (sym same ∙ q) (ap named_type (sym e) ∙ typed)

        pub body_node : (r : Theorem) → r ≡ theorem_on th.basis (abstracted v th.sequent) → IsNode basis (all_hyps gs) a (nameless [] t) (in_body v gs B (nameless [] t)) r
        body_node r is = record {
          new = bind v n.new;
          gives = ap (λ z. in_body v gs B (nameless [] z)) e ∙ body_gives v gs B (nameless [] (abs w b)) (nameless [] inside) n.new is_opened.outside opened_there n.gives;
          is = is ∙ (λ i. theorem_on (n.is i).basis (abstracted v (n.is i).sequent)) ∙ (λ i. theorem_on basis (sequent_of (all_hyps gs) (equation (body_type i) (bound_back i) (bind v n.new))));
        }

pub ruleset abstraction_nodes = (body_abstraction, own_typed, inside_some, inside_known, body_applies, body_node)

-- ---- one after the other
pub node_equation : (basis : Items) (hs : Hyps) (a : TypeTree) (t : Nameless) (o : Option Nameless) (th : Theorem) → IsNode basis hs a t o th → dest_eq th.sequent.concl ≡ None → ⊥
node_equation basis hs a t o th n e =
    let some = sym (dest_eq_equation a t n.new) ∙ ap (λ (z : Theorem). dest_eq z.sequent.concl) (sym n.is) ∙ e in
    absurd (cc)

pub first_some : (A S : Nameless → Option Nameless) (t : Nameless) → IsSome (option_and_then S (A t)) → IsSome (A t)
first_some A S t h = by (A t) h
  where
    by : (o : Option Nameless) → IsSome (option_and_then S o) → IsSome o
    by None k = absurd (false≢true k)
    by (Some u) k = refl

module _ (basis : Items) (xs ys : List Given) (A S : Nameless → Option Nameless) (a c : TypeTree) (t l u : Named) (left : Theorem) (n : IsNode basis (all_hyps xs) a (nameless [] t) (A (nameless [] t)) left) (e : left.sequent.concl ≡ equation c (nameless [] l) (nameless [] u)) where
  new_is : nameless [] u ≡ n.new
  new_is = sym (ap rhs e) ∙ ap (λ (z : Theorem). rhs z.sequent.concl) n.is

  pub second_some : IsSome (option_and_then S (A (nameless [] t))) → IsSome (S (nameless [] u))
  second_some h = subst (λ z. IsSome (S z)) (sym new_is) (subst (λ o. IsSome (option_and_then S o)) n.gives h)

  right_typed : IsWellTyped left → HasType basis (nameless [] u) a
  right_typed w =
      let whole : HasType basis (equation a (nameless [] t) n.new) bool_type = subst (λ (z : Theorem). HasType z.basis z.sequent.concl bool_type) n.is w.conclusion in
      subst (λ z. HasType basis z a) (sym new_is) (sides_typed basis a bool_type (nameless [] t) n.new whole).1

  pub second_known : IsWellTyped left → is_known_named basis u ≡ true
  second_known w = sym (known_outside basis u) ∙ (known_typed basis (nameless [] u) a (right_typed w)).0

  pub second_typed : IsWellTyped left → named_type u ≡ Some a
  second_typed w = sym (type_outside u) ∙ (known_typed basis (nameless [] u) a (right_typed w)).1

  module _ (right : Theorem) (m : IsNode basis (all_hyps ys) a (nameless [] u) (S (nameless [] u)) right) where
    pub both_apply : trans_of left.sequent right.sequent ≡ Some (transitive left.sequent right.sequent)
    both_apply =
        (λ i. trans_of (n.is i).sequent (m.is i).sequent) ∙ trans_yes (all_hyps xs) (all_hyps ys) a a (nameless [] t) n.new (nameless [] u) m.new (ap strip (sym new_is))
        ∙ sym (λ i. Some (transitive (n.is i).sequent (m.is i).sequent))

    pub both_node : (th : Theorem) → th ≡ theorem_on left.basis (transitive left.sequent right.sequent) → IsNode basis (all_hyps (xs ++ ys)) a (nameless [] t) (option_and_then S (A (nameless [] t))) th
    both_node th k = record {
      new = m.new;
      gives = ap (option_and_then S) n.gives ∙ ap S (sym new_is) ∙ m.gives;
      is = k ∙ (λ i. theorem_on (n.is i).basis (transitive (n.is i).sequent (m.is i).sequent)) ∙ (λ i. theorem_on basis (sequent_of (hyps_both xs ys i) (equation a (nameless [] t) m.new)));
    }

pub ruleset following_nodes = (held_front, held_back, node_equation, first_some, second_some, second_known, second_typed, one_basis, both_apply, both_node)

-- ---- whole traces
-- that there is an equation says that all that was used can be read, and that the old term is well typed
equation_says : (basis : Items) (x : TraceValue) → IsSome (trace_equation basis x) → (all_hold x.used basis ≡ true) × (is_typed basis x.old ≡ true)
equation_says basis x h = by (all_hold x.used basis) (type_over basis x.old) refl refl h
  where
    by : (b : Bool) (o : Option TypeTree) → all_hold x.used basis ≡ b → type_over basis x.old ≡ o → IsSome (cond b (option_map (λ a. theorem_on basis (sequent_of (all_hyps x.used) (equation a x.old x.new))) o) None) → (all_hold x.used basis ≡ true) × (is_typed basis x.old ≡ true)
    by true (Some a) p q k = (p, rw q refl)
    by true None p q k = absurd (false≢true k)
    by false o p q k = absurd (false≢true k)

module _ (basis : Items) (x : TraceValue) (h : IsSome (trace_equation basis x)) where
  pub whole_read : (n : TraceNode) → used n ≡ x.used → all_hold (used n) basis ≡ true
  whole_read n e = ap (λ gs. all_hold gs basis) e ∙ (equation_says basis x h).0

  module _ (t : Named) (a : TypeTree) (old : nameless [] t ≡ x.old) (e : named_type t ≡ Some a) where
    old_typed : is_typed basis (nameless [] t) ≡ true
    old_typed = ap (is_typed basis) old ∙ (equation_says basis x h).1

    pub whole_known : is_known_named basis t ≡ true
    whole_known = sym (known_outside basis t) ∙ (known_typed basis (nameless [] t) a (typed_type basis t a e old_typed)).0

    module _ (n : TraceNode) (gives : traced n x.old ≡ Some x.new) where
      pub whole_some : IsSome (traced n (nameless [] t))
      whole_some = subst (λ z. IsSome (traced n z)) (sym old) (rw gives refl)

      pub whole_gives : (th : Theorem) → used n ≡ x.used → IsNode basis (all_hyps (used n)) a (nameless [] t) (traced n (nameless [] t)) th → trace_equation basis x ≡ Some th
      whole_gives th gs m =
          let same : Some m.new ≡ Some x.new = sym m.gives ∙ ap (traced n) old ∙ gives in
          let last : m.new ≡ x.new = cc in
          ap (λ b. cond b (option_map (λ c. theorem_on basis (sequent_of (all_hyps x.used) (equation c x.old x.new))) (type_over basis x.old)) None) (equation_says basis x h).0
          ∙ ap (option_map (λ c. theorem_on basis (sequent_of (all_hyps x.used) (equation c x.old x.new)))) (ap (type_over basis) (sym old) ∙ typed_type basis t a e old_typed)
          ∙ sym (ap (λ z. Some z) (m.is ∙ (λ i. theorem_on basis (sequent_of (all_hyps (gs i)) (equation a (old i) (last i))))))

pub ruleset whole = (whole_read, whole_known, whole_some, whole_gives)
