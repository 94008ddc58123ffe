-- What the rules that take connectives and quantifiers off, and those of equations, make of sequents that achieve goals.
use Rattle.std.specs.Prelude.{◌≡◌, ℕ, false, cond, not, ◌&&◌, ◌||◌, List, [], ◌∷◌, codes, Some, None, refl}
use Rattle.std.specs.Option.{option_map, option_and_then}
use Rattle.std.specs.FinSet as set
use Rattle.std.proofs.Common.{ap, sym, ◌∙◌}
use Rattle.hol_types.specs.Tree.{TypeTree}
use Rattle.hol_types.specs.Equal.{type_eq}
use Rattle.hol_terms.specs.Named.{var}
use Rattle.hol_terms.specs.Nameless.{Nameless, free, bound, fixed, app, lam, free_occurrences}
use Rattle.hol_terms.specs.Scoped.{binds}
use Rattle.hol_terms.specs.Alpha.{strip}
use Rattle.hol_terms.proofs.Alpha.{alpha_eq_decides}
use Rattle.hol_subst.specs.Closing.{open_with}
use Rattle.hol_subst.specs.Substitution.{term_subst}
use Rattle.hol_subst.specs.Variant.{is_free_in}
use Rattle.hol_subst.proofs.Strip.{strip_free, strip_open, strip_subst}
use Rattle.hol_formulas.specs.Equation.{bool_type, equation}
use Rattle.hol_formulas.specs.Formula.{connective_type, quantifier_type, Abstraction, conjunction, disjunction, quantified, universal, existential, dest_conj, dest_disj, dest_forall, dest_exists}
use Rattle.hol_formulas.proofs.EquationTypes.{type_eq_itself}
use Rattle.hol_formulas.proofs.FormulaLaws.{dest_exists_existential, dest_forall_universal}
use Rattle.hol_kernel.specs.Items.{Items}
use Rattle.hol_kernel.specs.Sequent.{Hyps, Sequent, sequent_of}
use Rattle.hol_kernel.specs.Typing.{has_type, HasType}
use Rattle.hol_kernel.proofs.Declared.{has_type_of}
use Rattle.hol_kernel.proofs.Sound.{sides_is}
use Rattle.hol_equal.specs.Rules.{reversed, sym_of, m_with}
use Rattle.hol_equal.proofs.Replaced.{subst_gives}
use Rattle.hol_derived.specs.Rules.{conjunct1_of, conjunct2_of, disj_cases_of, disj_cases_at, spec_of, choose_of, choose_at, choose_left}
use Rattle.hol_goal.specs.Achieves.{Achieves}
use Rattle.hol_just.specs.Reasons.{cut, replaced}
use Rattle.hol_just.specs.Justifies.{goal_at, IsNew}
use Rattle.hol_just.proofs.Allowed.{allowed_union, allowed_less}
use Rattle.hol_just.proofs.Likeness.{like_app, like_fixed, like_binary, like_equation}
use Rattle.hol_just.proofs.OneMove.{IsAnswer, answer_by}
use Rattle.hol_just.proofs.QuantifierRules.{allowed_fresh}

abbrev Variable : Type 0
Variable = List ℕ × TypeTree

-- ---- terms that are quantified up to bound names

record IsLambda (t : Nameless) (d : TypeTree) (n : Nameless) : Type 0 where
  base : List ℕ
  body : Nameless
  is : t ≡ lam base d body
  bodies : strip body ≡ n

like_lam : (t : Nameless) (d : TypeTree) (n : Nameless) → strip t ≡ lam [] d n → IsLambda t d n
like_lam (free v) d n e = absurd (cc)
like_lam (bound i) d n e = absurd (cc)
like_lam (fixed c s) d n e = absurd (cc)
like_lam (app f x) d n e = absurd (cc)
like_lam (lam a s b) d n e = let same : s ≡ d = cc in record { base = a; body = b; is = ap (λ r. lam a r b) same; bodies = cc }

record IsLike (t : Nameless) (c : List ℕ) (x : Abstraction) : Type 0 where
  like : Abstraction
  is : t ≡ quantified c like
  domains : like.domain ≡ x.domain
  bodies : strip like.body ≡ strip x.body

like_quantified : (t : Nameless) (c : List ℕ) (x : Abstraction) → strip t ≡ strip (quantified c x) → IsLike t c x
like_quantified t c x e =
    let outer = like_app t (fixed c (quantifier_type x.domain)) (lam [] x.domain (strip x.body)) e in
    let inner = like_lam outer.argument x.domain (strip x.body) outer.arguments in
    record {
      like = record { base = inner.base; domain = x.domain; body = inner.body };
      is = outer.is ∙ (λ i. app (like_fixed outer.function c (quantifier_type x.domain) outer.functions i) (inner.is i));
      domains = refl;
      bodies = inner.bodies;
    }

same_opened : (r : Nameless) (x y : Abstraction) → strip y.body ≡ strip x.body → strip (open_with r 0 y.body) ≡ strip (open_with r 0 x.body)
same_opened r x y e = strip_open r 0 y.body ∙ ap (open_with (strip r) 0) e ∙ sym (strip_open r 0 x.body)

pub same_free : (v : Variable) (m n : Nameless) → strip m ≡ strip n → binds (free_occurrences m) v ≡ binds (free_occurrences n) v
same_free v m n e = ap (λ vs. binds vs v) (sym (strip_free m)) ∙ ap (λ t. binds (free_occurrences t) v) e ∙ ap (λ vs. binds vs v) (strip_free n)

-- ---- the rules

module _ (extra : Hyps) (assumptions : List Nameless) where
  pub conjunct1_achieves : (p q : Nameless) (s : Sequent) → Achieves extra s (goal_at assumptions (conjunction p q)) → IsAnswer extra (conjunct1_of s) (goal_at assumptions p)
  conjunct1_achieves p q s h =
      let b = like_binary s.concl (codes "/\\") connective_type (strip p) (strip q) h.concludes in
      answer_by extra (conjunct1_of s) (sequent_of s.hyps b.first) (goal_at assumptions p)
      (ap (λ t. option_map (λ r. sequent_of s.hyps r.0) (dest_conj t)) b.is)
      (record { concludes = b.firsts; allowed = h.allowed })

  pub conjunct2_achieves : (p q : Nameless) (s : Sequent) → Achieves extra s (goal_at assumptions (conjunction p q)) → IsAnswer extra (conjunct2_of s) (goal_at assumptions q)
  conjunct2_achieves p q s h =
      let b = like_binary s.concl (codes "/\\") connective_type (strip p) (strip q) h.concludes in
      answer_by extra (conjunct2_of s) (sequent_of s.hyps b.second) (goal_at assumptions q)
      (ap (λ t. option_map (λ r. sequent_of s.hyps r.1) (dest_conj t)) b.is)
      (record { concludes = b.seconds; allowed = h.allowed })

  pub cut_achieves : (p q : Nameless) (s t : Sequent) → Achieves extra s (goal_at assumptions p) → Achieves extra t (goal_at (p ∷ assumptions) q) → IsAnswer extra (cut s t) (goal_at assumptions q)
  cut_achieves p q s t h k =
      record { concludes = k.concludes; allowed = allowed_union extra assumptions s.hyps (set.remove t.hyps (strip s.concl)) h.allowed (allowed_less extra assumptions p s.concl t.hyps h.concludes k.allowed) }

  pub cases_achieves :
      (p q r : Nameless) (s t u : Sequent) → Achieves extra s (goal_at assumptions (disjunction p q)) → Achieves extra t (goal_at (p ∷ assumptions) r) → Achieves extra u (goal_at (q ∷ assumptions) r) →
      IsAnswer extra (disj_cases_of s t u) (goal_at assumptions r)
  cases_achieves p q r s t u h k l =
      let b = like_binary s.concl (codes "\\/") connective_type (strip p) (strip q) h.concludes in
      let first = set.union s.hyps (set.remove t.hyps (strip b.first)) in
      let kept = sequent_of (set.union first (set.remove u.hyps (strip b.second))) t.concl in
      answer_by extra (disj_cases_of s t u) kept (goal_at assumptions r)
      (ap (λ c. option_and_then (disj_cases_at s t u) (dest_disj c)) b.is ∙ ap (λ v. cond v (Some kept) None) ((alpha_eq_decides t.concl u.concl).1 (k.concludes ∙ sym l.concludes)))
      (record {
        concludes = k.concludes;
        allowed =
            allowed_union extra assumptions first (set.remove u.hyps (strip b.second))
            (allowed_union extra assumptions s.hyps (set.remove t.hyps (strip b.first)) h.allowed (allowed_less extra assumptions p b.first t.hyps b.firsts k.allowed))
            (allowed_less extra assumptions q b.second u.hyps b.seconds l.allowed);
      })

  pub sym_achieves : (a : TypeTree) (l r : Nameless) (s : Sequent) → Achieves extra s (goal_at assumptions (equation a l r)) → IsAnswer extra (sym_of s) (goal_at assumptions (equation a r l))
  sym_achieves a l r s h =
      let b = like_equation s.concl a l r h.concludes in
      answer_by extra (sym_of s) (sequent_of s.hyps (equation a b.right b.left)) (goal_at assumptions (equation a r l)) (ap (option_map (reversed s.hyps)) b.is)
      (record { concludes = λ i. equation a (b.rights i) (b.lefts i); allowed = h.allowed })

  pub subst_achieves :
      (basis : Items) (v : Variable) (m l r p : Nameless) (s t : Sequent) → HasType basis m bool_type → strip p ≡ strip (m_with r v m) → Achieves extra s (goal_at assumptions (equation v.1 l r)) →
      Achieves extra t (goal_at assumptions (m_with l v m)) → IsAnswer extra (replaced basis (var v) m s t) (goal_at assumptions p)
  subst_achieves basis v m l r p s t typed like h k =
      let b = like_equation s.concl v.1 l r h.concludes in
      answer_by extra (replaced basis (var v) m s t) (sequent_of (set.union s.hyps t.hyps) (m_with b.right v m)) (goal_at assumptions p)
      (subst_gives basis s v m t v.1 b.left b.right (sides_is s.concl (record { sides_type = v.1; left = b.left; right = b.right }) b.is) (type_eq_itself v.1) (has_type_of basis m bool_type typed)
      ((alpha_eq_decides (m_with b.left v m) t.concl).1 (same_with b.left l b.lefts ∙ sym k.concludes)))
      (record { concludes = same_with b.right r b.rights ∙ sym like; allowed = allowed_union extra assumptions s.hyps t.hyps h.allowed k.allowed })
    where
      same_with : (x y : Nameless) → strip x ≡ strip y → strip (m_with x v m) ≡ strip (m_with y v m)
      same_with x y e = strip_subst ((x, v) ∷ []) 0 m ∙ ap (λ z. term_subst ((z, v) ∷ []) 0 (strip m)) e ∙ sym (strip_subst ((y, v) ∷ []) 0 m)

  pub spec_achieves :
      (basis : Items) (t : Nameless) (x : Abstraction) (p : Nameless) (s : Sequent) → HasType basis t x.domain → strip (open_with t 0 x.body) ≡ strip p → Achieves extra s (goal_at assumptions (universal x)) →
      IsAnswer extra (spec_of basis t s) (goal_at assumptions p)
  spec_achieves basis t x p s typed says h =
      let b = like_quantified s.concl (codes "!") x h.concludes in
      answer_by extra (spec_of basis t s) (sequent_of s.hyps (open_with t 0 b.like.body)) (goal_at assumptions p)
      (ap (λ c. option_and_then (λ y. cond (has_type basis t y.domain) (Some (sequent_of s.hyps (open_with t 0 y.body))) None) (dest_forall c)) b.is
      ∙ ap (option_and_then (λ y. cond (has_type basis t y.domain) (Some (sequent_of s.hyps (open_with t 0 y.body))) None)) (dest_forall_universal b.like)
      ∙ ap (λ c. cond c (Some (sequent_of s.hyps (open_with t 0 b.like.body))) None) (ap (has_type basis t) b.domains ∙ has_type_of basis t x.domain typed))
      (record { concludes = same_opened t x b.like b.bodies ∙ says; allowed = h.allowed })

  pub choose_achieves :
      (v : Variable) (x : Abstraction) (q : Nameless) (s t : Sequent) → v.1 ≡ x.domain → IsNew extra assumptions q v → binds (free_occurrences x.body) v ≡ false →
      Achieves extra s (goal_at assumptions (existential x)) → Achieves extra t (goal_at (open_with (free v) 0 x.body ∷ assumptions) q) → IsAnswer extra (choose_of (var v) s t) (goal_at assumptions q)
  choose_achieves v x q s t of_type new absent h k =
      let b = like_quantified s.concl (codes "?") x h.concludes in
      let y = b.like in
      let rest = choose_left v t.hyps y in
      let allowed = allowed_less extra assumptions (open_with (free v) 0 x.body) (open_with (free v) 0 y.body) t.hyps (same_opened (free v) x y b.bodies) k.allowed in
      let first : binds (free_occurrences s.concl) v ≡ false = same_free v s.concl (existential x) h.concludes ∙ absent in
      let second : binds (free_occurrences t.concl) v ≡ false = same_free v t.concl q k.concludes ∙ new.of_conclusion in
      let third : is_free_in (set.items rest) v ≡ false = allowed_fresh extra assumptions rest v new.of_extra new.of_assumptions allowed in
      let kept = sequent_of (set.union s.hyps rest) t.concl in
      answer_by extra (choose_of (var v) s t) kept (goal_at assumptions q)
      (ap (λ c. option_and_then (choose_at v s t) (dest_exists c)) b.is
      ∙ ap (option_and_then (choose_at v s t)) (dest_exists_existential y)
      ∙ (λ i. cond ((ap (λ d. type_eq d y.domain) (of_type ∙ sym b.domains) ∙ type_eq_itself y.domain) i && not (first i || (second i || third i))) (Some kept) None))
      (record { concludes = k.concludes; allowed = allowed_union extra assumptions s.hyps rest h.allowed allowed })
