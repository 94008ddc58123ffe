-- Instances of the general theorems.
use Rattle.std.specs.Prelude.{◌≡◌, Result, Ok, Err, IfOk, true, cond, [], ◌∷◌, codes, Option, Some, None, unwrap_or, IsSome, is_some, Bool, false, refl}
use Rattle.std.specs.FinSet as set
use Rattle.std.proofs.Common.{ap, sym, ◌∙◌}
use mathlib.Core.Bool.{true≢false}
use Rattle.hol_types.specs.Tree.{TypeTree}
use Rattle.hol_types.specs.Fun.{fun_type}
use Rattle.hol_terms.specs.Nameless.{Nameless, free, fixed, app}
use Rattle.hol_terms.specs.Alpha.{strip}
use Rattle.hol_subst.specs.Shift.{shift}
use Rattle.hol_subst.specs.Substitution.{term_lookup, term_subst, types_inst}
use Rattle.hol_subst.proofs.Closing.{IsClosed, shift_whole, eq_same}
use Rattle.hol_subst.proofs.SortedSets.{map_of_set}
use Rattle.hol_formulas.specs.Equation.{bool_type, equation}
use Rattle.hol_formulas.specs.Formula.{quantifier_type, truth, falsity, negation, conjunction, disjunction, implication, equivalence, universal}
use Rattle.hol_formulas.specs.Constants.{var_a}
use Rattle.hol_formulas.specs.Prelude.{boolean}
use Rattle.hol_kernel.specs.Items.{Items}
use Rattle.hol_kernel.specs.Sequent.{Hyps, no_hyps, only_hyp, hyps_image, Sequent, sequent_of}
use Rattle.hol_kernel.specs.Typing.{type_over, HasType}
use Rattle.hol_kernel.specs.Theorem.{Theorem, theorem_on, over}
use Rattle.hol_kernel.specs.Rules.{sequent_image}
use Rattle.hol_kernel.proofs.HypothesisLists.{hyps_total, hyps_same}
use Rattle.hol_equal.proofs.Beta.{image_none}
use Rattle.hol_equal.proofs.HypSets.{none_right}
use Rattle.hol_derived.specs.Applied.{constantly_true}
use Rattle.hol_derived.specs.Unfolded.{letter, predicate, of_witness, exists_in, implied_by_all, either}
use Rattle.hol_derived.specs.Lemmas.{hypothesis, conclusion, lemma_at, general, put, put_predicate, put_at}
use Rattle.hol_derived.specs.Which.{Lemma, EqtIntro, Both, Conj, Conjunct1, Conjunct2, Mp, Disch, Disj1, Disj2, Contr, NotIntro, EqfIntro, Gen, DisjCases, Spec, Exists, Choose}
use Rattle.hol_derived.proofs.Disjunctions.{one_removed}

-- what a map makes of one hypothesis
pub image_one : (f : Nameless → Nameless) (h : Nameless) → hyps_image f (only_hyp h) ≡ set.insert no_hyps (strip (f (strip h)))
image_one f h = map_of_set hyps_total hyps_same (λ k. strip (f k)) (strip h ∷ [])

-- of two
image_two : (f : Nameless → Nameless) (h k : Nameless) → hyps_image f (set.insert (only_hyp k) (strip h)) ≡ set.insert (set.insert no_hyps (strip (f (strip k)))) (strip (f (strip h)))
image_two f h k = map_of_set hyps_total hyps_same (λ n. strip (f n)) (strip h ∷ strip k ∷ [])

-- ---- formulas for the variables p and q

module _ (p q : Nameless) (c : IsClosed 0 p) (d : IsClosed 0 q) where
  given : Nameless → Nameless
  given t = term_subst ((p, boolean (codes "p")) ∷ (q, boolean (codes "q")) ∷ []) 0 t

  first : shift 0 0 p ≡ p
  first = shift_whole 0 0 p c

  second : shift 0 0 q ≡ q
  second = shift_whole 0 0 q d

  assumed_is : (which : Lemma) → strip (given (strip (hypothesis which (letter (codes "p")) (letter (codes "q"))))) ≡ strip (hypothesis which p q)
  unfolding given
  assumed_is EqtIntro = ap strip first
  assumed_is Both = ap strip second
  assumed_is Conj = ap strip second
  assumed_is Conjunct1 = λ i. strip (conjunction (first i) (second i))
  assumed_is Conjunct2 = λ i. strip (conjunction (first i) (second i))
  assumed_is Mp = ap strip first
  assumed_is Disch = λ i. strip (equivalence (conjunction (first i) (second i)) (first i))
  assumed_is Disj1 = ap strip first
  assumed_is Disj2 = ap strip second
  assumed_is Contr = refl
  assumed_is NotIntro = λ i. strip (implication (first i) falsity)
  assumed_is EqfIntro = λ i. strip (negation (first i))
  assumed_is Gen = refl
  assumed_is DisjCases = λ i. strip (disjunction (first i) (second i))
  assumed_is Spec = refl
  assumed_is Exists = refl
  assumed_is Choose = refl

  concluded_is : (which : Lemma) → given (conclusion which (letter (codes "p")) (letter (codes "q"))) ≡ conclusion which p q
  unfolding given
  concluded_is EqtIntro = λ i. equivalence (first i) truth
  concluded_is Both = λ i. conjunction (first i) (second i)
  concluded_is Conj = λ i. equivalence (first i) (conjunction (first i) (second i))
  concluded_is Conjunct1 = first
  concluded_is Conjunct2 = second
  concluded_is Mp = λ i. equivalence (implication (first i) (second i)) (second i)
  concluded_is Disch = λ i. implication (first i) (second i)
  concluded_is Disj1 = λ i. disjunction (first i) (second i)
  concluded_is Disj2 = λ i. disjunction (first i) (second i)
  concluded_is Contr = first
  concluded_is NotIntro = λ i. negation (first i)
  concluded_is EqfIntro = λ i. equivalence (first i) falsity
  concluded_is Gen = refl
  concluded_is DisjCases = λ i. either (first i) (second i) (letter (codes "r"))
  concluded_is Spec = refl
  concluded_is Exists = refl
  concluded_is Choose = refl

  assuming : (which : Lemma) → put p q (sequent_of (only_hyp (hypothesis which (letter (codes "p")) (letter (codes "q")))) (conclusion which (letter (codes "p")) (letter (codes "q")))) ≡ sequent_of (only_hyp (hypothesis which p q)) (conclusion which p q)
  unfolding given
  assuming which =
      λ i. sequent_of ((image_one given (hypothesis which (letter (codes "p")) (letter (codes "q"))) ∙ ap (λ k. set.insert no_hyps k) (assumed_is which)) i) (concluded_is which i)

  pub instance_is : (which : Lemma) → put p q (general which) ≡ lemma_at which p q
  unfolding given
  instance_is EqtIntro = λ i. sequent_of (image_none given i) (equivalence (first i) (equivalence (first i) truth))
  instance_is Both = λ i. sequent_of ((image_two given (letter (codes "p")) (letter (codes "q")) ∙ (λ j. set.insert (set.insert no_hyps (strip (second j))) (strip (first j)))) i) (conjunction (first i) (second i))
  instance_is Conj = assuming Conj
  instance_is Conjunct1 = assuming Conjunct1
  instance_is Conjunct2 = assuming Conjunct2
  instance_is Mp = assuming Mp
  instance_is Disch = λ i. sequent_of (image_none given i) (equivalence (equivalence (conjunction (first i) (second i)) (first i)) (implication (first i) (second i)))
  instance_is Disj1 = assuming Disj1
  instance_is Disj2 = assuming Disj2
  instance_is Contr = assuming Contr
  instance_is NotIntro = λ i. sequent_of (image_none given i) (equivalence (implication (first i) falsity) (negation (first i)))
  instance_is EqfIntro = assuming EqfIntro
  instance_is Gen = λ i. sequent_of (image_none given i) (general Gen).concl
  instance_is DisjCases = assuming DisjCases
  instance_is Spec = assuming Spec
  instance_is Exists = assuming Exists
  instance_is Choose = assuming Choose

-- ---- and r

-- p, q and r for the variables of these names, in a sequent
abbrev pub put_three : Nameless → Nameless → Nameless → Sequent → Sequent
put_three p q r a = sequent_image (term_subst ((p, boolean (codes "p")) ∷ (q, boolean (codes "q")) ∷ (r, boolean (codes "r")) ∷ []) 0) a

module _ (p q r : Nameless) (c : IsClosed 0 p) (d : IsClosed 0 q) (e : IsClosed 0 r) where
  three : Nameless → Nameless
  three t = term_subst ((p, boolean (codes "p")) ∷ (q, boolean (codes "q")) ∷ (r, boolean (codes "r")) ∷ []) 0 t

  pub cases_are : put_three p q r (general DisjCases) ≡ sequent_of (only_hyp (disjunction p q)) (either p q r)
  unfolding three
  cases_are =
      λ i.
      sequent_of ((image_one three (disjunction (letter (codes "p")) (letter (codes "q"))) ∙ (λ j. set.insert no_hyps (strip (disjunction (shift_whole 0 0 p c j) (shift_whole 0 0 q d j))))) i)
      (either (shift_whole 0 0 p c i) (shift_whole 0 0 q d i) (shift_whole 0 0 r e i))

-- ---- a predicate for P

-- f for P, of properties of what has the type a
abbrev pub with_property : TypeTree → Nameless → Sequent → Sequent
with_property a f s = sequent_image (term_subst ((f, (codes "P", fun_type a bool_type)) ∷ []) 0) s

module _ (a : TypeTree) (f : Nameless) (c : IsClosed 0 f) where
  at : Nameless → Nameless
  at t = term_subst ((f, (codes "P", fun_type a bool_type)) ∷ []) 0 t

  -- P at the type
  at_type : Nameless
  at_type = free (codes "P", fun_type a bool_type)

  found : at at_type ≡ f
  unfolding at at_type
  found = ap (λ k. shift 0 0 (unwrap_or (cond k (Some f) None) (free (codes "P", fun_type a bool_type)))) (eq_same (codes "P", fun_type a bool_type)) ∙ shift_whole 0 0 f c

  -- the same under two binders
  found_inside : term_subst ((f, (codes "P", fun_type a bool_type)) ∷ []) 2 at_type ≡ f
  unfolding at_type
  found_inside = ap (λ k. shift 2 0 (unwrap_or (cond k (Some f) None) (free (codes "P", fun_type a bool_type)))) (eq_same (codes "P", fun_type a bool_type)) ∙ shift_whole 2 0 f c

  pub choice_is : put_predicate a f (general Choose) ≡ sequent_of (only_hyp (exists_in a f)) (universal (implied_by_all a f))
  unfolding at at_type
  choice_is =
      (λ i. sequent_of (hyps_image at (image_one (types_inst ((a, codes "A") ∷ [])) (exists_in var_a predicate) i)) (universal (implied_by_all a (found_inside i))))
      ∙ (λ i. sequent_of ((image_one at (exists_in a at_type)) i) (universal (implied_by_all a f)))
      ∙ (λ i. sequent_of (only_hyp (exists_in a (found i))) (universal (implied_by_all a f)))

  pub generalization_is :
      put_predicate a f (general Gen) ≡ sequent_of no_hyps (equivalence (equation (fun_type a bool_type) f (constantly_true a)) (app (fixed (codes "!") (quantifier_type a)) f))
  unfolding at at_type
  generalization_is =
      (λ i.
      sequent_of (hyps_image at (image_none (types_inst ((a, codes "A") ∷ [])) i))
      (equivalence (equation (fun_type a bool_type) (found i) (constantly_true a)) (app (fixed (codes "!") (quantifier_type a)) (found i))))
      ∙ (λ i. sequent_of (image_none at i) (equivalence (equation (fun_type a bool_type) f (constantly_true a)) (app (fixed (codes "!") (quantifier_type a)) f)))

-- ---- a predicate for P, and a term for x

module _ (a : TypeTree) (f t : Nameless) (c : IsClosed 0 f) (d : IsClosed 0 t) where
  both : Nameless → Nameless
  both u = term_subst ((f, (codes "P", fun_type a bool_type)) ∷ (t, (codes "x", a)) ∷ []) 0 u

  -- P and x at the type
  property_there : Nameless
  property_there = free (codes "P", fun_type a bool_type)

  member_there : Nameless
  member_there = free (codes "x", a)

  property_found : both property_there ≡ f
  unfolding both property_there
  property_found =
      ap (λ k. shift 0 0 (unwrap_or (cond k (Some f) (term_lookup ((t, (codes "x", a)) ∷ []) (codes "P", fun_type a bool_type))) (free (codes "P", fun_type a bool_type)))) (eq_same (codes "P", fun_type a bool_type))
      ∙ shift_whole 0 0 f c

  member_found : both member_there ≡ t
  unfolding both member_there
  member_found = ap (λ k. shift 0 0 (unwrap_or (cond k (Some t) None) (free (codes "x", a)))) (eq_same (codes "x", a)) ∙ shift_whole 0 0 t d

  pub specialization_is : put_at a f t (general Spec) ≡ sequent_of (only_hyp (app (fixed (codes "!") (quantifier_type a)) f)) (app f t)
  unfolding both property_there member_there
  specialization_is =
      (λ i. sequent_of (hyps_image both (image_one (types_inst ((a, codes "A") ∷ [])) (app (fixed (codes "!") (quantifier_type var_a)) predicate) i)) (app (property_found i) (member_found i)))
      ∙ (λ i. sequent_of ((image_one both (app (fixed (codes "!") (quantifier_type a)) property_there)) i) (app f t))
      ∙ (λ i. sequent_of (only_hyp (app (fixed (codes "!") (quantifier_type a)) (property_found i))) (app f t))

  pub existence_is : put_at a f t (general Exists) ≡ sequent_of (only_hyp (app f t)) (exists_in a f)
  unfolding both property_there member_there
  existence_is =
      (λ i. sequent_of (hyps_image both (image_one (types_inst ((a, codes "A") ∷ [])) of_witness i)) (exists_in a (property_found i)))
      ∙ (λ i. sequent_of ((image_one both (app property_there member_there)) i) (exists_in a f))
      ∙ (λ i. sequent_of (only_hyp (app (property_found i) (member_found i))) (exists_in a f))

-- ---- what is left of hypotheses

-- the hypothesis of an instance is what the premise says
pub proved : (hs : Hyps) (h p : Nameless) → only_hyp h ≡ only_hyp p → set.union hs (set.remove (only_hyp h) (strip p)) ≡ hs
proved hs h p is = ap (λ (ks : Hyps). set.union hs (set.remove ks (strip p))) is ∙ ap (λ (ks : Hyps). set.union hs ks) (one_removed p) ∙ none_right hs

-- ---- rules that apply

-- what gives something was not found false
pub holds : {A : Type 0} (o : Option A) (k : Bool) → IsSome o → (k ≡ false → o ≡ None) → k ≡ true
holds o true some f = refl
holds o false some f = absurd (true≢false (sym some ∙ ap is_some (f refl)))

pub fails : {A : Type 0} (o : Option A) (k : Bool) → IsSome o → (k ≡ true → o ≡ None) → k ≡ false
fails o false some f = refl
fails o true some f = absurd (true≢false (sym some ∙ ap is_some (f refl)))

pub refuted : {A : Type 0} (o : Option A) → IsSome o → o ≡ None → ⊥
refuted o some is = true≢false (sym some ∙ ap is_some is)

-- what a rule that applies gives
pub gives_by : {E : Type 0} (r : Result Theorem E) (t : Theorem) (basis : Items) (o : Option Sequent) (s : Sequent) → IfOk r (λ th. th ≡ t) → t ≡ theorem_on basis s → o ≡ Some s → IfOk r (λ th. over basis o ≡ Some th)
gives_by (Ok th) t basis o s given is gives = ap (over basis) gives ∙ ap Some (sym (given ∙ is))
gives_by (Err e) t basis o s given is gives = given

-- what a rule gives, it gives where it applies, over the same items
pub applies_by : (basis : Items) (o : Option Sequent) (s : Sequent) → o ≡ Some s → IsSome (over basis o)
applies_by basis o s gives = ap (λ (x : Option Sequent). is_some (over basis x)) gives

pub gave_by : (basis : Items) (o : Option Sequent) (s : Sequent) (th : Theorem) → o ≡ Some s → over basis o ≡ Some th → th ≡ theorem_on basis s
gave_by basis o s th gives given =
    let same : Some (theorem_on basis s) ≡ Some th = sym (ap (over basis) gives) ∙ given in
    let is : theorem_on basis s ≡ th = cc in
    sym is

pub over_basis : (basis : Items) (o : Option Sequent) (th : Theorem) → over basis o ≡ Some th → th.basis ≡ basis
over_basis basis None th e = absurd (cc)
over_basis basis (Some s) th e = let is : theorem_on basis s ≡ th = cc in sym (ap (λ (r : Theorem). r.basis) is)

pub given_by : {E : Type 0} (r : Result Theorem E) (basis : Items) (o : Option Sequent) (s : Sequent) → o ≡ Some s → IfOk r (λ th. over basis o ≡ Some th) → IfOk r (λ th. th ≡ theorem_on basis s)
given_by (Ok th) basis o s gives given = gave_by basis o s th gives given
given_by (Err e) basis o s gives given = given

-- over the same items, what is the same term has its type
pub typed_at : (own basis : Items) (u t : Nameless) → own ≡ basis → u ≡ t → HasType basis t bool_type → HasType own u bool_type
typed_at own basis u t same is typed = λ i. (ap (λ (b : Items). type_over b u) same ∙ ap (λ (n : Nameless). type_over basis n) is ∙ typed) i
