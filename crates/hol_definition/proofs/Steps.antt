-- One variable more, quantified over.
use Rattle.std.specs.Prelude.{◌≡◌, ℕ, suc, Bool, true, false, ◌||◌, List, [], ◌∷◌, Option, Some, None, Result, IfOk, refl}
use Rattle.std.specs.Option.{option_map}
use Rattle.std.specs.FinSet as set
use Rattle.std.proofs.Common.{ap, sym, ◌∙◌, subst}
use Rattle.std.proofs.lemmas.Result.{IfOk-weaker}
use Rattle.hol_types.specs.Tree.{TypeTree}
use Rattle.hol_types.specs.Fun.{fun_type, fun_parts}
use Rattle.hol_terms.specs.Nameless.{Nameless, free, bound, app, lam, base_of, nameless_type, free_occurrences}
use Rattle.hol_terms.specs.Scoped.{binds}
use Rattle.hol_subst.specs.Shift.{shift}
use Rattle.hol_subst.specs.Closing.{open_with}
use Rattle.hol_subst.specs.Variant.{is_free_in, IsVariant}
use Rattle.hol_subst.proofs.InstSteps.{variant_base}
use Rattle.hol_subst.proofs.Typing.{mapped_part}
use Rattle.hol_formulas.specs.Equation.{bool_type, equation, Sides, dest_eq}
use Rattle.hol_formulas.specs.Formula.{universal}
use Rattle.hol_formulas.proofs.FormulaLaws.{dest_eq_equation}
use Rattle.hol_kernel.specs.Items.{Items}
use Rattle.hol_kernel.specs.Sequent.{no_hyps, Sequent, sequent_of}
use Rattle.hol_kernel.specs.Theorem.{Theorem, theorem_on, theorem_over}
use Rattle.hol_kernel.specs.Typing.{is_type, HasType}
use Rattle.hol_kernel.proofs.Stands.{fun_parts_stand, type_stands}
use Rattle.hol_kernel.proofs.Variables.{known_typed, variable_typed}
use Rattle.hol_kernel.proofs.WellTyped.{sides_typed}
use Rattle.hol_equal.specs.Applied.{body, range_of}
use Rattle.hol_derived.specs.Applied.{defining, unfolded, generalized}
use Rattle.hol_derived.proofs.Disjunctions.{free_in_none as none_free, not_none}
use Rattle.hol_definition.specs.ForAll.{for_all}
use Rattle.hol_definition.proofs.Closing.{bound_over}

abbrev Var : Type 0
Var = List ℕ × TypeTree

-- a part of what there is
abbrev part : {A X : Type 0} → X → (A → X) → Option A → X
part d f None = d
part d f (Some a) = f a

-- an equation has sides
pub has_sides : (a : Sequent) (own : Nameless) → (ty : TypeTree) × ((l : Nameless) × ((r : Nameless) × (a ≡ sequent_of no_hyps (equation ty l r)))) → own ≡ a.concl → dest_eq own ≡ None → ⊥
has_sides a own (ty, (l, (r, is))) e none =
    not_none (record { sides_type = ty; left = l; right = r }) (sym (ap dest_eq (e ∙ ap (λ (s : Sequent). s.concl) is) ∙ dest_eq_equation ty l r) ∙ none)

-- and they are these
pub sides_are : (own : Nameless) (ty s : TypeTree) (l r x y : Nameless) → own ≡ equation ty l r → dest_eq own ≡ Some (record { sides_type = s; left = x; right = y }) → (s ≡ ty) × (x ≡ l) × (y ≡ r)
sides_are own ty s l r x y e found =
    let same : Some (record { sides_type = s; left = x; right = y }) ≡ Some (record { sides_type = ty; left = l; right = r }) = sym found ∙ ap dest_eq e ∙ dest_eq_equation ty l r in
    (ap (part ty (λ (q : Sides). q.sides_type)) same, ap (part l (λ (q : Sides). q.left)) same, ap (part r (λ (q : Sides). q.right)) same)

neither : (a b : Bool) → ((a || b) ≡ true → ⊥) → (a ≡ false) × (b ≡ false)
neither true b n = absurd (n refl)
neither false true n = absurd (n refl)
neither false false n = (refl, refl)

-- ---- a variable that is abstracted

module _ (B : Items) (ty : TypeTree) (l r : Nameless) (typed : HasType B (equation ty l r) bool_type) (v : Var) (b : Nameless) (right : r ≡ lam (base_of v.0) v.1 b) (D E : TypeTree) (parts : fun_parts ty ≡ Some (D, E)) where
  function : HasType B r ty
  function = (sides_typed B ty bool_type l r typed).1

  shape : (ty ≡ fun_type D E) × (v.1 ≡ D)
  shape =
      let whole : nameless_type [] (lam (base_of v.0) v.1 b) ≡ Some ty = ap (nameless_type []) (sym right) ∙ (known_typed B r ty function).1 in
      let under = mapped_part (λ t. fun_type v.1 t) (nameless_type (v.1 ∷ []) b) ty whole in
      let is : Some (fun_type v.1 under.0) ≡ Some ty = sym (ap (option_map (λ t. fun_type v.1 t)) under.1) ∙ whole in
      let same : fun_type v.1 under.0 ≡ ty = ap (part ty (λ (t : TypeTree). t)) is in
      let found : Some (v.1, under.0) ≡ Some (D, E) = ap fun_parts same ∙ parts in
      let first : v.1 ≡ D = ap (part D (λ (p : TypeTree × TypeTree). p.0)) found in
      let second : under.0 ≡ E = ap (part E (λ (p : TypeTree × TypeTree). p.1)) found in
      (sym same ∙ (λ i. fun_type (first i) (second i)), first)

  pub is_defining : equation ty l r ≡ defining D E (equation ty l r)
  is_defining = subst (λ (x : Nameless). equation ty l x ≡ defining D E (equation ty l x)) (sym right) (λ i. equation (shape.0 i) l (lam (base_of v.0) (shape.1 i) b))

  pub domain_stands : is_type B D ≡ true
  domain_stands =
      (fun_parts_stand B D E (subst (λ (a : TypeTree). is_type B a ≡ true) shape.0 (let p = known_typed B r ty function in type_stands B [] r ty tt p.0 p.1))).0

  module _ (w : Var) (fresh : IsVariant (l ∷ r ∷ []) v w) where
    pub typed_at : HasType B (free w) D
    typed_at = subst (λ (a : TypeTree). HasType B (free w) a) (fresh.same_type ∙ shape.1) (variable_typed B w (ap (is_type B) (fresh.same_type ∙ shape.1) ∙ domain_stands))

    pub stands : is_type B w.1 ≡ true
    stands = ap (is_type B) (fresh.same_type ∙ shape.1) ∙ domain_stands

    absent : (binds (free_occurrences l) w ≡ false) × ((binds (free_occurrences r) w || false) ≡ false)
    absent = neither (binds (free_occurrences l) w) (binds (free_occurrences r) w || false) (λ e. fresh.name.fresh (ap (is_free_in (l ∷ r ∷ [])) (λ i. (w.0, sym fresh.same_type i)) ∙ e))

    first_part : (a : Bool) → (a || false) ≡ false → a ≡ false
    first_part true e = e
    first_part false e = refl

    absent_under : binds (free_occurrences b) w ≡ false
    absent_under = ap (λ (x : Nameless). binds (free_occurrences x) w) (sym right) ∙ first_part (binds (free_occurrences r) w) absent.1

    -- what is said at the variable
    pub unfolded_is : unfolded (free w) (sequent_of no_hyps (equation ty l r)) ≡ sequent_of no_hyps (equation E (app l (free w)) (open_with (free w) 0 b))
    unfolded_is = λ i. sequent_of no_hyps (equation (range_of (shape.0 i)) (app l (free w)) (open_with (free w) 0 (body (right i))))

    -- and of all
    pub generalized_is : (n : ℕ) → generalized w (sequent_of no_hyps (for_all n E (app l (free w)) (open_with (free w) 0 b))) ≡ sequent_of no_hyps (for_all (suc n) ty l r)
    generalized_is n =
        (λ i. sequent_of no_hyps (universal (record { base = variant_base (l ∷ r ∷ []) v w fresh i; domain = fresh.same_type i; body = bound_over w n E l b absent.0 absent_under i })))
        ∙ (λ i. sequent_of no_hyps (universal (record { base = base_of v.0; domain = v.1; body = for_all n (range_of (sym shape.0 i)) (app (shift 1 0 l) (bound 0)) b })))
        ∙ ap (λ (x : Nameless). sequent_of no_hyps (for_all (suc n) ty l x)) (sym right)

-- ---- the sides of a theorem that is an equation

module _ (a : Theorem) (ty s : TypeTree) (l r x y own : Nameless) (is : a.sequent ≡ sequent_of no_hyps (equation ty l r)) (same : own ≡ a.sequent.concl) (found : dest_eq own ≡ Some (record { sides_type = s; left = x; right = y })) where
  sides : (s ≡ ty) × (x ≡ l) × (y ≡ r)
  sides = sides_are own ty s l r x y (same ∙ ap (λ (q : Sequent). q.concl) is) found

  -- the parts of a theorem that is well typed
  sides_well_typed : HasType a.basis a.sequent.concl bool_type → HasType a.basis (equation s x y) bool_type
  sides_well_typed typed =
      subst (λ (p : Nameless). HasType a.basis p bool_type) (ap (λ (q : Sequent). q.concl) is ∙ (λ i. equation (sym sides.0 i) (sym sides.1 i) (sym sides.2 i))) typed

  concl_is : a.sequent.concl ≡ equation s x y
  concl_is = ap (λ (q : Sequent). q.concl) is ∙ (λ i. equation (sym sides.0 i) (sym sides.1 i) (sym sides.2 i))

  sequent_is : a.sequent ≡ sequent_of no_hyps (equation s x y)
  sequent_is = is ∙ (λ i. sequent_of no_hyps (equation (sym sides.0 i) (sym sides.1 i) (sym sides.2 i)))

-- ---- the call inside

module _ (a : Theorem) (some : (ty : TypeTree) × ((l : Nameless) × ((r : Nameless) × (a.sequent ≡ sequent_of no_hyps (equation ty l r))))) (own x y b : Nameless) (same : own ≡ a.sequent.concl) (s D E : TypeTree)
    (found : dest_eq own ≡ Some (record { sides_type = s; left = x; right = y })) (typed : HasType a.basis a.sequent.concl bool_type) (v w : Var) (right : y ≡ lam (base_of v.0) v.1 b) (parts : fun_parts s ≡ Some (D, E))
    (fresh : IsVariant (x ∷ y ∷ []) v w) where
  whole : HasType a.basis (equation s x y) bool_type
  whole = sides_well_typed a some.0 s some.1.0 some.1.1.0 x y own some.1.1.1 same found typed

  concl_same : a.sequent.concl ≡ equation s x y
  concl_same = concl_is a some.0 s some.1.0 some.1.1.0 x y own some.1.1.1 same found

  pub defines : a.sequent.concl ≡ defining D E a.sequent.concl
  defines = concl_same ∙ is_defining a.basis s x y whole v b right D E parts ∙ ap (defining D E) (sym concl_same)

  pub variable_fits : HasType a.basis (free w) D
  variable_fits = typed_at a.basis s x y whole v b right D E parts w fresh

  abbrev inside : Nameless
  inside = open_with (free w) 0 b

  pub unfolded_at : (applied : Theorem) → applied ≡ theorem_on a.basis (unfolded (free w) a.sequent) → applied ≡ theorem_over a.basis no_hyps (equation E (app x (free w)) inside)
  unfolded_at applied is =
      is
      ∙ (λ i. theorem_on a.basis (unfolded (free w) (sequent_is a some.0 s some.1.0 some.1.1.0 x y own some.1.1.1 same found i)))
      ∙ ap (theorem_on a.basis) (unfolded_is a.basis s x y whole v b right D E parts w fresh)

  pub is_equation : (applied : Theorem) → applied ≡ theorem_on a.basis (unfolded (free w) a.sequent) → (ty : TypeTree) × ((l : Nameless) × ((r : Nameless) × (applied.sequent ≡ sequent_of no_hyps (equation ty l r))))
  is_equation applied is = (E, (app x (free w), (inside, ap (λ (th : Theorem). th.sequent) (unfolded_at applied is))))

  module _ (applied inner : Theorem) (m : ℕ) (is : applied ≡ theorem_on a.basis (unfolded (free w) a.sequent))
      (gives : (ty : TypeTree) (l r : Nameless) → applied.sequent ≡ sequent_of no_hyps (equation ty l r) → inner ≡ theorem_over applied.basis no_hyps (for_all m ty l r)) where
    pub inner_is : inner ≡ theorem_over a.basis no_hyps (for_all m E (app x (free w)) inside)
    inner_is =
        gives E (app x (free w)) inside (ap (λ (th : Theorem). th.sequent) (unfolded_at applied is))
        ∙ (λ i. theorem_over ((unfolded_at applied is i).basis) no_hyps (for_all m E (app x (free w)) inside))

    pub type_stands_inside : is_type inner.basis w.1 ≡ true
    type_stands_inside = ap (λ (th : Theorem). is_type th.basis w.1) inner_is ∙ stands a.basis s x y whole v b right D E parts w fresh

    pub free_in_none : is_free_in (set.items inner.sequent.hyps) w ≡ false
    free_in_none = ap (λ (th : Theorem). is_free_in (set.items th.sequent.hyps) w) inner_is ∙ none_free w

    pub quantified : {X : Type 0} (result : Result Theorem X) (n : ℕ) → n ≡ suc m → IfOk result (λ th. th ≡ theorem_on inner.basis (generalized w inner.sequent)) →
        (ty : TypeTree) (l r : Nameless) → a.sequent ≡ sequent_of no_hyps (equation ty l r) → IfOk result (λ th. th ≡ theorem_over a.basis no_hyps (for_all n ty l r))
    quantified result n more h ty l r e =
        let sides : (s ≡ ty) × (x ≡ l) × (y ≡ r) = sides_are own ty s l r x y (same ∙ ap (λ (q : Sequent). q.concl) e) found in
        IfOk-weaker result (λ th. th ≡ theorem_on inner.basis (generalized w inner.sequent)) (λ th. th ≡ theorem_over a.basis no_hyps (for_all n ty l r))
        (λ th k.
        k
        ∙ (λ i. theorem_on ((inner_is i).basis) (generalized w (inner_is i).sequent))
        ∙ ap (theorem_on a.basis) (generalized_is a.basis s x y whole v b right D E parts w fresh m)
        ∙ (λ i. theorem_over a.basis no_hyps (for_all (sym more i) (sides.0 i) (sides.1 i) (sides.2 i))))
        h
