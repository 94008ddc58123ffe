-- What a derivation gives holds in a model, where INFINITY_AX is true or not used: the rules.
use Rattle.std.proofs.Common.{◌≡◌, ℕ, ◌⊎◌, inl, inr, List, [], ◌∷◌, map, refl, ap, sym, ◌∙◌, subst, Bool, true, false, cond, ◌&&◌, not, Some, unwrap_or}
use Rattle.std.specs.FinSet as set
use Rattle.std.specs.Ordering.{eq_by_cmp}
use Rattle.std.proofs.lemmas.Bool.{or_parts, and_parts}
use Rattle.hol_types.specs.Tree.{TypeTree}
use Rattle.hol_types.specs.Fun.{fun_type}
use Rattle.hol_types.specs.Subst.{type_for}
use Rattle.hol_terms.specs.Nameless.{Nameless, free, bound, fixed, app, lam, base_of, free_occurrences}
use Rattle.hol_terms.specs.Alpha.{strip}
use Rattle.hol_terms.specs.Scoped.{binds}
use Rattle.hol_subst.specs.AlphaOrder.{nameless_cmp}
use Rattle.hol_subst.specs.Closing.{bind, close, open_with}
use Rattle.hol_subst.specs.Substitution.{term_lookup, term_subst, types_inst}
use Rattle.hol_subst.specs.Variant.{is_free_in}
use Rattle.hol_subst.proofs.Opening.{close_open}
use Rattle.hol_kernel.proofs.HypothesisLists.{hyps_total, hyps_same}
use Rattle.hol_subst.proofs.TypeLaws.{pairs_typed}
use Rattle.hol_formulas.specs.Equation.{bool_type, equation}
use Rattle.hol_kernel.specs.Item.{declared_axiom, defined_constant, defined_type}
use Rattle.hol_kernel.specs.Items.{Items}
use Rattle.hol_kernel.specs.Sequent.{Hyps, no_hyps, hyps_image}
use Rattle.hol_kernel.specs.Signature.{has_constant}
use Rattle.hol_kernel.specs.Typing.{is_type, is_base, is_known, HasType, AreTyped, are_typed_for, has_type}
use Rattle.hol_kernel.specs.Theorem.{theorem_over}
use Rattle.hol_kernel.specs.Derivation.{Derives, by_refl, by_trans, by_mk_comb, by_abs, by_beta, by_assume, by_eq_mp, by_deduct_antisym, by_inst_type, by_inst, by_postulate, by_axiom, by_definition, by_abs_rep, by_rep_abs}
use Rattle.hol_kernel.proofs.Members.{Among, in_insert_here, in_union_left, in_union_right, equal_keys, among_from_list, from_list_among, from_list_items}
use Rattle.hol_terms.proofs.Same.{variable_eq_decides}
use Rattle.hol_types.specs.Equal.{variable_eq}
use Rattle.hol_kernel.proofs.Declared.{has_type_is}
use Rattle.hol_kernel.proofs.Stands.{typed_pairs_fit}
use Rattle.hol_kernel.proofs.Variables.{known_typed}
use Rattle.hol_kernel.proofs.WellTyped.{sides_typed, theorem_typed}
use Rattle.hol_model.proofs.Interpretations.{Assignment, Interpretation, Valuation, truth_value, elements, eval}
use Rattle.hol_model.specs.Infinity.{is_infinity, uses_infinity}
use Rattle.hol_model.proofs.Types.{IsInhabited, inhabited, assignment_inst}
use Rattle.hol_model.proofs.Models.{IsTrueIn, IsFrame, IsModel, meanings_fit, meanings_steady, equality_is}
use Rattle.hol_model.proofs.Evaluation.{IsFitting, AreSteady, passes, eval_in, eval_strip, valuation_subst, eval_subst, updated, eval_close, eval_absent, updated_fits, updated_same, valuation_inst, eval_inst, inst_fits}
use Rattle.hol_formulas.specs.declared.postulate.Postulate.{Postulate}
use Rattle.hol_formulas.specs.declared.postulate.Postulate.TheVariants.{TDef, AndDef, ImpDef, ForallDef, ExistsDef, OrDef, FDef, NotDef, ExistsUniqueDef, EtaAx, SelectAx, OneOne, Onto, InfinityAx}
use Rattle.hol_formulas.specs.Prelude.{statement_of}
use Rattle.hol_model.proofs.Universes.{Universe, Accepts, both_accept}

module _ (U : Universe) where
  open U use {Value, Set}
  open U.laws use {is_in, booleans, two, off_is_not_on, same, same_is, same_self, on, apply, table, apply_table, table_same}

  abbrev In : Value → Set → Type 0
  In x xs = is_in x xs ≡ true

  truth_on : (b : Bool) → truth_value U b ≡ on → b ≡ true
  truth_on true e = refl
  truth_on false e = absurd (off_is_not_on e)

  among_map : (f : Nameless → Nameless) (h : Nameless) (hs : List Nameless) → Among h hs → Among (f h) (map f hs)
  among_map f h [] m = m
  among_map f h (p ∷ hs) (inl e) = inl (ap f e)
  among_map f h (p ∷ hs) (inr m) = inr (among_map f h hs m)

  free_part : (v : List ℕ × TypeTree) (h : Nameless) (hs : List Nameless) → Among h hs → is_free_in hs v ≡ false → binds (free_occurrences h) v ≡ false
  free_part v h [] m e = absurd m
  free_part v h (p ∷ hs) (inl i) e = ap (λ q. binds (free_occurrences q) v) i ∙ (or_parts (binds (free_occurrences p) v) (is_free_in hs v) e).0
  free_part v h (p ∷ hs) (inr m) e = free_part v h hs m (or_parts (binds (free_occurrences p) v) (is_free_in hs v) e).1

  listed : (hs : Hyps) (h : Nameless) → set.contains hs h ≡ true → Among h (set.items hs)
  listed hs h i = among_from_list hyps_total hyps_same (set.items hs) h (ap (λ (s : Hyps). set.contains s h) (from_list_items hyps_total hyps_same hs) ∙ i)

  image_there : (f : Nameless → Nameless) (hs : Hyps) (h : Nameless) → set.contains hs h ≡ true → set.contains (hyps_image f hs) (strip (f h)) ≡ true
  image_there f hs h i =
      from_list_among hyps_total hyps_same (map (λ p. strip (f p)) (set.items hs)) (strip (f h)) (among_map (λ p. strip (f p)) h (set.items hs) (listed hs h i))

  -- an element that was not removed
  kept_or_same : (hs : Hyps) (q h : Nameless) → set.contains hs h ≡ true → (h ≡ q) ⊎ (set.contains (set.remove hs q) h ≡ true)
  kept_or_same hs q h i = by (eq_by_cmp nameless_cmp h q) refl
    where
      by : (b : Bool) → eq_by_cmp nameless_cmp h q ≡ b → (h ≡ q) ⊎ (set.contains (set.remove hs q) h ≡ true)
      by true e = inl (equal_keys hyps_total hyps_same h q e)
      by false e = inr (set.contains-remove hyps_total hs q h ∙ (λ j. not (e j) && i j))

  module _ (items : Items) (m : Interpretation U) (frame : IsFrame U items m) where
    known_passes : (n : Nameless) → is_known items n ≡ true → passes U (has_constant items) n ≡ true
    known_passes (free v) e = refl
    known_passes (bound i) e = refl
    known_passes (fixed c s) e = (and_parts (is_type items s) (has_constant items c s) e).1
    known_passes (app g x) e = let p = and_parts (is_known items g) (is_known items x) e in λ i. known_passes g p.0 i && known_passes x p.1 i
    known_passes (lam a s b) e = known_passes b (and_parts (is_type items s) (is_known items b) (and_parts (is_base a) (is_type items s && is_known items b) e).1).1

    pub typed_passes : (n : Nameless) (a : TypeTree) → HasType items n a → passes U (has_constant items) n ≡ true
    typed_passes n a h = known_passes n (known_typed items n a h).0

    module _ (d : Assignment U) (full : IsInhabited U d) where
      pub value_in : (f : Valuation U) → IsFitting U m.constructors d f → (n : Nameless) (a : TypeTree) → HasType items n a → In (eval U m d f [] n) (elements U m.constructors d a)
      value_in f fit n a h = eval_in U m d (has_constant items) (meanings_fit U items m frame.inhabited (has_constant items) frame.meanings d full) f fit n a (typed_passes n a h) (known_typed items n a h).1

      pub equation_value : (f : Valuation U) → IsFitting U m.constructors d f → (a : TypeTree) (l r : Nameless) → HasType items (equation a l r) bool_type → eval U m d f [] (equation a l r) ≡ truth_value U (same (eval U m d f [] l) (eval U m d f [] r))
      equation_value f fit a l r h =
          let p = sides_typed items a bool_type l r h in
          let x : Value = eval U m d f [] l in
          let y : Value = eval U m d f [] r in
          ap (λ (e : Value). apply (apply e x) y) (equality_is U items m frame d a)
          ∙ ap (λ (e : Value). apply e y) (apply_table (λ z. table (λ w. truth_value U (same z w)) (elements U m.constructors d a)) x (elements U m.constructors d a) (value_in f fit l a p.0))
          ∙ apply_table (λ w. truth_value U (same x w)) y (elements U m.constructors d a) (value_in f fit r a p.1)

      to_equal : (f : Valuation U) → IsFitting U m.constructors d f → (a : TypeTree) (l r : Nameless) → HasType items (equation a l r) bool_type → eval U m d f [] (equation a l r) ≡ on → eval U m d f [] l ≡ eval U m d f [] r
      to_equal f fit a l r h e = same_is (eval U m d f [] l) (eval U m d f [] r) (truth_on (same (eval U m d f [] l) (eval U m d f [] r)) (sym (equation_value f fit a l r h) ∙ e))

      pub from_equal : (f : Valuation U) → IsFitting U m.constructors d f → (a : TypeTree) (l r : Nameless) → HasType items (equation a l r) bool_type → eval U m d f [] l ≡ eval U m d f [] r → eval U m d f [] (equation a l r) ≡ on
      from_equal f fit a l r h e = equation_value f fit a l r h ∙ ap (truth_value U) (ap (λ (z : Value). same z (eval U m d f [] r)) e ∙ same_self (eval U m d f [] r))

    -- the hypotheses have the value on
    abbrev pub HypsAreOn : Assignment U → Valuation U → Hyps → Type 0
    HypsAreOn d f hs = (h : Nameless) → set.contains hs h ≡ true → eval U m d f [] h ≡ on

    abbrev pub IsConsequence : Hyps → Nameless → Type 0
    IsConsequence hs c = (d : Assignment U) → IsInhabited U d → (f : Valuation U) → IsFitting U m.constructors d f → HypsAreOn d f hs → eval U m d f [] c ≡ on

    concl_typed : (hs : Hyps) (c : Nameless) → Derives items hs c → HasType items c bool_type
    concl_typed hs c x = (theorem_typed (theorem_over items hs c) x).conclusion

    left_on : (d : Assignment U) (f : Valuation U) (hs ks : Hyps) → HypsAreOn d f (set.union hs ks) → HypsAreOn d f hs
    left_on d f hs ks h p i = h p (in_union_left hyps_total hyps_same hs ks p i)

    right_on : (d : Assignment U) (f : Valuation U) (hs ks : Hyps) → HypsAreOn d f (set.union hs ks) → HypsAreOn d f ks
    right_on d f hs ks h p i = h p (in_union_right hyps_total hyps_same hs ks p i)

    -- all but one, and that one too
    removed_on : (d : Assignment U) (f : Valuation U) (hs : Hyps) (q : Nameless) → HypsAreOn d f (set.remove hs (strip q)) → eval U m d f [] q ≡ on → HypsAreOn d f hs
    removed_on d f hs q h e p i = elim (kept_or_same hs (strip q) p i) [
      | inl s ↦ ap (eval U m d f []) s ∙ eval_strip U m d f [] q ∙ e
      | inr j ↦ h p j
    ]

    both_ways : (x y : Value) → In x booleans → In y booleans → (x ≡ on → y ≡ on) → (y ≡ on → x ≡ on) → x ≡ y
    both_ways x y i j there back = elim (two x i) [
      | inl e ↦ elim (two y j) [ inl g ↦ e ∙ sym g | inr g ↦ back g ∙ sym g ]
      | inr e ↦ e ∙ sym (there e)
    ]

    -- what stands for a variable has a value of its type
    subst_fits : (d : Assignment U) → IsInhabited U d → (pairs : List (Nameless × (List ℕ × TypeTree))) → AreTyped items pairs → (f : Valuation U) → IsFitting U m.constructors d f → IsFitting U m.constructors d (valuation_subst U m d pairs f)
    subst_fits d full [] ok f fit v = fit v
    subst_fits d full (p ∷ pairs) ok f fit v =
        let q = and_parts (has_type items p.0 p.1.1) (are_typed_for items pairs) ok in
        by (variable_eq p.1 v) refl (value_in d full f fit p.0 p.1.1 (has_type_is items p.0 p.1.1 q.0)) (subst_fits d full pairs q.1 f fit v)
      where
        by : (b : Bool) → variable_eq p.1 v ≡ b → In (eval U m d f [] p.0) (elements U m.constructors d p.1.1) → In (valuation_subst U m d pairs f v) (elements U m.constructors d v.1) → In (eval U m d f [] (unwrap_or (cond b (Some p.0) (term_lookup pairs v)) (free v))) (elements U m.constructors d v.1)
        by true e own rest = subst (λ (w : List ℕ × TypeTree). In (eval U m d f [] p.0) (elements U m.constructors d w.1)) ((variable_eq_decides p.1 v).0 e) own
        by false e own rest = rest

    module _ (model : IsModel U items m) where
      accepted : (which : Postulate) → Accepts U (is_infinity which) → IsTrueIn U m (statement_of which)
      accepted which (inl e) = model.postulates which e
      accepted TDef (inr h) = model.postulates TDef refl
      accepted AndDef (inr h) = model.postulates AndDef refl
      accepted ImpDef (inr h) = model.postulates ImpDef refl
      accepted ForallDef (inr h) = model.postulates ForallDef refl
      accepted ExistsDef (inr h) = model.postulates ExistsDef refl
      accepted OrDef (inr h) = model.postulates OrDef refl
      accepted FDef (inr h) = model.postulates FDef refl
      accepted NotDef (inr h) = model.postulates NotDef refl
      accepted ExistsUniqueDef (inr h) = model.postulates ExistsUniqueDef refl
      accepted EtaAx (inr h) = model.postulates EtaAx refl
      accepted SelectAx (inr h) = model.postulates SelectAx refl
      accepted OneOne (inr h) = model.postulates OneOne refl
      accepted Onto (inr h) = model.postulates Onto refl
      accepted InfinityAx (inr h) = model.infinity h

      pub derived_follows : (hs : Hyps) (c : Nameless) (t : Derives items hs c) → Accepts U (uses_infinity items hs c t) → IsConsequence hs c
      derived_follows _ _ (by_refl t a h) u d full f fit on_hyps =
          from_equal d full f fit a t t (concl_typed no_hyps (equation a t t) (by_refl t a h)) refl
      derived_follows _ _ (by_trans hs ks a b s n o t x y agree) u d full f fit on_hyps =
          let middle : strip n ≡ strip o = agree in
          let w = both_accept U (uses_infinity items hs (equation a s n) x) (uses_infinity items ks (equation b o t) y) u in
          let p = to_equal d full f fit a s n (concl_typed _ _ x) (derived_follows _ _ x w.0 d full f fit (left_on d f hs ks on_hyps)) in
          let q = to_equal d full f fit b o t (concl_typed _ _ y) (derived_follows _ _ y w.1 d full f fit (right_on d f hs ks on_hyps)) in
          from_equal d full f fit a s t (concl_typed _ _ (by_trans hs ks a b s n o t x y agree))
          (p ∙ sym (eval_strip U m d f [] n) ∙ ap (eval U m d f []) middle ∙ eval_strip U m d f [] o ∙ q)
      derived_follows _ _ (by_mk_comb hs ks a b g h y z s t) u d full f fit on_hyps =
          let w = both_accept U (uses_infinity items hs (equation (fun_type a b) g h) s) (uses_infinity items ks (equation a y z) t) u in
          let p = to_equal d full f fit (fun_type a b) g h (concl_typed _ _ s) (derived_follows _ _ s w.0 d full f fit (left_on d f hs ks on_hyps)) in
          let q = to_equal d full f fit a y z (concl_typed _ _ t) (derived_follows _ _ t w.1 d full f fit (right_on d f hs ks on_hyps)) in
          from_equal d full f fit b (app g y) (app h z) (concl_typed _ _ (by_mk_comb hs ks a b g h y z s t)) (λ i. apply (p i) (q i))
      derived_follows _ _ (by_abs hs a v l r stands fresh t) u d full f fit on_hyps =
          let at : (x : Value) → In x (elements U m.constructors d v.1) → eval U m d f (x ∷ []) (close v 0 l) ≡ eval U m d f (x ∷ []) (close v 0 r) =
          λ x i.
          let fits : IsFitting U m.constructors d (updated U m d f v x) = updated_fits U m d f fit v x i in
          let hyps : HypsAreOn d (updated U m d f v x) hs = λ h j. eval_absent U m d f v x [] h (free_part v h (set.items hs) (listed hs h j) fresh) ∙ on_hyps h j in
          eval_close U m d f v x [] 0 l refl
          ∙ to_equal d full (updated U m d f v x) fits a l r (concl_typed _ _ t) (derived_follows _ _ t u d full (updated U m d f v x) fits hyps)
          ∙ sym (eval_close U m d f v x [] 0 r refl) in
          from_equal d full f fit (fun_type v.1 a) (bind v l) (bind v r) (concl_typed _ _ (by_abs hs a v l r stands fresh t))
          (table_same (λ x. eval U m d f (x ∷ []) (close v 0 l)) (λ x. eval U m d f (x ∷ []) (close v 0 r)) (elements U m.constructors d v.1) at)
      derived_follows _ _ (by_beta a v b h fresh) u d full f fit on_hyps =
          from_equal d full f fit a (app (lam (base_of v.0) v.1 b) (free v)) (open_with (free v) 0 b) (concl_typed _ _ (by_beta a v b h fresh))
          (apply_table (λ x. eval U m d f (x ∷ []) b) (f v) (elements U m.constructors d v.1) (fit v)
          ∙ ap (eval U m d f (f v ∷ [])) (sym (close_open v 0 b fresh))
          ∙ eval_close U m d f v (f v) [] 0 (open_with (free v) 0 b) refl
          ∙ ap (λ (g : Valuation U). eval U m d g [] (open_with (free v) 0 b)) (updated_same U m d f v))
      derived_follows _ _ (by_assume p h) u d full f fit on_hyps =
          sym (eval_strip U m d f [] p) ∙ on_hyps (strip p) (in_insert_here hyps_total hyps_same no_hyps (strip p))
      derived_follows _ _ (by_eq_mp hs ks a l r n x y agree) u d full f fit on_hyps =
          let left : strip l ≡ strip n = agree in
          let w = both_accept U (uses_infinity items hs (equation a l r) x) (uses_infinity items ks n y) u in
          let p = to_equal d full f fit a l r (concl_typed _ _ x) (derived_follows _ _ x w.0 d full f fit (left_on d f hs ks on_hyps)) in
          let q = derived_follows _ _ y w.1 d full f fit (right_on d f hs ks on_hyps) in
          sym p ∙ sym (eval_strip U m d f [] l) ∙ ap (eval U m d f []) left ∙ eval_strip U m d f [] n ∙ q
      derived_follows _ _ (by_deduct_antisym hs ks p q x y) u d full f fit on_hyps =
          let w = both_accept U (uses_infinity items hs p x) (uses_infinity items ks q y) u in
          let left : HypsAreOn d f (set.remove hs (strip q)) = left_on d f (set.remove hs (strip q)) (set.remove ks (strip p)) on_hyps in
          let right : HypsAreOn d f (set.remove ks (strip p)) = right_on d f (set.remove hs (strip q)) (set.remove ks (strip p)) on_hyps in
          from_equal d full f fit bool_type p q (concl_typed _ _ (by_deduct_antisym hs ks p q x y))
          (both_ways (eval U m d f [] p) (eval U m d f [] q) (value_in d full f fit p bool_type (concl_typed _ _ x)) (value_in d full f fit q bool_type (concl_typed _ _ y))
          (λ e. derived_follows _ _ y w.1 d full f fit (removed_on d f ks p right e))
          (λ e. derived_follows _ _ x w.0 d full f fit (removed_on d f hs q left e)))
      derived_follows _ _ (by_inst_type hs p pairs ok t) u d full f fit on_hyps =
          let has = has_constant items in
          let steady : AreSteady U m has = meanings_steady U items m frame.inhabited has frame.meanings in
          let typed = theorem_typed (theorem_over items hs p) t in
          let e : Assignment U = assignment_inst U m.constructors pairs d in
          let g : Valuation U = valuation_inst U m has steady pairs d f in
          let hyps : HypsAreOn e g hs =
          λ h j. sym (eval_inst U m has steady pairs d f [] h (typed_passes h bool_type (typed.hypotheses h j))) ∙ sym (eval_strip U m d f [] (types_inst pairs h)) ∙ on_hyps (strip (types_inst pairs h)) (image_there (types_inst pairs) hs h j) in
          eval_inst U m has steady pairs d f [] p (typed_passes p bool_type typed.conclusion)
          ∙ derived_follows _ _ t u e (λ a. inhabited U m.constructors frame.inhabited d full (type_for pairs a)) g (inst_fits U m has steady pairs d f fit) hyps
      derived_follows _ _ (by_inst hs p pairs ok t) u d full f fit on_hyps =
          let typed = pairs_typed pairs (typed_pairs_fit items pairs ok) in
          let g : Valuation U = valuation_subst U m d pairs f in
          let hyps : HypsAreOn d g hs =
          λ h j. sym (eval_subst U m d pairs typed f [] 0 h) ∙ sym (eval_strip U m d f [] (term_subst pairs 0 h)) ∙ on_hyps (strip (term_subst pairs 0 h)) (image_there (term_subst pairs 0) hs h j) in
          eval_subst U m d pairs typed f [] 0 p ∙ derived_follows _ _ t u d full g (subst_fits d full pairs ok f fit) hyps
      derived_follows _ _ (by_postulate which) u d full f fit on_hyps = accepted which u d full f fit
      derived_follows _ _ (by_axiom n p h typed) u d full f fit on_hyps = model.satisfied (declared_axiom n p) h d full f fit
      derived_follows _ _ (by_definition c r a h typed) u d full f fit on_hyps = model.satisfied (defined_constant c r) h a typed d full f fit
      derived_follows _ _ (by_abs_rep c abs rep p s h typed) u d full f fit on_hyps = (model.satisfied (defined_type c abs rep p) h s typed).0 d full f fit
      derived_follows _ _ (by_rep_abs c abs rep p s h typed) u d full f fit on_hyps = (model.satisfied (defined_type c abs rep p) h s typed).1 d full f fit
