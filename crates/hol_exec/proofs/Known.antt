-- What a command reads is well typed over the basis of what it resolves: the constants that occur in a reading are cited, and so are the types that are written.
use Rattle.std.specs.Prelude.{◌≡◌, ◌⊎◌, ℕ, zero, suc, Bool, true, false, cond, ◌&&◌, ◌||◌, ◌==◌, List, [], ◌∷◌, ◌++◌, bytes_eq, codes, filter, Option, Some, None, refl}
use Rattle.std.specs.List.{list_any, list_all, Contains}
use Rattle.std.proofs.Common.{ap, sym, ◌∙◌, subst, inl, inr, arith}
use Rattle.std.proofs.lemmas.Bool.{and_parts, eq-eqb}
use Rattle.std.proofs.lemmas.Slice.Eq.{bytes_eq-Decides}
use Rattle.hol_types.specs.Tree.{TypeTree, TypeList, TyVar, TyApp, no_types, more_types}
use Rattle.hol_types.specs.Fun.{fun_type}
use Rattle.hol_types.specs.Subst.{type_subst}
use Rattle.hol_terms.specs.Nameless.{Nameless, free, bound, fixed, app, lam, base_of}
use Rattle.hol_formulas.specs.Constants.{prelude_types, prelude_constants, is_constructor, generic_in, is_instance, is_instance_of, is_constant_at}
use Rattle.hol_formulas.specs.Equation.{bool_type, equality_type}
use Rattle.hol_formulas.proofs.Instance.{instance_of_subst}
use Rattle.hol_kernel.specs.Item.{Item, declared_type, declared_constant, defined_constant, defined_type, declared_axiom}
use Rattle.hol_kernel.specs.Items.{Items, in_order, Holds, IsSubset}
use Rattle.hol_kernel.specs.Legal.{IsSound, IsLegalSet}
use Rattle.hol_kernel.specs.Signature.{has_arity, has_constant, makes_type, makes_constant, item_types, item_constants, new_type, constant_of, term_tyvars}
use Rattle.hol_kernel.specs.Typing.{types_count, is_type, are_types, is_known, HasType}
use Rattle.hol_kernel.proofs.Held.{sound_held}
use Rattle.hol_subst.proofs.SortedSets.{some_any as any_among}
use Rattle.hol_kernel.proofs.Members.{or_right}
use Rattle.hol_kernel.proofs.Stands.{fun_stands}
use Rattle.hol_kernel.proofs.Subsets.{within_of_subset}
use Rattle.hol_kernel.proofs.Variables.{known_typed}
use Rattle.hol_kernel.proofs.WellTyped.{own_type_stands, old_stands, new_stands, constants}
use Rattle.hol_kernel.proofs.Weaken.{ordered_held, is_type_more}
use Rattle.hol_infer.specs.Resolving.{arity_of, generic_type_of}
use Rattle.hol_infer.specs.Standing.{stands, all_stand, TermStands, AreStanding}
use Rattle.hol_theory.specs.Key.{KeyValue}
use Rattle.hol_combine.specs.Suits.{suits_expr}
use Rattle.hol_theory.specs.Entry.{EntryValue, AType, AConstant, ATheorem, ATac, IsConstantEntry, IsTypeEntry}
use Rattle.hol_exec.specs.ReadsValue.{Values}
use Rattle.hol_exec.specs.Signature.{cited_constants, cited_types, signature_of}

-- ---- lists of names

pub same_bytes : (a b : List ℕ) → bytes_eq a b ≡ bytes_eq b a
same_bytes a b = by (bytes_eq a b) (bytes_eq b a) refl refl
  where
    by : (x y : Bool) → bytes_eq a b ≡ x → bytes_eq b a ≡ y → x ≡ y
    by true true p q = refl
    by false false p q = refl
    by true false p q = let e : true ≡ false = sym ((bytes_eq-Decides b a).1 (sym ((bytes_eq-Decides a b).0 p))) ∙ q in e
    by false true p q = let e : true ≡ false = sym ((bytes_eq-Decides a b).1 (sym ((bytes_eq-Decides b a).0 q))) ∙ p in sym e

generic_joined : (xs ys : List (List ℕ × TypeTree)) (c : List ℕ) (g : TypeTree) → generic_type_of (xs ++ ys) c ≡ Some g → (generic_type_of xs c ≡ Some g) ⊎ (generic_type_of ys c ≡ Some g)
generic_joined [] ys c g e = inr e
generic_joined (x ∷ xs) ys c g e = by (bytes_eq x.0 c) e (generic_joined xs ys c g)
  where
    by : (b : Bool) → cond b (Some x.1) (generic_type_of (xs ++ ys) c) ≡ Some g → (generic_type_of (xs ++ ys) c ≡ Some g → (generic_type_of xs c ≡ Some g) ⊎ (generic_type_of ys c ≡ Some g)) →
        (cond b (Some x.1) (generic_type_of xs c) ≡ Some g) ⊎ (generic_type_of ys c ≡ Some g)
    by true f others = inl f
    by false f others = others f

arity_joined : (xs ys : List (List ℕ × ℕ)) (c : List ℕ) (n : ℕ) → arity_of (xs ++ ys) c ≡ Some n → (arity_of xs c ≡ Some n) ⊎ (arity_of ys c ≡ Some n)
arity_joined [] ys c n e = inr e
arity_joined (x ∷ xs) ys c n e = by (bytes_eq x.0 c) e (arity_joined xs ys c n)
  where
    by : (b : Bool) → cond b (Some x.1) (arity_of (xs ++ ys) c) ≡ Some n → (arity_of (xs ++ ys) c ≡ Some n → (arity_of xs c ≡ Some n) ⊎ (arity_of ys c ≡ Some n)) →
        (cond b (Some x.1) (arity_of xs c) ≡ Some n) ⊎ (arity_of ys c ≡ Some n)
    by true f others = inl f
    by false f others = others f

-- ---- what is kept of constants

abbrev pub kept : (List ℕ → Bool) → List (List ℕ × TypeTree) → List (List ℕ × TypeTree)
kept keep constants = filter (λ p. keep p.0) constants

module _ (keep : List ℕ → Bool) where
  pub kept_found : (constants : List (List ℕ × TypeTree)) (c : List ℕ) → keep c ≡ true → generic_type_of (kept keep constants) c ≡ generic_type_of constants c
  kept_found [] c k = refl
  kept_found (p ∷ constants) c k = by (keep p.0) (bytes_eq p.0 c) refl refl (kept_found constants c k)
    where
      by : (b same : Bool) → keep p.0 ≡ b → bytes_eq p.0 c ≡ same → generic_type_of (kept keep constants) c ≡ generic_type_of constants c →
          generic_type_of (cond b (p ∷ kept keep constants) (kept keep constants)) c ≡ cond same (Some p.1) (generic_type_of constants c)
      by true same e f rest = (λ i. cond (f i) (Some p.1) (rest i))
      by false true e f rest =
          let wrong : false ≡ true = sym e ∙ ap keep ((bytes_eq-Decides p.0 c).0 f) ∙ k in
          absurd (cc)
      by false false e f rest = rest

  pub kept_none : (constants : List (List ℕ × TypeTree)) (c : List ℕ) → generic_type_of constants c ≡ None → generic_type_of (kept keep constants) c ≡ None
  kept_none [] c e = refl
  kept_none (p ∷ constants) c e = by (keep p.0) (bytes_eq p.0 c) refl e (kept_none constants c)
    where
      by : (b same : Bool) → bytes_eq p.0 c ≡ same → cond same (Some p.1) (generic_type_of constants c) ≡ None → (generic_type_of constants c ≡ None → generic_type_of (kept keep constants) c ≡ None) →
          generic_type_of (cond b (p ∷ kept keep constants) (kept keep constants)) c ≡ None
      by b true f g rest = absurd (cc)
      by true false f g rest = (λ i. cond (f i) (Some p.1) (generic_type_of (kept keep constants) c)) ∙ rest g
      by false false f g rest = rest g

  -- what is found among them is kept
  pub found_kept : (constants : List (List ℕ × TypeTree)) (c : List ℕ) (g : TypeTree) → generic_type_of (kept keep constants) c ≡ Some g → keep c ≡ true
  found_kept [] c g e = absurd (cc)
  found_kept (p ∷ constants) c g e = by (keep p.0) refl e (found_kept constants c g)
    where
      at : (same : Bool) → keep p.0 ≡ true → bytes_eq p.0 c ≡ same → cond same (Some p.1) (generic_type_of (kept keep constants) c) ≡ Some g → (generic_type_of (kept keep constants) c ≡ Some g → keep c ≡ true) → keep c ≡ true
      at true k f h rest = ap keep (sym ((bytes_eq-Decides p.0 c).0 f)) ∙ k
      at false k f h rest = rest h

      by : (b : Bool) → keep p.0 ≡ b → generic_type_of (cond b (p ∷ kept keep constants) (kept keep constants)) c ≡ Some g → (generic_type_of (kept keep constants) c ≡ Some g → keep c ≡ true) → keep c ≡ true
      by true k h rest = at (bytes_eq p.0 c) k refl h rest
      by false k h rest = rest h

-- ---- what a legal set makes is of types that stand over it

module _ (items : Items) (legal : IsLegalSet items) where
  both_stand : (c abs rep : List ℕ) (p : Nameless) (s : TypeTree) → Holds items (defined_type c abs rep p) → HasType items p (fun_type s bool_type) →
      list_all (λ (d : List ℕ × TypeTree). is_type items d.1) (item_constants (defined_type c abs rep p)) ≡ true
  both_stand c abs rep p s there typed =
      let new : TypeTree = new_type c (term_tyvars p) in
      let old : is_type items s ≡ true = old_stands items c abs rep p s there typed in
      let own : is_type items new ≡ true = new_stands items c abs rep p s there typed in
      ap (list_all (λ (d : List ℕ × TypeTree). is_type items d.1)) (constants items c abs rep p s there typed) ∙ (λ i. fun_stands items s new old own i && (fun_stands items new s own old i && true))

  -- the generic types of what an item makes
  generics_stand : (x : Item) → Holds items x → IsSound items x → list_all (λ (d : List ℕ × TypeTree). is_type items d.1) (item_constants x) ≡ true
  generics_stand (declared_type c n) h sound = refl
  generics_stand (declared_constant c a) h sound = λ i. sound i && true
  generics_stand (defined_constant c r) h (a, sound) =
      ap (λ o. list_all (λ (d : List ℕ × TypeTree). is_type items d.1) (constant_of c o)) (known_typed items r a sound.typed).1 ∙ (λ i. own_type_stands items r a sound.typed i && true)
  generics_stand (defined_type c abs rep p) h (x, (s, sound)) = both_stand c abs rep p s h sound.typed
  generics_stand (declared_axiom n p) h sound = refl

  all_at : (q : List ℕ × TypeTree → Bool) (ds : List (List ℕ × TypeTree)) (d : List ℕ × TypeTree) → list_all q ds ≡ true → Contains ds d → q d ≡ true
  all_at q [] d all (k, lt, is) = absurd (omega (arith, lt))
  all_at q (e ∷ ds) d all (zero, lt, is) = ap q (sym is) ∙ (and_parts (q e) (list_all q ds) all).0
  all_at q (e ∷ ds) d all (suc k, lt, is) = all_at q ds d (and_parts (q e) (list_all q ds) all).1 (k, omega (arith, lt), is)

  pub made_stands : (x : Item) (c : List ℕ) (a : TypeTree) → Holds items x → Contains (item_constants x) (c, a) → is_type items a ≡ true
  made_stands x c a h makes = all_at (λ d. is_type items d.1) (item_constants x) (c, a) (generics_stand x h (sound_held items legal x h)) makes

any_at : {X : Type 0} (q : X → Bool) (ds : List X) (d : X) → q d ≡ true → Contains ds d → list_any q ds ≡ true
any_at q [] d e (k, lt, is) = absurd (omega (arith, lt))
any_at q (x ∷ ds) d e (zero, lt, is) = ap (λ b. b || list_any q ds) (ap q is ∙ e)
any_at q (x ∷ ds) d e (suc k, lt, is) = or_right (q x) (list_any q ds) (any_at q ds d e (k, omega (arith, lt), is))

-- ---- what stands over a basis that has those of what is cited

-- the bases of the types that are cited, and of the constants that are kept, lie in the items; those of expressions suit them
abbrev pub IsCitedIn : (List ℕ → Bool) → Items → KeyValue → Option EntryValue → Type 0
IsCitedIn keep items key None = Unit {0}
IsCitedIn keep items key (Some (AType arity item basis)) = IsTypeEntry key arity item basis × IsSubset basis items
IsCitedIn keep items key (Some (AConstant ty item basis)) = keep key.name ≡ true → IsConstantEntry key ty item basis × IsSubset basis items
IsCitedIn keep items key (Some (ATheorem th)) = IsSubset th.basis items
IsCitedIn keep items key (Some (ATac e bases basis)) = (suits_expr e basis ≡ true) × IsSubset basis items

abbrev pub AreCitedIn : (List ℕ → Bool) → Items → Values → Type 0
AreCitedIn keep items [] = Unit {0}
AreCitedIn keep items ((key, value) ∷ more) = IsCitedIn keep items key value × AreCitedIn keep items more

generics_same : (constants : List (List ℕ × TypeTree)) (c : List ℕ) → generic_type_of constants c ≡ generic_in constants c
generics_same [] c = refl
generics_same (p ∷ more) c = λ i. cond (same_bytes p.0 c i) (Some p.1) (generics_same more c i)

all_of : (P : List ℕ × TypeTree → Bool) (constants : List (List ℕ × TypeTree)) (c : List ℕ) (generic : TypeTree) → list_all P constants ≡ true → generic_type_of constants c ≡ Some generic → (name : List ℕ) × (P (name, generic) ≡ true)
all_of P [] c generic all e = absurd (cc)
all_of P (p ∷ more) c generic all e = by (bytes_eq p.0 c) e (all_of P more c generic (and_parts (P p) (list_all P more) all).1)
  where
    by : (b : Bool) → cond b (Some p.1) (generic_type_of more c) ≡ Some generic → (generic_type_of more c ≡ Some generic → (name : List ℕ) × (P (name, generic) ≡ true)) → (name : List ℕ) × (P (name, generic) ≡ true)
    by true f others = let h : p.1 ≡ generic = cc in (p.0, ap (λ a. P (p.0, a)) (sym h) ∙ (and_parts (P p) (list_all P more) all).0)
    by false f others = others f

any_of : (arities : List (List ℕ × ℕ)) (c : List ℕ) (n : ℕ) → arity_of arities c ≡ Some n → list_any (is_constructor c n) arities ≡ true
any_of [] c n e = absurd (cc)
any_of (p ∷ more) c n e = by (bytes_eq p.0 c) refl e (any_of more c n)
  where
    by : (b : Bool) → bytes_eq p.0 c ≡ b → cond b (Some p.1) (arity_of more c) ≡ Some n → (arity_of more c ≡ Some n → list_any (is_constructor c n) more ≡ true) → (is_constructor c n p || list_any (is_constructor c n) more) ≡ true
    by true f g others =
        let h : p.1 ≡ n = cc in
        let here : is_constructor c n p ≡ true = (λ i. (sym (same_bytes p.0 c) ∙ f) i && (n == h i)) ∙ eq-eqb n n refl in
        ap (λ b. b || list_any (is_constructor c n) more) here
    by false f g others = or_right (is_constructor c n p) (list_any (is_constructor c n) more) (others g)

module _ (items : Items) where
  abbrev takes : List ℕ → ℕ → Bool
  takes c n = has_arity items c n

  abbrev has : List ℕ → TypeTree → Bool
  has c a = has_constant items c a

  mutual
    type_same : (t : TypeTree) → stands takes t ≡ is_type items t
    type_same (TyVar a) = refl
    type_same (TyApp c ts) = λ i. has_arity items c (types_count ts) && types_same ts i

    types_same : (ts : TypeList) → all_stand takes ts ≡ are_types items ts
    types_same no_types = refl
    types_same (more_types t ts) = λ i. type_same t i && types_same ts i

  pub known : (p : Nameless) → TermStands takes has p → is_known items p ≡ true
  known (free v) h = sym (type_same v.1) ∙ h
  known (bound i) h = refl
  known (fixed c a) h = λ i. (sym (type_same a) ∙ h.0) i && h.1 i
  known (app f x) h = λ i. known f h.0 i && known x h.1 i
  known (lam a s b) h = λ i. (bytes_eq-Decides (base_of a) a).1 h.0 i && ((sym (type_same s) ∙ h.1) i && known b h.2 i)

  -- ---- the prelude

  has_instance : (c : List ℕ) (generic : TypeTree) (pairs : List (TypeTree × List ℕ)) → generic_type_of prelude_constants c ≡ Some generic → has c (type_subst pairs generic) ≡ true
  has_instance c generic pairs e =
      ap (λ (o : Option TypeTree). is_instance_of o (type_subst pairs generic) || list_any (makes_constant c (type_subst pairs generic)) (in_order items)) (sym (generics_same prelude_constants c) ∙ e)
      ∙ ap (λ b. b || list_any (makes_constant c (type_subst pairs generic)) (in_order items)) (instance_of_subst generic (type_subst pairs generic) pairs refl)

  has_type : (c : List ℕ) (n : ℕ) → arity_of prelude_types c ≡ Some n → takes c n ≡ true
  has_type c n e = ap (λ b. b || list_any (makes_type c n) (in_order items)) (any_of prelude_types c n e)

  -- ---- what is cited

  module _ (keep : List ℕ → Bool) where
    type_made : (c : List ℕ) (n : ℕ) (item : Item) → Contains (item_types item) (c, n) → Holds items item → takes c n ≡ true
    type_made c n item makes h =
        let at : is_constructor c n (c, n) ≡ true = λ i. (bytes_eq-Decides c c).1 refl i && eq-eqb n n refl i in
        or_right (list_any (is_constructor c n) prelude_types) (list_any (makes_type c n) (in_order items))
        (any_among (makes_type c n) (in_order items) item (ordered_held items item h) (any_at (is_constructor c n) (item_types item) (c, n) at makes))

    constant_made : (c : List ℕ) (generic a : TypeTree) (item : Item) → is_instance generic a ≡ true → Contains (item_constants item) (c, generic) → Holds items item → has c a ≡ true
    constant_made c generic a item instance makes h =
        let at : is_constant_at c a (c, generic) ≡ true = λ i. (bytes_eq-Decides c c).1 refl i && instance i in
        or_right _ (list_any (makes_constant c a) (in_order items))
        (any_among (makes_constant c a) (in_order items) item (ordered_held items item h) (any_at (is_constant_at c a) (item_constants item) (c, generic) at makes))

    cited_types_stand : (cited : Values) → AreCitedIn keep items cited → (c : List ℕ) (n : ℕ) → arity_of (cited_types cited) c ≡ Some n → takes c n ≡ true
    cited_types_stand [] all c n e = absurd (cc)
    cited_types_stand ((key, None) ∷ more) all c n e = cited_types_stand more all.1 c n e
    cited_types_stand ((key, Some (AType arity item basis)) ∷ more) all c n e = by (bytes_eq key.name c) refl e (cited_types_stand more all.1 c n)
      where
        by : (b : Bool) → bytes_eq key.name c ≡ b → cond b (Some arity) (arity_of (cited_types more) c) ≡ Some n → (arity_of (cited_types more) c ≡ Some n → takes c n ≡ true) → takes c n ≡ true
        by true f g rest =
            let same : arity ≡ n = cc in
            let here = type_made key.name arity item all.0.0.makes (within_of_subset basis items all.0.1 item all.0.0.own) in
            (λ i. takes (sym ((bytes_eq-Decides key.name c).0 f) i) (sym same i)) ∙ here
        by false f g rest = rest g
    cited_types_stand ((key, Some (AConstant ty item basis)) ∷ more) all c n e = cited_types_stand more all.1 c n e
    cited_types_stand ((key, Some (ATheorem th)) ∷ more) all c n e = cited_types_stand more all.1 c n e
    cited_types_stand ((key, Some (ATac t bases basis)) ∷ more) all c n e = cited_types_stand more all.1 c n e

    abbrev StandsAt : List ℕ → TypeTree → Type 0
    StandsAt c generic = (stands takes generic ≡ true) × ((pairs : List (TypeTree × List ℕ)) → has c (type_subst pairs generic) ≡ true)

    constant_stands : (key : KeyValue) (ty : TypeTree) (item : Item) (basis : Items) → IsConstantEntry key ty item basis → IsSubset basis items → StandsAt key.name ty
    constant_stands key ty item basis h within =
        let there : Holds items item = within_of_subset basis items within item h.own in (
          type_same ty ∙ is_type_more basis items (within_of_subset basis items within) ty (made_stands basis h.legal item key.name ty h.own h.makes),
          λ pairs. constant_made key.name ty (type_subst pairs ty) item (instance_of_subst ty (type_subst pairs ty) pairs refl) h.makes there,
        )

    cited_constants_stand : (cited : Values) → AreCitedIn keep items cited → (c : List ℕ) (g : TypeTree) → keep c ≡ true → generic_type_of (cited_constants cited) c ≡ Some g → StandsAt c g
    cited_constants_stand [] all c g k e = absurd (cc)
    cited_constants_stand ((key, None) ∷ more) all c g k e = cited_constants_stand more all.1 c g k e
    cited_constants_stand ((key, Some (AType arity item basis)) ∷ more) all c g k e = cited_constants_stand more all.1 c g k e
    cited_constants_stand ((key, Some (AConstant ty item basis)) ∷ more) all c g k e = by (bytes_eq key.name c) refl e (cited_constants_stand more all.1 c g k)
      where
        by : (b : Bool) → bytes_eq key.name c ≡ b → cond b (Some ty) (generic_type_of (cited_constants more) c) ≡ Some g → (generic_type_of (cited_constants more) c ≡ Some g → StandsAt c g) → StandsAt c g
        by true f h rest =
            let same : ty ≡ g = cc in
            let name : key.name ≡ c = (bytes_eq-Decides key.name c).0 f in
            let own = all.0 (ap keep name ∙ k) in
            subst (λ (d : List ℕ). StandsAt d g) name (subst (StandsAt key.name) same (constant_stands key ty item basis own.0 own.1))
        by false f h rest = rest h
    cited_constants_stand ((key, Some (ATheorem th)) ∷ more) all c g k e = cited_constants_stand more all.1 c g k e
    cited_constants_stand ((key, Some (ATac t bases basis)) ∷ more) all c g k e = cited_constants_stand more all.1 c g k e

    -- ---- both

    generics : (cited : Values) → AreCitedIn keep items cited → (c : List ℕ) (g : TypeTree) → generic_type_of (kept keep (signature_of cited).constants) c ≡ Some g → StandsAt c g
    generics cited all c g e =
        let k : keep c ≡ true = found_kept keep (signature_of cited).constants c g e in
        elim (generic_joined prelude_constants (cited_constants cited) c g (sym (kept_found keep (signature_of cited).constants c k) ∙ e)) [
          | inl p ↦ ((all_of (λ d. stands takes d.1) prelude_constants c g refl p).1, λ pairs. has_instance c g pairs p)
          | inr p ↦ cited_constants_stand cited all c g k p
        ]

    constructors : (cited : Values) → AreCitedIn keep items cited → (c : List ℕ) (n : ℕ) → arity_of (signature_of cited).types c ≡ Some n → takes c n ≡ true
    constructors cited all c n e = elim (arity_joined prelude_types (cited_types cited) c n e) [ inl p ↦ has_type c n p | inr p ↦ cited_types_stand cited all c n p ]

    pub cited_stand : (cited : Values) → AreCitedIn keep items cited → AreStanding takes has (signature_of cited).types (kept keep (signature_of cited).constants)
    cited_stand cited all = record {
      functions = refl;
      truth = refl;
      equality = has_instance (codes "=") (equality_type (TyVar (codes "A"))) ((bool_type, codes "A") ∷ []) refl;
      constructors = constructors cited all;
      generics = generics cited all;
    }
