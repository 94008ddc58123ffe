-- A term has one reading: two most general typings are instances of each other by type variables for open names, both name them in order
-- of occurrence, and so name by name they are the same.
use Rattle.std.proofs.Common.{◌≡◌, inl, inr, ◌⊎◌, ℕ, ◌+◌, ◌<◌, ◌≤◌, List, [], ◌∷◌, ◌++◌, refl, sym, ◌∙◌, ap, subst, arith, cond, Bool, true, false, bytes_eq, Some}
use Rattle.std.specs.Prelude.{unwrap_or}
use Rattle.std.specs.List.{All}
use Rattle.std.proofs.lemmas.Bool.{cases_eq, cases_order}
use Rattle.std.proofs.lemmas.List.Elements.{All-head, All-tail}
use Rattle.std.proofs.lemmas.Slice.Eq.{bytes_eq-Decides}
use Rattle.hol_types.specs.Tree.{TypeTree, TypeList, TyVar, TyApp, no_types, more_types}
use Rattle.hol_types.specs.Subst.{type_lookup, type_for, type_subst, types_subst}
use Rattle.hol_types.specs.Names.{type_names, types_names}
use Rattle.hol_terms.specs.Nameless.{Nameless, free, bound, fixed, app, lam}
use Rattle.hol_terms.specs.Size.{term_size}
use Rattle.hol_typing.specs.Raw.{RawTree}
use Rattle.hol_typing.specs.Typing.{open_name, IsOpen, HasNoTyping, instantiate_types}
use Rattle.hol_infer.specs.Reading.{occurring_tyvars, ComeInOrder, IsReading, HasLargeReading}
use Rattle.hol_infer.proofs.Sizes.{principal_sizes}

-- pairs for open names leave the other names
rigid_stays : (pairs : List (TypeTree × List ℕ)) (a : List ℕ) → All (λ pair. IsOpen pair.1) pairs → (IsOpen a → ⊥) → type_for pairs a ≡ TyVar a
rigid_stays [] a h rigid = refl
rigid_stays (p ∷ pairs) a h rigid = by (bytes_eq p.1 a) refl (rigid_stays pairs a (All-tail (λ (pair : TypeTree × List ℕ). IsOpen pair.1) p pairs h) rigid)
  where
    by : (b : Bool) → bytes_eq p.1 a ≡ b → type_for pairs a ≡ TyVar a → unwrap_or (cond b (Some p.0) (type_lookup pairs a)) (TyVar a) ≡ TyVar a
    by true e r = absurd (rigid (subst IsOpen ((bytes_eq-Decides p.1 a).0 e) (All-head (λ (pair : TypeTree × List ℕ). IsOpen pair.1) p pairs h)))
    by false e r = r

same_variable : (a b : List ℕ) → TyVar a ≡ TyVar b → a ≡ b
same_variable a b e = cc

module _ (there back : List (TypeTree × List ℕ)) (there_open : All (λ pair. IsOpen pair.1) there) (back_open : All (λ pair. IsOpen pair.1) back) where
  -- name by name, the first pairs give the second names and the second pairs the first ones
  abbrev AreRelated : List (List ℕ) → List (List ℕ) → Type 0
  AreRelated [] [] = Unit {0}
  AreRelated [] (b ∷ ys) = ⊥
  AreRelated (a ∷ xs) [] = ⊥
  AreRelated (a ∷ xs) (b ∷ ys) = (type_for there a ≡ TyVar b) × (type_for back b ≡ TyVar a) × AreRelated xs ys

  related_append : (xs ys us vs : List (List ℕ)) → AreRelated xs ys → AreRelated us vs → AreRelated (xs ++ us) (ys ++ vs)
  related_append [] [] us vs p q = q
  related_append [] (b ∷ ys) us vs p q = absurd p
  related_append (a ∷ xs) [] us vs p q = absurd p
  related_append (a ∷ xs) (b ∷ ys) us vs (e, f, p) q = (e, f, related_append xs ys us vs p q)

  -- a type that comes back has variables in the place of its variables
  mutual
    type_related : (t : TypeTree) → type_subst back (type_subst there t) ≡ t → AreRelated (type_names t) (type_names (type_subst there t))
    type_related (TyVar a) e = by (type_for there a) refl e
      where
        by : (s : TypeTree) → type_for there a ≡ s → type_subst back s ≡ TyVar a → AreRelated (a ∷ []) (type_names s)
        by (TyVar b) f g = (f, g, tt)
        by (TyApp c ts) f g = absurd (cc)
    type_related (TyApp c ts) e = types_related ts (cc)

    types_related : (ts : TypeList) → types_subst back (types_subst there ts) ≡ ts → AreRelated (types_names ts) (types_names (types_subst there ts))
    types_related no_types e = tt
    types_related (more_types t ts) e = related_append (type_names t) (type_names (type_subst there t)) (types_names ts) (types_names (types_subst there ts)) (type_related t (cc)) (types_related ts (cc))

  free_comes : (u v : List ℕ × TypeTree) → free u ≡ free v → u ≡ v
  free_comes u v e = cc

  term_related : (p : Nameless) → instantiate_types back (instantiate_types there p) ≡ p → AreRelated (occurring_tyvars p) (occurring_tyvars (instantiate_types there p))
  term_related (free v) e = type_related v.1 (ap (λ (w : List ℕ × TypeTree). w.1) (free_comes (v.0, type_subst back (type_subst there v.1)) v e))
  term_related (bound i) e = tt
  term_related (fixed c s) e = type_related s (cc)
  term_related (app f x) e =
      related_append (occurring_tyvars f) (occurring_tyvars (instantiate_types there f)) (occurring_tyvars x) (occurring_tyvars (instantiate_types there x))
      (term_related f (cc)) (term_related x (cc))
  term_related (lam a s b) e =
      related_append (type_names s) (type_names (type_subst there s)) (occurring_tyvars b) (occurring_tyvars (instantiate_types there b))
      (type_related s (cc)) (term_related b (cc))

  -- ---- names that both pairs leave

  abbrev Stays : List ℕ → Type 0
  Stays a = (type_for there a ≡ TyVar a) × (type_for back a ≡ TyVar a)

  -- the open names below the n-th
  abbrev StayBelow : ℕ → Type 0
  StayBelow n = (k : ℕ) → k < n → Stays (open_name k)

  stay_next : (n : ℕ) (a : List ℕ) → StayBelow n → Stays a → a ≡ open_name n → StayBelow (n + 1)
  stay_next n a below stays e = λ k l. elim (cases_eq k n) [
    | inl f ↦ subst Stays (e ∙ ap open_name (sym f)) stays
    | inr ne ↦ below k (omega arith)
  ]

  same_stays : (a b : List ℕ) → type_for there a ≡ TyVar b → type_for back b ≡ TyVar a → a ≡ b → Stays a
  same_stays a b e f g = (e ∙ ap TyVar (sym g), ap (type_for back) g ∙ f)

  stays_there : (a b : List ℕ) → type_for there a ≡ TyVar b → Stays a → a ≡ b
  stays_there a b e s = same_variable a b (sym s.0 ∙ e)

  stays_back : (a b : List ℕ) → type_for back b ≡ TyVar a → Stays b → a ≡ b
  stays_back a b e s = sym (same_variable b a (sym s.1 ∙ e))

  -- how a name comes where the open names below the n-th have come
  abbrev Comes : ℕ → List ℕ → Type 0
  Comes n a = (IsOpen a → ⊥) ⊎ (((k : ℕ) × (k < n) × (a ≡ open_name k)) ⊎ (a ≡ open_name n))

  -- the next name of both
  new_same : (n m : ℕ) (a b : List ℕ) → StayBelow n → StayBelow m → type_for there a ≡ TyVar b → type_for back b ≡ TyVar a → a ≡ open_name n → b ≡ open_name m → a ≡ b
  new_same n m a b low high e f g h = elim (cases_order n m) [
    | inl same ↦ g ∙ ap open_name same ∙ sym h
    | inr (inl l) ↦ stays_there a b e (subst Stays (sym g) (high n l))
    | inr (inr l) ↦ stays_back a b f (subst Stays (sym h) (low m l))
  ]

  one_name : (n m : ℕ) (a b : List ℕ) → StayBelow n → StayBelow m → type_for there a ≡ TyVar b → type_for back b ≡ TyVar a → Comes n a → Comes m b → a ≡ b
  one_name n m a b low high e f (inl rigid) y = same_variable a b (sym (rigid_stays there a there_open rigid) ∙ e)
  one_name n m a b low high e f (inr (inl (k, l, g))) y = stays_there a b e (subst Stays (sym g) (low k l))
  one_name n m a b low high e f (inr (inr g)) (inl rigid) = sym (same_variable b a (sym (rigid_stays back b back_open rigid) ∙ f))
  one_name n m a b low high e f (inr (inr g)) (inr (inl (k, l, h))) = stays_back a b f (subst Stays (sym h) (high k l))
  one_name n m a b low high e f (inr (inr g)) (inr (inr h)) = new_same n m a b low high e f g h

  comes : (n last : ℕ) (a : List ℕ) (xs : List (List ℕ)) → ComeInOrder n (a ∷ xs) last → Comes n a
  comes n last a xs (inl (rigid, c)) = inl rigid
  comes n last a xs (inr (inl (k, l, e, c))) = inr (inl (k, l, e))
  comes n last a xs (inr (inr (e, c))) = inr (inr e)

  -- after a name that stays, the names that come stay as far as they have come
  rest_comes : (n last : ℕ) (a : List ℕ) (xs : List (List ℕ)) → StayBelow n → Stays a → ComeInOrder n (a ∷ xs) last → (i : ℕ) × StayBelow i × ComeInOrder i xs last
  rest_comes n last a xs below s (inl (rigid, c)) = (n, below, c)
  rest_comes n last a xs below s (inr (inl (k, l, e, c))) = (n, below, c)
  rest_comes n last a xs below s (inr (inr (e, c))) = (n + 1, stay_next n a below s e, c)

  abbrev AllStay : List (List ℕ) → Type 0
  AllStay [] = Unit {0}
  AllStay (a ∷ xs) = Stays a × AllStay xs

  names_stay : (n m last final : ℕ) (xs ys : List (List ℕ)) → StayBelow n → StayBelow m → AreRelated xs ys → ComeInOrder n xs last → ComeInOrder m ys final → AllStay xs
  names_stay n m last final [] ys low high r c d = tt
  names_stay n m last final (a ∷ xs) [] low high r c d = absurd r
  names_stay n m last final (a ∷ xs) (b ∷ ys) low high (e, f, r) c d =
      let same : a ≡ b = one_name n m a b low high e f (comes n last a xs c) (comes m final b ys d) in
      let s : Stays a = same_stays a b e f same in
      let x = rest_comes n last a xs low s c in
      let y = rest_comes m final b ys high (subst Stays same s) d in
      (s, names_stay x.0 y.0 last final xs ys x.1 y.1 r x.2 y.2)

  stay_front : (xs ys : List (List ℕ)) → AllStay (xs ++ ys) → AllStay xs
  stay_front [] ys h = tt
  stay_front (a ∷ xs) ys (s, h) = (s, stay_front xs ys h)

  stay_rest : (xs ys : List (List ℕ)) → AllStay (xs ++ ys) → AllStay ys
  stay_rest [] ys h = h
  stay_rest (a ∷ xs) ys (s, h) = stay_rest xs ys h

  mutual
    type_stays : (t : TypeTree) → AllStay (type_names t) → type_subst there t ≡ t
    type_stays (TyVar a) (s, h) = s.0
    type_stays (TyApp c ts) h = ap (TyApp c) (types_stay ts h)

    types_stay : (ts : TypeList) → AllStay (types_names ts) → types_subst there ts ≡ ts
    types_stay no_types h = refl
    types_stay (more_types t ts) h = λ i. more_types (type_stays t (stay_front (type_names t) (types_names ts) h) i) (types_stay ts (stay_rest (type_names t) (types_names ts) h) i)

  term_stays : (p : Nameless) → AllStay (occurring_tyvars p) → instantiate_types there p ≡ p
  term_stays (free v) h = ap (λ (t : TypeTree). free (v.0, t)) (type_stays v.1 h)
  term_stays (bound i) h = refl
  term_stays (fixed c s) h = ap (fixed c) (type_stays s h)
  term_stays (app f x) h = λ i. app (term_stays f (stay_front (occurring_tyvars f) (occurring_tyvars x) h) i) (term_stays x (stay_rest (occurring_tyvars f) (occurring_tyvars x) h) i)
  term_stays (lam a s b) h = λ i. lam a (type_stays s (stay_front (type_names s) (occurring_tyvars b) h) i) (term_stays b (stay_rest (type_names s) (occurring_tyvars b) h) i)

  -- a term whose open names come in order, and come back, and come in order there, stays
  whole_stays : (p : Nameless) (last final : ℕ) → instantiate_types back (instantiate_types there p) ≡ p → ComeInOrder 0 (occurring_tyvars p) last → ComeInOrder 0 (occurring_tyvars (instantiate_types there p)) final → instantiate_types there p ≡ p
  whole_stays p last final e c d = term_stays p (names_stay 0 0 last final (occurring_tyvars p) (occurring_tyvars (instantiate_types there p)) (λ k l. absurd (omega arith)) (λ k l. absurd (omega arith)) (term_related p e) c d)

pub one_reading : (raw : RawTree) (p q : Nameless) → IsReading raw p → IsReading raw q → p ≡ q
one_reading raw p q of_p of_q =
    let there = of_p.principal.most_general q of_q.principal.typing in
    let back = of_q.principal.most_general p of_p.principal.typing in
    let returns : instantiate_types back.pairs (instantiate_types there.pairs p) ≡ p = ap (instantiate_types back.pairs) there.gives ∙ back.gives in
    let ordered : ComeInOrder 0 (occurring_tyvars (instantiate_types there.pairs p)) of_q.in_order.0 = subst (λ (r : Nameless). ComeInOrder 0 (occurring_tyvars r) of_q.in_order.0) (sym there.gives) of_q.in_order.1 in
    sym (whole_stays there.pairs back.pairs there.are_open back.are_open p of_p.in_order.0 of_q.in_order.0 returns of_p.in_order.1 ordered) ∙ there.gives

-- ---- each fault excludes a reading, and the others

pub reading_typable : (raw : RawTree) (p : Nameless) → IsReading raw p → HasNoTyping raw → ⊥
reading_typable raw p r none = none.none p r.principal.typing

pub reading_not_large : (raw : RawTree) (p : Nameless) → IsReading raw p → term_size [] p ≤ 20000 → HasLargeReading raw → ⊥
reading_not_large raw p r small (q, principal, large) =
    let same : term_size [] p ≡ term_size [] q = principal_sizes raw p q r.principal principal in
    omega (arith, same, small, large)

pub large_typable : (raw : RawTree) → HasNoTyping raw → HasLargeReading raw → ⊥
large_typable raw none (q, principal, large) = none.none q principal.typing
