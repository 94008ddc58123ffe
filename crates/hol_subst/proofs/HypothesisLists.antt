-- Lists of hypotheses in order, and their sets.
use Rattle.std.specs.Prelude.{◌≡◌, ℕ, ◌≤◌, Bool, true, false, cond, not, ◌||◌, ◌&&◌, List, [], ◌∷◌, ◌++◌, map, length, ◌-◌, take, drop, refl}
use Rattle.std.proofs.Common.{ap, sym, ◌∙◌, subst, arith, inl, inr}
use Rattle.std.proofs.lemmas.Bool.{and_parts, and_from, or_left, or_right, or_cases}
use mathlib.Core.Bool.{true≢false}
use Rattle.std.specs.declared.cmp.Ordering.{Ordering}
use Rattle.std.specs.declared.cmp.Ordering.TheVariants.{Less, Equal, Greater}
use Rattle.std.specs.Ordering.{eq_by_cmp, is_eq, match_ordering}
use Rattle.std.specs.Cmp.{IsTotalOrder, Equal-is, tied_itself, both_ways}
use Rattle.std.specs.List.{filter, list_any}
use Rattle.std.specs.List.Sorted.{IsStrictlySortedBy}
use Rattle.std.specs.Set.{sorted_merge}
use Rattle.std.specs.FinSet as set
use Rattle.std.specs.Bool.{one_answer}
use Rattle.std.proofs.lemmas.List.{take_rest, take-append-drop, map-append, nil_from_length}
use Rattle.hol_subst.proofs.Strip.{strip_free}
use Rattle.hol_types.specs.Tree.{TypeTree}
use Rattle.hol_terms.specs.Nameless.{Nameless, nameless, free_occurrences}
use Rattle.hol_terms.specs.Scoped.{binds}
use Rattle.hol_subst.specs.Variant.{is_free_in}
use Rattle.hol_terms.specs.Named.{Named}
use Rattle.hol_terms.specs.Alpha.{alpha_eq}
use Rattle.hol_terms.proofs.Alpha.{alpha_eq_decides}
use Rattle.hol_subst.proofs.CodeOrder.{nameless_total, nameless_same}
use Rattle.hol_subst.specs.Hypotheses.{Hyps, no_hyps, hyp_of, hyps_of}
use Rattle.hol_subst.specs.AlphaOrder.{nameless_cmp}
use Rattle.hol_subst.proofs.SortedSets.{sorted_none, sorted_one, sorted_filter, sorted_merged, set_merged, set_append, set_but, any_of_set, union_none_left, union_none_right, remove_none}

pub hyps_total : IsTotalOrder nameless_cmp
hyps_total = nameless_total

pub hyps_same : set.IsAntisymmetric nameless_cmp
hyps_same = nameless_same

-- ---- in any order, through a key

module _ {X K : Type 0} (key : X → K) (R : K → K → Ordering) where
  abbrev pub by_key : X → X → Ordering
  by_key x y = R (key x) (key y)

  map_rank : (k : Ordering) (xs ys zs : List X) → map key (match_ordering k xs ys zs) ≡ match_ordering k (map key xs) (map key ys) (map key zs)
  map_rank Less xs ys zs = refl
  map_rank Equal xs ys zs = refl
  map_rank Greater xs ys zs = refl

  map_step : (x : X) (xs : List X) → ((ys : List X) → map key (sorted_merge by_key true xs ys) ≡ sorted_merge R true (map key xs) (map key ys)) → (ys : List X) → map key (sorted_merge by_key true (x ∷ xs) ys) ≡ sorted_merge R true (map key (x ∷ xs)) (map key ys)
  map_step x xs h [] = refl
  map_step x xs h (y ∷ ys) =
      map_rank (R (key x) (key y)) _ _ _
      ∙ (λ i. match_ordering (R (key x) (key y)) (key x ∷ h (y ∷ ys) i) (key x ∷ h ys i) (key y ∷ map_step x xs h ys i))

  pub map_merged : (xs ys : List X) → map key (sorted_merge by_key true xs ys) ≡ sorted_merge R true (map key xs) (map key ys)
  map_merged [] ys = refl
  map_merged (x ∷ xs) ys = map_step x xs (map_merged xs) ys

  pub map_filter : (p : K → Bool) (xs : List X) → map key (filter (λ x. p (key x)) xs) ≡ filter p (map key xs)
  map_filter p [] = refl
  map_filter p (x ∷ xs) =
      elim (p (key x)) as (λ b. map key (cond b (x ∷ filter (λ y. p (key y)) xs) (filter (λ y. p (key y)) xs)) ≡ cond b (key x ∷ filter p (map key xs)) (filter p (map key xs))) [
        | true ↦ ap (λ ks. key x ∷ ks) (map_filter p xs)
        | false ↦ map_filter p xs
      ]

-- ---- lists of hypotheses

abbrev pub AreOrdered : List Named → Type 0
AreOrdered ps = IsStrictlySortedBy nameless_cmp (map hyp_of ps)

pub ordered_none : (ps : List Named) → ps ≡ [] → AreOrdered ps
ordered_none ps e = subst AreOrdered (sym e) (sorted_none hyps_total)

pub ordered_one : (ps : List Named) (p : Named) → ps ≡ p ∷ [] → AreOrdered ps
ordered_one ps p e = subst AreOrdered (sym e) (sorted_one hyps_total (hyp_of p))

pub none_of_length : (ps : List Named) → length ps ≡ 0 → hyps_of ps ≡ no_hyps
none_of_length ps e = ap hyps_of (nil_from_length ps e)

-- ---- both

abbrev pub hyp_cmp : Named → Named → Ordering
hyp_cmp p q = nameless_cmp (hyp_of p) (hyp_of q)

pub merged_set : (ps qs all : List Named) → all ≡ sorted_merge hyp_cmp true ps qs → hyps_of all ≡ set.union (hyps_of ps) (hyps_of qs)
merged_set ps qs all e =
    ap hyps_of e ∙ ap (λ (ks : List Nameless). set.from_list {R = nameless_cmp} ks) (map_merged hyp_of nameless_cmp ps qs)
    ∙ set_merged hyps_total hyps_same (map hyp_of ps) (map hyp_of qs)

pub merged_ordered : (ps qs all : List Named) → all ≡ sorted_merge hyp_cmp true ps qs → AreOrdered ps → AreOrdered qs → AreOrdered all
merged_ordered ps qs all e s t =
    subst AreOrdered (sym e)
    (subst (IsStrictlySortedBy nameless_cmp) (sym (map_merged hyp_of nameless_cmp ps qs)) (sorted_merged hyps_total (map hyp_of ps) (map hyp_of qs) s t))

-- ---- among others

-- no hypothesis is among any
pub empty_in : (s : Hyps) → set.is_subset no_hyps s ≡ true
empty_in s = set.contains-is_subset hyps_total no_hyps s (λ q i. absurd (true≢false (sym i ∙ set.contains-empty nameless_cmp q)))

-- one more is among those where it is one of them
pub insert_in : (s : Hyps) (k : Nameless) (t : Hyps) → set.is_subset (set.insert s k) t ≡ set.contains t k && set.is_subset s t
insert_in s k t =
    both_ways (set.is_subset (set.insert s k) t) (set.contains t k && set.is_subset s t)
    (λ h. and_from (set.contains t k) (set.is_subset s t)
    (set.is_subset-contains hyps_total (set.insert s k) t h k (set.contains-insert hyps_total s k k ∙ or_left (eq_by_cmp nameless_cmp k k) (set.contains s k) (ap is_eq (tied_itself hyps_total k))))
    (set.contains-is_subset hyps_total s t (λ q i. set.is_subset-contains hyps_total (set.insert s k) t h q (set.contains-insert hyps_total s k q ∙ or_right (eq_by_cmp nameless_cmp q k) (set.contains s q) i))))
    (λ h.
    let p = and_parts (set.contains t k) (set.is_subset s t) h in
    set.contains-is_subset hyps_total (set.insert s k) t (λ q i. elim (or_cases (eq_by_cmp nameless_cmp q k) (set.contains s q) (sym (set.contains-insert hyps_total s k q) ∙ i)) [
      | inl e ↦ ap (set.contains t) (hyps_same q k ((Equal-is (nameless_cmp q k)).0 e)) ∙ p.0
      | inr j ↦ set.is_subset-contains hyps_total s t p.1 q j
    ]))

-- and two sets where both are
pub union_in : (a b t : Hyps) → set.is_subset (set.union a b) t ≡ set.is_subset a t && set.is_subset b t
union_in a b t =
    both_ways (set.is_subset (set.union a b) t) (set.is_subset a t && set.is_subset b t)
    (λ h. and_from (set.is_subset a t) (set.is_subset b t)
    (set.contains-is_subset hyps_total a t (λ q i. set.is_subset-contains hyps_total (set.union a b) t h q (set.contains-union hyps_total a b q ∙ or_left (set.contains a q) (set.contains b q) i)))
    (set.contains-is_subset hyps_total b t (λ q i. set.is_subset-contains hyps_total (set.union a b) t h q (set.contains-union hyps_total a b q ∙ or_right (set.contains a q) (set.contains b q) i))))
    (λ h.
    let p = and_parts (set.is_subset a t) (set.is_subset b t) h in
    set.contains-is_subset hyps_total (set.union a b) t (λ q i. elim (or_cases (set.contains a q) (set.contains b q) (sym (set.contains-union hyps_total a b q) ∙ i)) [
      | inl j ↦ set.is_subset-contains hyps_total a t p.0 q j
      | inr j ↦ set.is_subset-contains hyps_total b t p.1 q j
    ]))

-- ---- but one

alpha_key : (q p : Named) → alpha_eq (nameless [] q) (nameless [] p) ≡ eq_by_cmp nameless_cmp (hyp_of q) (hyp_of p)
alpha_key q p =
    one_answer (alpha_eq (nameless [] q) (nameless [] p)) (eq_by_cmp nameless_cmp (hyp_of q) (hyp_of p)) (alpha_eq_decides (nameless [] q) (nameless [] p)) (
      λ e. hyps_same (hyp_of q) (hyp_of p) ((Equal-is (nameless_cmp (hyp_of q) (hyp_of p))).0 e),
      λ e. ap (λ k. is_eq (nameless_cmp (hyp_of q) k)) (sym e) ∙ ap is_eq (tied_itself hyps_total (hyp_of q)),
    )

abbrev pub is_other : Named → Named → Bool
is_other p q = not (alpha_eq (nameless [] q) (nameless [] p))

abbrev is_other_key : Nameless → Nameless → Bool
is_other_key k q = not (eq_by_cmp nameless_cmp q k)

but_keys : (p : Named) (qs : List Named) → map hyp_of (filter (is_other p) qs) ≡ filter (is_other_key (hyp_of p)) (map hyp_of qs)
but_keys p qs = (λ i. map hyp_of (filter (λ q. not (alpha_key q p i)) qs)) ∙ map_filter hyp_of nameless_cmp (is_other_key (hyp_of p)) qs

pub but_set : (p : Named) (qs rest : List Named) → rest ≡ filter (is_other p) qs → hyps_of rest ≡ set.remove (hyps_of qs) (hyp_of p)
but_set p qs rest e =
    ap hyps_of e ∙ ap (λ (ks : List Nameless). set.from_list {R = nameless_cmp} ks) (but_keys p qs) ∙ set_but hyps_total hyps_same (hyp_of p) (map hyp_of qs)

pub but_ordered : (p : Named) (qs rest : List Named) → rest ≡ filter (is_other p) qs → AreOrdered qs → AreOrdered rest
but_ordered p qs rest e s =
    subst AreOrdered (sym e) (subst (IsStrictlySortedBy nameless_cmp) (sym (but_keys p qs)) (sorted_filter hyps_total (is_other_key (hyp_of p)) (map hyp_of qs) s))

pub but_none : (s : Hyps) (ps : List Named) (k : Nameless) → length ps ≡ 0 → hyps_of ps ≡ s → s ≡ set.remove s k
but_none s ps k e is =
    let none : s ≡ no_hyps = sym is ∙ none_of_length ps e in
    none ∙ sym (remove_none hyps_total hyps_same k) ∙ ap (λ (hs : Hyps). set.remove hs k) (sym none)

pub union_left : (s t : Hyps) (ps : List Named) → length ps ≡ 0 → hyps_of ps ≡ t → s ≡ set.union s t
union_left s t ps e is = sym (union_none_right hyps_total hyps_same s) ∙ ap (set.union s) (sym (none_of_length ps e) ∙ is)

pub union_right : (s t : Hyps) (ps : List Named) → length ps ≡ 0 → hyps_of ps ≡ s → t ≡ set.union s t
union_right s t ps e is = sym (union_none_left hyps_total hyps_same t) ∙ ap (λ (hs : Hyps). set.union hs t) (sym (none_of_length ps e) ∙ is)

-- ---- free variables

abbrev has_free : List ℕ × TypeTree → Nameless → Bool
has_free v n = binds (free_occurrences n) v

free_any : (ns : List Nameless) (v : List ℕ × TypeTree) → is_free_in ns v ≡ list_any (has_free v) ns
free_any [] v = refl
free_any (n ∷ ns) v = ap (λ b. has_free v n || b) (free_any ns v)

-- a variable is free in one of the nameless terms of a list where it is free in one of the list
pub free_in_list : (ts : List Named) (v : List ℕ × TypeTree) → is_free_in (map (λ t. nameless [] t) ts) v ≡ list_any (λ t. binds (free_occurrences (nameless [] t)) v) ts
free_in_list [] v = refl
free_in_list (t ∷ ts) v = ap (λ b. binds (free_occurrences (nameless [] t)) v || b) (free_in_list ts v)

free_keys : (ps : List Named) (v : List ℕ × TypeTree) → list_any (has_free v) (map hyp_of ps) ≡ list_any (λ p. has_free v (nameless [] p)) ps
free_keys [] v = refl
free_keys (p ∷ ps) v = λ i. binds (strip_free (nameless [] p) i) v || free_keys ps v i

-- a variable is free in a hypothesis where it is free in a term of the list
pub free_in_hyps : (hs : Hyps) (ps : List Named) (v : List ℕ × TypeTree) → hyps_of ps ≡ hs → is_free_in (set.items hs) v ≡ list_any (λ p. binds (free_occurrences (nameless [] p)) v) ps
free_in_hyps hs ps v is =
    ap (λ (s : Hyps). is_free_in (set.items s) v) (sym is) ∙ free_any (set.items (hyps_of ps)) v
    ∙ any_of_set hyps_total hyps_same (has_free v) (map hyp_of ps) ∙ free_keys ps v

-- ---- in order

pub short_ordered : (ps : List Named) → length ps ≤ 1 → AreOrdered ps
short_ordered [] h = sorted_none hyps_total
short_ordered (p ∷ []) h = sorted_one hyps_total (hyp_of p)
short_ordered (p ∷ q ∷ ps) h = absurd (omega arith)

halves_set : (ps qs : List Named) → hyps_of (ps ++ qs) ≡ set.union (hyps_of ps) (hyps_of qs)
halves_set ps qs =
    ap (λ (ks : List Nameless). set.from_list {R = nameless_cmp} ks) (map-append hyp_of ps qs) ∙ set_append hyps_total hyps_same (map hyp_of ps) (map hyp_of qs)

pub sorted_halves : (ts first second all : List Named) (half : ℕ) → hyps_of first ≡ hyps_of (take half ts) → hyps_of second ≡ hyps_of (take (length ts - half) (drop half ts)) → all ≡ sorted_merge hyp_cmp true first second → hyps_of all ≡ hyps_of ts
sorted_halves ts first second all half p q e =
    merged_set first second all e ∙ (λ i. set.union (p i) ((q ∙ ap hyps_of (take_rest ts half)) i)) ∙ sym (halves_set (take half ts) (drop half ts))
    ∙ ap hyps_of (take-append-drop half ts)

pub ruleset sorts = (short_ordered, sorted_halves, merged_ordered)

pub ruleset unions = (merged_set, merged_ordered, union_left, union_right)

pub ruleset removals = (but_set, but_ordered, but_none)
