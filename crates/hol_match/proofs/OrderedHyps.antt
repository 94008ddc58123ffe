-- Hypotheses in the order of their set, up to bound names: the rules beside them are those beside the set's.
use Rattle.std.proofs.Common.{◌≡◌, ℕ, zero, suc, ◌+◌, List, [], ◌∷◌, ◌++◌, map, refl, sym, ap, ◌∙◌, cond, ◌||◌, codes, Option, Some, None}
use Rattle.std.specs.Ordering.{eq_by_cmp}
use Rattle.std.specs.List.Sorted.{IsStrictlySortedBy}
use Rattle.std.specs.FinSet as set
use Rattle.std.proofs.Math.Bool.{or-false}
use Rattle.hol_types.specs.Tree.{TypeTree}
use Rattle.hol_types.specs.Names.{insert_names, tyvars}
use Rattle.hol_terms.specs.Named.{Named}
use Rattle.hol_terms.specs.Nameless.{Nameless, free, bound, fixed, app, lam, nameless, free_occurrences}
use Rattle.hol_terms.specs.Alpha.{strip}
use Rattle.hol_terms.specs.Scoped.{add_all}
use Rattle.hol_subst.specs.AlphaOrder.{nameless_cmp}
use Rattle.hol_subst.specs.Closing.{open_with}
use Rattle.hol_subst.specs.FreeName.{has_name, is_taken}
use Rattle.hol_subst.specs.Hypotheses.{Hyps, hyp_of, hyps_of}
use Rattle.hol_subst.specs.TermTyvars.{type_names_in, term_tyvars}
use Rattle.hol_subst.proofs.HypothesisLists.{hyps_total, hyps_same}
use Rattle.hol_subst.proofs.SortedSets.{sorted_none, sorted_one, sorted_merged, set_merged}
use Rattle.hol_subst.proofs.Strip.{strip_free}
use Rattle.hol_formulas.specs.Formula.{Abstraction, dest_forall, dest_conj}
use Rattle.hol_kernel.proofs.Members.{from_list_items}
use Rattle.hol_kernel.proofs.Ordered.{sorted_unique}
use Rattle.hol_match.specs.Fixed.{add_names, fixed_names, fixed_variables, stays_of}
use Rattle.hol_match.specs.FreeNames.{count_names, count_all, untaken, free_name}
use Rattle.hol_match.specs.Instance.{staying}
use Rattle.hol_match.specs.Listed.{in_order, listed}
use Rattle.hol_match.specs.Rules.{single_rule, body_apart, rules_by, rules_in, rules_of, nodes, generalized, pattern_variables}

-- ---- lists in order
order_sorted : (ns : List Nameless) → IsStrictlySortedBy nameless_cmp (in_order ns)
order_sorted [] = sorted_none hyps_total
order_sorted (n ∷ ns) = sorted_merged hyps_total (n ∷ []) (in_order ns) (sorted_one hyps_total n) (order_sorted ns)

one_more : (s : Hyps) (n : Nameless) → set.union (set.insert set.empty n) s ≡ set.insert s n
one_more s n =
    set.same_set hyps_total hyps_same (set.union (set.insert set.empty n) s) (set.insert s n)
    (λ q. set.contains-union hyps_total (set.insert set.empty n) s q
    ∙ ap (λ b. b || set.contains s q) (set.contains-insert hyps_total set.empty n q ∙ ap (λ b. eq_by_cmp nameless_cmp q n || b) (set.contains-empty nameless_cmp q) ∙ or-false (eq_by_cmp nameless_cmp q n))
    ∙ sym (set.contains-insert hyps_total s n q))

order_set : (ns : List Nameless) → set.from_list {R = nameless_cmp} (in_order ns) ≡ set.from_list ns
order_set [] = refl
order_set (n ∷ ns) = set_merged hyps_total hyps_same (n ∷ []) (in_order ns) ∙ one_more (set.from_list (in_order ns)) n ∙ ap (λ (s : Hyps). set.insert s n) (order_set ns)

items_are : (ps : List Named) (hs : Hyps) → hyps_of ps ≡ hs → IsStrictlySortedBy nameless_cmp (map hyp_of ps) → map hyp_of ps ≡ listed hs
items_are ps hs e o =
    let same : set.from_list {R = nameless_cmp} (map hyp_of ps) ≡ set.from_list (listed hs) = e ∙ sym (order_set (set.items hs) ∙ from_list_items hyps_total hyps_same hs) in
    sorted_unique hyps_total hyps_same (map hyp_of ps) (listed hs) o (order_sorted (set.items hs))
    (λ q. sym (set.contains-from_list hyps_total (map hyp_of ps) q) ∙ ap (λ (t : Hyps). set.contains t q) same ∙ set.contains-from_list hyps_total (listed hs) q)

-- ---- what stays
pub strip_names : (n : Nameless) → type_names_in (strip n) ≡ type_names_in n
strip_names (free v) = refl
strip_names (bound i) = refl
strip_names (fixed c s) = refl
strip_names (app f x) = λ i. strip_names f i ++ strip_names x i
strip_names (lam a s b) = ap (λ xs. tyvars s ++ xs) (strip_names b)

names_same : (names : List (List ℕ)) (ps : List Named) → fixed_names names (map (λ t. nameless [] t) ps) ≡ fixed_names names (map hyp_of ps)
names_same names [] = refl
names_same names (p ∷ ps) =
    ap (λ xs. fixed_names (add_names names (insert_names [] xs)) (map (λ t. nameless [] t) ps)) (sym (strip_names (nameless [] p)))
    ∙ names_same (add_names names (term_tyvars (hyp_of p))) ps

variables_same : (vs : List (List ℕ × TypeTree)) (ps : List Named) → fixed_variables vs (map (λ t. nameless [] t) ps) ≡ fixed_variables vs (map hyp_of ps)
variables_same vs [] = refl
variables_same vs (p ∷ ps) =
    ap (λ xs. fixed_variables (add_all vs (add_all [] xs)) (map (λ t. nameless [] t) ps)) (sym (strip_free (nameless [] p)))
    ∙ variables_same (add_all vs (add_all [] (free_occurrences (hyp_of p)))) ps

pub stays_same : (ps : List Named) (hs : Hyps) → hyps_of ps ≡ hs → IsStrictlySortedBy nameless_cmp (map hyp_of ps) → stays_of (map (λ t. nameless [] t) ps) ≡ stays_of (listed hs)
stays_same ps hs e o = (λ i. staying (names_same [] ps i) (variables_same [] ps i)) ∙ ap stays_of (items_are ps hs e o)

-- ---- names
pub strip_has : (a : List ℕ) (n : Nameless) → has_name a (strip n) ≡ has_name a n
strip_has a (free v) = refl
strip_has a (bound i) = refl
strip_has a (fixed c s) = refl
strip_has a (app f x) = λ i. strip_has a f i || strip_has a x i
strip_has a (lam c s b) = strip_has a b

strip_count : (n : Nameless) → count_names (strip n) ≡ count_names n
strip_count (free v) = refl
strip_count (bound i) = refl
strip_count (fixed c s) = refl
strip_count (app f x) = λ i. strip_count f i + strip_count x i
strip_count (lam a s b) = strip_count b

taken_same : (ps : List Named) (a : List ℕ) → is_taken (map (λ t. nameless [] t) ps) a ≡ is_taken (map hyp_of ps) a
taken_same [] a = refl
taken_same (p ∷ ps) a = λ i. sym (strip_has a (nameless [] p)) i || taken_same ps a i

count_same : (ps : List Named) → count_all (map (λ t. nameless [] t) ps) ≡ count_all (map hyp_of ps)
count_same [] = refl
count_same (p ∷ ps) = λ i. sym (strip_count (nameless [] p)) i + count_same ps i

untaken_same : (avoid other : List Nameless) → ((a : List ℕ) → is_taken avoid a ≡ is_taken other a) → (n : ℕ) (a : List ℕ) → untaken avoid n a ≡ untaken other n a
untaken_same avoid other h zero a = refl
untaken_same avoid other h (suc n) a = λ i. cond (h a i) (untaken_same avoid other h n (a ++ codes "'") i) a

name_same : (p : Nameless) (ps : List Named) (base : List ℕ) → free_name (p ∷ map (λ t. nameless [] t) ps) base ≡ free_name (p ∷ map hyp_of ps) base
name_same p ps base =
    untaken_same (p ∷ map (λ t. nameless [] t) ps) (p ∷ map hyp_of ps) (λ a. ap (λ b. has_name a p || b) (taken_same ps a)) (count_all (p ∷ map (λ t. nameless [] t) ps)) base
    ∙ ap (λ k. untaken (p ∷ map hyp_of ps) (count_names p + k) base) (count_same ps)

-- ---- rules
module _ (ps : List Named) where
  in_same : (n : ℕ) (p : Nameless) → rules_in n (map (λ t. nameless [] t) ps) p ≡ rules_in n (map hyp_of ps) p
  in_same zero p = refl
  in_same (suc n) p = by (λ q. in_same n q) (dest_forall p) (dest_conj p)
    where
      by : ((q : Nameless) → rules_in n (map (λ t. nameless [] t) ps) q ≡ rules_in n (map hyp_of ps) q) → (o : Option Abstraction) (c : Option (Nameless × Nameless)) → rules_by (λ q. rules_in n (map (λ t. nameless [] t) ps) q) (map (λ t. nameless [] t) ps) p o c ≡ rules_by (λ q. rules_in n (map hyp_of ps) q) (map hyp_of ps) p o c
      by again (Some x) c =
          again (body_apart (p ∷ map (λ t. nameless [] t) ps) x)
          ∙ ap (λ a. rules_in n (map hyp_of ps) (open_with (free (a, x.domain)) 0 x.body)) (name_same p ps x.base)
      by again None (Some q) = λ i. again q.0 i ++ again q.1 i
      by again None None = λ i. single_rule (names_same [] ps i) (variables_same [] ps i) p ∷ []

  whole_same : (p : Nameless) → rules_of (map (λ t. nameless [] t) ps) p ≡ rules_of (map hyp_of ps) p
  whole_same p =
      let own = generalized (pattern_variables (fixed_variables [] (map (λ t. nameless [] t) ps)) p) p in
      in_same (nodes own) own
      ∙ ap (λ vs. rules_in (nodes (generalized (pattern_variables vs p) p)) (map hyp_of ps) (generalized (pattern_variables vs p) p)) (variables_same [] ps)

pub rules_same : (ps : List Named) (hs : Hyps) (p : Nameless) → hyps_of ps ≡ hs → IsStrictlySortedBy nameless_cmp (map hyp_of ps) → rules_of (map (λ t. nameless [] t) ps) p ≡ rules_of (listed hs) p
rules_same ps hs p e o = whole_same ps p ∙ ap (λ ks. rules_of ks p) (items_are ps hs e o)
