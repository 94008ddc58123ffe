-- The hypotheses of all that was given.
use Rattle.std.proofs.Common.{◌≡◌, ℕ, List, [], ◌∷◌, ◌++◌, refl, sym, ap, ◌∙◌, Bool, true, false, not, ◌&&◌, ◌||◌}
use Rattle.std.specs.List.{list_any}
use Rattle.std.specs.FinSet as set
use Rattle.std.proofs.Math.Bool.{or_assoc}
use Rattle.std.proofs.lemmas.Bool.{false≢true}
use Rattle.std.proofs.lemmas.List.Folds.{list_any-append}
use Rattle.hol_types.specs.Tree.{TypeTree}
use Rattle.hol_terms.specs.Nameless.{Nameless, free_occurrences}
use Rattle.hol_terms.specs.Scoped.{binds}
use Rattle.hol_subst.specs.Variant.{is_free_in}
use Rattle.hol_kernel.specs.Given.{Given, given_sequent}
use Rattle.hol_kernel.specs.Sequent.{Hyps}
use Rattle.hol_subst.proofs.HypothesisLists.{hyps_total, hyps_same}
use Rattle.hol_kernel.proofs.Members.{from_list_items}
use Rattle.hol_kernel.proofs.Sets.{items_empty}
use Rattle.hol_subst.proofs.SortedSets.{union_none_left, union_none_right, set_append, any_of_set}
use Rattle.hol_conv.specs.Traces.{is_outside}
use Rattle.hol_match.specs.Givens.{all_hyps}

union_more : (a b c : Hyps) → set.union a (set.union b c) ≡ set.union (set.union a b) c
union_more a b c =
    set.same_set hyps_total hyps_same (set.union a (set.union b c)) (set.union (set.union a b) c)
    (λ q.
    set.contains-union hyps_total a (set.union b c) q ∙ ap (λ k. set.contains a q || k) (set.contains-union hyps_total b c q)
    ∙ sym (or_assoc (set.contains a q) (set.contains b q) (set.contains c q))
    ∙ sym (set.contains-union hyps_total (set.union a b) c q ∙ ap (λ k. k || set.contains c q) (set.contains-union hyps_total a b q)))

pub hyps_both : (xs ys : List Given) → set.union (all_hyps xs) (all_hyps ys) ≡ all_hyps (xs ++ ys)
hyps_both [] ys = union_none_left hyps_total hyps_same (all_hyps ys)
hyps_both (x ∷ xs) ys = sym (union_more (given_sequent x).hyps (all_hyps xs) (all_hyps ys)) ∙ ap (set.union (given_sequent x).hyps) (hyps_both xs ys)

pub hyps_one : (g : Given) → all_hyps (g ∷ []) ≡ (given_sequent g).hyps
hyps_one g = union_none_right hyps_total hyps_same (given_sequent g).hyps

-- ---- what is free in them
free_any : (v : List ℕ × TypeTree) (ns : List Nameless) → is_free_in ns v ≡ list_any (λ n. binds (free_occurrences n) v) ns
free_any v [] = refl
free_any v (n ∷ ns) = ap (λ b. binds (free_occurrences n) v || b) (free_any v ns)

union_list : (hs ks : Hyps) → set.union hs ks ≡ set.from_list (set.items hs ++ set.items ks)
union_list hs ks =
    (λ i. set.union (sym (from_list_items hyps_total hyps_same hs) i) (sym (from_list_items hyps_total hyps_same ks) i)) ∙ sym (set_append hyps_total hyps_same (set.items hs) (set.items ks))

free_union : (v : List ℕ × TypeTree) (hs ks : Hyps) → is_free_in (set.items (set.union hs ks)) v ≡ (is_free_in (set.items hs) v || is_free_in (set.items ks) v)
free_union v hs ks =
    ap (λ (s : Hyps). is_free_in (set.items s) v) (union_list hs ks) ∙ free_any v (set.items (set.from_list (set.items hs ++ set.items ks)))
    ∙ any_of_set hyps_total hyps_same (λ n. binds (free_occurrences n) v) (set.items hs ++ set.items ks) ∙ list_any-append (λ n. binds (free_occurrences n) v) (set.items hs) (set.items ks)
    ∙ sym (λ i. free_any v (set.items hs) i || free_any v (set.items ks) i)

-- a variable that is free in none of those that were given
pub absent : (v : List ℕ × TypeTree) (gs : List Given) → is_outside v gs ≡ true → is_free_in (set.items (all_hyps gs)) v ≡ false
absent v [] h = ap (λ (ks : List Nameless). is_free_in ks v) (items_empty hyps_total)
absent v (g ∷ gs) h = free_union v (given_sequent g).hyps (all_hyps gs) ∙ by (is_free_in (set.items (given_sequent g).hyps) v) h (absent v gs)
  where
    by : (b : Bool) → (not b && is_outside v gs) ≡ true → (is_outside v gs ≡ true → is_free_in (set.items (all_hyps gs)) v ≡ false) → (b || is_free_in (set.items (all_hyps gs)) v) ≡ false
    by true k r = absurd (false≢true k)
    by false k r = r k
