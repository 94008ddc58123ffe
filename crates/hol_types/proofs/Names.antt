-- Collecting the names of type variables.
use Rattle.std.proofs.Common.{◌≡◌, ℕ, ◌+◌, ◌<◌, List, [], ◌∷◌, ◌++◌, length, get_or, drop, refl}
use Rattle.hol_types.proofs.Steps.{next_of}
use Rattle.hol_types.specs.Tree.{TypeTree, type_list}
use Rattle.hol_types.specs.Names.{type_names, types_names, insert_name, insert_names}
use Rattle.std.proofs.Common.{sym, ap, ◌∙◌, Bool, true, false, ◌||◌, bytes_eq}
use Rattle.std.specs.Cmp.Lexicographic.{nat_list_cmp_total}
use Rattle.std.specs.Ordering.{ordering_reverse}
use Rattle.std.proofs.Math.Bool.{or-false}
use Rattle.std.specs.declared.cmp.Ordering.{Ordering}
use Rattle.std.specs.declared.cmp.Ordering.TheVariants.{Less, Equal, Greater}
use Rattle.hol_types.specs.Names.{placed_name, tyvars, IsBelowAll, IsAscending, is_among}
use Rattle.hol_types.specs.Order.{name_cmp}
use Rattle.hol_types.proofs.OrderLaws.{name_equal}

pub insert_names_append : (names xs ys : List (List ℕ)) → insert_names names (xs ++ ys) ≡ insert_names (insert_names names xs) ys
insert_names_append names [] ys = refl
insert_names_append names (x ∷ xs) ys = insert_names_append (insert_name x names) xs ys

-- one turn of the loop over the arguments
pub add_step : (names : List (List ℕ)) (xs : List TypeTree) (i : ℕ) (x : TypeTree) → i < length xs → x ≡ get_or xs i x → insert_names names (types_names (type_list (drop i xs))) ≡ insert_names (insert_names names (type_names x)) (types_names (type_list (drop (i + 1) xs)))
add_step names xs i x h e = rw (next_of xs i x h e) (insert_names_append names (type_names x) (types_names (type_list (drop (i + 1) xs))))

-- The collected names are in order and are those that occur.
or_shift : (a b c : Bool) → ((a || b) || c) ≡ (b || (a || c))
or_shift true true c = refl
or_shift true false c = refl
or_shift false b c = refl

or_again : (a b : Bool) → (a || b) ≡ (a || (a || b))
or_again true b = refl
or_again false b = refl

pub or_swap : (a b c : Bool) → (a || (b || c)) ≡ (b || (a || c))
or_swap true true c = refl
or_swap true false c = refl
or_swap false b c = refl

among_insert : (a : List ℕ) (names : List (List ℕ)) (x : List ℕ) → is_among (insert_name a names) x ≡ (bytes_eq x a || is_among names x)
among_insert a [] x = refl
among_insert a (b ∷ names) x = by (name_cmp a b) refl (among_insert a names x)
  where
    by : (r : Ordering) → name_cmp a b ≡ r → is_among (insert_name a names) x ≡ (bytes_eq x a || is_among names x) → is_among (placed_name r a b names (insert_name a names)) x ≡ (bytes_eq x a || is_among (b ∷ names) x)
    by Less e h = refl
    by Equal e h = or_again (bytes_eq x b) (is_among names x) ∙ ap (λ c. bytes_eq x c || (bytes_eq x b || is_among names x)) (sym (name_equal a b e))
    by Greater e h = ap (λ c. bytes_eq x b || c) h ∙ or_swap (bytes_eq x b) (bytes_eq x a) (is_among names x)

among_all : (names more : List (List ℕ)) (x : List ℕ) → is_among (insert_names names more) x ≡ (is_among names x || is_among more x)
among_all names [] x = sym (or-false (is_among names x))
among_all names (a ∷ more) x = among_all (insert_name a names) more x ∙ ap (λ c. c || is_among more x) (among_insert a names x) ∙ or_shift (bytes_eq x a) (is_among names x) (is_among more x)

pub tyvars_among : (t : TypeTree) (a : List ℕ) → is_among (tyvars t) a ≡ is_among (type_names t) a
tyvars_among t a = among_all [] (type_names t) a

turned : (a b : List ℕ) → name_cmp a b ≡ Greater → name_cmp b a ≡ Less
turned a b e = nat_list_cmp_total.antisymm b a ∙ ap ordering_reverse e

below_more : (a b : List ℕ) (names : List (List ℕ)) → name_cmp a b ≡ Less → IsBelowAll b names → IsBelowAll a names
below_more a b [] e h = tt
below_more a b (c ∷ names) e h = (nat_list_cmp_total.trans a b c e h.0, below_more a b names e h.1)

below_insert : (c a : List ℕ) (names : List (List ℕ)) → name_cmp c a ≡ Less → IsBelowAll c names → IsBelowAll c (insert_name a names)
below_insert c a [] e h = (e, tt)
below_insert c a (b ∷ names) e h = by (name_cmp a b) (below_insert c a names e h.1)
  where
    by : (r : Ordering) → IsBelowAll c (insert_name a names) → IsBelowAll c (placed_name r a b names (insert_name a names))
    by Less k = (e, h)
    by Equal k = h
    by Greater k = (h.0, k)

ascending_insert : (a : List ℕ) (names : List (List ℕ)) → IsAscending names → IsAscending (insert_name a names)
ascending_insert a [] h = (tt, tt)
ascending_insert a (b ∷ names) h = by (name_cmp a b) refl (ascending_insert a names h.1)
  where
    by : (r : Ordering) → name_cmp a b ≡ r → IsAscending (insert_name a names) → IsAscending (placed_name r a b names (insert_name a names))
    by Less e k = ((e, below_more a b names e h.0), h)
    by Equal e k = h
    by Greater e k = (below_insert b a names (turned a b e) h.0, k)

ascending_all : (names more : List (List ℕ)) → IsAscending names → IsAscending (insert_names names more)
ascending_all names [] h = h
ascending_all names (a ∷ more) h = ascending_all (insert_name a names) more (ascending_insert a names h)

pub tyvars_ascending : (t : TypeTree) → IsAscending (tyvars t)
tyvars_ascending t = ascending_all [] (type_names t) tt

pub ruleset collected = (tyvars_among, tyvars_ascending)
