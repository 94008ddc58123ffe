-- Clashes that the code finds, and sets that agree where it finds none.
use Rattle.std.specs.Prelude.{◌≡◌, ℕ, Bool, true, false, cond, ◌||◌, List, [], ◌∷◌, Option, Some, None, refl}
use Rattle.std.proofs.Common.{ap, sym, ◌∙◌, subst, inl, inr}
use Rattle.std.proofs.lemmas.Bool.{or_right}
use mathlib.Core.Bool.{true≢false}
use Rattle.std.specs.Ordering.{eq_by_cmp}
use Rattle.std.specs.List.{list_any}
use Rattle.std.specs.List.Sorted.{IsStrictlySortedBy}
use Rattle.std.specs.Set.{sorted_merge}
use Rattle.std.specs.FinSet as set
use Rattle.std.proofs.lemmas.Slice.Eq.{bytes_eq-Decides}
use Rattle.hol_kernel.specs.Item.{Item}
use Rattle.hol_kernel.specs.Items.{Items, item_cmp, Holds, item_set}
use Rattle.hol_kernel.specs.Signature.{ItemKey, type_key, constant_key, axiom_key, key_eq, key_name, item_keys, has_key}
use Rattle.hol_kernel.specs.Legal.{IsLegalSet, IsStorable, HasNewKeys, IsSound}
use Rattle.hol_kernel.specs.Extends.{Agree, ClashesAt}
use Rattle.hol_kernel.specs.Clashing.{name_order, shared_in, unless_same, clash_of, or_else, clash_with, clash_between}
use Rattle.hol_kernel.proofs.SortedSets.{sorted_one, sorted_merged, set_merged, union_none_right}
use Rattle.hol_kernel.proofs.Members.{Among, among_from_list, from_list_among, itself, equal_keys, union_insert}
use Rattle.hol_kernel.proofs.ItemOrder.{total, only, name_order_is, equal_names, merge_same}
use Rattle.hol_kernel.proofs.Unions.{union_legal, insert_legal}

-- ---- two items

differ : (x y : Item) → (x ≡ y → ⊥) → eq_by_cmp item_cmp x y ≡ false
differ x y n = by (eq_by_cmp item_cmp x y) refl
  where
    by : (b : Bool) → eq_by_cmp item_cmp x y ≡ b → b ≡ false
    by true e = absurd (n (equal_keys total only x y e))
    by false e = refl

-- the same items do not clash
pub same_no_clash : (x y : Item) (n : List ℕ) → shared_in (item_keys x) y ≡ Some n → x ≡ y → clash_of x y ≡ None
same_no_clash x y n e is =
    ap (unless_same x y) e ∙ ap (λ b. cond b None (Some n)) (subst (λ (z : Item). eq_by_cmp item_cmp x z ≡ true) is (itself total only x))

pub other_clash : (x y : Item) (n : List ℕ) → shared_in (item_keys x) y ≡ Some n → (x ≡ y → ⊥) → clash_of x y ≡ Some n
other_clash x y n e other = ap (unless_same x y) e ∙ ap (λ b. cond b None (Some n)) (differ x y other)

pub key_is : (k l : ItemKey) → key_eq k l ≡ true → k ≡ l
key_is (type_key c) (type_key d) e = ap type_key ((bytes_eq-Decides c d).0 e)
key_is (constant_key c) (constant_key d) e = ap constant_key ((bytes_eq-Decides c d).0 e)
key_is (axiom_key c) (axiom_key d) e = ap axiom_key ((bytes_eq-Decides c d).0 e)
key_is (type_key c) (constant_key d) e = absurd (true≢false (sym e))
key_is (type_key c) (axiom_key d) e = absurd (true≢false (sym e))
key_is (constant_key c) (type_key d) e = absurd (true≢false (sym e))
key_is (constant_key c) (axiom_key d) e = absurd (true≢false (sym e))
key_is (axiom_key c) (type_key d) e = absurd (true≢false (sym e))
key_is (axiom_key c) (constant_key d) e = absurd (true≢false (sym e))

pub key_itself : (k : ItemKey) → key_eq k k ≡ true
key_itself (type_key c) = (bytes_eq-Decides c c).1 refl
key_itself (constant_key c) = (bytes_eq-Decides c c).1 refl
key_itself (axiom_key c) = (bytes_eq-Decides c c).1 refl

-- a name of the list that y has, where one is found
abbrev Found : List ItemKey → Item → List ℕ → Type 0
Found ks y n = (k : ItemKey) × (list_any (key_eq k) ks ≡ true) × (has_key y k ≡ true) × (key_name k ≡ n)

later : (l : ItemKey) (ks : List ItemKey) (y : Item) (n : List ℕ) → Found ks y n → Found (l ∷ ks) y n
later l ks y n f = (f.0, or_right (key_eq f.0 l) (list_any (key_eq f.0) ks) f.1, f.2, f.3)

pub found : (ks : List ItemKey) (y : Item) (n : List ℕ) → shared_in ks y ≡ Some n → Found ks y n
found [] y n e = absurd (cc)
found (l ∷ ks) y n e = by (has_key y l) refl e (found ks y n)
  where
    by : (b : Bool) → has_key y l ≡ b → cond b (Some (key_name l)) (shared_in ks y) ≡ Some n → (shared_in ks y ≡ Some n → Found ks y n) → Found (l ∷ ks) y n
    by true h e rest = (l, ap (λ b. b || list_any (key_eq l) ks) (key_itself l), h, let is : key_name l ≡ n = cc in is)
    by false h e rest = later l ks y n (rest e)

not_found : (ks : List ItemKey) (y : Item) → shared_in ks y ≡ None → (k : ItemKey) → list_any (key_eq k) ks ≡ true → has_key y k ≡ true → ⊥
not_found [] y e k h g = true≢false (sym h)
not_found (l ∷ ks) y e k h g = by (has_key y l) (key_eq k l) refl refl e h (λ f. not_found ks y f k)
  where
    by : (b t : Bool) → has_key y l ≡ b → key_eq k l ≡ t → cond b (Some (key_name l)) (shared_in ks y) ≡ None → (t || list_any (key_eq k) ks) ≡ true → (shared_in ks y ≡ None → list_any (key_eq k) ks ≡ true → has_key y k ≡ true → ⊥) → ⊥
    by true t p q e h rest = absurd (cc)
    by false true p q e h rest = true≢false (sym g ∙ ap (has_key y) (key_is k l q) ∙ p)
    by false false p q e h rest = rest e h g

-- ---- lists

abbrev pub AgreeIn : List Item → List Item → Type 0
AgreeIn xs ys = (x y : Item) (k : ItemKey) → Among x xs → Among y ys → has_key x k ≡ true → has_key y k ≡ true → x ≡ y

none_of : (x y : Item) → clash_of x y ≡ None → (k : ItemKey) → has_key x k ≡ true → has_key y k ≡ true → x ≡ y
none_of x y e k h g = by (shared_in (item_keys x) y) (eq_by_cmp item_cmp x y) refl refl e
  where
    by : (o : Option (List ℕ)) (b : Bool) → shared_in (item_keys x) y ≡ o → eq_by_cmp item_cmp x y ≡ b → unless_same x y o ≡ None → x ≡ y
    by None b p q e = absurd (not_found (item_keys x) y p k h g)
    by (Some n) true p q e = equal_keys total only x y q
    by (Some n) false p q e = let f : Some n ≡ None = ap (λ t. cond t None (Some n)) (sym q) ∙ e in absurd (cc)

both_none : (a b : Option (List ℕ)) → or_else a b ≡ None → (a ≡ None) × (b ≡ None)
both_none None b e = (refl, e)
both_none (Some n) b e = absurd (cc)

none_with : (xs : List Item) (y : Item) → clash_with xs y ≡ None → (x : Item) (k : ItemKey) → Among x xs → has_key x k ≡ true → has_key y k ≡ true → x ≡ y
none_with [] y e x k i h g = absurd i
none_with (z ∷ xs) y e x k (inl is) h g =
    let p = both_none (clash_of z y) (clash_with xs y) e in
    is ∙ none_of z y p.0 k (ap (λ w. has_key w k) (sym is) ∙ h) g
none_with (z ∷ xs) y e x k (inr i) h g =
    let p = both_none (clash_of z y) (clash_with xs y) e in none_with xs y p.1 x k i h g

pub none_between : (xs ys : List Item) → clash_between xs ys ≡ None → AgreeIn xs ys
none_between xs [] e x y k i j h g = absurd j
none_between xs (z ∷ ys) e x y k i (inl is) h g =
    let p = both_none (clash_with xs z) (clash_between xs ys) e in
    none_with xs z p.0 x k i h (ap (λ w. has_key w k) (sym is) ∙ g) ∙ sym is
none_between xs (z ∷ ys) e x y k i (inr j) h g =
    let p = both_none (clash_with xs z) (clash_between xs ys) e in none_between xs ys p.1 x y k i j h g

-- a name of two different items, one of each list
pub record ClashesIn (xs ys : List Item) (n : List ℕ) : Type 0 where
  pub first : Item
  pub second : Item
  pub key : ItemKey
  pub in_first : Among first xs
  pub in_second : Among second ys
  pub name_of_first : has_key first key ≡ true
  pub name_of_second : has_key second key ≡ true
  pub named : key_name key ≡ n
  pub differ : first ≡ second → ⊥

some_of : (x y : Item) (n : List ℕ) → clash_of x y ≡ Some n → ClashesIn (x ∷ []) (y ∷ []) n
some_of x y n e = by (shared_in (item_keys x) y) (eq_by_cmp item_cmp x y) refl refl e
  where
    by : (o : Option (List ℕ)) (b : Bool) → shared_in (item_keys x) y ≡ o → eq_by_cmp item_cmp x y ≡ b → unless_same x y o ≡ Some n → ClashesIn (x ∷ []) (y ∷ []) n
    by None b p q e = absurd (cc)
    by (Some m) true p q e = let f : None ≡ Some n = ap (λ t. cond t None (Some m)) (sym q) ∙ e in absurd (cc)
    by (Some m) false p q e =
        let f : Some m ≡ Some n = ap (λ t. cond t None (Some m)) (sym q) ∙ e in
        let is : m ≡ n = cc in
        let r = found (item_keys x) y m p in
        record {
          first = x;
          second = y;
          key = r.0;
          in_first = inl refl;
          in_second = inl refl;
          name_of_first = r.1;
          name_of_second = r.2;
          named = r.3 ∙ is;
          differ = λ same. true≢false (sym (subst (λ (z : Item). eq_by_cmp item_cmp x z ≡ true) same (itself total only x)) ∙ q);
        }

wider : (xs ys us vs : List Item) (n : List ℕ) → ((x : Item) → Among x xs → Among x us) → ((y : Item) → Among y ys → Among y vs) → ClashesIn xs ys n → ClashesIn us vs n
wider xs ys us vs n f g r =
    record {
      first = r.first;
      second = r.second;
      key = r.key;
      in_first = f r.first r.in_first;
      in_second = g r.second r.in_second;
      name_of_first = r.name_of_first;
      name_of_second = r.name_of_second;
      named = r.named;
      differ = r.differ;
    }

one_first : (z : Item) (xs : List Item) (x : Item) → Among x (z ∷ []) → Among x (z ∷ xs)
one_first z xs x (inl e) = inl e
one_first z xs x (inr i) = absurd i

some_with : (xs : List Item) (y : Item) (n : List ℕ) → clash_with xs y ≡ Some n → ClashesIn xs (y ∷ []) n
some_with [] y n e = absurd (cc)
some_with (z ∷ xs) y n e = by (clash_of z y) refl e (some_with xs y n)
  where
    by : (o : Option (List ℕ)) → clash_of z y ≡ o → or_else o (clash_with xs y) ≡ Some n → (clash_with xs y ≡ Some n → ClashesIn xs (y ∷ []) n) → ClashesIn (z ∷ xs) (y ∷ []) n
    by None p e rest = wider xs (y ∷ []) (z ∷ xs) (y ∷ []) n (λ x i. inr i) (λ x i. i) (rest e)
    by (Some m) p e rest = wider (z ∷ []) (y ∷ []) (z ∷ xs) (y ∷ []) n (one_first z xs) (λ x i. i) (some_of z y n (p ∙ e))

pub some_between : (xs ys : List Item) (n : List ℕ) → clash_between xs ys ≡ Some n → ClashesIn xs ys n
some_between xs [] n e = absurd (cc)
some_between xs (z ∷ ys) n e = by (clash_with xs z) refl e (some_between xs ys n)
  where
    by : (o : Option (List ℕ)) → clash_with xs z ≡ o → or_else o (clash_between xs ys) ≡ Some n → (clash_between xs ys ≡ Some n → ClashesIn xs ys n) → ClashesIn xs (z ∷ ys) n
    by None p e rest = wider xs ys xs (z ∷ ys) n (λ x i. i) (λ y i. inr i) (rest e)
    by (Some m) p e rest = wider xs (z ∷ []) xs (z ∷ ys) n (λ x i. i) (one_first z ys) (some_with xs z n (p ∙ e))

-- ---- sets

pub agree_sets : (a b : Items) (xs ys : List Item) → item_set xs ≡ a → item_set ys ≡ b → AgreeIn xs ys → Agree a b
agree_sets a b xs ys p q agree x y k i j =
    agree x y k (among_from_list total only xs x (subst (λ (s : Items). Holds s x) (sym p) i)) (among_from_list total only ys y (subst (λ (s : Items). Holds s y) (sym q) j))

pub lists_agree : (a b : Items) (xs ys : List Item) → item_set xs ≡ a → item_set ys ≡ b → Agree a b → AgreeIn xs ys
lists_agree a b xs ys p q agree x y k i j =
    agree x y k (subst (λ (s : Items). Holds s x) p (from_list_among total only xs x i)) (subst (λ (s : Items). Holds s y) q (from_list_among total only ys y j))

pub clash_sets : (a b : Items) (xs ys : List Item) (n : List ℕ) → item_set xs ≡ a → item_set ys ≡ b → ClashesIn xs ys n → (k : ItemKey) × (key_name k ≡ n) × ClashesAt a b k
clash_sets a b xs ys n p q r = (
  r.key,
  r.named,
  record {
    first = r.first;
    second = r.second;
    in_first = subst (λ (s : Items). Holds s r.first) p (from_list_among total only xs r.first r.in_first);
    in_second = subst (λ (s : Items). Holds s r.second) q (from_list_among total only ys r.second r.in_second);
    name_of_first = r.name_of_first;
    name_of_second = r.name_of_second;
    differ = r.differ;
  },
)

-- ---- merging

merged_by : (xs ys : List Item) → AgreeIn xs ys → sorted_merge name_order true xs ys ≡ sorted_merge item_cmp true xs ys
merged_by xs ys agree =
    merge_same name_order item_cmp xs ys
    (λ x y i j. name_order_is x y (λ e. let s = equal_names x y e in agree x y s.0 i j s.1 s.2))

-- What merging makes of two lists in order that agree: the union, in order.
pub merged_set : (xs ys all : List Item) → AgreeIn xs ys → all ≡ sorted_merge name_order true xs ys → item_set all ≡ set.union (item_set xs) (item_set ys)
merged_set xs ys all agree e = ap item_set (e ∙ merged_by xs ys agree) ∙ set_merged total only xs ys

pub merged_ordered : (xs ys all : List Item) → AgreeIn xs ys → all ≡ sorted_merge name_order true xs ys → IsStrictlySortedBy item_cmp xs → IsStrictlySortedBy item_cmp ys → IsStrictlySortedBy item_cmp all
merged_ordered xs ys all agree e s t =
    subst (IsStrictlySortedBy item_cmp) (sym (e ∙ merged_by xs ys agree)) (sorted_merged total xs ys s t)

pub storable_union : (a b : Items) (xs ys all : List Item) → item_set xs ≡ a → item_set ys ≡ b → IsLegalSet a → IsLegalSet b → IsStrictlySortedBy item_cmp xs → IsStrictlySortedBy item_cmp ys → AgreeIn xs ys → all ≡ sorted_merge name_order true xs ys → IsStorable all
storable_union a b xs ys all p q l m s t agree e =
    record {
      legal = subst IsLegalSet (sym (merged_set xs ys all agree e ∙ (λ i. set.union (p i) (q i)))) (union_legal a b l m (agree_sets a b xs ys p q agree));
      ordered = merged_ordered xs ys all agree e s t;
    }

-- ---- one item more

agree_new : (a : Items) (xs : List Item) (x : Item) → item_set xs ≡ a → HasNewKeys a x → AgreeIn xs (x ∷ [])
agree_new a xs x p new y z k i (inl e) h g =
    absurd (true≢false (sym h ∙ (new k (ap (λ w. has_key w k) (sym e) ∙ g)).1 y (subst (λ (s : Items). Holds s y) p (from_list_among total only xs y i))))
agree_new a xs x p new y z k i (inr j) h g = absurd j

pub extended_set : (a : Items) (xs all : List Item) (x : Item) → item_set xs ≡ a → HasNewKeys a x → all ≡ sorted_merge name_order true xs (x ∷ []) → item_set all ≡ set.insert a x
extended_set a xs all x p new e =
    merged_set xs (x ∷ []) all (agree_new a xs x p new) e
    ∙ union_insert total only (item_set xs) set.empty x
    ∙ ap (λ (s : Items). set.insert s x) (union_none_right total only (item_set xs) ∙ p)

pub storable_insert : (a : Items) (xs all : List Item) (x : Item) → item_set xs ≡ a → IsLegalSet a → IsStrictlySortedBy item_cmp xs → HasNewKeys a x → IsSound a x → all ≡ sorted_merge name_order true xs (x ∷ []) → IsStorable all
storable_insert a xs all x p l s new sound e =
    record {
      legal = subst IsLegalSet (sym (extended_set a xs all x p new e)) (insert_legal a x l new sound);
      ordered = merged_ordered xs (x ∷ []) all (agree_new a xs x p new) e s (sorted_one total x);
    }
