-- The order of items, and the order of their kinds and names.
use Rattle.std.specs.Prelude.{◌≡◌, ℕ, true, false, List, [], ◌∷◌, bytes_eq, refl}
use Rattle.std.proofs.Common.{ap, sym, ◌∙◌, inl, inr}
use Rattle.std.specs.declared.cmp.Ordering.{Ordering}
use Rattle.std.specs.declared.cmp.Ordering.TheVariants.{Less, Equal, Greater}
use Rattle.std.specs.Ordering.{ordering_then, match_ordering, ordering_reverse, is_gt, is_lt}
use Rattle.std.specs.Cmp.{IsTotalOrder, tied_itself}
use Rattle.std.specs.FinSet as set
use Rattle.std.specs.Set.{sorted_merge}
use Rattle.std.proofs.lemmas.Slice.Eq.{bytes_eq-Decides}
use Rattle.hol_types.specs.Code.{name_code, type_code}
use Rattle.hol_types.specs.Order.{name_cmp}
use Rattle.hol_terms.specs.Code.{nameless_code}
use Rattle.hol_subst.specs.CodeOrder.{flat, coded_total, coded_same}
use Rattle.hol_subst.proofs.CodeOrder.{rows_cmp, name_rows}
use Rattle.hol_kernel.specs.Item.{Item, item_code, declared_type, declared_constant, defined_constant, defined_type, declared_axiom}
use Rattle.hol_kernel.specs.Items.{item_cmp}
use Rattle.hol_kernel.specs.Signature.{ItemKey, type_key, constant_key, axiom_key, has_key}
use Rattle.hol_kernel.specs.Clashing.{name_order}
use Rattle.hol_kernel.proofs.Members.{Among, or_left}

pub total : IsTotalOrder item_cmp
total = coded_total item_code

pub only : set.IsAntisymmetric item_cmp
only = coded_same item_code

-- what follows the first name in an item's code
abbrev rest_of : Item → List ℕ
rest_of (declared_axiom n p) = flat (nameless_code p) []
rest_of (declared_constant c a) = flat (type_code a) []
rest_of (defined_constant c r) = flat (nameless_code r) []
rest_of (declared_type c n) = 1 ∷ n ∷ []
rest_of (defined_type c abs rep p) = 2 ∷ flat (name_code abs) (2 ∷ flat (name_code rep) (flat (nameless_code p) []))

-- kinds and names decide first
item_rows : (x y : Item) → item_cmp x y ≡ ordering_then (name_order x y) (rows_cmp (rest_of x) (rest_of y))
item_rows (declared_axiom n p) (declared_axiom m q) = name_rows n m (flat (nameless_code p) []) (flat (nameless_code q) [])
item_rows (declared_axiom n p) (declared_constant d b) = refl
item_rows (declared_axiom n p) (defined_constant d t) = refl
item_rows (declared_axiom n p) (declared_type d m) = refl
item_rows (declared_axiom n p) (defined_type d to from q) = refl
item_rows (declared_constant c a) (declared_axiom m q) = refl
item_rows (declared_constant c a) (declared_constant d b) = name_rows c d (flat (type_code a) []) (flat (type_code b) [])
item_rows (declared_constant c a) (defined_constant d t) = refl
item_rows (declared_constant c a) (declared_type d m) = refl
item_rows (declared_constant c a) (defined_type d to from q) = refl
item_rows (defined_constant c r) (declared_axiom m q) = refl
item_rows (defined_constant c r) (declared_constant d b) = refl
item_rows (defined_constant c r) (defined_constant d t) = name_rows c d (flat (nameless_code r) []) (flat (nameless_code t) [])
item_rows (defined_constant c r) (declared_type d m) = refl
item_rows (defined_constant c r) (defined_type d to from q) = refl
item_rows (declared_type c n) (declared_axiom m q) = refl
item_rows (declared_type c n) (declared_constant d b) = refl
item_rows (declared_type c n) (defined_constant d t) = refl
item_rows (declared_type c n) (declared_type d m) = name_rows c d (1 ∷ n ∷ []) (1 ∷ m ∷ [])
item_rows (declared_type c n) (defined_type d to from q) = refl
item_rows (defined_type c abs rep p) (declared_axiom m q) = refl
item_rows (defined_type c abs rep p) (declared_constant d b) = refl
item_rows (defined_type c abs rep p) (defined_constant d t) = refl
item_rows (defined_type c abs rep p) (declared_type d m) = refl
item_rows (defined_type c abs rep p) (defined_type d to from q) =
    name_rows c d (2 ∷ flat (name_code abs) (2 ∷ flat (name_code rep) (flat (nameless_code p) []))) (2 ∷ flat (name_code to) (2 ∷ flat (name_code from) (flat (nameless_code q) [])))

-- where items of one kind and name are the same, this order is that of items
pub name_order_is : (x y : Item) → (name_order x y ≡ Equal → x ≡ y) → name_order x y ≡ item_cmp x y
name_order_is x y same = by (name_order x y) refl ∙ sym (item_rows x y)
  where
    tie : x ≡ y → item_cmp x y ≡ Equal
    tie e = ap (item_cmp x) (sym e) ∙ tied_itself total x

    by : (r : Ordering) → name_order x y ≡ r → name_order x y ≡ ordering_then (name_order x y) (rows_cmp (rest_of x) (rest_of y))
    by Less e = e ∙ sym (ap (λ r. ordering_then r (rows_cmp (rest_of x) (rest_of y))) e)
    by Equal e = e ∙ sym (tie (same e)) ∙ item_rows x y
    by Greater e = e ∙ sym (ap (λ r. ordering_then r (rows_cmp (rest_of x) (rest_of y))) e)

-- ---- items in order, by kind and name

no_later : (r s : Ordering) → ordering_then r s ≡ Less → is_gt r ≡ false
no_later Less s e = refl
no_later Equal s e = refl
no_later Greater s e = absurd (cc)

no_earlier : (r s : Ordering) → ordering_then r s ≡ Greater → is_lt r ≡ false
no_earlier Less s e = absurd (cc)
no_earlier Equal s e = refl
no_earlier Greater s e = refl

-- an item doesn't come after a later one
pub rises : (x y : Item) → item_cmp x y ≡ Less → is_gt (name_order x y) ≡ false
rises x y e = no_later (name_order x y) (rows_cmp (rest_of x) (rest_of y)) (sym (item_rows x y) ∙ e)

-- an item doesn't come before an earlier one
pub falls : (x y : Item) → item_cmp x y ≡ Less → is_lt (name_order y x) ≡ false
falls x y e = no_earlier (name_order y x) (rows_cmp (rest_of y) (rest_of x)) (sym (item_rows y x) ∙ total.antisymm y x ∙ ap ordering_reverse e)

pub own_place : (x : Item) → name_order x x ≡ Equal
own_place x = name_order_is x x (λ _. refl) ∙ tied_itself total x

-- ---- a name of two items

abbrev pub SharedName : Item → Item → Type 0
SharedName x y = (k : ItemKey) × (has_key x k ≡ true) × (has_key y k ≡ true)

same_name : (m n : List ℕ) → name_cmp m n ≡ Equal → bytes_eq m n ≡ true
same_name m n e = (bytes_eq-Decides m n).1 (set.slice_cmp-IsAntisymmetric set.nat_cmp-IsAntisymmetric m n e)

name_itself : (m : List ℕ) → bytes_eq m m ≡ true
name_itself m = (bytes_eq-Decides m m).1 refl

pub equal_names : (x y : Item) → name_order x y ≡ Equal → SharedName x y
equal_names (declared_axiom n p) (declared_axiom m q) e = (axiom_key n, or_left _ false (name_itself n), or_left _ false (same_name n m e))
equal_names (declared_axiom n p) (declared_constant d b) e = absurd (cc)
equal_names (declared_axiom n p) (defined_constant d t) e = absurd (cc)
equal_names (declared_axiom n p) (declared_type d m) e = absurd (cc)
equal_names (declared_axiom n p) (defined_type d to from q) e = absurd (cc)
equal_names (declared_constant c a) (declared_axiom m q) e = absurd (cc)
equal_names (declared_constant c a) (declared_constant d b) e = (constant_key c, or_left _ false (name_itself c), or_left _ false (same_name c d e))
equal_names (declared_constant c a) (defined_constant d t) e = absurd (cc)
equal_names (declared_constant c a) (declared_type d m) e = absurd (cc)
equal_names (declared_constant c a) (defined_type d to from q) e = absurd (cc)
equal_names (defined_constant c r) (declared_axiom m q) e = absurd (cc)
equal_names (defined_constant c r) (declared_constant d b) e = absurd (cc)
equal_names (defined_constant c r) (defined_constant d t) e = (constant_key c, or_left _ false (name_itself c), or_left _ false (same_name c d e))
equal_names (defined_constant c r) (declared_type d m) e = absurd (cc)
equal_names (defined_constant c r) (defined_type d to from q) e = absurd (cc)
equal_names (declared_type c n) (declared_axiom m q) e = absurd (cc)
equal_names (declared_type c n) (declared_constant d b) e = absurd (cc)
equal_names (declared_type c n) (defined_constant d t) e = absurd (cc)
equal_names (declared_type c n) (declared_type d m) e = (type_key c, or_left _ false (name_itself c), or_left _ false (same_name c d e))
equal_names (declared_type c n) (defined_type d to from q) e = absurd (cc)
equal_names (defined_type c abs rep p) (declared_axiom m q) e = absurd (cc)
equal_names (defined_type c abs rep p) (declared_constant d b) e = absurd (cc)
equal_names (defined_type c abs rep p) (defined_constant d t) e = absurd (cc)
equal_names (defined_type c abs rep p) (declared_type d m) e = absurd (cc)
equal_names (defined_type c abs rep p) (defined_type d to from q) e = (type_key c, or_left _ _ (name_itself c), or_left _ _ (same_name c d e))

-- ---- merging by an order that says the same of the elements of the two lists

module _ {X : Type 0} (c d : X → X → Ordering) where
  merge_step_same : (x : X) (xs : List X) → ((ys : List X) → ((a b : X) → Among a xs → Among b ys → c a b ≡ d a b) → sorted_merge c true xs ys ≡ sorted_merge d true xs ys) → (ys : List X) → ((a b : X) → Among a (x ∷ xs) → Among b ys → c a b ≡ d a b) → sorted_merge c true (x ∷ xs) ys ≡ sorted_merge d true (x ∷ xs) ys
  merge_step_same x xs h [] same = refl
  merge_step_same x xs h (y ∷ ys) same =
      λ i. match_ordering (same x y (inl refl) (inl refl) i)
      (x ∷ h (y ∷ ys) (λ a b p q. same a b (inr p) q) i)
      (x ∷ h ys (λ a b p q. same a b (inr p) (inr q)) i)
      (y ∷ merge_step_same x xs h ys (λ a b p q. same a b p (inr q)) i)

  pub merge_same : (xs ys : List X) → ((a b : X) → Among a xs → Among b ys → c a b ≡ d a b) → sorted_merge c true xs ys ≡ sorted_merge d true xs ys
  merge_same [] ys same = refl
  merge_same (x ∷ xs) ys same = merge_step_same x xs (merge_same xs) ys same
