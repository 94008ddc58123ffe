-- What the code computes where it compares items by their names, looks for clashes, and finds an axiom. Laws in proofs/ lead from here to the order of items and to
-- `Agree`.
use Rattle.std.specs.Prelude.{ℕ, List, [], ◌∷◌, Bool, cond, not, ◌&&◌, bytes_eq, Option, Some, None}
use Rattle.std.specs.List.{list_any}
use Rattle.std.specs.declared.cmp.Ordering.{Ordering}
use Rattle.std.specs.Ordering.{nat_cmp, ordering_then, eq_by_cmp}
use Rattle.hol_types.specs.Order.{name_cmp}
use Rattle.hol_terms.specs.Nameless.{Nameless}
use Rattle.hol_kernel.specs.Item.{Item, declared_type, declared_constant, defined_constant, defined_type, declared_axiom}
use Rattle.hol_kernel.specs.Items.{Items, item_cmp, in_order}
use Rattle.hol_kernel.specs.Signature.{ItemKey, type_key, constant_key, axiom_key, key_name, item_keys, has_key, prelude_has}
use Rattle.hol_kernel.specs.declared.item_kind.ItemKind.{ItemKind}
use Rattle.hol_kernel.specs.declared.item_kind.ItemKind.TheVariants as kind

-- the name of a kind
abbrev pub key_at : ItemKind → List ℕ → ItemKey
key_at kind.Type name = type_key name
key_at kind.Constant name = constant_key name
key_at kind.Axiom name = axiom_key name

-- neither the prelude nor an item has the name, as a test
abbrev pub is_new : Items → ItemKey → Bool
is_new items k = not (prelude_has k) && not (list_any (λ x. has_key x k) (in_order items))

-- the items in order of their kinds, and within a kind of their names
abbrev pub rank_of : Item → ℕ
rank_of (declared_axiom n p) = 0
rank_of (declared_constant c a) = 1
rank_of (defined_constant c r) = 2
rank_of (declared_type c n) = 3
rank_of (defined_type c abs rep p) = 4

abbrev pub name_of : Item → List ℕ
name_of (declared_axiom n p) = n
name_of (declared_constant c a) = c
name_of (defined_constant c r) = c
name_of (declared_type c n) = c
name_of (defined_type c abs rep p) = c

abbrev pub name_order : Item → Item → Ordering
name_order x y = ordering_then (nat_cmp (rank_of x) (rank_of y)) (name_cmp (name_of x) (name_of y))

-- a name of the list that the item has
abbrev pub shared_in : List ItemKey → Item → Option (List ℕ)
shared_in [] y = None
shared_in (k ∷ ks) y = cond (has_key y k) (Some (key_name k)) (shared_in ks y)

abbrev pub unless_same : Item → Item → Option (List ℕ) → Option (List ℕ)
unless_same x y None = None
unless_same x y (Some name) = cond (eq_by_cmp item_cmp x y) None (Some name)

-- a name of both items, if they differ
abbrev pub clash_of : Item → Item → Option (List ℕ)
clash_of x y = unless_same x y (shared_in (item_keys x) y)

abbrev pub or_else : Option (List ℕ) → Option (List ℕ) → Option (List ℕ)
or_else None more = more
or_else (Some name) more = Some name

abbrev pub clash_with : List Item → Item → Option (List ℕ)
clash_with [] y = None
clash_with (x ∷ xs) y = or_else (clash_of x y) (clash_with xs y)

abbrev pub clash_between : List Item → List Item → Option (List ℕ)
clash_between xs [] = None
clash_between xs (y ∷ ys) = or_else (clash_with xs y) (clash_between xs ys)

-- the statement of the axiom of the name, if the item is it
abbrev pub axiom_at : List ℕ → Item → Option Nameless
axiom_at name (declared_axiom n p) = cond (bytes_eq name n) (Some p) None
axiom_at name (declared_constant c a) = None
axiom_at name (defined_constant c r) = None
axiom_at name (declared_type c n) = None
axiom_at name (defined_type c abs rep p) = None

abbrev pub first_of_two : Option Nameless → Option Nameless → Option Nameless
first_of_two None more = more
first_of_two (Some p) more = Some p

abbrev pub axiom_in : List ℕ → List Item → Option Nameless
axiom_in name [] = None
axiom_in name (x ∷ xs) = first_of_two (axiom_at name x) (axiom_in name xs)
