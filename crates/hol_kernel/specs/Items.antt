-- Finite sets of items.
use Rattle.std.specs.Prelude.{◌≡◌, true, IsTrue, List, [], ◌∷◌}
use Rattle.std.specs.declared.cmp.Ordering.{Ordering}
use Rattle.std.specs.Coded.{Coded}
use Rattle.std.specs.FinSet as set
use Rattle.std.specs.Set.{sorted_merge}
use Rattle.hol_subst.specs.CodeOrder.{coded_cmp}
use Rattle.hol_kernel.specs.Item.{Item, item_code}

abbrev pub item_cmp : Item → Item → Ordering
item_cmp = coded_cmp item_code

abbrev pub Items : Type 0
Items = set.FinSet item_cmp

abbrev pub items_code : Coded Items
items_code = set.code item_code

abbrev pub no_items : Items
no_items = set.empty

-- the set of a list's items
abbrev pub item_set : List Item → Items
item_set xs = set.from_list xs

-- the items, each once, in their order
abbrev pub in_order_of : List Item → List Item
in_order_of [] = []
in_order_of (x ∷ xs) = sorted_merge item_cmp true (x ∷ []) (in_order_of xs)

abbrev pub in_order : Items → List Item
in_order items = in_order_of (set.items items)

-- x is one of the items
abbrev pub Holds : Items → Item → Type 0
Holds items x = set.contains items x ≡ true

-- every item of the first is one of the second: the test, and what it says
abbrev pub IsSubset : Items → Items → Type 0
IsSubset items more = IsTrue (set.is_subset items more)

abbrev pub IsWithin : Items → Items → Type 0
IsWithin items more = (x : Item) → Holds items x → Holds more x
