-- What the code computes where it looks for a name in a list of items in order: where an item stands beside those of a kind's rank that have the name.
use Rattle.std.specs.Prelude.{ℕ, List, Bool, true, false, not, ◌&&◌, ◌||◌}
use Rattle.std.specs.declared.cmp.Ordering.{Ordering}
use Rattle.std.specs.Ordering.{nat_cmp, ordering_then, is_gt, is_lt}
use Rattle.hol_types.specs.Order.{name_cmp}
use Rattle.hol_kernel.specs.Item.{Item, declared_type, declared_constant, defined_constant, defined_type, declared_axiom}
use Rattle.hol_kernel.specs.Clashing.{rank_of, name_of}
use Rattle.hol_kernel.specs.declared.item_kind.ItemKind.{ItemKind}
use Rattle.hol_kernel.specs.declared.item_kind.ItemKind.TheVariants as kind

-- where the item stands beside one of this rank and name
abbrev pub place_order : ℕ → List ℕ → Item → Ordering
place_order rank name x = ordering_then (nat_cmp (rank_of x) rank) (name_cmp (name_of x) name)

-- from the first item to the last one in order, none is of this rank and name
abbrev pub outside : ℕ → List ℕ → Item → Item → Bool
outside rank name first last = is_gt (place_order rank name first) || is_lt (place_order rank name last)

-- a type definition's constants have names that its place doesn't tell
abbrev pub is_type_definition : Item → Bool
is_type_definition (declared_type c n) = false
is_type_definition (declared_constant c a) = false
is_type_definition (defined_constant c r) = false
is_type_definition (defined_type c abs rep p) = true
is_type_definition (declared_axiom n p) = false

-- from the first item to the last one in order, none has the name, as one of this kind
abbrev pub apart : ItemKind → List ℕ → Item → Item → Bool
apart kind.Axiom name first last = outside 0 name first last
apart kind.Constant name first last = not (is_type_definition last) && (outside 1 name first last && outside 2 name first last)
apart kind.Type name first last = outside 3 name first last && outside 4 name first last
