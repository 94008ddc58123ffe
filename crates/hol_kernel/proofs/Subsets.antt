-- Sets of items that lie within others.
use Rattle.std.specs.Prelude.{◌≡◌}
use Rattle.std.proofs.Common.{ap, sym, ◌∙◌, inl, inr}
use Rattle.std.specs.FinSet as set
use Rattle.hol_kernel.specs.Item.{Item}
use Rattle.hol_kernel.specs.Items.{Items, no_items, IsSubset, IsWithin}
use Rattle.hol_kernel.proofs.ItemOrder.{total, only}
use Rattle.hol_kernel.proofs.Members.{not_in_empty, in_insert_old, in_union_cases, in_union_left, in_union_right}

-- the test of subsets, and what it says
pub within_of_subset : (items more : Items) → IsSubset items more → IsWithin items more
within_of_subset items more h = set.is_subset-contains total items more h

pub subset_of_within : (items more : Items) → IsWithin items more → IsSubset items more
subset_of_within items more h = set.contains-is_subset total items more h

-- the set without items lies within every set
pub none_within : (few items : Items) → few ≡ no_items → IsSubset few items
none_within few items e = subset_of_within few items (λ q h. absurd (not_in_empty total only q (ap (λ (s : Items). set.contains s q) (sym e) ∙ h)))

-- a set lies within itself
pub within_itself : (items : Items) → IsSubset items items
within_itself items = subset_of_within items items (λ q h. h)

pub ruleset within = (none_within, within_itself)

pub subset_trans : (few items more : Items) → IsSubset few items → IsSubset items more → IsSubset few more
subset_trans few items more f g = subset_of_within few more (λ q h. within_of_subset items more g q (within_of_subset few items f q h))

-- the parts of a union lie within it
pub subset_left : (a b : Items) → IsSubset a (set.union a b)
subset_left a b = subset_of_within a (set.union a b) (λ q h. in_union_left total only a b q h)

pub subset_right : (a b : Items) → IsSubset b (set.union a b)
subset_right a b = subset_of_within b (set.union a b) (λ q h. in_union_right total only a b q h)

-- a union lies within what both parts lie within
pub union_subset : (a b more : Items) → IsSubset a more → IsSubset b more → IsSubset (set.union a b) more
union_subset a b more f g = subset_of_within (set.union a b) more (λ q h. elim (in_union_cases total only a b q h) [ inl i ↦ within_of_subset a more f q i | inr i ↦ within_of_subset b more g q i ])

pub subset_insert : (items : Items) (x : Item) → IsSubset items (set.insert items x)
subset_insert items x = subset_of_within items (set.insert items x) (λ q h. in_insert_old total only items x q h)
