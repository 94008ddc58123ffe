-- What stands at a place or under a name stands over the basis.
use Rattle.std.specs.Prelude.{◌≡◌, ℕ, Bool, true, false, cond, nat_eq, bytes_eq, List, [], ◌∷◌, Option, Some, None, refl}
use Rattle.std.proofs.Common.{sym, subst}
use Rattle.std.proofs.lemmas.Bool.{and_from}
use Rattle.std.specs.Option.{option_map}
use Rattle.std.specs.Map.{lookup}
use Rattle.hol_types.specs.Tree.{TypeTree}
use Rattle.hol_kernel.specs.Items.{Items, IsSubset}
use Rattle.hol_kernel.specs.Theorem.{Theorem}
use Rattle.hol_kernel.specs.Typing.{is_type, are_types_for}
use Rattle.hol_notation_tactics.specs.Text.{TypePairText}
use Rattle.hol_resolve.specs.Readings.{QuotedValue, ATerm, AType, ReadingsValue, term_in, type_in, term_at, type_at}
use Rattle.hol_resolve.specs.Forward.{variable_in, both, pair_at, pairs_at}
use Rattle.hol_resolve.specs.Over.{IsQuotedOver, AreOver, AreWithin}
use Rattle.hol_resolve.specs.Steps.{IsTermOver}

abbrev FoundOver : Items → Option QuotedValue → Type 0
FoundOver basis None = Unit {0}
FoundOver basis (Some v) = IsQuotedOver basis v

found_over : (basis : Items) (readings : ReadingsValue) (place : ℕ) → AreOver basis readings → FoundOver basis (lookup (nat_eq place) readings)
found_over basis [] place h = tt
found_over basis (r ∷ readings) place h = pick (nat_eq place r.0) (found_over basis readings place h.1)
  where
    pick : (b : Bool) → FoundOver basis (lookup (nat_eq place) readings) → FoundOver basis (cond b (Some r.1) (lookup (nat_eq place) readings))
    pick true others = h.0
    pick false others = others

pub term_over : (basis : Items) (readings : ReadingsValue) (place : ℕ) → AreOver basis readings → IsTermOver basis (term_at readings place)
term_over basis readings place h = by (lookup (nat_eq place) readings) (found_over basis readings place h)
  where
    by : (o : Option QuotedValue) → FoundOver basis o → IsTermOver basis (term_in o)
    by None g = tt
    by (Some (ATerm t)) g = g
    by (Some (AType a)) g = tt

-- the same over the items under another name
pub term_over_these : (basis own : Items) (readings : ReadingsValue) (place : ℕ) → AreOver basis readings → own ≡ basis → IsTermOver own (term_at readings place)
term_over_these basis own readings place h same = subst (λ (b : Items). IsTermOver b (term_at readings place)) (sym same) (term_over basis readings place h)

abbrev IsTypeOver : Items → Option TypeTree → Type 0
IsTypeOver basis None = Unit {0}
IsTypeOver basis (Some a) = is_type basis a ≡ true

type_is_over : (basis : Items) (readings : ReadingsValue) (place : ℕ) → AreOver basis readings → IsTypeOver basis (type_at readings place)
type_is_over basis readings place h = by (lookup (nat_eq place) readings) (found_over basis readings place h)
  where
    by : (o : Option QuotedValue) → FoundOver basis o → IsTypeOver basis (type_in o)
    by None g = tt
    by (Some (ATerm t)) g = tt
    by (Some (AType a)) g = g

abbrev PairOver : Items → Option (TypeTree × List ℕ) → Type 0
PairOver basis None = Unit {0}
PairOver basis (Some p) = is_type basis p.0 ≡ true

both_over : (basis : Items) (o : Option TypeTree) (v : Option (List ℕ)) → IsTypeOver basis o → PairOver basis (both o v)
both_over basis None v h = tt
both_over basis (Some a) None h = tt
both_over basis (Some a) (Some x) h = h

abbrev PairsOver : Items → Option (List (TypeTree × List ℕ)) → Type 0
PairsOver basis None = Unit {0}
PairsOver basis (Some ps) = are_types_for basis ps ≡ true

more_over : (basis : Items) (o : Option (TypeTree × List ℕ)) (ps : Option (List (TypeTree × List ℕ))) → PairOver basis o → PairsOver basis ps → PairsOver basis (option_map (λ q. q.0 ∷ q.1) (both o ps))
more_over basis None ps h g = tt
more_over basis (Some p) None h g = tt
more_over basis (Some p) (Some ps) h g = and_from (is_type basis p.0) (are_types_for basis ps) h g

all_over : (basis : Items) (readings : ReadingsValue) (pairs : List TypePairText) → AreOver basis readings → PairsOver basis (pairs_at readings pairs)
all_over basis readings [] h = refl
all_over basis readings (p ∷ pairs) h =
    more_over basis (pair_at readings p) (pairs_at readings pairs) (both_over basis (type_at readings p.new_type.place) (variable_in (type_at readings p.old_type.place)) (type_is_over basis readings p.new_type.place h)) (all_over basis readings pairs h)

pub pairs_over : (basis : Items) (readings : ReadingsValue) (pairs : List TypePairText) (list : List (TypeTree × List ℕ)) → AreOver basis readings → pairs_at readings pairs ≡ Some list → are_types_for basis list ≡ true
pairs_over basis readings pairs list h e = subst (PairsOver basis) e (all_over basis readings pairs h)

abbrev FoundWithin : Items → Option Theorem → Type 0
FoundWithin basis None = Unit {0}
FoundWithin basis (Some th) = IsSubset th.basis basis

found_within : (basis : Items) (cited : List (List ℕ × Theorem)) (name : List ℕ) → AreWithin basis cited → FoundWithin basis (lookup (bytes_eq name) cited)
found_within basis [] name h = tt
found_within basis (c ∷ cited) name h = pick (bytes_eq name c.0) (found_within basis cited name h.1)
  where
    pick : (b : Bool) → FoundWithin basis (lookup (bytes_eq name) cited) → FoundWithin basis (cond b (Some c.1) (lookup (bytes_eq name) cited))
    pick true others = h.0
    pick false others = others

pub cited_within : (basis : Items) (cited : List (List ℕ × Theorem)) (name : List ℕ) (th : Theorem) → AreWithin basis cited → Some th ≡ lookup (bytes_eq name) cited → IsSubset th.basis basis
cited_within basis cited name th h e = subst (FoundWithin basis) (sym e) (found_within basis cited name h)
