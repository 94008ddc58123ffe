-- Universes of values: what the proof that F isn't derived asks of truth values, sets of values, and tables of functions.
use Rattle.std.proofs.Common.{◌≡◌, ◌⊎◌, inl, inr, Bool, false, ◌||◌}
use Rattle.std.proofs.lemmas.Bool.{or_parts}
use Rattle.hol_model.specs.Universe.{UniverseOf, IsInfinite}

pub record Universe : Type 1 where
  pub Value : Type 0
  pub Set : Type 0
  pub laws : UniverseOf Value Set

abbrev pub HasInfinity : Universe → Type 0
HasInfinity U = IsInfinite U.Value U.Set U.laws

-- INFINITY_AX isn't used, or is true
abbrev pub Accepts : Universe → Bool → Type 0
Accepts U uses = (uses ≡ false) ⊎ HasInfinity U

pub both_accept : (U : Universe) (a b : Bool) → Accepts U (a || b) → Accepts U a × Accepts U b
both_accept U a b h = elim h [ inl e ↦ let p = or_parts a b e in (inl p.0, inl p.1) | inr i ↦ (inr i, inr i) ]
