-- What each term keeps to tell at once that a variable does not occur free in it, or a type variable or a constant not at all: 64 bits for
-- each, of which each name has one.
use Rattle.std.specs.Prelude.{ℕ}
use Rattle.std.specs.Int.RustNames.{bit_or}
use Rattle.hol_types.specs.Filter.{name_bit, type_filter}
use Rattle.hol_terms.specs.Named.{Named, var, constant, comb, abs}

-- the bits of the names that stand in the term where an abstraction could make them free or bound
abbrev pub filter_of : Named → ℕ
filter_of (var v) = name_bit v.0
filter_of (constant c s) = 0
filter_of (comb f x) = bit_or (filter_of f) (filter_of x)
filter_of (abs v b) = filter_of b

-- the bits of the type variables of the types in the term
abbrev pub type_filter_of : Named → ℕ
type_filter_of (var v) = type_filter v.1
type_filter_of (constant c s) = type_filter s
type_filter_of (comb f x) = bit_or (type_filter_of f) (type_filter_of x)
type_filter_of (abs v b) = bit_or (type_filter v.1) (type_filter_of b)

-- the bits of the names of the constants in the term
abbrev pub constant_filter_of : Named → ℕ
constant_filter_of (var v) = 0
constant_filter_of (constant c s) = name_bit c
constant_filter_of (comb f x) = bit_or (constant_filter_of f) (constant_filter_of x)
constant_filter_of (abs v b) = constant_filter_of b
