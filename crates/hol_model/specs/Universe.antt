-- What a universe of values would be in which INFINITY_AX is true too: a set theory with what HOL needs, and with a table of each function on values over a set. The toolchain's
-- logic has none.
use Rattle.std.specs.Prelude.{◌≡◌, ◌⊎◌, Bool, true}

-- Operations on values, and on sets of them, which may be empty, by which terms of HOL can be given values.
pub record UniverseOf (Value Set : Type 0) : Type 0 where
  pub is_in : Value → Set → Bool
  -- ---- equality
  pub same : Value → Value → Bool
  pub same_is : (x y : Value) → same x y ≡ true → x ≡ y
  pub same_self : (x : Value) → same x x ≡ true
  -- ---- a value of a set that has one
  pub first : Set → Value
  pub first_in : (x : Value) (xs : Set) → is_in x xs ≡ true → is_in (first xs) xs ≡ true
  -- ---- truth values
  pub off : Value
  pub on : Value
  pub off_is_not_on : off ≡ on → ⊥
  pub booleans : Set
  pub off_in : is_in off booleans ≡ true
  pub on_in : is_in on booleans ≡ true
  pub two : (x : Value) → is_in x booleans ≡ true → (x ≡ off) ⊎ (x ≡ on)
  -- ---- functions from a set, as values
  pub apply : Value → Value → Value
  pub table : (Value → Value) → Set → Value
  -- those to another set
  pub tables : Set → Set → Set
  pub apply_table : (f : Value → Value) (x : Value) (xs : Set) → is_in x xs ≡ true → apply (table f xs) x ≡ f x
  pub table_same : (f g : Value → Value) (xs : Set) → ((x : Value) → is_in x xs ≡ true → f x ≡ g x) → table f xs ≡ table g xs
  pub table_in : (f : Value → Value) (xs ys : Set) → ((x : Value) → is_in x xs ≡ true → is_in (f x) ys ≡ true) → is_in (table f xs) (tables xs ys) ≡ true
  pub apply_in : (t x : Value) (xs ys : Set) → is_in t (tables xs ys) ≡ true → is_in x xs ≡ true → is_in (apply t x) ys ≡ true
  pub table_eta : (t : Value) (xs ys : Set) → is_in t (tables xs ys) ≡ true → table (apply t) xs ≡ t
  -- ---- what a predicate's value takes to on: one of the values, where there is one; and the set of them
  pub chosen : Value → Set → Value
  pub chosen_in : (p : Value) (xs : Set) → is_in (first xs) xs ≡ true → is_in (chosen p xs) xs ≡ true
  pub chosen_holds : (p x : Value) (xs : Set) → is_in x xs ≡ true → apply p x ≡ on → apply p (chosen p xs) ≡ on
  pub members : Value → Set → Set
  pub members_in : (p x : Value) (xs : Set) → is_in x (members p xs) ≡ true → (is_in x xs ≡ true) × (apply p x ≡ on)
  pub in_members : (p x : Value) (xs : Set) → is_in x xs ≡ true → apply p x ≡ on → is_in x (members p xs) ≡ true
  -- ---- what the type ind has for values
  pub individuals : Set
  pub individual : is_in (first individuals) individuals ≡ true

-- INFINITY_AX in a universe: a function of the individuals to themselves that is one to one, and doesn't reach each of them.
pub record IsInfinite (Value Set : Type 0) (U : UniverseOf Value Set) : Type 0 where
  pub step : Value
  pub step_in : U.is_in step (U.tables U.individuals U.individuals) ≡ true
  pub one_to_one : (x y : Value) → U.is_in x U.individuals ≡ true → U.is_in y U.individuals ≡ true → U.apply step x ≡ U.apply step y → x ≡ y
  pub missed : Value
  pub missed_in : U.is_in missed U.individuals ≡ true
  pub not_reached : (x : Value) → U.is_in x U.individuals ≡ true → U.apply step x ≡ missed → ⊥
