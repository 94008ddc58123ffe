-- New names for variables that are freed: such a name is that of no free variable and no constant of some terms, and of no constant that stands.
-- Source: mk_primed_var of the HOL Light Reference Manual. A name of the base with primes that the terms don't exclude is tested, whether a constant has it; the first tested one
-- that none has is taken.
use Rattle.std.specs.Prelude.{◌≡◌, ℕ, zero, suc, ◌+◌, false, cond, codes, List, [], ◌∷◌, ◌++◌, length}
use Rattle.hol_terms.specs.Nameless.{Nameless}
use Rattle.hol_subst.specs.FreeName.{is_taken}
use Rattle.hol_formulas.specs.Constants.{prelude_constants}
use Rattle.hol_goal.specs.Names.{stands}
use Rattle.hol_just.specs.FreeNames.{free_name}

-- a new name, with those that were tested for it, in order; it is the last of them
pub record FreshValue : Type 0 where
  pub name : List ℕ
  pub tested : List (List ℕ)

-- a name that a constant has was tested before
abbrev pub after_testing : List ℕ → FreshValue → FreshValue
after_testing a f = record { name = f.name; tested = a ∷ f.tested }

-- from the name a on, where constants have at most so many of the names that are tested
abbrev pub fresh_in : ℕ → List (List ℕ) → List Nameless → List ℕ → FreshValue
fresh_in zero names avoid a = record { name = free_name avoid a; tested = free_name avoid a ∷ [] }
fresh_in (suc n) names avoid a =
    cond (stands names (free_name avoid a)) (after_testing (free_name avoid a) (fresh_in n names avoid (free_name avoid a ++ codes "'"))) (record { name = free_name avoid a; tested = free_name avoid a ∷ [] })

-- Each name that a constant has is another one, so that no more are needed than there are constants: `fresh_names_are_new` of laws.rt.
abbrev pub fresh : List (List ℕ) → List Nameless → List ℕ → FreshValue
fresh names avoid base = fresh_in (length names + length prelude_constants) names avoid base

-- the name is new
pub record IsNewName (names : List (List ℕ)) (avoid : List Nameless) (f : FreshValue) : Type 0 where
  pub stands_not : stands names f.name ≡ false
  pub taken_not : is_taken avoid f.name ≡ false
