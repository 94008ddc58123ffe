-- Interpretations: what each type has for values, and the value of each term.
use Rattle.std.specs.Prelude.{ℕ, zero, suc, Bool, true, false, cond, List, [], ◌∷◌, bytes_eq, codes, Option, Some, None}
use Rattle.hol_types.specs.Tree.{TypeTree, TypeList, TyVar, TyApp, no_types, more_types}
use Rattle.hol_terms.specs.Nameless.{Nameless, free, bound, fixed, app, lam}
use Rattle.hol_model.proofs.Universes.{Universe}

module _ (U : Universe) where
  open U use {Value, Set}
  open U.laws use {same, first, off, on, booleans, apply, table, tables, chosen}

  -- values of the type variables
  abbrev pub Assignment : Type 0
  Assignment = List ℕ → Set

  -- values of the free variables
  abbrev pub Valuation : Type 0
  Valuation = List ℕ × TypeTree → Value

  -- values of the type constructors but bool and fun, over those of their arguments
  abbrev pub Constructors : Type 0
  Constructors = List ℕ → List Set → Set

  -- What gives types and terms their values: the type constructors, the generic types of the constants, and the values of the constants, over those of the variables
  -- of their generic types.
  pub record Interpretation : Type 0 where
    pub constructors : Constructors
    pub generics : List ℕ → TypeTree
    pub constants : List ℕ → Assignment → Value

  -- ---- truth values

  -- the truth value of a test
  abbrev pub truth_value : Bool → Value
  truth_value true = on
  truth_value false = off

  -- ---- types

  -- values of a constructor over those of its arguments
  abbrev pub constructed : Constructors → List ℕ → List Set → Set
  constructed k c [] = cond (bytes_eq c (codes "bool")) booleans (k c [])
  constructed k c (xs ∷ []) = k c (xs ∷ [])
  constructed k c (xs ∷ ys ∷ []) = cond (bytes_eq c (codes "fun")) (tables xs ys) (k c (xs ∷ ys ∷ []))
  constructed k c (xs ∷ ys ∷ zs ∷ more) = k c (xs ∷ ys ∷ zs ∷ more)

  abbrev mutual
    pub elements : Constructors → Assignment → TypeTree → Set
    elements k d (TyVar a) = d a
    elements k d (TyApp c ts) = constructed k c (elements_of k d ts)

    pub elements_of : Constructors → Assignment → TypeList → List Set
    elements_of k d no_types = []
    elements_of k d (more_types t ts) = elements k d t ∷ elements_of k d ts

  -- ---- instances of a generic type

  -- the first part, if there is one
  abbrev pub part_of_two : Option TypeTree → Option TypeTree → Option TypeTree
  part_of_two None p = p
  part_of_two (Some t) p = Some t

  -- the part of an instance that stands where the variable does in the generic type
  abbrev mutual
    pub part_at : List ℕ → TypeTree → TypeTree → Option TypeTree
    part_at a (TyVar b) s = cond (bytes_eq a b) (Some s) None
    part_at a (TyApp c ts) (TyVar b) = None
    part_at a (TyApp c ts) (TyApp d us) = parts_at a ts us

    pub parts_at : List ℕ → TypeList → TypeList → Option TypeTree
    parts_at a no_types us = None
    parts_at a (more_types t ts) no_types = None
    parts_at a (more_types t ts) (more_types u us) = part_of_two (part_at a t u) (parts_at a ts us)

  abbrev pub part_values : Constructors → Assignment → Option TypeTree → Set
  part_values k d None = booleans
  part_values k d (Some t) = elements k d t

  -- the values of the generic type's variables at an instance
  abbrev pub instance_values : Constructors → Assignment → TypeTree → TypeTree → Assignment
  instance_values k d generic s a = part_values k d (part_at a generic s)

  -- ---- terms

  abbrev pub constant_value : Interpretation → Assignment → List ℕ → TypeTree → Value
  constant_value m d c s = m.constants c (instance_values m.constructors d (m.generics c) s)

  abbrev pub nth : List Value → ℕ → Value
  nth [] i = off
  nth (x ∷ env) zero = x
  nth (x ∷ env) (suc i) = nth env i

  -- the value of a term under binders with these values, the innermost first
  abbrev pub eval : Interpretation → Assignment → Valuation → List Value → Nameless → Value
  eval m d f env (free v) = f v
  eval m d f env (bound i) = nth env i
  eval m d f env (fixed c s) = constant_value m d c s
  eval m d f env (app g x) = apply (eval m d f env g) (eval m d f env x)
  eval m d f env (lam a s b) = table (λ x. eval m d f (x ∷ env) b) (elements m.constructors d s)

  -- a value for each free variable
  abbrev pub some_values : Constructors → Assignment → Valuation
  some_values k d v = first (elements k d v.1)

  -- the value of a closed term
  abbrev pub value_of : Interpretation → Nameless → Assignment → Value
  value_of m t d = eval m d (some_values m.constructors d) [] t

  -- ---- equality and choice

  abbrev pub equality_value : Set → Value
  equality_value xs = table (λ x. table (λ y. truth_value (same x y)) xs) xs

  abbrev pub choice_value : Set → Value
  choice_value xs = table (λ p. chosen p xs) (tables xs booleans)

  -- ---- one constant more

  abbrev pub with_constant : List ℕ → TypeTree → (Assignment → Value) → Interpretation → Interpretation
  with_constant c generic value m = record {
    constructors = m.constructors;
    generics = λ e. cond (bytes_eq e c) generic (m.generics e);
    constants = λ e d. cond (bytes_eq e c) (value d) (m.constants e d);
  }

  -- one that is defined as the term r
  abbrev pub with_defined : List ℕ → TypeTree → Nameless → Interpretation → Interpretation
  with_defined c generic r m = with_constant c generic (value_of m r) m
