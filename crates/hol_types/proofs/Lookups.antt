-- Looking up a name in one list of pairs before another.
use Rattle.std.proofs.Common.{◌≡◌, ℕ, List, [], ◌∷◌, ◌++◌, Bool, true, false, cond, bytes_eq, Some, None, refl}
use Rattle.hol_types.specs.Tree.{TypeTree}
use Rattle.hol_types.specs.Subst.{type_lookup}

-- what the first gives is given
pub type_first : (xs ys : List (TypeTree × List ℕ)) (a : List ℕ) (s : TypeTree) → type_lookup xs a ≡ Some s → type_lookup (xs ++ ys) a ≡ Some s
type_first [] ys a s e = absurd (cc)
type_first (x ∷ xs) ys a s e = by (bytes_eq x.1 a) (type_first xs ys a s) e
  where
    by : (b : Bool) → (type_lookup xs a ≡ Some s → type_lookup (xs ++ ys) a ≡ Some s) → cond b (Some x.0) (type_lookup xs a) ≡ Some s → cond b (Some x.0) (type_lookup (xs ++ ys) a) ≡ Some s
    by true r f = f
    by false r f = r f

-- and where it gives nothing, what the second gives
pub type_second : (xs ys : List (TypeTree × List ℕ)) (a : List ℕ) → type_lookup xs a ≡ None → type_lookup (xs ++ ys) a ≡ type_lookup ys a
type_second [] ys a e = refl
type_second (x ∷ xs) ys a e = by (bytes_eq x.1 a) (type_second xs ys a) e
  where
    by : (b : Bool) → (type_lookup xs a ≡ None → type_lookup (xs ++ ys) a ≡ type_lookup ys a) → cond b (Some x.0) (type_lookup xs a) ≡ None → cond b (Some x.0) (type_lookup (xs ++ ys) a) ≡ type_lookup ys a
    by true r f = absurd (cc)
    by false r f = r f
