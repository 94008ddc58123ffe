-- Equations: the type of truth values, `=` at a type, and the sides of an equation.
-- Source: HOL Light's fusion.ml (bool, =) and basics.ml (mk_eq, dest_eq, is_eq).
use Rattle.std.specs.Prelude.{ℕ, Bool, List, cond, ◌&&◌, bytes_eq, codes, Option, Some, None, is_some}
use Rattle.std.specs.Option.{option_and_then}
use Rattle.hol_types.specs.Tree.{TypeTree, TyApp, no_types}
use Rattle.hol_types.specs.Equal.{type_eq}
use Rattle.hol_types.specs.Fun.{fun_type, fun_parts}
use Rattle.hol_terms.specs.Nameless.{Nameless, free, bound, fixed, app, lam}
use Rattle.hol_terms.specs.Named as named

-- the type of truth values
abbrev pub bool_type : TypeTree
bool_type = TyApp (codes "bool") no_types

-- the type of (=) between terms of the type a
abbrev pub equality_type : TypeTree → TypeTree
equality_type a = fun_type a (fun_type a bool_type)

-- l = r, for terms of the type a
abbrev pub equation : TypeTree → Nameless → Nameless → Nameless
equation a l r = app (app (fixed (codes "=") (equality_type a)) l) r

-- the same with names
abbrev pub mk_eq : TypeTree → named.Named → named.Named → named.Named
mk_eq a l r = named.comb (named.comb (named.constant (codes "=") (equality_type a)) l) r

-- ---- equations taken apart

-- the function and the argument of an application
abbrev pub dest_comb : Nameless → Option (Nameless × Nameless)
dest_comb (free v) = None
dest_comb (bound i) = None
dest_comb (fixed c s) = None
dest_comb (app f x) = Some (f, x)
dest_comb (lam b a t) = None

-- an equation's two sides and their type
pub record Sides : Type 0 where
  pub sides_type : TypeTree
  pub left : Nameless
  pub right : Nameless

-- the sides l and r of a constant c of type s applied to both, where c is (=) and s its type for first arguments of the type p.0
abbrev pub sides_at : List ℕ → TypeTree → Nameless → Nameless → TypeTree × TypeTree → Option Sides
sides_at c s l r p = cond (bytes_eq c (codes "=") && type_eq s (equality_type p.0)) (Some (record { sides_type = p.0; left = l; right = r })) None

-- the sides l and r of f l r, where f is (=)
abbrev pub sides_under : Nameless → Nameless → Nameless → Option Sides
sides_under (free v) l r = None
sides_under (bound i) l r = None
sides_under (fixed c s) l r = option_and_then (sides_at c s l r) (fun_parts s)
sides_under (app f x) l r = None
sides_under (lam b a t) l r = None

abbrev pub dest_eq : Nameless → Option Sides
dest_eq t = option_and_then (λ p. option_and_then (λ q. sides_under q.0 q.1 p.1) (dest_comb p.0)) (dest_comb t)

abbrev pub is_eq : Nameless → Bool
is_eq t = is_some (dest_eq t)
