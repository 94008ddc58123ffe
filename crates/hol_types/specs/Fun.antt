-- The types of functions.
-- Source: HOL Light's fusion.ml, where type_of gives an abstraction the type Tyapp("fun", [domain; range]), and basics.ml, dest_fun_ty.
use Rattle.std.specs.Prelude.{codes, bytes_eq, cond, Option, Some, None}
use Rattle.hol_types.specs.Tree.{TypeTree, TypeList, TyVar, TyApp, no_types, more_types}

-- the type of functions from s to t
abbrev pub fun_type : TypeTree → TypeTree → TypeTree
fun_type s t = TyApp (codes "fun") (more_types s (more_types t no_types))

-- s and t of the type of functions from s to t, and nothing of another type
abbrev pub both_of : TypeList → Option (TypeTree × TypeTree)
both_of no_types = None
both_of (more_types s no_types) = None
both_of (more_types s (more_types t no_types)) = Some (s, t)
both_of (more_types s (more_types t (more_types u us))) = None

abbrev pub fun_parts : TypeTree → Option (TypeTree × TypeTree)
fun_parts (TyVar a) = None
fun_parts (TyApp c ts) = cond (bytes_eq c (codes "fun")) (both_of ts) None
