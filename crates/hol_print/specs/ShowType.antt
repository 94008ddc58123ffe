-- The text of a type.
-- Source: HOL Light's printer (printer.ml, pp_print_type); the exact text is this project's: `A->B` without spaces, `A list`, `(A,B) name`.
use Rattle.std.specs.Prelude.{ℕ, List, [], ◌++◌, codes, Bool, true, false, cond, bytes_eq, is_some}
use Rattle.hol_types.specs.Tree.{TypeTree, TypeList, TyVar, TyApp, no_types, more_types}
use Rattle.hol_types.specs.Fun.{fun_parts}

-- a text in parentheses where the test holds
abbrev pub in_parentheses : Bool → List ℕ → List ℕ
in_parentheses true text = codes "(" ++ text ++ codes ")"
in_parentheses false text = text

abbrev pub is_function : TypeTree → Bool
is_function s = is_some (fun_parts s)

-- A function type stands in parentheses on the left of `->`, and where it is the only argument of a constructor.
abbrev mutual
  pub show_type : TypeTree → List ℕ
  show_type (TyVar a) = a
  show_type (TyApp c no_types) = show_arguments no_types ++ c
  show_type (TyApp c (more_types s no_types)) = show_arguments (more_types s no_types) ++ c
  show_type (TyApp c (more_types s (more_types t no_types))) =
      cond (bytes_eq c (codes "fun"))
      (in_parentheses (is_function s) (show_type s) ++ codes "->" ++ show_type t)
      (show_arguments (more_types s (more_types t no_types)) ++ c)
  show_type (TyApp c (more_types s (more_types t (more_types u us)))) = show_arguments (more_types s (more_types t (more_types u us))) ++ c

  -- what stands before the constructor
  pub show_arguments : TypeList → List ℕ
  show_arguments no_types = []
  show_arguments (more_types s no_types) = in_parentheses (is_function s) (show_type s) ++ codes " "
  show_arguments (more_types s (more_types t ts)) = codes "(" ++ show_type s ++ codes "," ++ show_type t ++ show_others ts ++ codes ") "

  pub show_others : TypeList → List ℕ
  show_others no_types = []
  show_others (more_types t ts) = codes "," ++ show_type t ++ show_others ts
