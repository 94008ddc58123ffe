-- Terms with names, as they are written, and their types.
-- Source: HOL Light's fusion.ml, the type term with Var, Const, Comb and Abs, and type_of. Where mk_comb would fail there is no type.
use Rattle.std.specs.Prelude.{ℕ, ◌+◌, List, cond, Option, Some, None}
use Rattle.std.specs.Option.{option_map, option_and_then}
use Rattle.hol_types.specs.Tree.{TypeTree}
use Rattle.hol_types.specs.Equal.{type_eq}
use Rattle.hol_types.specs.Fun.{fun_type, fun_parts}

pub data Named : Type 0 where
  var : List ℕ × TypeTree → Named
  constant : List ℕ → TypeTree → Named
  comb : Named → Named → Named
  abs : List ℕ × TypeTree → Named → Named

-- the number of nodes of the term, types left out
abbrev pub term_nodes : Named → ℕ
term_nodes (var v) = 1
term_nodes (constant c s) = 1
term_nodes (comb f x) = 1 + term_nodes f + term_nodes x
term_nodes (abs v b) = 1 + term_nodes b

-- the type of an application, if the types fit
abbrev pub applied_type : TypeTree → TypeTree → Option TypeTree
applied_type s t = option_and_then (λ p. cond (type_eq p.0 t) (Some p.1) None) (fun_parts s)

-- the type of a term, if each application fits
abbrev pub named_type : Named → Option TypeTree
named_type (var v) = Some v.1
named_type (constant c s) = Some s
named_type (comb f x) = option_and_then (λ s. option_and_then (λ t. applied_type s t) (named_type x)) (named_type f)
named_type (abs v b) = option_map (λ t. fun_type v.1 t) (named_type b)
