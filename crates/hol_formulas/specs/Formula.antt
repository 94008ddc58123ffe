-- Formulas: truth values, connectives and quantifiers, made and taken apart.
-- Source: HOL Light's bool.ml, whose calls mk_conj, dest_conj, is_conj and so on have these names here. There a constant's type is always an instance of its
-- generic type; here a constant may have any type, so that taking apart tests the type too.
use Rattle.std.specs.Prelude.{ℕ, Bool, false, List, cond, ◌&&◌, bytes_eq, codes, Option, Some, None, is_some}
use Rattle.std.specs.Option.{option_map, option_and_then}
use Rattle.hol_types.specs.Tree.{TypeTree}
use Rattle.hol_types.specs.Equal.{type_eq}
use Rattle.hol_types.specs.Fun.{fun_type}
use Rattle.hol_terms.specs.Nameless.{Nameless, free, bound, fixed, app, lam}
use Rattle.hol_formulas.specs.Equation.{bool_type, equation, dest_comb}

-- ---- types

-- bool->bool
abbrev pub negation_type : TypeTree
negation_type = fun_type bool_type bool_type

-- bool->bool->bool
abbrev pub connective_type : TypeTree
connective_type = fun_type bool_type negation_type

-- (a->bool)->bool
abbrev pub quantifier_type : TypeTree → TypeTree
quantifier_type a = fun_type (fun_type a bool_type) bool_type

-- ---- formulas

abbrev pub truth : Nameless
truth = fixed (codes "T") bool_type

abbrev pub falsity : Nameless
falsity = fixed (codes "F") bool_type

-- the connective c between p and q
abbrev pub connected : List ℕ → Nameless → Nameless → Nameless
connected c p q = app (app (fixed c connective_type) p) q

-- p /\ q
abbrev pub conjunction : Nameless → Nameless → Nameless
conjunction p q = connected (codes "/\\") p q

-- p \/ q
abbrev pub disjunction : Nameless → Nameless → Nameless
disjunction p q = connected (codes "\\/") p q

-- p ==> q
abbrev pub implication : Nameless → Nameless → Nameless
implication p q = connected (codes "==>") p q

-- p <=> q
abbrev pub equivalence : Nameless → Nameless → Nameless
equivalence p q = equation bool_type p q

-- ~p
abbrev pub negation : Nameless → Nameless
negation p = app (fixed (codes "~") negation_type) p

-- an abstraction \x:domain. body: the variable's base name, and the body in which index 0 is the variable
pub record Abstraction : Type 0 where
  pub base : List ℕ
  pub domain : TypeTree
  pub body : Nameless

-- the quantifier c over the abstraction
abbrev pub quantified : List ℕ → Abstraction → Nameless
quantified c x = app (fixed c (quantifier_type x.domain)) (lam x.base x.domain x.body)

-- !x. p
abbrev pub universal : Abstraction → Nameless
universal x = quantified (codes "!") x

-- ?x. p
abbrev pub existential : Abstraction → Nameless
existential x = quantified (codes "?") x

-- ---- formulas taken apart

-- the term is the constant c of the type s
abbrev pub is_constant : List ℕ → TypeTree → Nameless → Bool
is_constant c s (free v) = false
is_constant c s (bound i) = false
is_constant c s (fixed d t) = bytes_eq d c && type_eq t s
is_constant c s (app f x) = false
is_constant c s (lam b a t) = false

abbrev pub dest_abs : Nameless → Option Abstraction
dest_abs (free v) = None
dest_abs (bound i) = None
dest_abs (fixed c s) = None
dest_abs (app f x) = None
dest_abs (lam b a t) = Some (record { base = b; domain = a; body = t })

-- the argument of the constant c of the type s
abbrev pub dest_unary : List ℕ → TypeTree → Nameless → Option Nameless
dest_unary c s t = option_and_then (λ p. cond (is_constant c s p.0) (Some p.1) None) (dest_comb t)

-- the two arguments of the constant c of the type s
abbrev pub dest_binary : List ℕ → TypeTree → Nameless → Option (Nameless × Nameless)
dest_binary c s t = option_and_then (λ p. option_map (λ l. (l, p.1)) (dest_unary c s p.0)) (dest_comb t)

-- the abstraction under the quantifier c
abbrev pub dest_quantifier : List ℕ → Nameless → Option Abstraction
dest_quantifier c t = option_and_then (λ p. option_and_then (λ x. cond (is_constant c (quantifier_type x.domain) p.0) (Some x) None) (dest_abs p.1)) (dest_comb t)

abbrev pub is_truth : Nameless → Bool
is_truth t = is_constant (codes "T") bool_type t

abbrev pub is_falsity : Nameless → Bool
is_falsity t = is_constant (codes "F") bool_type t

abbrev pub dest_conj : Nameless → Option (Nameless × Nameless)
dest_conj t = dest_binary (codes "/\\") connective_type t

abbrev pub dest_disj : Nameless → Option (Nameless × Nameless)
dest_disj t = dest_binary (codes "\\/") connective_type t

abbrev pub dest_imp : Nameless → Option (Nameless × Nameless)
dest_imp t = dest_binary (codes "==>") connective_type t

abbrev pub dest_neg : Nameless → Option Nameless
dest_neg t = dest_unary (codes "~") negation_type t

abbrev pub dest_forall : Nameless → Option Abstraction
dest_forall t = dest_quantifier (codes "!") t

abbrev pub dest_exists : Nameless → Option Abstraction
dest_exists t = dest_quantifier (codes "?") t

abbrev pub is_conj : Nameless → Bool
is_conj t = is_some (dest_conj t)

abbrev pub is_disj : Nameless → Bool
is_disj t = is_some (dest_disj t)

abbrev pub is_imp : Nameless → Bool
is_imp t = is_some (dest_imp t)

abbrev pub is_neg : Nameless → Bool
is_neg t = is_some (dest_neg t)

abbrev pub is_forall : Nameless → Bool
is_forall t = is_some (dest_forall t)

abbrev pub is_exists : Nameless → Bool
is_exists t = is_some (dest_exists t)
