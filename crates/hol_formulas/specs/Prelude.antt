-- The definitions and axioms that stand in every basis, as named terms.
-- Source: HOL Light's bool.ml (T_DEF to EXISTS_UNIQUE_DEF), class.ml (ETA_AX, SELECT_AX), nums.ml (ONE_ONE, ONTO, INFINITY_AX). ONE_ONE and
-- ONTO stand as the equations of constants with abstractions that new_basic_definition takes.
use Rattle.std.specs.Prelude.{ℕ, List, [], codes}
use Rattle.hol_types.specs.Tree.{TypeTree, TyApp, no_types}
use Rattle.hol_types.specs.Fun.{fun_type}
use Rattle.hol_terms.specs.Named.{Named, var, constant, comb, abs}
use Rattle.hol_terms.specs.Nameless.{Nameless, nameless}
use Rattle.hol_formulas.specs.Equation.{bool_type, mk_eq}
use Rattle.hol_formulas.specs.Formula.{connective_type, negation_type}
use Rattle.hol_formulas.specs.Making.{mk_truth, mk_falsity, mk_conj, mk_imp, mk_iff, mk_neg, mk_forall, mk_exists}
use Rattle.hol_formulas.specs.Constants.{var_a, var_b, binder_type, choice_type, function_property_type}
use Rattle.hol_formulas.specs.declared.postulate.Postulate.{Postulate}
use Rattle.hol_formulas.specs.declared.postulate.Postulate.TheVariants.{TDef, AndDef, ImpDef, ForallDef, ExistsDef, OrDef, FDef, NotDef, ExistsUniqueDef, EtaAx, SelectAx, OneOne, Onto, InfinityAx}

-- ---- types

abbrev pub ind_type : TypeTree
ind_type = TyApp (codes "ind") no_types

-- the type of properties of what has type a
abbrev pub property_type : TypeTree → TypeTree
property_type a = fun_type a bool_type

-- ---- terms

-- a quantifier at its generic type
abbrev pub quantifier : List ℕ → Named
quantifier c = constant c binder_type

-- ONE_ONE and ONTO at the type of functions from a to b
abbrev pub function_property : List ℕ → TypeTree → TypeTree → Named
function_property c a b = constant c (property_type (fun_type a b))

-- ---- variables

abbrev pub boolean : List ℕ → List ℕ × TypeTree
boolean name = (name, bool_type)

abbrev pub element : List ℕ → List ℕ × TypeTree
element name = (name, var_a)

-- P:A->bool
abbrev pub property : List ℕ × TypeTree
property = (codes "P", property_type var_a)

-- P x
abbrev pub of_element : List ℕ → Named
of_element name = comb (var property) (var (element name))

-- f:A->B
abbrev pub function : List ℕ × TypeTree
function = (codes "f", fun_type var_a var_b)

-- f x
abbrev pub value_at : List ℕ → Named
value_at name = comb (var function) (var (element name))

-- ---- right sides of the definitions

-- \p:bool. p
abbrev pub identity : Named
identity = abs (boolean (codes "p")) (var (boolean (codes "p")))

-- \f:bool->bool->bool. f p q
abbrev pub paired : Named → Named → Named
paired p q = abs (codes "f", connective_type) (comb (comb (var (codes "f", connective_type)) p) q)

-- (\f. f p q) = (\f. f T T)
abbrev pub both : Named → Named → Named
both p q = mk_eq (fun_type connective_type bool_type) (paired p q) (paired mk_truth mk_truth)

-- \p q. .., of two truth values
abbrev pub of_two : (Named → Named → Named) → Named
of_two f = abs (boolean (codes "p")) (abs (boolean (codes "q")) (f (var (boolean (codes "p"))) (var (boolean (codes "q")))))

-- !r. (p ==> r) ==> (q ==> r) ==> r
abbrev pub either : Named → Named → Named
either p q =
    let r = var (boolean (codes "r")) in
    mk_forall (boolean (codes "r")) (mk_imp (mk_imp p r) (mk_imp (mk_imp q r) r))

-- \P:A->bool. P = (\x. T)
abbrev pub everywhere : Named
everywhere = abs property (mk_eq (property_type var_a) (var property) (abs (element (codes "x")) mk_truth))

-- \P:A->bool. !q. (!x. P x ==> q) ==> q
abbrev pub somewhere : Named
somewhere =
    let q = var (boolean (codes "q")) in
    abs property (mk_forall (boolean (codes "q")) (mk_imp (mk_forall (element (codes "x")) (mk_imp (of_element (codes "x")) q)) q))

-- !x y. P x /\ P y ==> x = y
abbrev pub at_most_once : Named
at_most_once =
    mk_forall (element (codes "x")) (mk_forall (element (codes "y"))
    (mk_imp (mk_conj (of_element (codes "x")) (of_element (codes "y"))) (mk_eq var_a (var (element (codes "x"))) (var (element (codes "y"))))))

-- \P:A->bool. (?) P /\ (!x y. P x /\ P y ==> x = y)
abbrev pub once : Named
once = abs property (mk_conj (comb (quantifier (codes "?")) (var property)) at_most_once)

-- \f:A->B. !x1 x2. f x1 = f x2 ==> x1 = x2
abbrev pub injective : Named
injective =
    abs function (mk_forall (element (codes "x1")) (mk_forall (element (codes "x2"))
    (mk_imp (mk_eq var_b (value_at (codes "x1")) (value_at (codes "x2"))) (mk_eq var_a (var (element (codes "x1"))) (var (element (codes "x2")))))))

-- \f:A->B. !y. ?x. y = f x
abbrev pub surjective : Named
surjective =
    abs function (mk_forall (codes "y", var_b) (mk_exists (element (codes "x")) (mk_eq var_b (var (codes "y", var_b)) (value_at (codes "x")))))

-- ---- statements

-- (c) = r, for a constant c of the type a
abbrev pub defining : List ℕ → TypeTree → Named → Named
defining c a r = mk_eq a (constant c a) r

-- !t:A->B. (\x. t x) = t
abbrev pub eta : Named
eta =
    let t : List ℕ × TypeTree = (codes "t", fun_type var_a var_b) in
    mk_forall t (mk_eq (fun_type var_a var_b) (abs (element (codes "x")) (comb (var t) (var (element (codes "x"))))) (var t))

-- !P x. P x ==> P ((@) P)
abbrev pub chosen : Named
chosen =
    mk_forall property (mk_forall (element (codes "x"))
    (mk_imp (of_element (codes "x")) (comb (var property) (comb (constant (codes "@") choice_type) (var property)))))

-- ?f:ind->ind. ONE_ONE f /\ ~ONTO f
abbrev pub infinite : Named
infinite =
    let f : List ℕ × TypeTree = (codes "f", fun_type ind_type ind_type) in
    mk_exists f
    (mk_conj (comb (function_property (codes "ONE_ONE") ind_type ind_type) (var f))
    (mk_neg (comb (function_property (codes "ONTO") ind_type ind_type) (var f))))

abbrev pub postulated : Postulate → Named
postulated TDef = defining (codes "T") bool_type (mk_eq (negation_type) identity identity)
postulated AndDef = defining (codes "/\\") connective_type (of_two both)
postulated ImpDef = defining (codes "==>") connective_type (of_two (λ p q. mk_iff (mk_conj p q) p))
postulated ForallDef = defining (codes "!") binder_type everywhere
postulated ExistsDef = defining (codes "?") binder_type somewhere
postulated OrDef = defining (codes "\\/") connective_type (of_two either)
postulated FDef = defining (codes "F") bool_type (mk_forall (boolean (codes "p")) (var (boolean (codes "p"))))
postulated NotDef = defining (codes "~") (negation_type) (abs (boolean (codes "p")) (mk_imp (var (boolean (codes "p"))) mk_falsity))
postulated ExistsUniqueDef = defining (codes "?!") binder_type once
postulated EtaAx = eta
postulated SelectAx = chosen
postulated OneOne = defining (codes "ONE_ONE") function_property_type injective
postulated Onto = defining (codes "ONTO") function_property_type surjective
postulated InfinityAx = infinite

-- the statement of a definition or an axiom of the prelude
abbrev pub statement_of : Postulate → Nameless
statement_of which = nameless [] (postulated which)
