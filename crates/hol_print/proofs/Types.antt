-- Steps of showing types.
use Rattle.std.proofs.Common.{◌≡◌, ℕ, zero, suc, ◌+◌, ◌<◌, ◌≤◌, List, [], ◌∷◌, ◌++◌, length, get_or, drop, refl, ap, sym, ◌∙◌, Bool, true, false, cond, Option, Some, None, unwrap_or, codes, append_assoc, arith, bytes_eq}
use Rattle.hol_types.specs.Tree.{TypeTree, TypeList, TyVar, TyApp, no_types, more_types, type_list, type_size, types_size}
use Rattle.hol_types.specs.Fun.{fun_type, fun_parts, both_of}
use Rattle.std.proofs.lemmas.Slice.Eq.{bytes_eq-Decides}
use Rattle.hol_print.specs.ShowType.{in_parentheses, is_function, show_type, show_arguments, show_others}
use Rattle.hol_types.proofs.Steps.{part_size, arguments_smaller}

abbrev Parts : Type 0
Parts = Option (TypeTree × TypeTree)

both : (ts : TypeList) (a b : TypeTree) → both_of ts ≡ Some (a, b) → ts ≡ more_types a (more_types b no_types)
both no_types a b e = absurd (cc)
both (more_types s no_types) a b e = absurd (cc)
both (more_types s (more_types t no_types)) a b e =
    let h : s ≡ a = ap (λ (o : Parts). (unwrap_or o (s, t)).0) e in
    let k : t ≡ b = ap (λ (o : Parts). (unwrap_or o (s, t)).1) e in
    λ i. more_types (h i) (more_types (k i) no_types)
both (more_types s (more_types t (more_types u us))) a b e = absurd (cc)

-- a type that has the parts of a function type is that function type
is_fun_type : (s a b : TypeTree) → fun_parts s ≡ Some (a, b) → s ≡ fun_type a b
is_fun_type (TyVar x) a b e = absurd (cc)
is_fun_type (TyApp c ts) a b e = by (bytes_eq c (codes "fun")) refl e
  where
    by : (v : Bool) → bytes_eq c (codes "fun") ≡ v → cond {A = Parts} v (both_of ts) None ≡ Some (a, b) → TyApp c ts ≡ fun_type a b
    by true p q = let n : c ≡ codes "fun" = (bytes_eq-Decides c (codes "fun")).0 p in let r : ts ≡ more_types a (more_types b no_types) = both ts a b q in λ i. TyApp (n i) (r i)
    by false p q = absurd (cc)

pub function_text : (s a b : TypeTree) → fun_parts s ≡ Some (a, b) → show_type s ≡ in_parentheses (is_function a) (show_type a) ++ codes "->" ++ show_type b
function_text s a b e = ap show_type (is_fun_type s a b e)

pub applied_text : (c : List ℕ) (ts : TypeList) → fun_parts (TyApp c ts) ≡ None → show_type (TyApp c ts) ≡ show_arguments ts ++ c
applied_text c no_types e = refl
applied_text c (more_types s no_types) e = refl
applied_text c (more_types s (more_types t no_types)) e = by (bytes_eq c (codes "fun")) refl e
  where
    by : (v : Bool) → bytes_eq c (codes "fun") ≡ v → cond {A = Parts} v (both_of (more_types s (more_types t no_types))) None ≡ None → show_type (TyApp c (more_types s (more_types t no_types))) ≡ show_arguments (more_types s (more_types t no_types)) ++ c
    by true p q = absurd (cc)
    by false p q = rw p refl
applied_text c (more_types s (more_types t (more_types u us))) e = refl

pub ruleset parts = (function_text, applied_text)

pub one_argument : (ts : List TypeTree) (s : TypeTree) → 1 ≤ length ts → length ts < 2 → s ≡ get_or ts 0 s → show_arguments (type_list ts) ≡ in_parentheses (is_function s) (show_type s) ++ codes " "
one_argument [] s h k e = absurd (omega arith)
one_argument (t ∷ []) s h k e = ap (λ x. in_parentheses (is_function x) (show_type x) ++ codes " ") (sym e)
one_argument (t ∷ u ∷ ts) s h k e = absurd (omega arith)

pub many_arguments : (ts : List TypeTree) (s : TypeTree) → 2 ≤ length ts → s ≡ get_or ts 0 s → show_arguments (type_list ts) ≡ codes "(" ++ show_type s ++ show_others (type_list (drop 1 ts)) ++ codes ") "
many_arguments [] s h e = absurd (omega arith)
many_arguments (a ∷ []) s h e = absurd (omega arith)
many_arguments (a ∷ b ∷ ts) s h e =
    let front : List ℕ = codes "(" ++ show_type s in
    let p : show_type a ≡ show_type s = ap show_type (sym e) in
    ap (λ x. codes "(" ++ x ++ codes "," ++ show_type b ++ show_others (type_list ts) ++ codes ") ") p
    ∙ ap (λ x. x ++ show_others (type_list ts) ++ codes ") ") (append_assoc front (codes ",") (show_type b))
    ∙ ap (λ x. x ++ codes ") ") (append_assoc front (codes "," ++ show_type b) (show_others (type_list ts)))

pub ruleset arguments = (one_argument, many_arguments)

-- the first of the arguments after the first
pub other_text : (ts : List TypeTree) (i : ℕ) (t : TypeTree) → i < length ts → t ≡ get_or ts i t → show_others (type_list (drop i ts)) ≡ codes "," ++ show_type t ++ show_others (type_list (drop (i + 1) ts))
other_text [] i t h e = absurd (omega arith)
other_text (a ∷ ts) zero t h e = let p : t ≡ a = e in rw p refl
other_text (a ∷ ts) (suc i) t h e = let n : suc i + 1 ≡ suc (i + 1) = omega arith in rw n (other_text ts i t (omega arith) e)

pub no_other_text : (ts : List TypeTree) (i : ℕ) → length ts ≤ i → show_others (type_list (drop i ts)) ≡ []
no_other_text [] zero h = refl
no_other_text [] (suc i) h = refl
no_other_text (t ∷ ts) zero h = absurd (omega arith)
no_other_text (t ∷ ts) (suc i) h = no_other_text ts i (omega arith)

pub ruleset others = (other_text, no_other_text)

-- ---- parts are smaller

pub domain_smaller : (s a b : TypeTree) → fun_parts s ≡ Some (a, b) → type_size a < type_size s
domain_smaller s a b e = omega (arith, ap type_size (is_fun_type s a b e))

pub range_smaller : (s a b : TypeTree) → fun_parts s ≡ Some (a, b) → type_size b < type_size s
range_smaller s a b e = omega (arith, ap type_size (is_fun_type s a b e))

pub ruleset smaller = (domain_smaller, range_smaller, arguments_smaller)

pub rest_size : (ts : List TypeTree) (i : ℕ) → types_size (type_list (drop i ts)) ≤ types_size (type_list ts)
rest_size [] zero = omega arith
rest_size [] (suc i) = omega arith
rest_size (t ∷ ts) zero = omega arith
rest_size (t ∷ ts) (suc i) = omega (arith, rest_size ts i)

pub ruleset sizes = (part_size, rest_size)
