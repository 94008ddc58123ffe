-- One step of a loop over arguments.
use Rattle.std.proofs.Common.{◌≡◌, Bool, true, false, cond, ◌&&◌, ℕ, ◌+◌, ◌<◌, ◌≤◌, ◌==◌, zero, suc, List, [], ◌∷◌, length, get_or, drop, take, map, refl, sym, ap, ◌∙◌, arith, add-one, drop-cons}
use Rattle.std.proofs.Math.Nat.{suc-ne-zero}
use Rattle.std.proofs.lemmas.Bool.{ne_eqb}
use Rattle.std.proofs.lemmas.List.{take_all, drop_all}
use Rattle.std.proofs.Math.Seq.{drop-nil}
use Rattle.hol_types.specs.Tree.{TypeTree, TypeList, TyVar, TyApp, no_types, more_types, type_list, type_size, types_size}
use Rattle.std.specs.Prelude.{Result, IfOk, Option, Some, None, is_some, bytes_eq, codes}
use Rattle.hol_types.specs.Match.{match_types}
use Rattle.hol_types.specs.Fun.{both_of, fun_parts}
use Rattle.std.proofs.lemmas.Result.{IfOk-weaker}
use Rattle.hol_types.specs.Order.{types_cmp}
use Rattle.std.specs.declared.cmp.Ordering.TheVariants.{Less}
use Rattle.hol_types.specs.Subst.{type_subst, types_subst}
use Rattle.hol_types.specs.Basic.{is_basic_constructor, arguments, is_basic, are_basic, is_empty, is_bool}

-- the arguments from i on are the i-th and those after it
pub next_of : {A : Type 0} (xs : List A) (i : ℕ) (x : A) → i < length xs → x ≡ get_or xs i x → drop i xs ≡ x ∷ drop (i + 1) xs
next_of xs i x h e = rw (add-one, drop-cons xs i x, ← e) refl

pub subst_list : (pairs : List (TypeTree × List ℕ)) (ts : List TypeTree) → type_list (map (type_subst pairs) ts) ≡ types_subst pairs (type_list ts)
subst_list pairs [] = refl
subst_list pairs (t ∷ ts) = ap (more_types (type_subst pairs t)) (subst_list pairs ts)

-- the first list ends before the second
pub ends_less : (ts us : List TypeTree) (i : ℕ) → length ts ≤ i → i < length us → types_cmp (type_list (drop i ts)) (type_list (drop i us)) ≡ Less
ends_less [] us zero h k = first us k
  where
    first : (vs : List TypeTree) → 0 < length vs → types_cmp no_types (type_list vs) ≡ Less
    first [] p = absurd (omega arith)
    first (v ∷ vs) p = refl
ends_less [] [] (suc i) h k = absurd (omega arith)
ends_less [] (u ∷ us) (suc i) h k = let r : types_cmp (type_list (drop i [])) (type_list (drop i us)) ≡ Less = ends_less [] us i (omega arith) (omega arith) in rw (drop-nil i) at r
ends_less (t ∷ ts) us zero h k = absurd (omega arith)
ends_less (t ∷ ts) [] (suc i) h k = absurd (omega arith)
ends_less (t ∷ ts) (u ∷ us) (suc i) h k = ends_less ts us i (omega arith) (omega arith)

pub copied : {E : Type 0} (r : Result TypeTree E) (x y : TypeTree) → IfOk r (λ t. t ≡ x) → x ≡ y → IfOk r (λ t. t ≡ y)
copied r x y h e = IfOk-weaker r _ _ (λ t p. p ∙ e) h

-- where the loop over the arguments is over
pub subst_all : (pairs : List (TypeTree × List ℕ)) (ts us : List TypeTree) (i : ℕ) → us ≡ map (type_subst pairs) (take i ts) → length ts ≤ i → type_list us ≡ types_subst pairs (type_list ts)
subst_all pairs ts us i e h = ap type_list (e ∙ ap (map (type_subst pairs)) (take_all i ts h)) ∙ subst_list pairs ts

-- the arguments are not two
below_two : (ts : List TypeTree) → length ts < 2 → both_of (type_list ts) ≡ None
below_two [] h = refl
below_two (s ∷ []) h = refl
below_two (s ∷ t ∷ ts) h = absurd (omega arith)

above_two : (ts : List TypeTree) → 3 ≤ length ts → both_of (type_list ts) ≡ None
above_two [] h = absurd (omega arith)
above_two (s ∷ []) h = absurd (omega arith)
above_two (s ∷ t ∷ []) h = absurd (omega arith)
above_two (s ∷ t ∷ u ∷ ts) h = refl

-- the type of this constructor and arguments is one of functions where it has the name `fun` and two arguments
two_arguments : (ts : List TypeTree) → is_some (both_of (type_list ts)) ≡ (length ts == 2)
two_arguments [] = sym (ne_eqb 0 2 (λ e. absurd (omega (arith, e))))
two_arguments (s ∷ []) = sym (ne_eqb 1 2 (λ e. absurd (omega (arith, e))))
two_arguments (s ∷ t ∷ []) = refl
two_arguments (s ∷ t ∷ u ∷ ts) = sym (ne_eqb (length (s ∷ t ∷ u ∷ ts)) 2 (λ e. absurd (omega (arith, e))))

pub function_app : (c : List ℕ) (ts : List TypeTree) → is_some (fun_parts (TyApp c (type_list ts))) ≡ (bytes_eq c (codes "fun") && (length ts == 2))
function_app c ts = by (bytes_eq c (codes "fun"))
  where
    by : (b : Bool) → is_some (cond b (both_of (type_list ts)) None) ≡ (b && (length ts == 2))
    by true = two_arguments ts
    by false = refl

-- such a type has the parts that its arguments are
pub function_parts : (c : List ℕ) (ts : TypeList) (p : TypeTree × TypeTree) → is_some (fun_parts (TyApp c ts)) ≡ true → both_of ts ≡ Some p → fun_parts (TyApp c ts) ≡ Some p
function_parts c ts p e f = by (bytes_eq c (codes "fun")) e
  where
    by : (b : Bool) → is_some (cond b (both_of ts) None) ≡ true → cond b (both_of ts) None ≡ Some p
    by true g = f
    by false g = absurd (cc)

none_of : (o : Option (TypeTree × TypeTree)) → is_some o ≡ false → o ≡ None
none_of None e = refl
none_of (Some p) e = absurd (cc)

pub no_function : (t : TypeTree) → is_some (fun_parts t) ≡ false → fun_parts t ≡ None
no_function t e = none_of (fun_parts t) e

no_both : (c : List ℕ) (ts : TypeList) → both_of ts ≡ None → fun_parts (TyApp c ts) ≡ None
no_both c ts e = by (bytes_eq c (codes "fun"))
  where
    by : (b : Bool) → cond b (both_of ts) None ≡ None
    by true = e
    by false = refl

pub below_two_parts : (c : List ℕ) (ts : List TypeTree) → length ts < 2 → fun_parts (TyApp c (type_list ts)) ≡ None
below_two_parts c ts h = no_both c (type_list ts) (below_two ts h)

pub above_two_parts : (c : List ℕ) (ts : List TypeTree) → 3 ≤ length ts → fun_parts (TyApp c (type_list ts)) ≡ None
above_two_parts c ts h = no_both c (type_list ts) (above_two ts h)

-- the type of this constructor and arguments is `bool` where it has this name and no arguments
no_arguments : (ts : List TypeTree) → is_empty (type_list ts) ≡ (length ts == 0)
no_arguments [] = refl
no_arguments (t ∷ ts) = sym (ne_eqb (suc (length ts)) 0 (suc-ne-zero (length ts)))

pub truth_app : (c : List ℕ) (ts : List TypeTree) → is_bool (TyApp c (type_list ts)) ≡ (bytes_eq c (codes "bool") && (length ts == 0))
truth_app c ts = ap (λ b. bytes_eq c (codes "bool") && b) (no_arguments ts)

-- the lists end together, or the second goes on
pub match_ends_some : (found : List (TypeTree × List ℕ)) (ts us : List TypeTree) (i : ℕ) → length ts ≤ i → length us ≤ i → match_types (type_list (drop i ts)) found (type_list (drop i us)) ≡ Some found
match_ends_some found ts us i h k = rw (drop_all i ts h, drop_all i us k) refl

pub match_ends_none : (found : List (TypeTree × List ℕ)) (ts us : List TypeTree) (i : ℕ) → length ts ≤ i → i < length us → match_types (type_list (drop i ts)) found (type_list (drop i us)) ≡ None
match_ends_none found ts us i h k = rw (drop_all i ts h, drop-cons us i (TyVar [])) refl

pub match_more_none : (found : List (TypeTree × List ℕ)) (ts us : List TypeTree) (i : ℕ) → i < length ts → length us ≤ i → match_types (type_list (drop i ts)) found (type_list (drop i us)) ≡ None
match_more_none found ts us i h k = rw (drop_all i us k, drop-cons ts i (TyVar [])) refl

pub ruleset match_ends = (match_ends_some, match_ends_none, match_more_none)

-- whether a match was found
pub match_test : (o : Option (List (TypeTree × List ℕ))) (found : List (TypeTree × List ℕ)) (b : Bool) → o ≡ cond b (Some found) None → b ≡ is_some o
match_test o found true e = sym (ap is_some e)
match_test o found false e = sym (ap is_some e)

-- a constructor over a list of arguments
arguments_of : (ts : List TypeTree) → arguments (type_list ts) ≡ length ts
arguments_of [] = refl
arguments_of (t ∷ ts) = rw (arguments_of ts) (omega arith)

pub is_basic_app : (c : List ℕ) (ts : List TypeTree) → is_basic (TyApp c (type_list ts)) ≡ (is_basic_constructor c (length ts) && are_basic (type_list ts))
is_basic_app c ts = ap (λ n. is_basic_constructor c n && are_basic (type_list ts)) (arguments_of ts)

pub basic_step : (ts : List TypeTree) (i : ℕ) (t : TypeTree) → i < length ts → t ≡ get_or ts i t → are_basic (type_list (drop i ts)) ≡ (is_basic t && are_basic (type_list (drop (i + 1) ts)))
basic_step ts i t h e = rw (next_of ts i t h e) refl

pub basic_all : (ts : List TypeTree) (i : ℕ) → length ts ≤ i → are_basic (type_list (drop i ts)) ≡ true
basic_all ts i h = rw (drop_all i ts h) refl

-- ---- sizes of arguments

pub part_size : (ts : List TypeTree) (i : ℕ) (t : TypeTree) → i < length ts → t ≡ get_or ts i t → type_size t ≤ types_size (type_list ts)
part_size [] i t h e = absurd (omega arith)
part_size (a ∷ ts) zero t h e = let p : t ≡ a = e in omega (arith, ap type_size p)
part_size (a ∷ ts) (suc i) t h e = omega (arith, part_size ts i t (omega arith) e)

pub arguments_smaller : (s : TypeTree) (c : List ℕ) (ts : List TypeTree) → s ≡ TyApp c (type_list ts) → types_size (type_list ts) < type_size s
arguments_smaller s c ts e = omega (arith, ap type_size e)
