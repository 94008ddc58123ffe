-- Steps of the loops over arguments and items.
use Rattle.std.specs.Prelude.{◌≡◌, ℕ, zero, suc, ◌<◌, ◌≤◌, true, ◌&&◌, List, [], ◌∷◌, length, drop, get_or, refl}
use Rattle.std.proofs.Common.{ap, sym, ◌∙◌, arith}
use Rattle.hol_types.specs.Tree.{TypeTree, TyApp, type_list, type_size}
use Rattle.std.proofs.lemmas.List.{drop_all}
use Rattle.hol_kernel.specs.Items.{Items}
use Rattle.hol_kernel.specs.Signature.{has_arity}
use Rattle.hol_kernel.specs.Typing.{types_count, is_type, are_types}

pub count_of_list : (ts : List TypeTree) → types_count (type_list ts) ≡ length ts
count_of_list [] = refl
count_of_list (t ∷ ts) = rw (count_of_list ts) (omega arith)

-- a constructor over a list of arguments
pub is_type_app : (items : Items) (c : List ℕ) (ts : List TypeTree) → is_type items (TyApp c (type_list ts)) ≡ (has_arity items c (length ts) && are_types items (type_list ts))
is_type_app items c ts = ap (λ n. has_arity items c n && are_types items (type_list ts)) (count_of_list ts)

-- each argument has fewer nodes than the whole
pub arg_below : (c : List ℕ) (ts : List TypeTree) (i : ℕ) (x : TypeTree) → i < length ts → x ≡ get_or ts i x → type_size x < type_size (TyApp c (type_list ts))
arg_below c [] i x h e = absurd (omega arith)
arg_below c (t ∷ ts) zero x h e = omega (arith, ap type_size e)
arg_below c (t ∷ ts) (suc i) x h e = omega (arith, arg_below c ts i x (omega arith) e)

-- a constructor that stands, each of whose arguments is a type
pub type_all : (items : Items) (c : List ℕ) (ts : List TypeTree) (i n : ℕ) (ty : TypeTree) → ty ≡ TyApp c (type_list ts) → n ≡ length ts → has_arity items c n ≡ true → are_types items (type_list ts) ≡ are_types items (type_list (drop i ts)) → length ts ≤ i → true ≡ is_type items ty
type_all items c ts i n ty is count stands rest h =
    let all : are_types items (type_list ts) ≡ true = rest ∙ ap (λ xs. are_types items (type_list xs)) (drop_all i ts h) in
    let arity : has_arity items c (length ts) ≡ true = ap (has_arity items c) (sym count) ∙ stands in
    sym (ap (is_type items) is ∙ is_type_app items c ts ∙ (λ j. arity j && all j))
