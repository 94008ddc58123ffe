-- For the layers above: variables and equations that are well typed, and what reflexivity gives for them.
use Rattle.std.specs.Prelude.{◌≡◌, ℕ, Bool, true, false, cond, ◌&&◌, ◌||◌, List, [], ◌∷◌, codes, Some, None, refl}
use Rattle.std.specs.Option.{option_map}
use Rattle.std.specs.List.{list_any}
use Rattle.std.proofs.Common.{ap, sym, ◌∙◌}
use Rattle.std.proofs.lemmas.Bool.{and_parts}
use Rattle.std.proofs.Math.Bool.{or-false}
use Rattle.hol_types.specs.Tree.{TypeTree, TypeList, TyVar, TyApp, no_types, more_types}
use Rattle.hol_types.specs.Fun.{fun_type}
use Rattle.hol_terms.specs.Nameless.{Nameless, free, app, fixed, nameless_type}
use Rattle.hol_subst.specs.CodeOrder.{coded_total}
use Rattle.hol_kernel.specs.Item.{item_code}
use Rattle.hol_kernel.specs.Items.{Items, no_items, in_order_of, in_order}
use Rattle.hol_formulas.specs.Equation.{bool_type, equality_type, equation}
use Rattle.hol_kernel.specs.Signature.{has_arity, has_constant, makes_type, makes_constant}
use Rattle.hol_formulas.specs.Constants.{is_constructor, prelude_types}
use Rattle.hol_kernel.specs.Typing.{types_count, is_type, are_types, is_known, HasType}
use Rattle.hol_kernel.specs.Rules.{reflexive, refl_of}
use Rattle.hol_formulas.proofs.Instance.{instance_of_subst}
use Rattle.hol_terms.proofs.Typing.{applied_fits}
use Rattle.hol_kernel.proofs.Sets.{items_empty}

-- a term is well typed where its types and constants stand and it has a type
pub typed_known : (items : Items) (t : Nameless) (a : TypeTree) → is_known items t ≡ true → nameless_type [] t ≡ Some a → HasType items t a
typed_known items t a known has = λ i. cond (known i) (has i) None

pub known_typed : (items : Items) (t : Nameless) (a : TypeTree) → HasType items t a → (is_known items t ≡ true) × (nameless_type [] t ≡ Some a)
known_typed items t a typed = by (is_known items t) refl typed
  where
    by : (b : Bool) → is_known items t ≡ b → cond b (nameless_type [] t) None ≡ Some a → (is_known items t ≡ true) × (nameless_type [] t ≡ Some a)
    by true e f = (e, f)
    by false e f = absurd (cc)

-- ---- variables

pub variable_typed : (items : Items) (v : List ℕ × TypeTree) → is_type items v.1 ≡ true → HasType items (free v) v.1
variable_typed items v stands = typed_known items (free v) v.1 stands refl

-- ---- equations

equality_stands : (items : Items) (a : TypeTree) → has_constant items (codes "=") (equality_type a) ≡ true
equality_stands items a =
    ap (λ b. b || list_any (makes_constant (codes "=") (equality_type a)) (in_order items))
    (instance_of_subst (equality_type (TyVar (codes "A"))) (equality_type a) ((a, codes "A") ∷ []) refl)

equality_type_stands : (items : Items) (a : TypeTree) → is_type items a ≡ true → is_type items (equality_type a) ≡ true
equality_type_stands items a stands = rw stands refl

left_type : (a : TypeTree) (l : Nameless) → nameless_type [] l ≡ Some a → nameless_type [] (app (fixed (codes "=") (equality_type a)) l) ≡ Some (fun_type a bool_type)
left_type a l e = rw e (applied_fits a (fun_type a bool_type))

right_type : (a : TypeTree) (l r : Nameless) → nameless_type [] l ≡ Some a → nameless_type [] r ≡ Some a → nameless_type [] (equation a l r) ≡ Some bool_type
right_type a l r e f = rw (left_type a l e, f) (applied_fits a bool_type)

pub equation_typed : (items : Items) (a : TypeTree) (l r : Nameless) → is_type items a ≡ true → HasType items l a → HasType items r a → HasType items (equation a l r) bool_type
equation_typed items a l r stands left right =
    let p = known_typed items l a left in
    let q = known_typed items r a right in
    typed_known items (equation a l r) bool_type
    (λ i. ((equality_type_stands items a stands i && equality_stands items a i) && p.0 i) && q.0 i) (right_type a l r p.1 q.1)

-- ---- reflexivity

pub refl_typed : (items : Items) (t : Nameless) (a : TypeTree) → HasType items t a → refl_of items t ≡ Some (reflexive t a)
refl_typed items t a typed = ap (option_map (reflexive t)) typed

-- ---- types of the prelude stand over all items

none_made : (c : List ℕ) (n : ℕ) → has_arity no_items c n ≡ list_any (is_constructor c n) prelude_types
none_made c n = ap (λ xs. list_any (is_constructor c n) prelude_types || list_any (makes_type c n) (in_order_of xs)) (items_empty (coded_total item_code)) ∙ or-false _

prelude_arity : (items : Items) (c : List ℕ) (n : ℕ) → has_arity no_items c n ≡ true → has_arity items c n ≡ true
prelude_arity items c n e = ap (λ b. b || list_any (makes_type c n) (in_order items)) (sym (none_made c n) ∙ e)

mutual
  pub prelude_type : (items : Items) (a : TypeTree) → is_type no_items a ≡ true → is_type items a ≡ true
  prelude_type items (TyVar a) e = refl
  prelude_type items (TyApp c ts) e = let p = and_parts (has_arity no_items c (types_count ts)) (are_types no_items ts) e in λ i. prelude_arity items c (types_count ts) p.0 i && prelude_types_stand items ts p.1 i

  pub prelude_types_stand : (items : Items) (ts : TypeList) → are_types no_items ts ≡ true → are_types items ts ≡ true
  prelude_types_stand items no_types e = refl
  prelude_types_stand items (more_types t ts) e = let p = and_parts (is_type no_items t) (are_types no_items ts) e in λ i. prelude_type items t p.0 i && prelude_types_stand items ts p.1 i
