-- What the tests of names say, and what declarations give.
use Rattle.std.specs.Prelude.{◌≡◌, ℕ, Bool, true, false, not, ◌&&◌, ◌||◌, List, Option, Some, None, refl}
use Rattle.std.proofs.Common.{ap, sym, ◌∙◌, subst}
use Rattle.std.proofs.lemmas.Bool.{false_from_ne_true}
use mathlib.Core.Bool.{true≢false}
use Rattle.std.specs.List.{list_any}
use Rattle.hol_formulas.proofs.EquationTypes.{type_eq_itself}
use Rattle.hol_types.specs.Tree.{TypeTree}
use Rattle.hol_types.proofs.OrderLaws.{type_cmp_decides}
use Rattle.hol_terms.specs.Nameless.{Nameless}
use Rattle.hol_kernel.specs.Item.{Item, declared_type, declared_constant, declared_axiom}
use Rattle.hol_kernel.specs.Items.{Items, in_order}
use Rattle.hol_formulas.specs.Equation.{bool_type}
use Rattle.hol_kernel.specs.Signature.{ItemKey, type_key, constant_key, axiom_key, key_eq, has_key, prelude_has}
use Rattle.hol_kernel.specs.Typing.{is_type, is_type_at, has_type, type_over, HasType}
use Rattle.hol_kernel.specs.Legal.{IsNew, HasNewKeys}
use Rattle.hol_kernel.specs.Extends.{IsDeclareType, IsDeclareConst, IsDeclareAxiom}
use Rattle.hol_kernel.specs.Clashing.{is_new}
use Rattle.hol_kernel.proofs.SortedSets.{any_some, some_any}
use Rattle.hol_kernel.proofs.Weaken.{held, ordered_held}
use Rattle.hol_kernel.proofs.Clashes.{key_is, key_itself}

both_not : (a b : Bool) → (not a && not b) ≡ true → (a ≡ false) × (b ≡ false)
both_not true b e = absurd (true≢false (sym e))
both_not false true e = absurd (true≢false (sym e))
both_not false false e = (refl, refl)

neither : (a b : Bool) → a ≡ false → b ≡ false → (not a && not b) ≡ true
neither true b p q = absurd (true≢false p)
neither false true p q = absurd (true≢false q)
neither false false p q = refl

-- the test of a name
pub new_is : (items : Items) (k : ItemKey) → is_new items k ≡ true → IsNew items k
new_is items k e =
    let p = both_not (prelude_has k) (list_any (λ x. has_key x k) (in_order items)) e in
    (p.0, λ y h. false_from_ne_true (has_key y k) (λ f. true≢false (sym (some_any (λ x. has_key x k) (in_order items) y (ordered_held items y h) f) ∙ p.1)))

pub is_new_of : (items : Items) (k : ItemKey) → IsNew items k → is_new items k ≡ true
is_new_of items k n =
    neither (prelude_has k) (list_any (λ x. has_key x k) (in_order items)) n.0
    (false_from_ne_true (list_any (λ x. has_key x k) (in_order items))
    (λ e. let r = any_some (λ x. has_key x k) (in_order items) e in true≢false (sym r.2 ∙ n.1 r.0 (held items r.0 r.1))))

-- an item of one name
or_none : (a : Bool) → (a || false) ≡ true → a ≡ true
or_none true e = refl
or_none false e = e

pub one_name : (items : Items) (x : Item) (k : ItemKey) → ((l : ItemKey) → has_key x l ≡ (key_eq l k || false)) → is_new items k ≡ true → HasNewKeys items x
one_name items x k only e l h =
    subst (λ (m : ItemKey). IsNew items m) (sym (key_is l k (or_none (key_eq l k) (sym (only l) ∙ h)))) (new_is items k e)

pub name_taken : (items : Items) (x : Item) (k : ItemKey) → has_key x k ≡ true → is_new items k ≡ false → HasNewKeys items x → ⊥
name_taken items x k own e new = true≢false (sym (is_new_of items k (new k own)) ∙ e)

pub own_name : (k : ItemKey) → (key_eq k k || false) ≡ true
own_name k = ap (λ b. b || false) (key_itself k)

-- ---- a type

pub type_new : (items : Items) (c : List ℕ) (n : ℕ) → is_new items (type_key c) ≡ true → HasNewKeys items (declared_type c n)
type_new items c n e = one_name items (declared_type c n) (type_key c) (λ l. refl) e

pub type_taken : (items : Items) (c : List ℕ) (n : ℕ) (more : Items) → is_new items (type_key c) ≡ false → IsDeclareType items c n more → ⊥
type_taken items c n more e d = name_taken items (declared_type c n) (type_key c) (own_name (type_key c)) e d.0

-- ---- a constant

pub constant_new : (items : Items) (c : List ℕ) (a : TypeTree) → is_new items (constant_key c) ≡ true → HasNewKeys items (declared_constant c a)
constant_new items c a e = one_name items (declared_constant c a) (constant_key c) (λ l. refl) e

pub constant_taken : (items : Items) (c : List ℕ) (a : TypeTree) (more : Items) → is_new items (constant_key c) ≡ false → IsDeclareConst items c a more → ⊥
constant_taken items c a more e d = name_taken items (declared_constant c a) (constant_key c) (own_name (constant_key c)) e d.0

pub no_type : (items : Items) (c : List ℕ) (a : TypeTree) (more : Items) → is_type items a ≡ false → IsDeclareConst items c a more → ⊥
no_type items c a more e d = true≢false (sym d.1 ∙ e)

-- ---- an axiom

pub axiom_new : (items : Items) (n : List ℕ) (p : Nameless) → is_new items (axiom_key n) ≡ true → HasNewKeys items (declared_axiom n p)
axiom_new items n p e = one_name items (declared_axiom n p) (axiom_key n) (λ l. refl) e

pub axiom_taken : (items : Items) (n : List ℕ) (p : Nameless) (more : Items) → is_new items (axiom_key n) ≡ false → IsDeclareAxiom items n p more → ⊥
axiom_taken items n p more e d = name_taken items (declared_axiom n p) (axiom_key n) (own_name (axiom_key n)) e d.0

-- the test of a type
pub has_type_is : (items : Items) (t : Nameless) (a : TypeTree) → has_type items t a ≡ true → HasType items t a
has_type_is items t a e = by (type_over items t) refl e
  where
    by : (o : Option TypeTree) → type_over items t ≡ o → is_type_at o a ≡ true → type_over items t ≡ Some a
    by None p e = absurd (true≢false (sym e))
    by (Some s) p e = p ∙ ap Some ((type_cmp_decides s a).0 e)

pub has_type_of : (items : Items) (t : Nameless) (a : TypeTree) → HasType items t a → has_type items t a ≡ true
has_type_of items t a e = ap (λ o. is_type_at o a) e ∙ type_eq_itself a

pub no_formula : (items : Items) (n : List ℕ) (p : Nameless) (more : Items) → has_type items p bool_type ≡ false → IsDeclareAxiom items n p more → ⊥
no_formula items n p more e d = true≢false (sym (has_type_of items p bool_type d.1) ∙ e)
