-- What is declared over a basis that a theory has can come after the theory.
use Rattle.std.specs.Prelude.{◌≡◌, ◌⊎◌, ◌||◌, ℕ, Bool, true, false, cond, List, [], ◌∷◌, Some, None, is_some, refl}
use Rattle.std.proofs.Common.{ap, sym, ◌∙◌, subst, inl, inr, arith}
use mathlib.Core.Bool.{true≢false}
use Rattle.std.specs.FinSet as set
use Rattle.std.specs.List.{find}
use Rattle.hol_types.specs.Tree.{TypeTree}
use Rattle.hol_terms.specs.Nameless.{Nameless}
use Rattle.hol_kernel.specs.Item.{Item, declared_type, declared_constant, declared_axiom}
use Rattle.hol_kernel.specs.Items.{Items, Holds, IsSubset, in_order}
use Rattle.hol_kernel.specs.Sequent.{no_hyps}
use Rattle.hol_kernel.specs.Signature.{ItemKey, type_key, constant_key, axiom_key, key_eq, has_key}
use Rattle.hol_kernel.specs.Derivation.{by_axiom}
use Rattle.hol_kernel.specs.Legal.{HasNewKeys, IsSound, IsLegalSet}
use Rattle.hol_kernel.specs.Theorem.{Theorem, IsTheorem, theorem_over}
use Rattle.hol_kernel.specs.Extends.{IsDeclareType, IsDeclareConst, IsDeclareAxiom, IsAxiomOf}
use Rattle.hol_kernel.specs.Gives.{FailsBy, in_kernel}
use Rattle.hol_kernel.specs.declared.error.KernelError.{KernelError}
use Rattle.hol_kernel.specs.declared.error.KernelError.TheVariants.{Refused, Clash, Memory}
use Rattle.hol_kernel.specs.declared.error.Rule.TheVariants as rule
use Rattle.hol_kernel.proofs.Clashes.{key_is}
use Rattle.hol_kernel.proofs.Declared.{own_name}
use Rattle.hol_kernel.proofs.Held.{sound_held}
use Rattle.hol_kernel.proofs.ItemOrder.{total, only}
use Rattle.hol_kernel.proofs.Members.{Among, in_insert_here, in_insert_old, in_insert_cases}
use Rattle.hol_kernel.proofs.Subsets.{within_of_subset, subset_of_within}
use Rattle.hol_kernel.proofs.Unions.{insert_legal}
use Rattle.hol_kernel.proofs.Weaken.{held, ordered_held}
use Rattle.hol_theory.specs.declared.key.Kind.{Kind}
use Rattle.hol_theory.specs.declared.key.Kind.TheVariants as key_kind
use Rattle.hol_theory.specs.Key.{KeyValue}
use Rattle.hol_theory.specs.Entry.{EntryValue, AType, AConstant, ATheorem, Entries, IsEntry, entry_basis, item_at, own_item}
use Rattle.hol_theory.specs.Theory.{items_in, entry_key}
use Rattle.hol_theory.specs.Adding.{CanFollow}
use Rattle.hol_theory.specs.Making.{IsNewType, IsNewConstant, IsNewAxiom}
use Rattle.hol_theory.proofs.Theories.{one_follows_with}

-- the only one that passes
find_only : (test : Item → Bool) (xs : List Item) (x : Item) → Among x xs → test x ≡ true → ((y : Item) → Among y xs → test y ≡ true → y ≡ x) → find test xs ≡ Some x
find_only test [] x i e alone = absurd i
find_only test (y ∷ xs) x i e alone = by (test y) refl i (λ j. find_only test xs x j e (λ z a. alone z (inr a)))
  where
    rest : test y ≡ false → (x ≡ y) ⊎ Among x xs → (Among x xs → find test xs ≡ Some x) → find test xs ≡ Some x
    rest h (inl is) later = absurd (true≢false (sym e ∙ ap test is ∙ h))
    rest h (inr j) later = later j

    by : (b : Bool) → test y ≡ b → (x ≡ y) ⊎ Among x xs → (Among x xs → find test xs ≡ Some x) → cond b (Some y) (find test xs) ≡ Some x
    by true h j later = ap Some (alone y (inl refl) h)
    by false h j later = rest h j later

-- the item that a basis has more is the one of its name
pub item_found : (basis larger : Items) (x : Item) (k : ItemKey) → HasNewKeys basis x → larger ≡ set.insert basis x → has_key x k ≡ true → item_at k larger ≡ Some x
item_found basis larger x k new is has =
    ap (item_at k) is
    ∙ find_only (λ y. has_key y k) (in_order (set.insert basis x)) x
    (ordered_held (set.insert basis x) x (in_insert_here total only basis x)) has
    (λ y a h. elim (in_insert_cases total only basis x y (held (set.insert basis x) y a)) [
      | inl e ↦ e
      | inr i ↦ absurd (true≢false (sym h ∙ (new k has).1 y i))
    ])

-- ---- what an item makes, over the basis that has it more

or_none : (a b : Bool) → b ≡ false → (a || b) ≡ true → a ≡ true
or_none true b f e = refl
or_none false b f e = absurd (true≢false (sym e ∙ f))

pub larger_within : (basis larger items : Items) (x : Item) → IsSubset basis items → larger ≡ set.insert basis x → IsSubset larger (set.insert items x)
larger_within basis larger items x within is =
    subst (λ (s : Items). IsSubset s (set.insert items x)) (sym is)
    (subset_of_within (set.insert basis x) (set.insert items x)
    (λ y h. elim (in_insert_cases total only basis x y h) [
      | inl e ↦ subst (λ (z : Item). Holds (set.insert items x) z) (sym e) (in_insert_here total only items x)
      | inr i ↦ in_insert_old total only items x y (within_of_subset basis items within y i)
    ]))

larger_legal : (basis larger : Items) (x : Item) → IsLegalSet basis → HasNewKeys basis x × IsSound basis x × (larger ≡ set.insert basis x) → IsLegalSet larger
larger_legal basis larger x legal d = subst IsLegalSet (sym d.2) (insert_legal basis x legal d.0 d.1)

pub larger_holds : (basis larger : Items) (x : Item) → larger ≡ set.insert basis x → Holds larger x
larger_holds basis larger x is = subst (λ (s : Items). Holds s x) (sym is) (in_insert_here total only basis x)

made_follows : (es : Entries) (basis : Items) (k : ItemKey) (value : EntryValue) (x : Item) → IsSubset basis (items_in es) → entry_basis value ≡ set.insert basis x →
    ((l : ItemKey) → has_key x l ≡ (key_eq l k || false)) → own_item (entry_key k) value ≡ Some x → IsEntry (entry_key k) value → CanFollow es ((entry_key k, value) ∷ [])
made_follows es basis k value x within is keys own entry =
    one_follows_with es (entry_key k) value x entry own (larger_within basis (entry_basis value) (items_in es) x within is)
    (λ l h. ap entry_key (key_is l k (or_none (key_eq l k) false refl (sym (keys l) ∙ h))))

pub type_follows : (es : Entries) (basis : Items) (name : List ℕ) (arity : ℕ) (entry : KeyValue × EntryValue) → IsLegalSet basis → IsSubset basis (items_in es) → IsNewType basis name arity entry → CanFollow es (entry ∷ [])
type_follows es basis name arity entry legal within n =
    let x : Item = declared_type name arity in
    let larger : Items = entry_basis entry.1 in
    subst (λ (e : KeyValue × EntryValue). CanFollow es (e ∷ [])) (sym n.entry_is)
    (made_follows es basis (type_key name) (AType arity x larger) x within n.declared.2 (λ l. refl) refl
    (record { under = refl; makes = (0, omega arith, refl); own = larger_holds basis larger x n.declared.2; legal = larger_legal basis larger x legal n.declared }))

pub constant_follows : (es : Entries) (basis : Items) (name : List ℕ) (ty : TypeTree) (entry : KeyValue × EntryValue) → IsLegalSet basis → IsSubset basis (items_in es) → IsNewConstant basis name ty entry → CanFollow es (entry ∷ [])
constant_follows es basis name ty entry legal within n =
    let x : Item = declared_constant name ty in
    let larger : Items = entry_basis entry.1 in
    subst (λ (e : KeyValue × EntryValue). CanFollow es (e ∷ [])) (sym n.entry_is)
    (made_follows es basis (constant_key name) (AConstant ty x larger) x within n.declared.2 (λ l. refl) refl
    (record { under = refl; makes = (0, omega arith, refl); own = larger_holds basis larger x n.declared.2; legal = larger_legal basis larger x legal n.declared }))

axiom_entry : (larger : Items) (name : List ℕ) (p : Nameless) → IsLegalSet larger → Holds larger (declared_axiom name p) → IsTheorem (theorem_over larger no_hyps p)
axiom_entry larger name p legal holds =
    record { legal = legal; derives = by_axiom name p holds (sound_held larger legal (declared_axiom name p) holds) }

pub axiom_follows : (es : Entries) (basis : Items) (name : List ℕ) (p : Nameless) (entry : KeyValue × EntryValue) → IsLegalSet basis → IsSubset basis (items_in es) → IsNewAxiom basis name p entry → CanFollow es (entry ∷ [])
axiom_follows es basis name p entry legal within n =
    let x : Item = declared_axiom name p in
    let larger : Items = entry_basis entry.1 in
    subst (λ (e : KeyValue × EntryValue). CanFollow es (e ∷ [])) (sym n.entry_is)
    (made_follows es basis (axiom_key name) (ATheorem (theorem_over larger no_hyps p)) x within n.declared.2 (λ l. refl)
    (ap (λ b. cond b (Some x) None) (larger_holds basis larger x n.declared.2))
    (record {
      theorem = axiom_entry larger name p (larger_legal basis larger x legal n.declared) (larger_holds basis larger x n.declared.2);
      under = refl;
      without_hypotheses = refl;
    }))

-- ---- what the program makes

pub found_is : (k : ItemKey) (basis larger : Items) (x item : Item) → HasNewKeys basis x → larger ≡ set.insert basis x → has_key x k ≡ true → item_at k larger ≡ Some item → item ≡ x
found_is k basis larger x item new is has found =
    let same : Some x ≡ Some item = sym (item_found basis larger x k new is has) ∙ found in
    let it : x ≡ item = cc in
    sym it

pub type_found : (basis larger : Items) (name : List ℕ) (arity : ℕ) → IsDeclareType basis name arity larger → is_some (item_at (type_key name) larger) ≡ true
type_found basis larger name arity d = ap is_some (item_found basis larger (declared_type name arity) (type_key name) d.0 d.2 (own_name (type_key name)))

pub constant_found : (basis larger : Items) (name : List ℕ) (ty : TypeTree) → IsDeclareConst basis name ty larger → is_some (item_at (constant_key name) larger) ≡ true
constant_found basis larger name ty d = ap is_some (item_found basis larger (declared_constant name ty) (constant_key name) d.0 d.2 (own_name (constant_key name)))

pub keyed : (kind : Kind) (key : KeyValue) (name text : List ℕ) → key ≡ record { kind = kind; name = text } → text ≡ name → key ≡ record { kind = kind; name = name }
keyed kind key name text is same = is ∙ ap (λ (n : List ℕ). record { kind = kind; name = n }) same

pub type_made : (basis larger : Items) (name text : List ℕ) (arity : ℕ) (item : Item) (key : KeyValue) (value : EntryValue) → IsDeclareType basis name arity larger → item_at (type_key name) larger ≡ Some item →
    key ≡ record { kind = key_kind.Type; name = text } → text ≡ name → value ≡ AType arity item larger → IsNewType basis name arity (key, value)
type_made basis larger name text arity item key value d found key_is text_is value_is =
    let x : Item = declared_type name arity in
    let it : item ≡ x = found_is (type_key name) basis larger x item d.0 d.2 (own_name (type_key name)) found in
    let value_of : value ≡ AType arity x larger = value_is ∙ ap (λ (y : Item). AType arity y larger) it in
    let k : key ≡ record { kind = key_kind.Type; name = name } = keyed key_kind.Type key name text key_is text_is in
    record {
      declared = subst (λ (b : Items). IsDeclareType basis name arity b) (sym (ap entry_basis value_of)) d;
      entry_is = (λ i. (k i, value_of i)) ∙ ap (λ (b : Items). (entry_key (type_key name), AType arity x b)) (sym (ap entry_basis value_of));
    }

pub constant_made : (basis larger : Items) (name text : List ℕ) (ty : TypeTree) (item : Item) (key : KeyValue) (value : EntryValue) → IsDeclareConst basis name ty larger → item_at (constant_key name) larger ≡ Some item →
    key ≡ record { kind = key_kind.Constant; name = text } → text ≡ name → value ≡ AConstant ty item larger → IsNewConstant basis name ty (key, value)
constant_made basis larger name text ty item key value d found key_is text_is value_is =
    let x : Item = declared_constant name ty in
    let it : item ≡ x = found_is (constant_key name) basis larger x item d.0 d.2 (own_name (constant_key name)) found in
    let value_of : value ≡ AConstant ty x larger = value_is ∙ ap (λ (y : Item). AConstant ty y larger) it in
    let k : key ≡ record { kind = key_kind.Constant; name = name } = keyed key_kind.Constant key name text key_is text_is in
    record {
      declared = subst (λ (b : Items). IsDeclareConst basis name ty b) (sym (ap entry_basis value_of)) d;
      entry_is = (λ i. (k i, value_of i)) ∙ ap (λ (b : Items). (entry_key (constant_key name), AConstant ty x b)) (sym (ap entry_basis value_of));
    }

-- the axiom of a name is the one that was declared
axiom_is : (basis larger : Items) (name : List ℕ) (p q : Nameless) → IsDeclareAxiom basis name p larger → Holds larger (declared_axiom name q) → q ≡ p
axiom_is basis larger name p q d h =
    elim (in_insert_cases total only basis (declared_axiom name p) (declared_axiom name q) (subst (λ (s : Items). Holds s (declared_axiom name q)) d.2 h)) [
      | inl e ↦ let is : q ≡ p = cc in is
      | inr i ↦ absurd (true≢false (sym (own_name (axiom_key name)) ∙ (d.0 (axiom_key name) (own_name (axiom_key name))).1 (declared_axiom name q) i))
    ]

pub axiom_made : (basis larger : Items) (name text : List ℕ) (p : Nameless) (th : Theorem) (key : KeyValue) (value : EntryValue) → IsDeclareAxiom basis name p larger → IsAxiomOf larger name th →
    key ≡ record { kind = key_kind.Theorem; name = text } → text ≡ name → value ≡ ATheorem th → IsNewAxiom basis name p (key, value)
axiom_made basis larger name text p th key value d a key_is text_is value_is =
    let th_is : th ≡ theorem_over larger no_hyps p = a.2 ∙ ap (theorem_over larger no_hyps) (axiom_is basis larger name p a.0 d a.1) in
    let value_of : value ≡ ATheorem (theorem_over larger no_hyps p) = value_is ∙ ap ATheorem th_is in
    let k : key ≡ record { kind = key_kind.Theorem; name = name } = keyed key_kind.Theorem key name text key_is text_is in
    record {
      declared = subst (λ (b : Items). IsDeclareAxiom basis name p b) (sym (ap entry_basis value_of)) d;
      entry_is = (λ i. (k i, value_of i)) ∙ ap (λ (b : Items). (entry_key (axiom_key name), ATheorem (theorem_over b no_hyps p))) (sym (ap entry_basis value_of));
    }

-- the axiom that was declared is there, so that its call is refused by want of memory alone
pub axiom_fails : {T : Type 0} (basis larger : Items) (name : List ℕ) (p : Nameless) (Is : T → Type 0) (e : KernelError) → IsDeclareAxiom basis name p larger →
    FailsBy rule.AxiomOf ((th : Theorem) → IsAxiomOf larger name th → ⊥) (in_kernel e) → FailsBy rule.DeclareAxiom ((t : T) → Is t → ⊥) (in_kernel e)
axiom_fails basis larger name p Is (Refused r) d f = absurd (f.1 (theorem_over larger no_hyps p) (p, larger_holds basis larger (declared_axiom name p) d.2, refl))
axiom_fails basis larger name p Is (Clash n) d f = f
axiom_fails basis larger name p Is Memory d f = tt
