-- What an item makes, as entries, with theorems on the same basis, can come after a theory.
use Rattle.std.specs.Prelude.{◌≡◌, ◌≢◌, ◌⊎◌, ◌||◌, ℕ, Bool, true, false, cond, length, map, List, [], ◌∷◌, ◌++◌, Option, Some, None, is_some, bytes_eq, refl}
use Rattle.std.proofs.Common.{ap, sym, ◌∙◌, subst, inl, inr, arith, suc}
use Rattle.std.specs.FinSet as set
use Rattle.std.specs.List.{Contains}
use Rattle.std.specs.Option.{option_and_then}
use Rattle.std.proofs.lemmas.List.{append_assoc}
use Rattle.std.proofs.lemmas.Slice.Eq.{bytes_eq-Decides}
use Rattle.hol_types.specs.Tree.{TypeTree}
use Rattle.hol_types.specs.Fun.{fun_type, fun_parts}
use Rattle.hol_terms.specs.Nameless.{Nameless, nameless_type}
use Rattle.hol_formulas.specs.Equation.{bool_type}
use Rattle.hol_kernel.specs.Item.{Item, defined_constant, defined_type}
use Rattle.hol_kernel.specs.Items.{Items, Holds, IsSubset, item_set}
use Rattle.hol_kernel.specs.Legal.{IsLegalSet, IsSound}
use Rattle.hol_kernel.specs.Signature.{ItemKey, type_key, constant_key, has_key, term_tyvars, new_type, item_types, item_constants, bijections, constant_of}
use Rattle.hol_kernel.specs.Theorem.{Theorem, IsTheorem}
use Rattle.hol_kernel.specs.Extends.{IsDefine, IsTypeDefine}
use Rattle.hol_kernel.specs.Typing.{HasType, is_known}
use Rattle.hol_kernel.proofs.Clashes.{key_is}
use Rattle.hol_kernel.proofs.Clashes.{key_itself as own_key}
use Rattle.hol_kernel.proofs.Declared.{own_name}
use Rattle.hol_kernel.proofs.Held.{sound_held}
use Rattle.hol_kernel.proofs.ItemOrder.{total, only}
use Rattle.hol_kernel.proofs.Members.{Among, not_in_empty, in_insert_cases, or_left}
use Rattle.hol_kernel.proofs.Subsets.{within_of_subset, subset_of_within}
use Rattle.hol_theory.specs.declared.key.Kind.TheVariants as key_kind
use Rattle.hol_theory.specs.Key as keys
use Rattle.hol_theory.specs.Key.{KeyValue}
use Rattle.hol_theory.specs.Entry.{EntryValue, AConstant, ATheorem, Entries, IsEntry, EachIsEntry, IsTheoremEntry, item_at, entry_at, entry_basis, own_item}
use Rattle.hol_theory.specs.Theory.{with_item, items_of, items_in, RestsOn, entry_key, IsNamedIn}
use Rattle.hol_theory.specs.Adding.{CanFollow}
use Rattle.hol_theory.specs.Making.{type_entry, constant_entry, item_entries, IsNewDefinition, IsNewTypeDefinition, EachWithin}
use Rattle.hol_theory.proofs.Declaring.{larger_holds, larger_within, item_found}
use Rattle.hol_theory.proofs.Entries.{each_joined}
use Rattle.hol_theory.proofs.Items.{with_old, with_own, after_cases, own_in_basis}
use Rattle.hol_theory.proofs.Keys.{key_itself}

-- ---- entries that rest on known items

pub each_at : (es : Entries) (f : KeyValue × EntryValue) → EachIsEntry es → Among f es → IsEntry f.0 f.1
each_at [] f all i = absurd i
each_at (e ∷ es) f all (inl is) = subst (λ (g : KeyValue × EntryValue). IsEntry g.0 g.1) (sym is) all.0
each_at (e ∷ es) f all (inr i) = each_at es f all.1 i

within_at : (bound : Items) (es : Entries) (f : KeyValue × EntryValue) → EachWithin bound es → Among f es → IsSubset (entry_basis f.1) bound
within_at bound [] f all i = absurd i
within_at bound (e ∷ es) f all (inl is) = subst (λ (g : KeyValue × EntryValue). IsSubset (entry_basis g.1) bound) (sym is) all.0
within_at bound (e ∷ es) f all (inr i) = within_at bound es f all.1 i

within_joined : (bound : Items) (es fs : Entries) → EachWithin bound es → EachWithin bound fs → EachWithin bound (es ++ fs)
within_joined bound [] fs all more = more
within_joined bound (e ∷ es) fs all more = (all.0, within_joined bound es fs all.1 more)

-- items that stand before an entry stand after it
rests_after : (items : List Item) (bound : Items) (es : Entries) → ((y : Item) → Holds bound y → Holds (item_set items) y) → EachWithin bound es → RestsOn items es
rests_after items bound [] grown all = tt
rests_after items bound (e ∷ es) grown all =
    let more : (y : Item) → Holds bound y → Holds (item_set (with_item items (own_item e.0 e.1))) y = λ y h. with_old items (own_item e.0 e.1) y (grown y h) in (
      subset_of_within (entry_basis e.1) (item_set (with_item items (own_item e.0 e.1))) (λ y h. more y (within_of_subset (entry_basis e.1) bound all.0 y h)),
      rests_after (with_item items (own_item e.0 e.1)) bound es more all.1,
    )

-- an item of new entries is in the basis of one of them
owned_within : (bound : Items) (more : Entries) (y : Item) → EachIsEntry more → EachWithin bound more → Holds (items_in more) y → Holds bound y
owned_within bound more y each all h =
    elim (after_cases [] more y h) [
      | inl none ↦ absurd (not_in_empty total only y none)
      | inr p ↦
          let own = own_in_basis p.0.0 p.0.1 y (each_at more p.0 each p.1) p.2 in
          within_of_subset (entry_basis p.0.1) bound (within_at bound more p.0 all p.1) y own.1
    ]

-- entries that rest on the items of a theory can follow it
pub within_follow : (es more : Entries) → EachIsEntry more → EachWithin (items_in es) more → CanFollow es more
within_follow es more each all = record {
  each = each;
  rests = rests_after (items_of es) (items_in es) more (λ y h. h) all;
  named = λ y h. inl (owned_within (items_in es) more y each all h);
}

-- the same of entries that rest on one item more, which the first of them has as its own, and which has entries under its names
pub made_follow : (es : Entries) (x : Item) (e : KeyValue × EntryValue) (more : Entries) → EachIsEntry (e ∷ more) → own_item e.0 e.1 ≡ Some x → EachWithin (set.insert (items_in es) x) (e ∷ more) →
    IsNamedIn (e ∷ more) x → CanFollow es (e ∷ more)
made_follow es x e more each own all named =
    let bound : Items = set.insert (items_in es) x in
    let grown : (y : Item) → Holds bound y → Holds (item_set (with_item (items_of es) (own_item e.0 e.1))) y = λ y h. elim (in_insert_cases total only (items_in es) x y h) [
      | inl is ↦ subst (λ (o : Option Item). Holds (item_set (with_item (items_of es) o)) y) (sym own) (subst (λ (z : Item). Holds (item_set (with_item (items_of es) (Some x))) z) (sym is) (with_own (items_of es) x))
      | inr i ↦ with_old (items_of es) (own_item e.0 e.1) y i
    ] in record {
      each = each;
      rests = (
        subset_of_within (entry_basis e.1) (item_set (with_item (items_of es) (own_item e.0 e.1))) (λ y h. grown y (within_of_subset (entry_basis e.1) bound all.0 y h)),
        rests_after (with_item (items_of es) (own_item e.0 e.1)) bound more grown all.1,
      );
      named = λ y h. elim (in_insert_cases total only (items_in es) x y (owned_within bound (e ∷ more) y each all h)) [
        | inl is ↦ inr (subst (IsNamedIn (e ∷ more)) (sym is) named)
        | inr i ↦ inl i
      ];
    }

-- ---- what an item makes are entries

contains_later : {X : Type 0} (x y : X) (xs : List X) → Contains xs y → Contains (x ∷ xs) y
contains_later x y xs h = (suc h.0, omega (arith, h.1), h.2)

contains_among : {X : Type 0} (xs : List X) (y : X) → Among y xs → Contains xs y
contains_among [] y i = absurd i
contains_among (x ∷ xs) y (inl is) = (0, omega arith, sym is)
contains_among (x ∷ xs) y (inr i) = contains_later x y xs (contains_among xs y i)

module _ (x : Item) (basis : Items) (legal : IsLegalSet basis) (own : Holds basis x) where
  each_type : (ts : List (List ℕ × ℕ)) → ((t : List ℕ × ℕ) → Among t ts → Contains (item_types x) t) → EachIsEntry (map (type_entry x basis) ts)
  each_type [] made = tt
  each_type (t ∷ ts) made = (record { under = refl; makes = made t (inl refl); own = own; legal = legal }, each_type ts (λ u i. made u (inr i)))

  each_constant : (cs : List (List ℕ × TypeTree)) → ((c : List ℕ × TypeTree) → Among c cs → Contains (item_constants x) c) → EachIsEntry (map (constant_entry x basis) cs)
  each_constant [] made = tt
  each_constant (c ∷ cs) made = (record { under = refl; makes = made c (inl refl); own = own; legal = legal }, each_constant cs (λ u i. made u (inr i)))

  types_within : (bound : Items) → IsSubset basis bound → (ts : List (List ℕ × ℕ)) → EachWithin bound (map (type_entry x basis) ts)
  types_within bound within [] = tt
  types_within bound within (t ∷ ts) = (within, types_within bound within ts)

  constants_within : (bound : Items) → IsSubset basis bound → (cs : List (List ℕ × TypeTree)) → EachWithin bound (map (constant_entry x basis) cs)
  constants_within bound within [] = tt
  constants_within bound within (c ∷ cs) = (within, constants_within bound within cs)

  pub made_within : (bound : Items) → IsSubset basis bound → EachWithin bound (item_entries x basis)
  made_within bound within =
      within_joined bound (map (type_entry x basis) (item_types x)) (map (constant_entry x basis) (item_constants x))
      (types_within bound within (item_types x)) (constants_within bound within (item_constants x))

pub each_made : (x : Item) (basis : Items) → IsLegalSet basis → Holds basis x → EachIsEntry (item_entries x basis)
each_made x basis legal own =
    each_joined (map (type_entry x basis) (item_types x)) (map (constant_entry x basis) (item_constants x))
    (each_type x basis legal own (item_types x) (contains_among (item_types x)))
    (each_constant x basis legal own (item_constants x) (contains_among (item_constants x)))

-- ---- definitions of constants

typed_of : (basis : Items) (t : Nameless) (a : TypeTree) → HasType basis t a → nameless_type [] t ≡ Some a
typed_of basis t a h = by (is_known basis t) h
  where
    by : (b : Bool) → cond b (nameless_type [] t) None ≡ Some a → nameless_type [] t ≡ Some a
    by true h = h
    by false h = absurd (cc)

only_key : (name : List ℕ) (r : Nameless) (k : ItemKey) → has_key (defined_constant name r) k ≡ true → k ≡ constant_key name
only_key name r k has = key_is k (constant_key name) (first_of _ has)
  where
    first_of : (b : Bool) → (b || false) ≡ true → b ≡ true
    first_of true h = refl
    first_of false h = absurd (cc)

-- the entry of a defined constant comes first and stands under its name
definition_with : (es ths : Entries) (name : List ℕ) (r : Nameless) (basis : Items) (a : TypeTree) (o : Option TypeTree) → o ≡ Some a →
    EachIsEntry (map (constant_entry (defined_constant name r) basis) (constant_of name o) ++ ths) → EachWithin (set.insert (items_in es) (defined_constant name r)) (map (constant_entry (defined_constant name r) basis) (constant_of name o) ++ ths) →
    CanFollow es (map (constant_entry (defined_constant name r) basis) (constant_of name o) ++ ths)
definition_with es ths name r basis a None is each all = absurd (cc)
definition_with es ths name r basis a (Some b) is each all =
    let x : Item = defined_constant name r in
    made_follow es x (constant_entry x basis (name, b)) ths each refl all
    (λ k has. (
      AConstant b x basis,
      subst (λ (l : ItemKey). entry_at (entry_key l) (constant_entry x basis (name, b) ∷ ths) ≡ Some (AConstant b x basis)) (sym (only_key name r k has))
          (ap (λ t. cond t (Some (AConstant b x basis)) (entry_at (keys.constant_key name) ths)) (key_itself (keys.constant_key name))),
      subst (λ (l : ItemKey). own_item (entry_key l) (AConstant b x basis) ≡ Some x) (sym (only_key name r k has)) refl,
    ))

pub definition_follows : (es made : Entries) (basis : Items) (name theorem : List ℕ) (r : Nameless) (definition th : Theorem) → IsSubset basis (items_in es) → IsNewDefinition basis name r made definition → EachIsEntry made →
    IsTheoremEntry (keys.theorem_key theorem) th → th.basis ≡ definition.basis → CanFollow es (made ++ (keys.theorem_key theorem, ATheorem th) ∷ [])
definition_follows es made basis name theorem r definition th within d each proved same =
    let x : Item = defined_constant name r in
    let larger : Items = definition.basis in
    let ths : Entries = (keys.theorem_key theorem, ATheorem th) ∷ [] in
    let legal : IsLegalSet larger = subst IsLegalSet same proved.theorem.legal in
    let own : Holds larger x = larger_holds basis larger x d.defined.larger in
    let bound : IsSubset larger (set.insert (items_in es) x) = larger_within basis larger (items_in es) x within d.defined.larger in
    let sound : IsSound larger x = sound_held larger legal x own in
    subst (λ (m : Entries). CanFollow es (m ++ ths)) (sym d.entries_are)
    (definition_with es ths name r larger sound.0 (nameless_type [] r) (typed_of larger r sound.0 sound.1.typed)
    (each_joined (item_entries x larger) ths (each_made x larger legal own) (proved, tt))
    (within_joined (set.insert (items_in es) x) (item_entries x larger) ths (made_within x larger legal own (set.insert (items_in es) x) bound)
    (subst (λ (b : Items). IsSubset b (set.insert (items_in es) x)) (sym same) bound, tt)))

-- ---- definitions of types

one_of_three : (a b c : Bool) → (a || (b || (c || false))) ≡ true → (a ≡ true) ⊎ ((b ≡ true) ⊎ (c ≡ true))
one_of_three true b c h = inl refl
one_of_three false true c h = inr (inl refl)
one_of_three false false true h = inr (inr refl)
one_of_three false false false h = absurd (cc)

abbrev type_names : List ℕ → List ℕ → List ℕ → ItemKey → Type 0
type_names name abs rep k = (k ≡ type_key name) ⊎ ((k ≡ constant_key abs) ⊎ (k ≡ constant_key rep))

names_of : (name abs rep : List ℕ) (p : Nameless) (k : ItemKey) → has_key (defined_type name abs rep p) k ≡ true → type_names name abs rep k
names_of name abs rep p k has = elim (one_of_three _ _ _ has) [
  | inl e ↦ inl (key_is k (type_key name) e)
  | inr (inl e) ↦ inr (inl (key_is k (constant_key abs) e))
  | inr (inr e) ↦ inr (inr (key_is k (constant_key rep) e))
]

names_apart : (abs rep : List ℕ) → abs ≢ rep → bytes_eq rep abs ≡ false
names_apart abs rep apart = by (bytes_eq rep abs) refl
  where
    by : (b : Bool) → bytes_eq rep abs ≡ b → b ≡ false
    by true e = absurd (apart (sym ((bytes_eq-Decides rep abs).0 e)))
    by false e = refl

type_with : (es ths : Entries) (name abs rep : List ℕ) (p : Nameless) (basis : Items) (parts : TypeTree × TypeTree) (o : Option (TypeTree × TypeTree)) → o ≡ Some parts → abs ≢ rep →
    let x : Item = defined_type name abs rep p in
    let made : Entries = type_entry x basis (name, length (term_tyvars p)) ∷ (map (constant_entry x basis) (bijections abs rep (new_type name (term_tyvars p)) o) ++ ths) in
    EachIsEntry made → EachWithin (set.insert (items_in es) x) made → CanFollow es made
type_with es ths name abs rep p basis parts None is apart each all = absurd (cc)
type_with es ths name abs rep p basis parts (Some q) is apart each all =
    let x : Item = defined_type name abs rep p in
    let new = new_type name (term_tyvars p) in
    let first = type_entry x basis (name, length (term_tyvars p)) in
    let to = constant_entry x basis (abs, fun_type q.0 new) in
    let from = constant_entry x basis (rep, fun_type new q.0) in
    made_follow es x first (to ∷ from ∷ ths) each refl all
    (λ k has. elim (names_of name abs rep p k has) [
      | inl is ↦ subst (λ (l : ItemKey). (value : EntryValue) × (entry_at (entry_key l) (first ∷ to ∷ from ∷ ths) ≡ Some value) × (own_item (entry_key l) value ≡ Some x)) (sym is)
          (first.1, ap (λ t. cond t (Some first.1) (entry_at (keys.type_key name) (to ∷ from ∷ ths))) (key_itself (keys.type_key name)), refl)
      | inr (inl is) ↦ subst (λ (l : ItemKey). (value : EntryValue) × (entry_at (entry_key l) (first ∷ to ∷ from ∷ ths) ≡ Some value) × (own_item (entry_key l) value ≡ Some x)) (sym is)
          (to.1, ap (λ t. cond t (Some to.1) (entry_at (keys.constant_key abs) (from ∷ ths))) (key_itself (keys.constant_key abs)), refl)
      | inr (inr is) ↦ subst (λ (l : ItemKey). (value : EntryValue) × (entry_at (entry_key l) (first ∷ to ∷ from ∷ ths) ≡ Some value) × (own_item (entry_key l) value ≡ Some x)) (sym is) (
        from.1,
        ap (λ t. cond t (Some to.1) (entry_at (keys.constant_key rep) (from ∷ ths))) (names_apart abs rep apart)
            ∙ ap (λ t. cond t (Some from.1) (entry_at (keys.constant_key rep) ths)) (key_itself (keys.constant_key rep)),
        refl,
      )
    ])

parts_of : (t : Nameless) (s : TypeTree) → nameless_type [] t ≡ Some (fun_type s bool_type) → option_and_then fun_parts (nameless_type [] t) ≡ Some (s, bool_type)
parts_of t s e = ap (option_and_then fun_parts) e

pub type_follows : (es made : Entries) (basis : Items) (name abs rep first second : List ℕ) (member : Theorem) → IsSubset basis (items_in es) → IsNewTypeDefinition basis name abs rep first second member made →
    EachIsEntry made → CanFollow es made
type_follows es made basis name abs rep first second member within d each =
    let p : Nameless = d.defined.predicate in
    let x : Item = defined_type name abs rep p in
    let larger : Items = d.larger in
    let ths : Entries = (keys.theorem_key first, ATheorem d.abs_rep) ∷ (keys.theorem_key second, ATheorem d.rep_abs) ∷ [] in
    let entries : EachIsEntry (item_entries x larger ++ ths) = subst EachIsEntry d.entries_are each in
    let own : Holds larger x = larger_holds basis larger x d.defined.larger in
    let legal : IsLegalSet larger = entries.0.legal in
    let bound : IsSubset larger (set.insert (items_in es) x) = larger_within basis larger (items_in es) x within d.defined.larger in
    let on_first : IsSubset d.abs_rep.basis (set.insert (items_in es) x) = subst (λ (th : Theorem). IsSubset th.basis (set.insert (items_in es) x)) (sym d.defined.gives_first) bound in
    let on_second : IsSubset d.rep_abs.basis (set.insert (items_in es) x) = subst (λ (th : Theorem). IsSubset th.basis (set.insert (items_in es) x)) (sym d.defined.gives_second) bound in
    let sound : IsSound larger x = sound_held larger legal x own in
    subst (CanFollow es) (sym d.entries_are)
    (type_with es ths name abs rep p larger (sound.1.0, bool_type) (option_and_then fun_parts (nameless_type [] p)) (parts_of p sound.1.0 (typed_of larger p (fun_type sound.1.0 bool_type) sound.1.1.typed)) d.defined.apart
    entries
    (within_joined (set.insert (items_in es) x) (item_entries x larger) ths (made_within x larger legal own (set.insert (items_in es) x) bound) (on_first, (on_second, tt))))

-- ---- what the program makes

definition_item : (basis larger : Items) (name : List ℕ) (r : Nameless) (th : Theorem) → IsDefine basis name r larger th → item_at (constant_key name) larger ≡ Some (defined_constant name r)
definition_item basis larger name r th d = item_found basis larger (defined_constant name r) (constant_key name) d.new d.larger (own_name (constant_key name))

pub definition_found : (basis larger : Items) (name : List ℕ) (r : Nameless) (th : Theorem) → IsDefine basis name r larger th → is_some (item_at (constant_key name) larger) ≡ true
definition_found basis larger name r th d = ap is_some (definition_item basis larger name r th d)

module _ (basis larger : Items) (name : List ℕ) (r : Nameless) (th : Theorem) (d : IsDefine basis name r larger th) (entries : Entries)
    (made : (x : Item) → item_at (constant_key name) larger ≡ Some x → entries ≡ item_entries x larger) where
  are_defined : entries ≡ item_entries (defined_constant name r) larger
  are_defined = made (defined_constant name r) (definition_item basis larger name r th d)

  on : th.basis ≡ larger
  on = ap (λ (t : Theorem). t.basis) d.gives

  pub definition_made : IsNewDefinition basis name r entries th
  definition_made = record {
    defined = subst (λ (b : Items). IsDefine basis name r b th) (sym on) d;
    entries_are = are_defined ∙ ap (item_entries (defined_constant name r)) (sym on);
  }

  pub definition_entries : IsLegalSet th.basis → EachIsEntry entries
  definition_entries legal =
      subst EachIsEntry (sym are_defined) (each_made (defined_constant name r) larger (subst IsLegalSet on legal) (larger_holds basis larger (defined_constant name r) d.larger))

-- a theorem under its name
pub theorem_added : (es more : Entries) (key : KeyValue) (value : EntryValue) (name : List ℕ) (th : Theorem) → more ≡ es ++ (key, value) ∷ [] → key ≡ keys.theorem_key name → value ≡ ATheorem th → more ≡ es ++ (keys.theorem_key name, ATheorem th) ∷ []
theorem_added es more key value name th e own is = e ∙ (λ i. es ++ (own i, is i) ∷ [])

-- and one after the other
pub theorems_added : (es once twice : Entries) (first second : KeyValue × EntryValue) → once ≡ es ++ first ∷ [] → twice ≡ once ++ second ∷ [] → twice ≡ es ++ first ∷ second ∷ []
theorems_added es once twice first second e f = f ∙ ap (λ (l : Entries). l ++ second ∷ []) e ∙ append_assoc es (first ∷ []) (second ∷ [])

module _ (basis larger : Items) (name abs rep : List ℕ) (member first second : Theorem) (d : IsTypeDefine basis name abs rep member larger first second) where
  abbrev defined : Item
  defined = defined_type name abs rep d.predicate

  type_item : item_at (type_key name) larger ≡ Some defined
  type_item = item_found basis larger defined (type_key name) d.new d.larger (or_left _ _ (own_key (type_key name)))

  pub type_found : is_some (item_at (type_key name) larger) ≡ true
  type_found = ap is_some type_item

  module _ (one two : List ℕ) (entries : Entries)
      (made : (x : Item) → item_at (type_key name) larger ≡ Some x → entries ≡ item_entries x larger ++ (keys.theorem_key one, ATheorem first) ∷ (keys.theorem_key two, ATheorem second) ∷ []) where
    abbrev theorems : Entries
    theorems = (keys.theorem_key one, ATheorem first) ∷ (keys.theorem_key two, ATheorem second) ∷ []

    are : entries ≡ item_entries defined larger ++ theorems
    are = made defined type_item

    pub type_definition_made : IsNewTypeDefinition basis name abs rep one two member entries
    type_definition_made = record { larger = larger; abs_rep = first; rep_abs = second; defined = d; entries_are = are }

    pub type_definition_entries : IsTheorem first → IsTheorem second → EachIsEntry entries
    type_definition_entries is also =
        let on : first.basis ≡ larger = ap (λ (t : Theorem). t.basis) d.gives_first in
        subst EachIsEntry (sym are)
        (each_joined (item_entries defined larger) theorems (each_made defined larger (subst IsLegalSet on is.legal) (larger_holds basis larger defined d.larger)) (
          record { theorem = is; under = refl; without_hypotheses = ap (λ (t : Theorem). t.sequent.hyps) d.gives_first },
          (record { theorem = also; under = refl; without_hypotheses = ap (λ (t : Theorem). t.sequent.hyps) d.gives_second }, tt),
        ))
