-- The items of entries in standing order, and that they are a legal list.
use Rattle.std.specs.Prelude.{◌≡◌, ◌⊎◌, Bool, true, false, cond, List, [], ◌∷◌, ◌++◌, Option, Some, None, refl}
use Rattle.std.proofs.Common.{ap, sym, ◌∙◌, subst, inl, inr}
use Rattle.std.specs.FinSet as set
use Rattle.std.proofs.lemmas.Bool.{false_from_ne_true}
use mathlib.Core.Bool.{true≢false}
use Rattle.hol_kernel.specs.Item.{Item, declared_type, declared_constant, defined_constant, defined_type, declared_axiom}
use Rattle.hol_kernel.specs.Items.{Items, Holds, IsSubset, item_set}
use Rattle.hol_kernel.specs.Signature.{ItemKey, type_key, constant_key, axiom_key, has_key, prelude_has}
use Rattle.hol_kernel.specs.Legal.{HasNewKeys, IsSound, IsLegal, IsLegalSet}
use Rattle.hol_kernel.proofs.Members.{Among, among_from_list, in_insert_here, in_insert_old, in_insert_cases, or_left}
use Rattle.hol_kernel.proofs.ItemOrder.{total, only}
use Rattle.hol_kernel.proofs.Clashes.{key_itself}
use Rattle.hol_kernel.proofs.Declared.{own_name}
use Rattle.hol_kernel.proofs.Subsets.{within_of_subset}
use Rattle.hol_kernel.proofs.Weaken.{sound_more}
use Rattle.hol_theory.specs.Key.{KeyValue}
use Rattle.hol_theory.specs.Entry.{EntryValue, AType, AConstant, ATheorem, ATac, Entries, IsEntry, EachIsEntry, entry_basis, stated_axiom, own_item}
use Rattle.hol_theory.specs.Theory.{with_item, items_after, items_of, items_in, RestsOn, entry_key, IsNamedIn}

-- ---- an item more, where it does not stand yet

pub with_old : (items : List Item) (o : Option Item) (x : Item) → Holds (item_set items) x → Holds (item_set (with_item items o)) x
with_old items None x h = h
with_old items (Some y) x h = by (set.contains (item_set items) y)
  where
    by : (b : Bool) → Holds (item_set (cond b items (y ∷ items))) x
    by true = h
    by false = in_insert_old total only (item_set items) y x h

pub with_own : (items : List Item) (y : Item) → Holds (item_set (with_item items (Some y))) y
with_own items y = by (set.contains (item_set items) y) refl
  where
    by : (b : Bool) → set.contains (item_set items) y ≡ b → Holds (item_set (cond b items (y ∷ items))) y
    by true e = e
    by false e = in_insert_here total only (item_set items) y

pub with_cases : (items : List Item) (o : Option Item) (x : Item) → Holds (item_set (with_item items o)) x → Holds (item_set items) x ⊎ (o ≡ Some x)
with_cases items None x h = inl h
with_cases items (Some y) x h = by (set.contains (item_set items) y) h
  where
    by : (b : Bool) → Holds (item_set (cond b items (y ∷ items))) x → Holds (item_set items) x ⊎ (Some y ≡ Some x)
    by true h = inl h
    by false h = elim (in_insert_cases total only (item_set items) y x h) [ inl e ↦ inr (ap Some (sym e)) | inr i ↦ inl i ]

-- ---- the items of entries

pub after_old : (items : List Item) (es : Entries) (x : Item) → Holds (item_set items) x → Holds (item_set (items_after items es)) x
after_old items [] x h = h
after_old items (e ∷ es) x h = after_old (with_item items (own_item e.0 e.1)) es x (with_old items (own_item e.0 e.1) x h)

pub after_own : (items : List Item) (es : Entries) (e : KeyValue × EntryValue) (x : Item) → Among e es → own_item e.0 e.1 ≡ Some x → Holds (item_set (items_after items es)) x
after_own items [] e x i own = absurd i
after_own items (f ∷ es) e x (inl is) own =
    let own_of_f : own_item f.0 f.1 ≡ Some x = ap (λ (g : KeyValue × EntryValue). own_item g.0 g.1) (sym is) ∙ own in
    after_old (with_item items (own_item f.0 f.1)) es x (subst (λ (o : Option Item). Holds (item_set (with_item items o)) x) (sym own_of_f) (with_own items x))
after_own items (f ∷ es) e x (inr i) own = after_own (with_item items (own_item f.0 f.1)) es e x i own

-- the entry whose own item it is
abbrev pub OwnedIn : Entries → Item → Type 0
OwnedIn es x = (e : KeyValue × EntryValue) × Among e es × (own_item e.0 e.1 ≡ Some x)

pub after_cases : (items : List Item) (es : Entries) (x : Item) → Holds (item_set (items_after items es)) x → Holds (item_set items) x ⊎ OwnedIn es x
after_cases items [] x h = inl h
after_cases items (e ∷ es) x h =
    elim (after_cases (with_item items (own_item e.0 e.1)) es x h) [
      | inl i ↦ elim (with_cases items (own_item e.0 e.1) x i) [ inl j ↦ inl j | inr own ↦ inr (e, inl refl, own) ]
      | inr p ↦ inr (p.0, inr p.1, p.2)
    ]

pub items_joined : (items : List Item) (es fs : Entries) → items_after items (es ++ fs) ≡ items_after (items_after items es) fs
items_joined items [] fs = refl
items_joined items (e ∷ es) fs = items_joined (with_item items (own_item e.0 e.1)) es fs

pub rests_joined : (items : List Item) (es fs : Entries) → RestsOn items es → RestsOn (items_after items es) fs → RestsOn items (es ++ fs)
rests_joined items [] fs r s = s
rests_joined items (e ∷ es) fs r s = (r.0, rests_joined (with_item items (own_item e.0 e.1)) es fs r.1 s)

-- ---- what an item of a legal set asks

-- an item of a legal list, and the items before it
abbrev EarlierOf : List Item → Item → Type 0
EarlierOf order x = (earlier : List Item) × HasNewKeys (item_set earlier) x × IsSound (item_set earlier) x × ((y : Item) → Holds (item_set earlier) y → Holds (item_set order) y)

earlier_of : (order : List Item) → IsLegal order → (x : Item) → Among x order → EarlierOf order x
earlier_of [] ok x i = absurd i
earlier_of (z ∷ earlier) ok x (inl e) = (
  earlier,
  subst (λ (w : Item). HasNewKeys (item_set earlier) w) (sym e) ok.0,
  subst (λ (w : Item). IsSound (item_set earlier) w) (sym e) ok.1,
  λ y h. in_insert_old total only (item_set earlier) z y h,
)
earlier_of (z ∷ order) ok x (inr i) =
    let r = earlier_of order ok.2 x i in
    (r.0, r.1, r.2, λ y h. in_insert_old total only (item_set order) z y (r.3 y h))

a_name : (x : Item) → (k : ItemKey) × (has_key x k ≡ true)
a_name (declared_type c n) = (type_key c, own_name (type_key c))
a_name (declared_constant c a) = (constant_key c, own_name (constant_key c))
a_name (defined_constant c r) = (constant_key c, own_name (constant_key c))
a_name (defined_type c abs rep p) = (type_key c, or_left _ _ (key_itself (type_key c)))
a_name (declared_axiom n p) = (axiom_key n, own_name (axiom_key n))

-- An item of a legal set has none of the prelude's names, and is sound over each set that has the others.
pub sound_over : (basis items : Items) (x : Item) → IsLegalSet basis → Holds basis x → ((y : Item) → Holds basis y → Holds items y ⊎ (y ≡ x)) →
    ((k : ItemKey) → has_key x k ≡ true → prelude_has k ≡ false) × IsSound items x
sound_over basis items x legal h within =
    let r = earlier_of legal.0 legal.1 x (among_from_list total only legal.0 x (subst (λ (s : Items). Holds s x) (sym legal.2) h)) in
    let k = a_name x in (
      λ l has. (r.1 l has).0,
      sound_more (item_set r.0) items
          (λ y among. elim (within y (subst (λ (s : Items). Holds s y) legal.2 (r.3 y among))) [
            | inl i ↦ i
            | inr e ↦ absurd (true≢false (sym k.1 ∙ ap (λ (z : Item). has_key z k.0) (sym e) ∙ (r.1 k.0 k.1).1 y among))
          ])
          x r.2,
    )

-- the basis of an entry is legal, and has its own item
pub own_in_basis : (key : KeyValue) (value : EntryValue) (x : Item) → IsEntry key value → own_item key value ≡ Some x → IsLegalSet (entry_basis value) × Holds (entry_basis value) x
own_in_basis key (AType arity item basis) x h e =
    let f : Some item ≡ Some x = e in
    let is : item ≡ x = cc in
    (h.legal, subst (Holds basis) is h.own)
own_in_basis key (AConstant ty item basis) x h e =
    let f : Some item ≡ Some x = e in
    let is : item ≡ x = cc in
    (h.legal, subst (Holds basis) is h.own)
own_in_basis key (ATac t bases basis) x h e = let f : None ≡ Some x = e in absurd (cc)
own_in_basis key (ATheorem th) x h e = (h.theorem.legal, by (set.contains th.basis own) refl e)
  where
    own : Item
    own = stated_axiom key th

    by : (b : Bool) → set.contains th.basis own ≡ b → cond b (Some own) None ≡ Some x → Holds th.basis x
    by true held found = let is : own ≡ x = cc in subst (Holds th.basis) is held
    by false held found = absurd (cc)

-- ---- legality

-- items of which each has its entries under its names share no name
pub same_by_name : (es : Entries) (x y : Item) (k : ItemKey) → IsNamedIn es x → IsNamedIn es y → has_key x k ≡ true → has_key y k ≡ true → x ≡ y
same_by_name es x y k of_x of_y has_x has_y =
    let r = of_x k has_x in
    let s = of_y k has_y in
    let found : Some r.0 ≡ Some s.0 = sym r.1 ∙ s.1 in
    let value : r.0 ≡ s.0 = cc in
    let own : Some x ≡ Some y = sym r.2 ∙ ap (own_item (entry_key k)) value ∙ s.2 in
    let is : x ≡ y = cc in
    is

module _ (whole : Entries) where
  legal_with : (items : List Item) (key : KeyValue) (value : EntryValue) → IsEntry key value → IsSubset (entry_basis value) (item_set (with_item items (own_item key value))) →
      ((x : Item) → Holds (item_set (with_item items (own_item key value))) x → IsNamedIn whole x) → IsLegal items → IsLegal (with_item items (own_item key value))
  legal_with items key value entry rests named legal = by (own_item key value) refl rests named
    where
      more : (x : Item) → own_item key value ≡ Some x → (b : Bool) → set.contains (item_set items) x ≡ b → IsSubset (entry_basis value) (item_set (cond b items (x ∷ items))) →
          ((y : Item) → Holds (item_set (cond b items (x ∷ items))) y → IsNamedIn whole y) → IsLegal (cond b items (x ∷ items))
      more x own true e rests named = legal
      more x own false e rests named =
          let basis = own_in_basis key value x entry own in
          let sound = sound_over (entry_basis value) (item_set items) x basis.0 basis.1
          (λ y h. elim (in_insert_cases total only (item_set items) x y (within_of_subset (entry_basis value) (set.insert (item_set items) x) rests y h)) [ inl is ↦ inr is | inr i ↦ inl i ]) in (
            λ k has. (
              sound.0 k has,
              λ y i. false_from_ne_true (has_key y k) (λ also.
                  let is : y ≡ x = same_by_name whole y x k (named y (in_insert_old total only (item_set items) x y i)) (named x (in_insert_here total only (item_set items) x)) also has in
                  true≢false (sym (subst (λ (z : Item). Holds (item_set items) z) is i) ∙ e)),
            ),
            sound.1,
            legal,
          )

      by : (o : Option Item) → own_item key value ≡ o → IsSubset (entry_basis value) (item_set (with_item items o)) →
          ((x : Item) → Holds (item_set (with_item items o)) x → IsNamedIn whole x) → IsLegal (with_item items o)
      by None own rests named = legal
      by (Some x) own rests named = more x own (set.contains (item_set items) x) refl rests named

  legal_after : (items : List Item) (es : Entries) → EachIsEntry es → RestsOn items es → ((x : Item) → Holds (item_set (items_after items es)) x → IsNamedIn whole x) → IsLegal items → IsLegal (items_after items es)
  legal_after items [] each rests named legal = legal
  legal_after items (e ∷ es) each rests named legal =
      legal_after (with_item items (own_item e.0 e.1)) es each.1 rests.1 named
      (legal_with items e.0 e.1 each.0 rests.0 (λ x h. named x (after_old (with_item items (own_item e.0 e.1)) es x h)) legal)

-- Entries that rest on the items up to them, each item having its entries under its names: their items are a legal list.
pub items_legal : (es : Entries) → EachIsEntry es → RestsOn [] es → ((x : Item) → Holds (items_in es) x → IsNamedIn es x) → IsLegal (items_of es)
items_legal es each rests named = legal_after es [] es each rests named tt
