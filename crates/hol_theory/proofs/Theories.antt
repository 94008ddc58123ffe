-- Theories, and what may come after them.
use Rattle.std.specs.Prelude.{◌≡◌, ◌+◌, ℕ, Bool, true, false, cond, List, [], ◌∷◌, ◌++◌, length, Option, Some, None, is_some, Result, Ok, Err, OnOk, refl}
use Rattle.std.proofs.Common.{ap, sym, ◌∙◌, subst, inl, inr}
use Rattle.std.specs.FinSet as set
use Rattle.std.proofs.lemmas.Bool.{false_from_ne_true}
use Rattle.std.proofs.lemmas.List.{append_assoc, length-append}
use Rattle.indexmap.specs.IndexMap.{insert_all}
use Rattle.hol_kernel.specs.Item.{Item}
use Rattle.hol_kernel.specs.Items.{Items, Holds, IsSubset, item_set}
use Rattle.hol_kernel.specs.Signature.{ItemKey, has_key, prelude_has}
use Rattle.hol_kernel.specs.Legal.{IsNew}
use Rattle.hol_kernel.specs.Extends.{Agree}
use Rattle.hol_kernel.proofs.ItemOrder.{total, only}
use Rattle.hol_kernel.proofs.Members.{not_in_empty, in_insert_cases}
use Rattle.hol_kernel.proofs.Subsets.{within_of_subset, subset_of_within}
use Rattle.hol_theory.specs.Key.{KeyValue, key_eq}
use Rattle.hol_theory.specs.Constants.{constant_names}
use Rattle.hol_theory.specs.Entry.{EntryValue, Entries, IsEntry, EachIsEntry, entry_at, entry_basis, own_item}
use Rattle.hol_theory.specs.Theory.{with_item, items_of, items_in, RestsOn, entry_key, IsNamedIn, IsTheory}
use Rattle.hol_theory.specs.Adding.{AreNew, CanFollow}
use Rattle.hol_theory.proofs.Keys.{key_itself}
use Rattle.hol_theory.proofs.Entries.{at_left, at_right, stands_once, each_joined, all_inserted_new}
use Rattle.hol_theory.proofs.Layers.{new_joined}
use Rattle.hol_theory.proofs.Items.{with_old, with_cases, after_cases, after_own, items_joined, rests_joined, items_legal, same_by_name}

theory_of : (es : Entries) → EachIsEntry es → RestsOn [] es → ((x : Item) → Holds (items_in es) x → IsNamedIn es x) → IsTheory es
theory_of es each rests named = record { each = each; legal = items_legal es each rests named; rests = rests; named = named }

-- the theory without entries
pub theory_without_entries : IsTheory []
theory_without_entries = theory_of [] tt tt (λ x h. absurd (not_in_empty total only x h))

named_left : (es fs : Entries) (x : Item) → IsNamedIn es x → IsNamedIn (es ++ fs) x
named_left es fs x n k has = let r = n k has in (r.0, at_left (entry_key k) es fs r.0 r.1, r.2)

named_right : (es fs : Entries) (x : Item) → AreNew es fs → IsNamedIn fs x → IsNamedIn (es ++ fs) x
named_right es fs x new n k has =
    let r = n k has in
    (r.0, at_right (entry_key k) es fs (stands_once es fs new (entry_key k) r.0 r.1) ∙ r.1, r.2)

-- new entries that can follow a theory make a theory with it
pub theory_followed : (es more : Entries) → IsTheory es → AreNew es more → CanFollow es more → IsTheory (es ++ more)
theory_followed es more t new c =
    theory_of (es ++ more) (each_joined es more t.each c.each) (rests_joined [] es more t.rests c.rests)
    (λ x h. elim (after_cases (items_of es) more x (subst (λ (items : List Item). Holds (item_set items) x) (items_joined [] es more) h)) [
      | inl i ↦ named_left es more x (t.named x i)
      | inr p ↦ elim (c.named x (after_own [] more p.0 x p.1 p.2)) [
        | inl i ↦ named_left es more x (t.named x i)
        | inr n ↦ named_right es more x new n
      ]
    ])

-- ---- older entries and newest ones, which are `self`

stands_not : (r : Bool) (o : Option EntryValue) → r ≡ is_some o → r ≡ false → o ≡ None
stands_not r None e f = refl
stands_not r (Some v) e f = let g : true ≡ false = sym e ∙ f in absurd (cc)

pub free_key : (r : Bool) (self : Entries) (key : KeyValue) → r ≡ is_some (entry_at key self) → r ≡ false → entry_at key self ≡ None
free_key r self key e f = stands_not r (entry_at key self) e f

module _ (older newest self more new : Entries) (is : older ++ newest ≡ self) (n : new ≡ newest ++ more) where
  -- with more of the newest
  pub entries_grown : older ++ new ≡ self ++ more
  entries_grown = ap (λ (t : Entries). older ++ t) n ∙ sym (append_assoc older newest more) ∙ ap (λ (t : Entries). t ++ more) is

  pub theory_grown : (count some : ℕ) (names : List (List ℕ)) → AreNew [] (older ++ newest) → IsTheory (older ++ newest) → AreNew self more → CanFollow self more → some ≡ length more → count ≡ length self + some → names ≡ constant_names (self ++ more) →
      AreNew [] (older ++ new) × IsTheory (older ++ new) × (count ≡ length (older ++ new)) × (names ≡ constant_names (older ++ new))
  theory_grown count some names old t fresh follow few all called = (
    subst (AreNew []) (sym entries_grown) (new_joined [] self more (subst (AreNew []) is old) fresh),
    subst IsTheory (sym entries_grown) (theory_followed self more (subst IsTheory is t) fresh follow),
    all ∙ ap (λ k. length self + k) few ∙ sym (length-append self more) ∙ ap length (sym entries_grown),
    called ∙ ap constant_names (sym entries_grown),
  )

-- ---- what a map has after new entries are inserted; `self` is what it had

all_inserted : (es self more : Entries) → es ≡ self → AreNew self more → insert_all key_eq es more ≡ self ++ more
all_inserted es self more is new = ap (λ (t : Entries). insert_all key_eq t more) is ∙ all_inserted_new self more new

pub entries_with_all : {A B : Type 0} (r : Result A B) (es self new more : Entries) → OnOk r (new ≡ insert_all key_eq es more) → es ≡ self → AreNew self more → OnOk r (new ≡ self ++ more)
entries_with_all (Ok done) es self new more n is fresh = n ∙ all_inserted es self more is fresh
entries_with_all (Err e) es self new more n is fresh = tt

-- ---- names

-- a name under whose key nothing stands is new over the items of a theory
pub free_name_is_new : (es : Entries) (k : ItemKey) → IsTheory es → entry_at (entry_key k) es ≡ None → prelude_has k ≡ false → IsNew (items_in es) k
free_name_is_new es k t none own = (
  own,
  λ y h. false_from_ne_true (has_key y k) (λ has.
      let r = t.named y h k has in
      let e : None ≡ Some r.0 = sym none ∙ r.1 in
      absurd (cc)),
)

-- sets of items of a theory agree
pub items_agree : (es : Entries) (a b : Items) → IsTheory es → IsSubset a (items_in es) → IsSubset b (items_in es) → Agree a b
items_agree es a b t in_a in_b x y k x_in y_in has_x has_y =
    same_by_name es x y k (t.named x (within_of_subset a (items_in es) in_a x x_in)) (t.named y (within_of_subset b (items_in es) in_b y y_in)) has_x has_y

-- ---- an entry alone

-- one whose own item has no other name than the entry's
pub one_follows_with : (es : Entries) (key : KeyValue) (value : EntryValue) (x : Item) → IsEntry key value → own_item key value ≡ Some x → IsSubset (entry_basis value) (set.insert (items_in es) x) →
    ((k : ItemKey) → has_key x k ≡ true → entry_key k ≡ key) → CanFollow es ((key, value) ∷ [])
one_follows_with es key value x entry own rests names = record {
  each = (entry, tt);
  rests = (
    subset_of_within (entry_basis value) (item_set (with_item (items_of es) (own_item key value)))
        (λ y h. elim (in_insert_cases total only (items_in es) x y (within_of_subset (entry_basis value) (set.insert (items_in es) x) rests y h)) [
          | inl is ↦ after_own (items_of es) ((key, value) ∷ []) (key, value) y (inl refl) (own ∙ ap Some (sym is))
          | inr i ↦ with_old (items_of es) (own_item key value) y i
        ]),
    tt,
  );
  named = λ y h. elim (with_cases [] (own_item key value) y h) [
    | inl none ↦ absurd (not_in_empty total only y none)
    | inr is ↦ inr (λ k has.
        let same : Some x ≡ Some y = sym own ∙ is in
        let item : x ≡ y = cc in
        let keys : entry_key k ≡ key = names k (ap (λ (z : Item). has_key z k) item ∙ has) in (
          value,
          ap (λ b. cond b (Some value) None) (ap (λ (q : KeyValue). key_eq q key) keys ∙ key_itself key),
          subst (λ (q : KeyValue). own_item q value ≡ Some y) (sym keys) is,
        ))
  ];
}
