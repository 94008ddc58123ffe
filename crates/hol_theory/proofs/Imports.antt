-- What an import brings is new and can follow.
use Rattle.std.specs.Prelude.{◌≡◌, ◌⊎◌, ◌+◌, ℕ, Bool, true, false, not, cond, List, [], ◌∷◌, ◌++◌, drop, length, slice_get, Option, Some, None, is_some, is_none, refl}
use Rattle.std.proofs.Common.{ap, sym, ◌∙◌, subst, inl, inr, arith}
use Rattle.std.proofs.lemmas.List.{append_assoc, at_drop_more}
use Rattle.std.proofs.lemmas.Option.{slice_get_within, get_or_from_slice_get}
use Rattle.std.proofs.lemmas.Map.Made.{IsDistinct-keys_filter}
use Rattle.std.proofs.lemmas.Map.Entries.{lookup-filter-keys}
use Rattle.std.specs.List.{IsDistinct}
use Rattle.std.specs.Map.{keys_of}
use mathlib.Core.Bool.{true≢false}
use Rattle.hol_kernel.specs.Item.{Item}
use Rattle.hol_kernel.specs.Items.{Holds, item_set}
use Rattle.hol_kernel.proofs.ItemOrder.{total, only}
use Rattle.hol_kernel.proofs.Members.{Among, in_or_out, not_in_empty}
use Rattle.hol_kernel.proofs.Subsets.{within_of_subset, subset_of_within}
use Rattle.hol_theory.specs.Key.{KeyValue, key_eq}
use Rattle.hol_theory.specs.Entry.{EntryValue, Entries, EachIsEntry, entry_at, entry_basis, own_item}
use Rattle.hol_theory.specs.Theory.{with_item, items_of, items_in, RestsOn, entry_key, IsNamedIn, IsTheory}
use Rattle.hol_theory.specs.Adding.{AreNew, CanFollow, stands_otherwise, first_clash, missing}
use Rattle.hol_theory.specs.SameValue.{same_value, same_values_are}
use Rattle.hol_theory.proofs.Keys.{key_is}
use Rattle.hol_theory.proofs.Entries.{found, new_of}
use Rattle.hol_theory.proofs.Items.{with_old, with_own, with_cases, after_own, after_cases}

-- ---- where no key clashes

-- under the keys of both the same stands
abbrev Agreeing : Entries → Entries → Type 0
Agreeing es theory = (e : KeyValue × EntryValue) (own : EntryValue) → Among e theory → entry_at e.0 es ≡ Some own → own ≡ e.1

not_other : (o : Option EntryValue) (v own : EntryValue) → stands_otherwise o v ≡ false → o ≡ Some own → own ≡ v
not_other None v own e p = absurd (cc)
not_other (Some w) v own e p =
    let is : w ≡ own = cc in
    by (same_value w v) refl e is
  where
    by : (b : Bool) → same_value w v ≡ b → not b ≡ false → w ≡ own → own ≡ v
    by true s f is = sym is ∙ (same_values_are w v).0 s
    by false s f is = absurd (true≢false f)

pub agreeing : (es theory : Entries) → first_clash es theory ≡ None → Agreeing es theory
agreeing es [] none f own i p = absurd i
agreeing es (e ∷ theory) none f own i p = by (stands_otherwise (entry_at e.0 es) e.1) refl none i (λ first j. agreeing es theory first f own j p)
  where
    by : (b : Bool) → stands_otherwise (entry_at e.0 es) e.1 ≡ b → cond b (Some e.0) (first_clash es theory) ≡ None → Among f (e ∷ theory) →
        (first_clash es theory ≡ None → Among f theory → own ≡ f.1) → own ≡ f.1
    by true s first i rest = absurd (cc)
    by false s first (inl is) rest =
        not_other (entry_at e.0 es) e.1 own s (ap (λ (g : KeyValue × EntryValue). entry_at g.0 es) (sym is) ∙ p) ∙ ap (λ (g : KeyValue × EntryValue). g.1) (sym is)
    by false s first (inr j) rest = rest first j

-- ---- what is brought

module _ (es : Entries) where
  none_is : (o : Option EntryValue) → is_none o ≡ true → o ≡ None
  none_is None e = refl
  none_is (Some v) e = absurd (cc)

  pub missing_among : (theory : Entries) (f : KeyValue × EntryValue) → Among f (missing es theory) → Among f theory × (entry_at f.0 es ≡ None)
  missing_among [] f i = absurd i
  missing_among (e ∷ theory) f i = by (is_none (entry_at e.0 es)) refl i (missing_among theory f)
    where
      by : (b : Bool) → is_none (entry_at e.0 es) ≡ b → Among f (cond b (e ∷ missing es theory) (missing es theory)) →
          (Among f (missing es theory) → Among f theory × (entry_at f.0 es ≡ None)) → Among f (e ∷ theory) × (entry_at f.0 es ≡ None)
      by true n (inl is) rest = (inl is, ap (λ (g : KeyValue × EntryValue). entry_at g.0 es) is ∙ none_is (entry_at e.0 es) n)
      by true n (inr j) rest = let r = rest j in (inr r.0, r.1)
      by false n j rest = let r = rest j in (inr r.0, r.1)

  each_missing : (theory : Entries) → EachIsEntry theory → EachIsEntry (missing es theory)
  each_missing [] each = tt
  each_missing (e ∷ theory) each = by (is_none (entry_at e.0 es)) (each_missing theory each.1)
    where
      by : (b : Bool) → EachIsEntry (missing es theory) → EachIsEntry (cond b (e ∷ missing es theory) (missing es theory))
      by true rest = (each.0, rest)
      by false rest = rest

  pub missing_new : (theory : Entries) → IsDistinct key_eq (keys_of theory) → AreNew es (missing es theory)
  missing_new theory d =
      new_of es (missing es theory) (λ f i. (missing_among theory f i).1)
      (IsDistinct-keys_filter key_eq (λ e. is_none (entry_at e.0 es)) theory d)

  -- what stands nowhere here stands among what is missing as it stands in the theory
  missing_at : (theory : Entries) (key : KeyValue) → entry_at key es ≡ None → entry_at key (missing es theory) ≡ entry_at key theory
  missing_at theory key none =
      lookup-filter-keys (key_eq key) (λ k. is_none (entry_at k es)) true
      (λ k e. ap (λ (q : KeyValue). is_none (entry_at q es)) (sym (key_is key k e)) ∙ ap is_none none) theory

  -- the own item of what stands here is an item that stands here
  own_here : (key : KeyValue) (v : EntryValue) (x : Item) → entry_at key es ≡ Some v → own_item key v ≡ Some x → Holds (items_in es) x
  own_here key v x p own = after_own [] es (key, v) x (found key es v p) own

  -- ---- on what it rests

  abbrev Within : List Item → List Item → Type 0
  Within few items = (x : Item) → Holds (item_set few) x → Holds (item_set items) x

  within_with : (few items : List Item) (o : Option Item) → Within few items → Within (with_item few o) (with_item items o)
  within_with few items o w x h =
      elim (with_cases few o x h) [
        | inl i ↦ with_old items o x (w x i)
        | inr own ↦ subst (λ (p : Option Item). Holds (item_set (with_item items p)) x) (sym own) (with_own items x)
      ]

  within_dropped : (few items : List Item) (o : Option Item) → Within few items → ((x : Item) → o ≡ Some x → Holds (item_set items) x) → Within (with_item few o) items
  within_dropped few items o w here x h = elim (with_cases few o x h) [ inl i ↦ w x i | inr own ↦ here x own ]

  rests_missing : (few items : List Item) (theory : Entries) → Agreeing es theory → Within (items_of es) items → Within few items → RestsOn few theory → RestsOn items (missing es theory)
  rests_missing few items [] agree here w rests = tt
  rests_missing few items (e ∷ theory) agree here w rests =
      by (entry_at e.0 es) refl
      (rests_missing (with_item few o) (with_item items o) theory later (λ x h. with_old items o x (here x h)) (within_with few items o w) rests.1)
      (λ stands. rests_missing (with_item few o) items theory later here (within_dropped few items o w stands) rests.1)
    where
      o : Option Item
      o = own_item e.0 e.1

      later : Agreeing es theory
      later f own i = agree f own (inr i)

      by : (found : Option EntryValue) → entry_at e.0 es ≡ found → RestsOn (with_item items o) (missing es theory) →
          (((x : Item) → o ≡ Some x → Holds (item_set items) x) → RestsOn items (missing es theory)) → RestsOn items (cond (is_none found) (e ∷ missing es theory) (missing es theory))
      by None p kept dropped = (
        subset_of_within (entry_basis e.1) (item_set (with_item items o)) (λ x h. within_with few items o w x (within_of_subset (entry_basis e.1) (item_set (with_item few o)) rests.0 x h)),
        kept,
      )
      by (Some own) p kept dropped = dropped (λ x is. here x (own_here e.0 own x p (ap (own_item e.0) (agree e own (inl refl) p) ∙ is)))

  -- ---- under which names it stands

  named_missing : (theory : Entries) → Agreeing es theory → ((x : Item) → Holds (items_in theory) x → IsNamedIn theory x) → (x : Item) → Holds (items_in (missing es theory)) x →
      Holds (items_in es) x ⊎ IsNamedIn (missing es theory) x
  named_missing theory agree named x h =
      elim (in_or_out total only (items_in es) x) [
        | inl i ↦ inl i
        | inr out ↦ inr (elim (after_cases [] (missing es theory) x h) [
          | inl none ↦ absurd (not_in_empty total only x none)
          | inr p ↦ of_names out (named x (after_own [] theory p.0 x (missing_among theory p.0 p.1).0 p.2))
        ])
      ]
    where
      of_names : (Holds (items_in es) x → ⊥) → IsNamedIn theory x → IsNamedIn (missing es theory) x
      of_names out n k has = by (entry_at (entry_key k) es) refl (n k has)
        where
          by : (o : Option EntryValue) → entry_at (entry_key k) es ≡ o →
              ((v : EntryValue) × (entry_at (entry_key k) theory ≡ Some v) × (own_item (entry_key k) v ≡ Some x)) →
              (v : EntryValue) × (entry_at (entry_key k) (missing es theory) ≡ Some v) × (own_item (entry_key k) v ≡ Some x)
          by None none r = (r.0, missing_at theory (entry_key k) none ∙ r.1, r.2)
          by (Some own) stands r =
              let same : own ≡ r.0 = agree (entry_key k, r.0) own (found (entry_key k) theory r.0 r.1) stands in
              absurd (out (own_here (entry_key k) own x stands (ap (own_item (entry_key k)) same ∙ r.2)))

-- What is missing of a theory with which no key clashes can follow.
pub missing_follows : (es theory : Entries) → IsTheory theory → first_clash es theory ≡ None → CanFollow es (missing es theory)
missing_follows es theory t none =
    let agree = agreeing es theory none in
    record {
      each = each_missing es theory t.each;
      rests = rests_missing es [] (items_of es) theory agree (λ x h. h) (λ x h. absurd (not_in_empty total only x h)) t.rests;
      named = named_missing es theory agree t.named;
    }

-- ---- a theory without entries

nothing_clashes : (theory : Entries) → first_clash [] theory ≡ None
nothing_clashes [] = refl
nothing_clashes (e ∷ theory) = nothing_clashes theory

all_missing : (theory : Entries) → missing [] theory ≡ theory
all_missing [] = refl
all_missing (e ∷ theory) = ap (λ (t : Entries). e ∷ t) (all_missing theory)

-- gets all of the other
pub whole_imported : (es theory new : Entries) → 0 ≡ length es → new ≡ theory → (first_clash es theory ≡ None) × (new ≡ es ++ missing es theory)
whole_imported [] theory new none is = (nothing_clashes theory, is ∙ sym (all_missing theory))
whole_imported (e ∷ es) theory new none is = absurd (omega (arith, none))

-- ---- entry by entry

next_entry : (theory : Entries) (i : ℕ) (e : KeyValue × EntryValue) → slice_get theory i ≡ Some e → drop i theory ≡ e ∷ drop (i + 1) theory
next_entry theory i e at =
    at_drop_more (λ (t : Entries). t) theory i e (slice_get_within theory i e at)
    ∙ ap (λ (f : KeyValue × EntryValue). f ∷ drop (i + 1) theory) (get_or_from_slice_get theory i e e at)

module _ (es theory : Entries) (i : ℕ) (key : KeyValue) (value : EntryValue) (at : slice_get theory i ≡ Some (key, value)) where
  module _ (r : Bool) (e : r ≡ stands_otherwise (entry_at key es) value) (clash : first_clash es theory ≡ first_clash es (drop i theory)) where
    clash_from : first_clash es theory ≡ cond r (Some key) (first_clash es (drop (i + 1) theory))
    clash_from =
        clash ∙ ap (first_clash es) (next_entry theory i (key, value) at) ∙ ap (λ b. cond b (Some key) (first_clash es (drop (i + 1) theory))) (sym e)

    pub clash_here : r ≡ true → Some key ≡ first_clash es theory
    clash_here is = sym (clash_from ∙ ap (λ b. cond b (Some key) (first_clash es (drop (i + 1) theory))) is)

    pub clash_later : r ≡ false → first_clash es theory ≡ first_clash es (drop (i + 1) theory)
    clash_later is = clash_from ∙ ap (λ b. cond b (Some key) (first_clash es (drop (i + 1) theory))) is

  module _ (r : Bool) (e : r ≡ is_some (entry_at key es)) (done : Entries) (brought : done ++ missing es (drop i theory) ≡ missing es theory) where
    missing_from : done ++ cond (is_none (entry_at key es)) ((key, value) ∷ missing es (drop (i + 1) theory)) (missing es (drop (i + 1) theory)) ≡ missing es theory
    missing_from = ap (λ (t : Entries). done ++ missing es t) (sym (next_entry theory i (key, value) at)) ∙ brought

    by_case : (o : Option EntryValue) (more : Entries) → r ≡ is_some o → done ++ cond (is_none o) ((key, value) ∷ more) more ≡ missing es theory → cond r (done ++ more) ((done ++ (key, value) ∷ []) ++ more) ≡ missing es theory
    by_case None more p all = ap (λ b. cond b (done ++ more) ((done ++ (key, value) ∷ []) ++ more)) p ∙ append_assoc done ((key, value) ∷ []) more ∙ all
    by_case (Some v) more p all = ap (λ b. cond b (done ++ more) ((done ++ (key, value) ∷ []) ++ more)) p ∙ all

    pub missing_here : (new : Entries) (entry : KeyValue × EntryValue) → r ≡ false → new ≡ done ++ entry ∷ [] → entry ≡ (key, value) → new ++ missing es (drop (i + 1) theory) ≡ missing es theory
    missing_here new entry is n copied =
        ap (λ (t : Entries). t ++ missing es (drop (i + 1) theory)) (n ∙ ap (λ (f : KeyValue × EntryValue). done ++ f ∷ []) copied)
        ∙ ap (λ b. cond b (done ++ missing es (drop (i + 1) theory)) ((done ++ (key, value) ∷ []) ++ missing es (drop (i + 1) theory))) (sym is)
        ∙ by_case (entry_at key es) (missing es (drop (i + 1) theory)) e missing_from

    pub missing_later : r ≡ true → done ++ missing es (drop (i + 1) theory) ≡ missing es theory
    missing_later is =
        ap (λ b. cond b (done ++ missing es (drop (i + 1) theory)) ((done ++ (key, value) ∷ []) ++ missing es (drop (i + 1) theory))) (sym is)
        ∙ by_case (entry_at key es) (missing es (drop (i + 1) theory)) e missing_from
