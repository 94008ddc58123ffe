-- Entries that come new to a theory: one after the other, and all at once.
use Rattle.std.specs.Prelude.{◌≡◌, ◌+◌, ◌≤◌, ◌||◌, ◌↔◌, ℕ, Bool, true, false, IsTrue, cond, List, [], ◌∷◌, ◌++◌, length, take, map, get_or, slice_get, Some, None, is_none, refl}
use Rattle.std.proofs.Common.{ap, sym, ◌∙◌, inl, inr, arith}
use Rattle.std.proofs.lemmas.List.{take_more, take_all, map_more, map-append}
use Rattle.std.proofs.lemmas.Option.{slice_get_within, get_or_from_slice_get}
use Rattle.std.specs.Map.{keys_of}
use Rattle.hol_kernel.proofs.Members.{Among}
use Rattle.hol_theory.specs.Key.{KeyValue, key_eq}
use Rattle.hol_theory.specs.Entry.{EntryValue, Entries, EachIsEntry, entry_at}
use Rattle.hol_theory.specs.Theory.{IsTheory}
use Rattle.hol_theory.specs.Adding.{AreNew, stands_otherwise, first_clash, missing}
use Rattle.hol_theory.proofs.Entries.{none_left}
use Rattle.hol_theory.proofs.Imports.{whole_imported}
use Rattle.hol_exec.specs.At.{imports_from}
use Rattle.hol_exec.specs.ChangedKeys.{is_one_of}
use Rattle.hol_exec.specs.OutcomeValue.{Makes}
use Rattle.hol_exec.proofs.Changing.{AreMore, entry_added}

-- ---- none

pub none_made : (es : Entries) → length es ≡ 0 → keys_of es ≡ []
none_made [] e = refl
none_made (f ∷ es) e = absurd (omega (arith, e))

pub none_there : (es : Entries) → keys_of es ≡ [] → length es ≡ 0
none_there [] e = refl
none_there (f ∷ es) e = absurd (cc)

-- ---- one after the other

module _ (es : Entries) (i : ℕ) (e : KeyValue × EntryValue) (at : slice_get es i ≡ Some e) where
  is_at : e ≡ get_or es i e
  is_at = sym (get_or_from_slice_get es i e e at)

  next_taken : take (i + 1) es ≡ take i es ++ e ∷ []
  next_taken = take_more es i e (slice_get_within es i e at) ∙ ap (λ (f : KeyValue × EntryValue). take i es ++ f ∷ []) (sym is_at)

  next_mapped : {A : Type 0} (f : KeyValue × EntryValue → A) → map f (take (i + 1) es) ≡ map f (take i es) ++ f e ∷ []
  next_mapped f = map_more f es i e (slice_get_within es i e at) ∙ ap (λ (g : KeyValue × EntryValue). map f (take i es) ++ f g ∷ []) (sym is_at)

  -- what is made of each is pushed
  pub next_pushed : {A B : Type 0} (f : KeyValue × EntryValue → A) (g : B → A) (old new : List B) (b : B) → new ≡ old ++ b ∷ [] → g b ≡ f e → map g old ≡ map f (take i es) →
      map g new ≡ map f (take (i + 1) es)
  next_pushed f g old new b pushed is before = ap (map g) pushed ∙ map-append g old (b ∷ []) ∙ (λ j. before j ++ is j ∷ []) ∙ sym (next_mapped f)

  pub next_added : (old mid new : List KeyValue) → AreMore old mid (map (λ entry. entry.0) (take i es)) → ((k : KeyValue) → is_one_of new k ≡ (is_one_of mid k || key_eq k e.0)) →
      AreMore old new (map (λ entry. entry.0) (take (i + 1) es))
  next_added old mid new = entry_added old mid new es i e (slice_get_within es i e at) is_at

-- entries that are the same up to a place, and the next ones, which may be so too
module _ (es fs : Entries) (i : ℕ) (k l : KeyValue) (v w : EntryValue) (at : slice_get es i ≡ Some (k, v)) (other : slice_get fs i ≡ Some (l, w)) (b : Bool) (same : IsTrue b ↔ ((k ≡ l) × (v ≡ w))) where
  pub same_next : b ≡ true → take i es ≡ take i fs → take (i + 1) es ≡ take (i + 1) fs
  same_next is before =
      let both : (k ≡ l) × (v ≡ w) = same.0 is in
      next_taken es i (k, v) at ∙ (λ j. before j ++ (both.0 j, both.1 j) ∷ []) ∙ sym (next_taken fs i (l, w) other)

  same_at : es ≡ fs → (k ≡ l) × (v ≡ w)
  same_at is = of (k, v) (l, w) (sym at ∙ ap (λ (gs : Entries). slice_get gs i) is ∙ other)
    where
      of : (e f : KeyValue × EntryValue) → Some e ≡ Some f → (e.0 ≡ f.0) × (e.1 ≡ f.1)
      of e f both = let one : e ≡ f = cc in (ap (λ (g : KeyValue × EntryValue). g.0) one, ap (λ (g : KeyValue × EntryValue). g.1) one)

  pub other_entry : b ≡ false → IsTrue false ↔ (es ≡ fs)
  other_entry is = ((λ e. absurd (cc)), (λ e. sym is ∙ same.1 (same_at e)))

pub same_whole : (es fs : Entries) (i : ℕ) → length es ≡ length fs → length es ≤ i → take i es ≡ take i fs → IsTrue true ↔ (es ≡ fs)
same_whole es fs i n le before = ((λ e. sym (take_all i es le) ∙ before ∙ take_all i fs (omega (arith, n, le))), (λ e. refl))

-- ---- all at once

absent : (es more : Entries) → AreNew es more → (f : KeyValue × EntryValue) → Among f more → entry_at f.0 es ≡ None
absent es [] new f i = absurd i
absent es (e ∷ more) new f (inl is) = ap (λ (g : KeyValue × EntryValue). entry_at g.0 es) is ∙ new.0
absent es (e ∷ more) new f (inr i) = none_left f.0 es (e ∷ []) (absent (es ++ e ∷ []) more new.1 f i)

none_clashes : (es more : Entries) → ((f : KeyValue × EntryValue) → Among f more → entry_at f.0 es ≡ None) → first_clash es more ≡ None
none_clashes es [] none = refl
none_clashes es (e ∷ more) none =
    ap (λ o. cond (stands_otherwise o e.1) (Some e.0) (first_clash es more)) (none e (inl refl)) ∙ none_clashes es more (λ f i. none f (inr i))

all_missing : (es more : Entries) → ((f : KeyValue × EntryValue) → Among f more → entry_at f.0 es ≡ None) → missing es more ≡ more
all_missing es [] none = refl
all_missing es (e ∷ more) none =
    ap (λ o. cond (is_none o) (e ∷ missing es more) (missing es more)) (none e (inl refl)) ∙ ap (λ (t : Entries). e ∷ t) (all_missing es more (λ f i. none f (inr i)))

-- an import of what is new has no clash, and brings all of it
pub new_clash : (es more : Entries) → AreNew es more → first_clash es more ≡ None
new_clash es more new = none_clashes es more (absent es more new)

pub new_missing : (es more : Entries) → AreNew es more → missing es more ≡ more
new_missing es more new = all_missing es more (absent es more new)

-- so does an import into a theory without entries
pub imported_whole : (es theory : Entries) → length es ≡ 0 → imports_from es theory (first_clash es theory) ≡ Makes theory
imported_whole [] theory n =
    let whole = whole_imported [] theory theory refl refl in
    ap (imports_from [] theory) whole.0 ∙ ap Makes (sym whole.1)
imported_whole (e ∷ es) theory n = absurd (omega (arith, n))

pub theory_entries : (es : Entries) → IsTheory es → EachIsEntry es
theory_entries es theory = theory.each
