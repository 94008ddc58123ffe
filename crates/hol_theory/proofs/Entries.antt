-- Entries in a row: what stands under a key, and what is inserted.
use Rattle.std.specs.Prelude.{◌≡◌, Bool, true, false, cond, [], ◌∷◌, ◌++◌, Option, Some, None, if◌then◌else◌, refl}
use Rattle.std.proofs.Common.{ap, sym, ◌∙◌, subst, inl, inr}
use Rattle.std.proofs.lemmas.List.{append-nil, append_assoc}
use Rattle.std.proofs.lemmas.Map.Keys.{IsDistinct-head, IsDistinct-tail}
use Rattle.std.specs.List.{AllByRecursion, IsDistinct}
use Rattle.std.specs.Map.{keys_of}
use Rattle.indexmap.specs.IndexMap.{insert_entry, insert_all}
use mathlib.Core.Bool.{true≢false}
use Rattle.hol_kernel.proofs.Members.{Among}
use Rattle.hol_theory.specs.Key.{KeyValue, key_eq}
use Rattle.hol_theory.specs.Entry.{EntryValue, Entries, EachIsEntry, entry_at}
use Rattle.hol_theory.specs.Adding.{AreNew}
use Rattle.hol_theory.proofs.Keys.{key_is, key_itself}

-- ---- what stands under a key

pub at_left : (key : KeyValue) (es fs : Entries) (v : EntryValue) → entry_at key es ≡ Some v → entry_at key (es ++ fs) ≡ Some v
at_left key [] fs v h = absurd (cc)
at_left key (e ∷ es) fs v h = by (key_eq key e.0) h (at_left key es fs v)
  where
    by : (b : Bool) → cond b (Some e.1) (entry_at key es) ≡ Some v → (entry_at key es ≡ Some v → entry_at key (es ++ fs) ≡ Some v) → cond b (Some e.1) (entry_at key (es ++ fs)) ≡ Some v
    by true h rest = h
    by false h rest = rest h

pub at_right : (key : KeyValue) (es fs : Entries) → entry_at key es ≡ None → entry_at key (es ++ fs) ≡ entry_at key fs
at_right key [] fs h = refl
at_right key (e ∷ es) fs h = by (key_eq key e.0) h (at_right key es fs)
  where
    by : (b : Bool) → cond b (Some e.1) (entry_at key es) ≡ None → (entry_at key es ≡ None → entry_at key (es ++ fs) ≡ entry_at key fs) → cond b (Some e.1) (entry_at key (es ++ fs)) ≡ entry_at key fs
    by true h rest = absurd (cc)
    by false h rest = rest h

-- what does not stand in the whole does not stand in its beginning
pub none_left : (key : KeyValue) (es fs : Entries) → entry_at key (es ++ fs) ≡ None → entry_at key es ≡ None
none_left key es fs h = by (entry_at key es) refl
  where
    by : (o : Option EntryValue) → entry_at key es ≡ o → o ≡ None
    by None p = refl
    by (Some v) p = let f : None ≡ Some v = sym h ∙ at_left key es fs v p in absurd (cc)

-- what stands under a key is an entry's value
pub found : (key : KeyValue) (es : Entries) (v : EntryValue) → entry_at key es ≡ Some v → Among (key, v) es
found key [] v h = absurd (cc)
found key (e ∷ es) v h = by (key_eq key e.0) refl h (found key es v)
  where
    by : (b : Bool) → key_eq key e.0 ≡ b → cond b (Some e.1) (entry_at key es) ≡ Some v → (entry_at key es ≡ Some v → Among (key, v) es) → Among (key, v) (e ∷ es)
    by true k h rest =
        let keys : key ≡ e.0 = key_is key e.0 k in
        let values : v ≡ e.1 = cc in
        inl (λ i. (keys i, values i))
    by false k h rest = inr (rest h)

-- ---- entries that come after others

pub each_joined : (es fs : Entries) → EachIsEntry es → EachIsEntry fs → EachIsEntry (es ++ fs)
each_joined [] fs all more = more
each_joined (e ∷ es) fs all more = (all.0, each_joined es fs all.1 more)

-- where something stands under a key among new entries, nothing stands under it among those before
pub stands_once : (es fs : Entries) → AreNew es fs → (key : KeyValue) (v : EntryValue) → entry_at key fs ≡ Some v → entry_at key es ≡ None
stands_once es [] new key v h = absurd (cc)
stands_once es (f ∷ fs) new key v h = by (key_eq key f.0) refl h (λ g. none_left key es (f ∷ []) (stands_once (es ++ f ∷ []) fs new.1 key v g))
  where
    by : (b : Bool) → key_eq key f.0 ≡ b → cond b (Some f.1) (entry_at key fs) ≡ Some v → (entry_at key fs ≡ Some v → entry_at key es ≡ None) → entry_at key es ≡ None
    by true k h rest = ap (λ (q : KeyValue). entry_at q es) (key_is key f.0 k) ∙ new.0
    by false k h rest = rest h

-- a new key goes last
pub inserted_new : (es : Entries) (key : KeyValue) (v : EntryValue) → entry_at key es ≡ None → insert_entry key_eq es key v ≡ es ++ (key, v) ∷ []
inserted_new [] key v h = refl
inserted_new (e ∷ es) key v h = by (key_eq key e.0) h (inserted_new es key v)
  where
    by : (b : Bool) → cond b (Some e.1) (entry_at key es) ≡ None → (entry_at key es ≡ None → insert_entry key_eq es key v ≡ es ++ (key, v) ∷ []) → (if b then (e.0, v) ∷ es else e ∷ insert_entry key_eq es key v) ≡ e ∷ (es ++ (key, v) ∷ [])
    by true h rest = absurd (cc)
    by false h rest = ap (λ (t : Entries). e ∷ t) (rest h)

pub all_inserted_new : (es more : Entries) → AreNew es more → insert_all key_eq es more ≡ es ++ more
all_inserted_new es [] new = sym (append-nil es)
all_inserted_new es (e ∷ more) new =
    ap (λ (t : Entries). insert_all key_eq t more) (inserted_new es e.0 e.1 new.0)
    ∙ all_inserted_new (es ++ e ∷ []) more new.1
    ∙ append_assoc es (e ∷ []) more

-- ---- keys that differ

apart : (P : KeyValue → Type 0) (es : Entries) (f : KeyValue × EntryValue) → AllByRecursion P (keys_of es) → Among f es → P f.0
apart P [] f all i = absurd i
apart P (e ∷ es) f all (inl is) = subst (λ (g : KeyValue × EntryValue). P g.0) (sym is) all.0
apart P (e ∷ es) f all (inr i) = apart P es f all.1 i

pub other_way : (a b : KeyValue) → key_eq a b ≡ false → key_eq b a ≡ false
other_way a b e = by (key_eq b a) refl
  where
    by : (t : Bool) → key_eq b a ≡ t → t ≡ false
    by true p = absurd (true≢false (sym (key_itself a) ∙ ap (key_eq a) (sym (key_is b a p)) ∙ e))
    by false p = refl

-- entries under whose keys nothing stands, where no two of these keys are one, are new
pub new_of : (es more : Entries) → ((f : KeyValue × EntryValue) → Among f more → entry_at f.0 es ≡ None) → IsDistinct key_eq (keys_of more) → AreNew es more
new_of es [] absent d = tt
new_of es (e ∷ more) absent d = (
  absent e (inl refl),
  new_of (es ++ e ∷ []) more
      (λ f i.
      at_right f.0 es (e ∷ []) (absent f (inr i))
      ∙ ap (λ b. cond b (Some e.1) None) (other_way e.0 f.0 (apart (λ k. key_eq e.0 k ≡ false) more f (IsDistinct-head key_eq e.0 (keys_of more) d) i)))
      (IsDistinct-tail key_eq e.0 (keys_of more) d),
)
