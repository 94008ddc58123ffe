-- Values that are compared with what stands under their keys, and keys that are looked up among changed ones, one after the other.
use Rattle.std.proofs.Common.{◌≡◌, ℕ, ◌+◌, ◌<◌, ◌≤◌, List, ◌∷◌, length, get_or, drop, refl, sym, ap, subst, Bool, false, IsTrue}
use Rattle.std.specs.Prelude.{◌↔◌, Option}
use Rattle.std.specs.Map.{keys_of}
use Rattle.std.proofs.lemmas.List.{drop_all}
use Rattle.hol_types.proofs.Steps.{next_of}
use Rattle.hol_theory.specs.Key.{KeyValue}
use Rattle.hol_theory.specs.Entry.{Entries, EntryValue, entry_at}
use Rattle.hol_exec.specs.ReadsValue.{Values, values_of}
use Rattle.hol_exec.specs.ChangedKeys.{is_one_of, AreApart}

-- the values are what stands under their keys
abbrev pub Agree : Entries → Values → Type 0
Agree es values = values ≡ values_of es (keys_of values)

agree_cons : (es : Entries) (x : KeyValue × Option EntryValue) (rest : Values) → x.1 ≡ entry_at x.0 es → Agree es rest → Agree es (x ∷ rest)
agree_cons es x rest e h = λ i. (x.0, e i) ∷ h i

-- the first of them, and the others
agree_parts : (es : Entries) (x : KeyValue × Option EntryValue) (rest : Values) → Agree es (x ∷ rest) → (x ≡ (x.0, entry_at x.0 es)) × Agree es rest
agree_parts es x rest h = let both : x ∷ rest ≡ (x.0, entry_at x.0 es) ∷ values_of es (keys_of rest) = h in (cc, cc)

agree_head : (es : Entries) (x : KeyValue × Option EntryValue) (rest : Values) → Agree es (x ∷ rest) → x.1 ≡ entry_at x.0 es
agree_head es x rest h = ap (λ (p : KeyValue × Option EntryValue). p.1) (agree_parts es x rest h).0

agree_tail : (es : Entries) (x : KeyValue × Option EntryValue) (rest : Values) → Agree es (x ∷ rest) → Agree es rest
agree_tail es x rest h = (agree_parts es x rest h).1

-- what a loop over values knows
abbrev pub AgreeFrom : Entries → Values → Values → Type 0
AgreeFrom es values rest = Agree es values ↔ Agree es rest

pub agree_step : (es : Entries) (values : Values) (i : ℕ) (x : KeyValue × Option EntryValue) → i < length values → x ≡ get_or values i x → x.1 ≡ entry_at x.0 es →
    AgreeFrom es values (drop i values) → AgreeFrom es values (drop (i + 1) values)
agree_step es values i x lt is e h =
    let from : AgreeFrom es values (x ∷ drop (i + 1) values) = subst (AgreeFrom es values) (next_of values i x lt is) h in
    ((λ a. agree_tail es x (drop (i + 1) values) (from.0 a)), (λ a. from.1 (agree_cons es x (drop (i + 1) values) e a)))

pub agree_fails : (es : Entries) (values : Values) (i : ℕ) (x : KeyValue × Option EntryValue) → i < length values → x ≡ get_or values i x → (x.1 ≡ entry_at x.0 es → ⊥) →
    AgreeFrom es values (drop i values) → Agree es values → ⊥
agree_fails es values i x lt is f h a = f (agree_head es x (drop (i + 1) values) (subst (Agree es) (next_of values i x lt is) (h.0 a)))

pub agree_ends : (es : Entries) (values : Values) (i : ℕ) → length values ≤ i → AgreeFrom es values (drop i values) → Agree es values
agree_ends es values i over h = h.1 (subst (Agree es) (sym (drop_all i values over)) refl)

-- of keys that are known
pub agree_keyed : (es : Entries) (values : Values) (keys : List KeyValue) (r : Bool) → keys_of values ≡ keys → IsTrue r ↔ Agree es values → IsTrue r ↔ (values ≡ values_of es keys)
agree_keyed es values keys r e h = subst (λ (ks : List KeyValue). IsTrue r ↔ (values ≡ values_of es ks)) e h

-- ---- keys that are no changed ones

abbrev pub ApartFrom : List KeyValue → Values → Values → Type 0
ApartFrom changed values rest = AreApart changed (keys_of rest) → AreApart changed (keys_of values)

pub apart_step : (changed : List KeyValue) (values : Values) (i : ℕ) (x : KeyValue × Option EntryValue) → i < length values → x ≡ get_or values i x → is_one_of changed x.0 ≡ false →
    ApartFrom changed values (drop i values) → ApartFrom changed values (drop (i + 1) values)
apart_step changed values i x lt is e h =
    let from : ApartFrom changed values (x ∷ drop (i + 1) values) = subst (ApartFrom changed values) (next_of values i x lt is) h in
    λ rest. from (e, rest)

pub apart_ends : (changed : List KeyValue) (values : Values) (i : ℕ) → length values ≤ i → ApartFrom changed values (drop i values) → AreApart changed (keys_of values)
apart_ends changed values i over h = h (subst (λ (vs : Values). AreApart changed (keys_of vs)) (sym (drop_all i values over)) tt)
