-- What each written theorem rests on: the readings that are its own, one after the other; and that it is what would be resolved of it alone.
use Rattle.std.specs.Prelude.{◌≡◌, ◌<◌, ◌+◌, ℕ, Bool, true, false, cond, ◌||◌, List, [], ◌∷◌, ◌++◌, length, get_or, nat_eq, refl}
use Rattle.std.specs.List.{list_any, list_all}
use Rattle.std.proofs.Common.{ap, sym, ◌∙◌, drop}
use Rattle.std.proofs.lemmas.Bool.{and_parts}
use Rattle.std.proofs.lemmas.List.{append_assoc, drop_more}
use Rattle.hol_notation_tactics.specs.Parts.{parts_of_theorem}
use Rattle.hol_notation_tactics.specs.Text.{ThmText}
use Rattle.hol_resolve.specs.declared.quotations.AnyQuotation.{AnyQuotation}
use Rattle.hol_resolve.specs.declared.readings.Quoted.{Quoted}
use Rattle.hol_resolve.specs.Quotations.{place_of, quotations_in}
use Rattle.hol_resolve.specs.Readings.{QuotedValue, ReadingsValue}
use Rattle.hol_resolve.specs.ReadingView.{quoted_value, list_value}
use Rattle.hol_theory.specs.Entry.{Entries, entry_at}
use Rattle.hol_theory.specs.Key.{KeyValue, key_eq}
use Rattle.hol_theory.proofs.Keys.{key_is}
use Rattle.hol_exec.specs.Callee.{value_at}
use Rattle.hol_exec.specs.ChangedKeys.{is_one_of}
use Rattle.hol_exec.specs.Keys.{keys_in}
use Rattle.hol_exec.specs.OwnBases.{values_under, readings_of, own_basis}
use Rattle.hol_exec.specs.ReadsValue.{Values, values_of}
use Rattle.hol_exec.specs.Resolved.{resolved_basis}

values_joined : (xs ys : List (ℕ × Quoted)) → list_value (xs ++ ys) ≡ list_value xs ++ list_value ys
values_joined [] ys = refl
values_joined (x ∷ xs) ys = ap (λ (zs : ReadingsValue). (x.0, quoted_value x.1) ∷ zs) (values_joined xs ys)

module _ (readings : List (ℕ × Quoted)) (quotations : List AnyQuotation) (i : ℕ) (r : ℕ × Quoted) (all : ReadingsValue) (own : List (ℕ × Quoted)) where
  abbrev rest : ReadingsValue
  rest = readings_of (list_value (drop (i + 1) readings)) quotations

  module _ (opens : Bool) (within : i < length readings) (at : r ≡ get_or readings i r) (tells : opens ≡ list_any (λ q. nat_eq r.0 (place_of q)) quotations)
      (before : all ≡ list_value own ++ readings_of (list_value (drop i readings)) quotations) where
    here : readings_of (list_value (drop i readings)) quotations ≡ cond opens ((r.0, quoted_value r.1) ∷ rest) rest
    here =
        ap (λ (xs : List (ℕ × Quoted)). readings_of (list_value xs) quotations) (drop_more readings i r within ∙ ap (λ (x : ℕ × Quoted). x ∷ drop (i + 1) readings) (sym at))
        ∙ ap (λ (b : Bool). cond b ((r.0, quoted_value r.1) ∷ rest) rest) (sym tells)

    pub reading_kept : (copy : Quoted) (new : List (ℕ × Quoted)) → opens ≡ true → quoted_value copy ≡ quoted_value r.1 → new ≡ own ++ (r.0, copy) ∷ [] → all ≡ list_value new ++ rest
    reading_kept copy new is same grown =
        before
        ∙ ap (λ (w : ReadingsValue). list_value own ++ w) (here ∙ ap (λ (b : Bool). cond b ((r.0, quoted_value r.1) ∷ rest) rest) is)
        ∙ sym (ap (λ (v : QuotedValue). list_value own ++ (r.0, v) ∷ rest) same)
        ∙ sym (append_assoc (list_value own) ((r.0, quoted_value copy) ∷ []) rest)
        ∙ sym (ap (λ (w : ReadingsValue). w ++ rest) (ap list_value grown ∙ values_joined own ((r.0, copy) ∷ [])))

    pub reading_left : opens ≡ false → all ≡ list_value own ++ rest
    reading_left is = before ∙ ap (λ (w : ReadingsValue). list_value own ++ w) (here ∙ ap (λ (b : Bool). cond b ((r.0, quoted_value r.1) ∷ rest) rest) is)

-- ---- what stands under the keys of a theorem, and of a command that has it

value_stands : (es : Entries) (key : KeyValue) (keys : List KeyValue) → is_one_of keys key ≡ true → value_at key (values_of es keys) ≡ entry_at key es
value_stands es key [] h = absurd (cc)
value_stands es key (k ∷ keys) h = by (key_eq key k) refl h (value_stands es key keys)
  where
    by : (b : Bool) → key_eq key k ≡ b → (b || is_one_of keys key) ≡ true → (is_one_of keys key ≡ true → value_at key (values_of es keys) ≡ entry_at key es)
        → cond b (entry_at k es) (value_at key (values_of es keys)) ≡ entry_at key es
    by true is m later = ap (λ (x : KeyValue). entry_at x es) (sym (key_is key k is))
    by false is m later = later m

all_stand : (es : Entries) (keys own : List KeyValue) → list_all (is_one_of keys) own ≡ true → values_under (values_of es keys) own ≡ values_of es own
all_stand es keys [] h = refl
all_stand es keys (key ∷ own) h =
    let both = and_parts (is_one_of keys key) (list_all (is_one_of keys) own) h in
    λ i. (key, value_stands es key keys both.0 i) ∷ all_stand es keys own both.1 i

pub own_alone : (es : Entries) (keys : List KeyValue) (readings : ReadingsValue) (th : ThmText) → list_all (is_one_of keys) (keys_in (parts_of_theorem th)) ≡ true
    → own_basis (values_of es keys) readings th ≡ resolved_basis (values_of es (keys_in (parts_of_theorem th))) (readings_of readings (quotations_in (parts_of_theorem th)))
own_alone es keys readings th h =
    ap (λ (values : Values). resolved_basis values (readings_of readings (quotations_in (parts_of_theorem th)))) (all_stand es keys (keys_in (parts_of_theorem th)) h)
