-- Filters of the names of keys. Where two of them have no bit in common, no key is in both lists.
use Rattle.std.proofs.Common.{◌≡◌, ◌≢◌, ℕ, ◌+◌, ◌<◌, ◌≤◌, zero, suc, List, [], ◌∷◌, ◌++◌, length, get_or, take, refl, sym, ap, ◌∙◌, subst, Bool, true, false, ◌||◌, arith, IsTrue}
use Rattle.std.specs.Int.{bit_at}
use lib.Bits.{bit_and, bit_or}
use Rattle.std.specs.Prelude.{◌↔◌}
use Rattle.std.proofs.lemmas.List.{take_more, take_all}
use Rattle.hol_types.specs.Filter.{name_place, name_bit}
use Rattle.hol_types.proofs.Filters.{apart_bits, own_bit, or_has_left, or_has_right}
use Rattle.hol_theory.specs.Key.{KeyValue, key_eq}
use Rattle.hol_theory.proofs.Keys.{key_is}
use Rattle.hol_exec.specs.ChangedKeys.{is_one_of, AreApart}
use Rattle.hol_exec.specs.Filters.{HasNames}

-- ---- larger filters

pub names_left : (a b : ℕ) (keys : List KeyValue) → HasNames a keys → HasNames (bit_or a b) keys
names_left a b [] h = tt
names_left a b (key ∷ keys) h = (or_has_left a b (name_place 0 key.name) h.0, names_left a b keys h.1)

pub names_right : (a b : ℕ) (keys : List KeyValue) → HasNames b keys → HasNames (bit_or a b) keys
names_right a b [] h = tt
names_right a b (key ∷ keys) h = (or_has_right a b (name_place 0 key.name) h.0, names_right a b keys h.1)

-- of the keys and of one more
pub names_more : (n m : ℕ) (keys : List KeyValue) (key : KeyValue) → HasNames n keys → m ≡ name_bit key.name → HasNames (bit_or n m) (keys ++ key ∷ [])
names_more n m [] key h e = (or_has_right n m (name_place 0 key.name) (ap (λ b. bit_at b (name_place 0 key.name)) e ∙ own_bit key.name), tt)
names_more n m (k ∷ keys) key h e = (or_has_left n m (name_place 0 k.name) h.0, names_more n m keys key h.1 e)

-- one turn of a loop over keys
pub names_step : (n m : ℕ) (keys : List KeyValue) (i : ℕ) (key : KeyValue) → i < length keys → key ≡ get_or keys i key → HasNames n (take i keys) → m ≡ name_bit key.name → HasNames (bit_or n m) (take (i + 1) keys)
names_step n m keys i key lt is h e = subst (HasNames (bit_or n m)) (sym (take_more keys i key lt ∙ ap (λ (k : KeyValue). take i keys ++ k ∷ []) (sym is))) (names_more n m (take i keys) key h e)

pub names_all : (n : ℕ) (keys : List KeyValue) (i : ℕ) → length keys ≤ i → HasNames n (take i keys) → HasNames n keys
names_all n keys i over h = subst (HasNames n) (take_all i keys over) h

-- ---- keys of which there is none in common

named_bit : (n : ℕ) (keys : List KeyValue) (key : KeyValue) → HasNames n keys → is_one_of keys key ≡ true → bit_at n (name_place 0 key.name) ≡ 1
named_bit n [] key h e = absurd (cc)
named_bit n (k ∷ keys) key h e = by (key_eq key k) refl (named_bit n keys key h.1) e
  where
    by : (b : Bool) → key_eq key k ≡ b → (is_one_of keys key ≡ true → bit_at n (name_place 0 key.name) ≡ 1) → (b || is_one_of keys key) ≡ true → bit_at n (name_place 0 key.name) ≡ 1
    by true f rest g = subst (λ (other : KeyValue). bit_at n (name_place 0 other.name) ≡ 1) (sym (key_is key k f)) h.0
    by false f rest g = rest g

no_common : (m n : ℕ) (r : Bool) → IsTrue r ↔ (bit_and m n ≢ 0) → r ≡ false → bit_and m n ≡ 0
no_common m n r h e = by (bit_and m n) (λ f. sym e ∙ h.1 f)
  where
    by : (k : ℕ) → (k ≢ 0 → false ≡ true) → k ≡ 0
    by zero f = refl
    by (suc k) f = let clash : false ≡ true = f (λ z. omega (arith, z)) in absurd (cc)

-- a key's own filter has its name
pub own_place : (key : KeyValue) (m : ℕ) → m ≡ name_bit key.name → bit_at m (name_place 0 key.name) ≡ 1
own_place key m e = ap (λ b. bit_at b (name_place 0 key.name)) e ∙ own_bit key.name

-- a key whose name isn't in the filter is none of the keys
pub no_name : (n m : ℕ) (keys : List KeyValue) (key : KeyValue) (r : Bool) → HasNames n keys → bit_at m (name_place 0 key.name) ≡ 1 → IsTrue r ↔ (bit_and n m ≢ 0) → r ≡ false → is_one_of keys key ≡ false
no_name n m keys key r h own meets e = by (is_one_of keys key) refl
  where
    by : (b : Bool) → is_one_of keys key ≡ b → b ≡ false
    by true is = absurd (apart_bits n m (no_common n m r meets e) (name_place 0 key.name) (named_bit n keys key h is) own)
    by false is = refl

-- filters that don't meet: no key of the one list is a key of the other
pub no_names : (n m : ℕ) (keys changed : List KeyValue) (r : Bool) → HasNames n keys → HasNames m changed → IsTrue r ↔ (bit_and n m ≢ 0) → r ≡ false → AreApart changed keys
no_names n m [] changed r h k meets e = tt
no_names n m (key ∷ keys) changed r h k meets e = (by (is_one_of changed key) refl, no_names n m keys changed r h.1 k meets e)
  where
    by : (b : Bool) → is_one_of changed key ≡ b → b ≡ false
    by true is = absurd (apart_bits n m (no_common n m r meets e) (name_place 0 key.name) h.0 (named_bit m changed key k is))
    by false is = refl
