-- Changed keys, and more of them.
use Rattle.std.proofs.Common.{◌≡◌, ℕ, ◌+◌, ◌<◌, List, [], ◌∷◌, ◌++◌, length, get_or, take, map, refl, sym, ap, ◌∙◌, Bool, true, false, ◌||◌, if◌then◌else◌, arith}
use lib.Bits.{bit_or}
use Rattle.std.specs.List.{list_any}
use Rattle.std.proofs.lemmas.List.{map_more}
use Rattle.indexmap.specs.IndexSet.{insert_key}
use Rattle.hol_types.specs.Filter.{name_bit}
use Rattle.std.specs.Prelude.{◌≢◌, ◌↔◌, IsTrue, is_some}
use Rattle.std.specs.Bool.{◌==◌}
use Rattle.std.specs.Map.{keys_of}
use Rattle.std.proofs.Common.{subst}
use Rattle.std.proofs.lemmas.Bool.Decides.{Decides-eqb}
use Rattle.std.proofs.lemmas.Map.Made.{is_some-lookup}
use Rattle.std.proofs.lemmas.List.{append-nil, append_assoc}
use lib.Bits.{bit_and}
use Rattle.hol_theory.specs.Entry.{Entries, entry_at}
use Rattle.hol_theory.specs.Key.{KeyValue, key_eq}
use Rattle.hol_theory.proofs.Keys.{key_is}
use Rattle.hol_exec.specs.ChangedKeys.{is_one_of, AreApart}
use Rattle.hol_exec.specs.ChangedKeysView.{all_keys}
use Rattle.hol_exec.specs.Filters.{HasNames}
use Rattle.hol_exec.proofs.NameFilters.{names_left, names_more, no_names}

or_none : (a : Bool) → (a || false) ≡ a
or_none true = refl
or_none false = refl

or_more : (a b c : Bool) → ((a || b) || c) ≡ (a || (b || (c || false)))
or_more true b c = refl
or_more false true c = refl
or_more false false c = sym (or_none c)

one_of_both : (xs ys : List KeyValue) (k : KeyValue) → is_one_of (xs ++ ys) k ≡ (is_one_of xs k || is_one_of ys k)
one_of_both [] ys k = refl
one_of_both (x ∷ xs) ys k = by (key_eq k x) (one_of_both xs ys k)
  where
    by : (b : Bool) → is_one_of (xs ++ ys) k ≡ (is_one_of xs k || is_one_of ys k) → (b || is_one_of (xs ++ ys) k) ≡ ((b || is_one_of xs k) || is_one_of ys k)
    by true e = refl
    by false e = e

-- ---- one key more

there_already : (keys : List KeyValue) (key k : KeyValue) → is_one_of keys key ≡ true → is_one_of keys k ≡ (is_one_of keys k || key_eq k key)
there_already keys key k e = by (key_eq k key) refl
  where
    by : (b : Bool) → key_eq k key ≡ b → is_one_of keys k ≡ (is_one_of keys k || b)
    by true f = let is : is_one_of keys k ≡ true = ap (is_one_of keys) (key_is k key f) ∙ e in rw is refl
    by false f = sym (or_none (is_one_of keys k))

pub inserted : (keys : List KeyValue) (key k : KeyValue) → is_one_of (insert_key key_eq keys key) k ≡ (is_one_of keys k || key_eq k key)
inserted keys key k = by (list_any (key_eq key) keys) refl
  where
    by : (b : Bool) → is_one_of keys key ≡ b → is_one_of (if b then keys else keys ++ key ∷ []) k ≡ (is_one_of keys k || key_eq k key)
    by true e = there_already keys key k e
    by false e = one_of_both keys (key ∷ []) k ∙ ap (λ c. is_one_of keys k || c) (or_none (key_eq k key))

pub inserted_names : (n m : ℕ) (keys : List KeyValue) (key : KeyValue) → HasNames n keys → m ≡ name_bit key.name → HasNames (bit_or n m) (insert_key key_eq keys key)
inserted_names n m keys key h e = by (list_any (key_eq key) keys)
  where
    by : (b : Bool) → HasNames (bit_or n m) (if b then keys else keys ++ key ∷ [])
    by true = names_left n m keys h
    by false = names_more n m keys key h e

-- ---- a list of keys more

-- the new ones are the old ones and those that are added
abbrev pub AreMore : List KeyValue → List KeyValue → List KeyValue → Type 0
AreMore old new added = (k : KeyValue) → is_one_of new k ≡ (is_one_of old k || is_one_of added k)

pub none_more : (old : List KeyValue) → AreMore old old []
none_more old k = sym (or_none (is_one_of old k))

grown : (old mid new ys more : List KeyValue) (key : KeyValue) → more ≡ ys ++ key ∷ [] → AreMore old mid ys → ((k : KeyValue) → is_one_of new k ≡ (is_one_of mid k || key_eq k key)) → AreMore old new more
grown old mid new ys more key is h e k =
    e k ∙ ap (λ b. b || key_eq k key) (h k) ∙ or_more (is_one_of old k) (is_one_of ys k) (key_eq k key)
    ∙ ap (λ b. is_one_of old k || b) (sym (ap (λ ks. is_one_of ks k) is ∙ one_of_both ys (key ∷ []) k))

pub entry_added : {V : Type 0} (old mid new : List KeyValue) (entries : List (KeyValue × V)) (i : ℕ) (e : KeyValue × V) → i < length entries → e ≡ get_or entries i e →
    AreMore old mid (map (λ entry. entry.0) (take i entries)) → ((k : KeyValue) → is_one_of new k ≡ (is_one_of mid k || key_eq k e.0)) → AreMore old new (map (λ entry. entry.0) (take (i + 1) entries))
entry_added old mid new entries i e lt is =
    grown old mid new (map (λ entry. entry.0) (take i entries)) (map (λ entry. entry.0) (take (i + 1) entries)) e.0
    (map_more (λ entry. entry.0) entries i e lt ∙ ap (λ x. map (λ entry. entry.0) (take i entries) ++ x.0 ∷ []) (sym is))

-- ---- theories that are held whole

pub in_theories : (key : KeyValue) (theories : List Entries) → list_any (λ entries. is_some (entry_at key entries)) theories ≡ is_one_of (all_keys theories) key
in_theories key [] = refl
in_theories key (entries ∷ theories) =
    (λ i. is_some-lookup (key_eq key) entries i || in_theories key theories i) ∙ sym (one_of_both (keys_of entries) (all_keys theories) key)

module _ (listed self : List KeyValue) (theories : List Entries) (key : KeyValue) where
  both : listed ++ all_keys theories ≡ self → is_one_of self key ≡ (is_one_of listed key || is_one_of (all_keys theories) key)
  both view = ap (λ (ks : List KeyValue). is_one_of ks key) (sym view) ∙ one_of_both listed (all_keys theories) key

  -- a key that is listed
  pub in_listed : (r : Bool) → listed ++ all_keys theories ≡ self → r ≡ is_one_of listed key → r ≡ true → r ≡ is_one_of self key
  in_listed r view has is = is ∙ sym (both view ∙ ap (λ b. b || is_one_of (all_keys theories) key) (sym has ∙ is))

  -- and of one that isn't the theories tell
  pub in_rest : (r s : Bool) → listed ++ all_keys theories ≡ self → r ≡ is_one_of listed key → r ≡ false → s ≡ list_any (λ entries. is_some (entry_at key entries)) theories → s ≡ is_one_of self key
  in_rest r s view has is some = some ∙ in_theories key theories ∙ sym (both view ∙ ap (λ b. b || is_one_of (all_keys theories) key) (sym has ∙ is))

one_theory_more : (theories : List Entries) (entries : Entries) → all_keys (theories ++ entries ∷ []) ≡ all_keys theories ++ keys_of entries
one_theory_more [] entries = append-nil (keys_of entries)
one_theory_more (t ∷ theories) entries =
    ap (λ (ks : List KeyValue). keys_of t ++ ks) (one_theory_more theories entries) ∙ sym (append_assoc (keys_of t) (all_keys theories) (keys_of entries))

pub theory_added : (listed self : List KeyValue) (theories new : List Entries) (entries theory : Entries) → listed ++ all_keys theories ≡ self → new ≡ theories ++ entries ∷ [] → entries ≡ theory →
    AreMore self (listed ++ all_keys new) (keys_of theory)
theory_added listed self theories new entries theory view pushed is k =
    ap (λ (ks : List KeyValue). is_one_of ks k)
    (ap (λ (ts : List Entries). listed ++ all_keys ts) pushed
    ∙ ap (λ (ks : List KeyValue). listed ++ ks) (one_theory_more theories entries)
    ∙ sym (append_assoc listed (all_keys theories) (keys_of entries))
    ∙ (λ i. view i ++ keys_of (is i)))
    ∙ one_of_both self (keys_of theory) k

swapped : (a b c : Bool) → ((a || b) || c) ≡ ((a || c) || b)
swapped true b c = refl
swapped false true true = refl
swapped false true false = refl
swapped false false true = refl
swapped false false false = refl

pub listed_added : (old new self : List KeyValue) (theories : List Entries) (added : List KeyValue) → old ++ all_keys theories ≡ self → AreMore old new added →
    AreMore self (new ++ all_keys theories) added
listed_added old new self theories added view more k =
    one_of_both new (all_keys theories) k
    ∙ ap (λ b. b || is_one_of (all_keys theories) k) (more k)
    ∙ swapped (is_one_of old k) (is_one_of added k) (is_one_of (all_keys theories) k)
    ∙ ap (λ b. b || is_one_of added k) (sym (one_of_both old (all_keys theories) k) ∙ ap (λ (ks : List KeyValue). is_one_of ks k) view)

pub no_theories : (theories : List Entries) (n : ℕ) → length theories ≡ n → true ≡ (n == 0) → theories ≡ []
no_theories theories n len e = none theories (len ∙ (Decides-eqb n 0).0 (sym e))
  where
    none : (ts : List Entries) → length ts ≡ 0 → ts ≡ []
    none [] f = refl
    none (t ∷ ts) f = absurd (omega (arith, f))

-- without such theories the filter tells
pub none_meets : (n m : ℕ) (listed self : List KeyValue) (theories : List Entries) (r : Bool) → theories ≡ [] → listed ++ all_keys theories ≡ self → HasNames m listed → IsTrue r ↔ (bit_and n m ≢ 0) → r ≡ false →
    (keys : List KeyValue) → HasNames n keys → AreApart self keys
none_meets n m listed self theories r none view has meets e keys own =
    subst (λ (changed : List KeyValue). AreApart changed keys)
    (sym (append-nil listed) ∙ ap (λ (ts : List Entries). listed ++ all_keys ts) (sym none) ∙ view)
    (no_names n m keys listed r own has meets e)
