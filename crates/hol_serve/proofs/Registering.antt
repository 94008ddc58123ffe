-- Codes whose functions the program registers.
use Rattle.std.specs.Prelude.{◌≡◌, ◌+◌, ◌<◌, ◌≤◌, ℕ, Bool, true, false, not, List, [], ◌∷◌, ◌++◌, map, take, length, get_or, bytes_eq, refl, suc, zero, string_bytes}
use Rattle.std.specs.List.{list_all}
use Rattle.std.proofs.Common.{ap, sym, ◌∙◌, arith}
use Rattle.std.proofs.lemmas.Bool.{and_parts}
use Rattle.std.proofs.lemmas.List.{take_all, map_more, map-append}
use Rattle.std.proofs.lemmas.Slice.Eq.{bytes_eq-Decides}
use Rattle.hol_goal.specs.TacNames.{tac_name}
use Rattle.hol_goal.specs.declared.tac_code.TacCode.{TacCode}
use Rattle.hol_registry.specs.RegistryView.{name, row}
use Rattle.hol_registry.specs.declared.entry.Entry.{Entry}
use Rattle.hol_registry.specs.Refusal.{IsRefusal}
use Rattle.hol_registry.specs.declared.error.RegistryError.{RegistryError}
use Rattle.hol_registry.specs.declared.error.RegistryError.TheVariants.{Twice}
use Rattle.hol_document.specs.Documents.{Documents}
use Rattle.hol_serve.specs.Begun.{begun_by}
use Rattle.hol_serve.specs.BegunView.{row_of, names_differ}
use Rattle.hol_session.specs.Machine.{Counted, counted}

-- ---- all of them

pub names_of_rows : {X W g : _} (entries : List (Entry X W g)) → map name entries ≡ map (λ (r : List ℕ × TacCode). r.0) (map row entries)
names_of_rows [] = refl
names_of_rows (entry ∷ entries) = ap (λ names. name entry ∷ names) (names_of_rows entries)

names_of : (codes : List TacCode) → map (λ (row : List ℕ × TacCode). row.0) (map row_of codes) ≡ map tac_name codes
names_of [] = refl
names_of (code ∷ codes) = ap (λ names. tac_name code ∷ names) (names_of codes)

pub names_plain : (codes : List TacCode) (rows : List (List ℕ × TacCode)) → names_differ (map tac_name codes) ≡ true → rows ≡ map row_of codes → names_differ (map (λ (row : List ℕ × TacCode). row.0) rows) ≡ true
names_plain codes rows differ is =
    ap (λ (rs : List (List ℕ × TacCode)). names_differ (map (λ (row : List ℕ × TacCode). row.0) rs)) is
    ∙ ap names_differ (names_of codes)
    ∙ differ

-- one function more is registered, under the name of its code
pub one_registered : {X W g : _} (entries new : List (Entry X W g)) (entry : Entry X W g) (codes : List TacCode) (i : ℕ) (code : TacCode) (text : List ℕ) → i < length codes → code ≡ get_or codes i code →
    new ≡ entries ++ entry ∷ [] → row entry ≡ (text, code) → text ≡ tac_name code → map row entries ≡ map row_of (take i codes) → map row new ≡ map row_of (take (i + 1) codes)
one_registered entries new entry codes i code text lt at pushed is named before =
    ap (map row) pushed ∙ map-append row entries (entry ∷ []) ∙ (λ j. before j ++ (is ∙ ap (λ (t : List ℕ). (t, code)) named) j ∷ [])
    ∙ sym (map_more row_of codes i code lt ∙ ap (λ (c : TacCode). map row_of (take i codes) ++ row_of c ∷ []) (sym at))

-- what stands at a place doesn't depend on what is said where nothing does
pub same_place : (codes : List TacCode) (i : ℕ) (other more : TacCode) → i < length codes → get_or codes i other ≡ get_or codes i more
same_place [] i other more lt = absurd (omega (arith, lt))
same_place (code ∷ codes) zero other more lt = refl
same_place (code ∷ codes) (suc i) other more lt = same_place codes i other more (omega (arith, lt))

-- ---- no name is met again

not_true : (b : Bool) → not b ≡ true → b ≡ true → ⊥
not_true true e f = absurd (cc)
not_true false e f = absurd (cc)

apart : (name : List ℕ) (names after : List (List ℕ)) → list_all (λ other. not (bytes_eq name other)) (names ++ name ∷ after) ≡ true → ⊥
apart name [] after e = not_true (bytes_eq name name) (and_parts (not (bytes_eq name name)) (list_all (λ other. not (bytes_eq name other)) after) e).0 ((bytes_eq-Decides name name).1 refl)
apart name (n ∷ names) after e = apart name names after (and_parts (not (bytes_eq name n)) (list_all (λ other. not (bytes_eq name other)) (names ++ name ∷ after)) e).1

again : (names after : List (List ℕ)) (name : List ℕ) (i : ℕ) → i < length names → get_or names i name ≡ name → names_differ (names ++ name ∷ after) ≡ true → ⊥
again [] after name i l is e = absurd (omega (arith, l))
again (n ∷ names) after name zero l is e =
    let parts = and_parts (list_all (λ other. not (bytes_eq n other)) (names ++ name ∷ after)) (names_differ (names ++ name ∷ after)) e in
    apart name names after (rw is at parts.0)
again (n ∷ names) after name (suc i) l is e =
    again names after name i (omega (arith, l)) is (and_parts (list_all (λ other. not (bytes_eq n other)) (names ++ name ∷ after)) (names_differ (names ++ name ∷ after)) e).1

pub twice_not : (names : List (List ℕ)) (error : RegistryError) → names_differ names ≡ true → IsRefusal names error → ⊥
twice_not names (Twice name) e h = again h.before h.after (string_bytes name) h.again.0 h.again.1 h.again.2 (rw h.stands at e)

-- ---- the documents that a session begins with

-- the rows of the codes that were gone through are those of all
pub rows_taken : (codes : List TacCode) (n : ℕ) (rows : List (List ℕ × TacCode)) → length codes ≤ n → rows ≡ map row_of (take n codes) → rows ≡ map row_of codes
rows_taken codes n rows end is = is ∙ ap (map row_of) (take_all n codes end)

-- documents without theories, by which nothing was run
pub counted_begun : (docs : Documents) (table : List (List ℕ × TacCode)) (turns cache ran : ℕ) → docs ≡ (begun_by table turns cache).documents → ran ≡ 0 → counted docs ran ≡ begun_by table turns cache
counted_begun docs table turns cache ran d r = λ i. counted (d i) (r i)

pub begins : (P : Counted → Counted → Type 0) (old new start : Counted) → old ≡ start → P old new → (n : Counted) × P start n
begins P old new start e h = (new, rw e at h)
