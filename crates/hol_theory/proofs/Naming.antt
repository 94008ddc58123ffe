-- The names of constants, where entries are put behind others.
use Rattle.std.specs.Prelude.{◌≡◌, ◌<◌, ◌≤◌, ◌+◌, ℕ, List, [], ◌∷◌, ◌++◌, length, refl}
use Rattle.std.proofs.Common.{ap, sym, ◌∙◌, append_assoc, get_or, drop}
use Rattle.std.proofs.lemmas.List.{append-nil, drop_all, drop_more}
use Rattle.hol_theory.specs.Key.{KeyValue}
use Rattle.hol_theory.specs.Entry.{EntryValue, Entries}
use Rattle.hol_theory.specs.Constants.{constant_name, constant_names}

pub names_joined : (es fs : Entries) → constant_names (es ++ fs) ≡ constant_names es ++ constant_names fs
names_joined [] fs = refl
names_joined (e ∷ es) fs =
    ap (λ (ns : List (List ℕ)). constant_name e.0.kind e.0.name ++ ns) (names_joined es fs) ∙ sym (append_assoc (constant_name e.0.kind e.0.name) (constant_names es) (constant_names fs))

-- with one entry more
pub names_with_one : (es : Entries) (key : KeyValue) (value : EntryValue) (names new : List (List ℕ)) → names ≡ constant_names es → new ≡ names ++ constant_name key.kind key.name → new ≡ constant_names (es ++ (key, value) ∷ [])
names_with_one es key value names new are is =
    is
    ∙ ap (λ (ns : List (List ℕ)). ns ++ constant_name key.kind key.name) are
    ∙ ap (λ (ns : List (List ℕ)). constant_names es ++ ns) (sym (append-nil (constant_name key.kind key.name)))
    ∙ sym (names_joined es ((key, value) ∷ []))

-- ---- one entry after the other: with those behind the place they are all

pub names_start : (es more : Entries) (names : List (List ℕ)) → names ≡ constant_names es → names ++ constant_names more ≡ constant_names (es ++ more)
names_start es more names are = ap (λ (ns : List (List ℕ)). ns ++ constant_names more) are ∙ sym (names_joined es more)

pub names_step : (more : Entries) (i : ℕ) (e : KeyValue × EntryValue) (names new all : List (List ℕ)) → i < length more → e ≡ get_or more i e → new ≡ names ++ constant_name e.0.kind e.0.name → names ++ constant_names (drop i more) ≡ all →
    new ++ constant_names (drop (i + 1) more) ≡ all
names_step more i e names new all h at is before =
    ap (λ (ns : List (List ℕ)). ns ++ constant_names (drop (i + 1) more)) is
    ∙ append_assoc names (constant_name e.0.kind e.0.name) (constant_names (drop (i + 1) more))
    ∙ ap (λ (es : Entries). names ++ constant_names es) (sym (drop_more more i e h ∙ ap (λ (f : KeyValue × EntryValue). f ∷ drop (i + 1) more) (sym at)))
    ∙ before

pub names_end : (more : Entries) (i : ℕ) (names all : List (List ℕ)) → length more ≤ i → names ++ constant_names (drop i more) ≡ all → names ≡ all
names_end more i names all h before = sym (append-nil names) ∙ ap (λ (es : Entries). names ++ constant_names es) (sym (drop_all i more h)) ∙ before
