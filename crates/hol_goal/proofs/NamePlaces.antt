-- Names that are found by their places.
use Rattle.std.specs.Prelude.{◌≡◌, ◌≢◌, ◌<◌, ◌≤◌, ◌+◌, ◌%◌, ◌||◌, ℕ, Bool, true, false, List, [], ◌∷◌, ◌++◌, map, length, take, set, get_or, replicate, bytes_eq, refl}
use Rattle.std.specs.List.{list_any}
use Rattle.std.proofs.Common.{ap, sym, ◌∙◌, inl, inr, arith}
use Rattle.std.proofs.lemmas.Bool.{false_from_ne_true}
use Rattle.std.proofs.lemmas.Bool.Decides.{eqb_tells}
use Rattle.std.proofs.lemmas.List.{take_more, length-replicate, length-map, length-set, get_or-map, map-set, get_or-set_same, get_or-set_other, get_or-replicate}
use Rattle.std.proofs.lemmas.List.Folds.{list_any-append}
use Rattle.std.proofs.lemmas.Slice.Eq.{bytes_eq-Decides}
use Rattle.hol_goal.specs.NamePlaces.{place_of, ArePlaced, HasPlaces}

pub place_within : (a : List ℕ) → place_of a < 128
place_within a = omega arith

-- places with no names
pub none_placed : (places : List (List (List ℕ))) (n : ℕ) → 128 ≤ n → n ≤ 128 → places ≡ replicate n [] → ArePlaced [] places
none_placed places n from to are =
    let all : n ≡ 128 = omega (arith, from, to) in
    let empty : places ≡ replicate 128 [] = are ∙ ap (λ (m : ℕ). replicate m []) all in
    record {
      count = ap length empty ∙ length-replicate {A = List (List ℕ)} 128 [];
      found = λ a. ap (λ (ps : List (List (List ℕ))). list_any (bytes_eq a) (get_or ps (place_of a) [])) empty ∙ ap (list_any (bytes_eq a)) (get_or-replicate 128 (place_of a) [] [] (place_within a));
    }

module _ {X : Type 0} (f : X → List (List ℕ)) where
  -- what a place has
  at_place : (places : List X) (i : ℕ) (place : X) → i < length places → place ≡ get_or places i place → get_or (map f places) i [] ≡ f place
  at_place places i place within is = get_or-map f places i place [] within ∙ ap f (sym is)

  -- a name is looked for at its place
  pub found_there : (names : List (List ℕ)) (a : List ℕ) (places : List X) (i : ℕ) (place : X) (b : Bool) → HasPlaces names (map f places) → 1 ≤ length places →
      i ≡ place_of a → place ≡ get_or places i place → b ≡ list_any (bytes_eq a) (f place) → b ≡ list_any (bytes_eq a) names
  found_there names a places i place b (inl none) some at is found =
      let no : length (map f places) ≡ 0 = ap length none in
      let same = length-map places f in
      absurd (omega (arith, no, same, some))
  found_there names a places i place b (inr placed) some at is found =
      let counted : length places ≡ 128 = sym (length-map places f) ∙ placed.count in
      let within = place_within a in
      found
      ∙ ap (list_any (bytes_eq a)) (sym (at_place places i place (omega (arith, counted, within, at)) is))
      ∙ ap (λ (j : ℕ). list_any (bytes_eq a) (get_or (map f places) j [])) at
      ∙ placed.found a

  -- one more is put at its place
  module _ (names : List (List ℕ)) (places : List X) (n i : ℕ) (name : List ℕ) (old new : X) (within : n < length names) (is : name ≡ get_or names n name) (at : i ≡ place_of name)
      (was : old ≡ get_or places i old) (more : f new ≡ f old ++ name ∷ []) (placed : ArePlaced (take n names) (map f places)) where
    counted : length places ≡ 128
    counted = sym (length-map places f) ∙ placed.count

    inside : i < length places
    inside = let few = counted in let place = place_within name in omega (arith, few, place, at)

    put : map f (set places i new) ≡ set (map f places) i (f new)
    put = map-set f places i new

    all : (a : List ℕ) → list_any (bytes_eq a) (take (n + 1) names) ≡ (list_any (bytes_eq a) (take n names) || list_any (bytes_eq a) (name ∷ []))
    all a =
        ap (list_any (bytes_eq a)) (take_more names n name within ∙ ap (λ (b : List ℕ). take n names ++ b ∷ []) (sym is))
        ∙ list_any-append (bytes_eq a) (take n names) (name ∷ [])

    differs : (a : List ℕ) → (place_of a ≡ i → ⊥) → list_any (bytes_eq a) (name ∷ []) ≡ false
    differs a apart = false_from_ne_true (bytes_eq a name || false) (λ e. apart (ap place_of ((bytes_eq-Decides a name).0 (or_none (bytes_eq a name) e)) ∙ sym at))
      where
        or_none : (b : Bool) → (b || false) ≡ true → b ≡ true
        or_none true e = refl
        or_none false e = e

    or_false : (b : Bool) → b ≡ (b || false)
    or_false true = refl
    or_false false = refl

    found : (a : List ℕ) → list_any (bytes_eq a) (get_or (set (map f places) i (f new)) (place_of a) []) ≡ list_any (bytes_eq a) (take (n + 1) names)
    found a = elim (eqb_tells (place_of a) i) [
      | inl e ↦ (
          ap (λ (j : ℕ). list_any (bytes_eq a) (get_or (set (map f places) i (f new)) j [])) e.1
          ∙ ap (list_any (bytes_eq a)) (get_or-set_same (map f places) i (f new) [] (let same = length-map places f in let few = inside in omega (arith, same, few)) ∙ more)
          ∙ list_any-append (bytes_eq a) (f old) (name ∷ [])
          ∙ ap (λ b. b || list_any (bytes_eq a) (name ∷ [])) (
          ap (list_any (bytes_eq a)) (sym (at_place places i old inside was))
          ∙ ap (λ (j : ℕ). list_any (bytes_eq a) (get_or (map f places) j [])) (sym e.1)
          ∙ placed.found a)
          ∙ sym (all a))
      | inr e ↦ (
          ap (list_any (bytes_eq a)) (get_or-set_other (map f places) i (place_of a) (f new) [] e.1)
          ∙ placed.found a
          ∙ or_false (list_any (bytes_eq a) (take n names))
          ∙ ap (λ b. list_any (bytes_eq a) (take n names) || b) (sym (differs a e.1))
          ∙ sym (all a))
    ]

    pub one_placed : ArePlaced (take (n + 1) names) (map f (set places i new))
    one_placed = record {
      count = ap length put ∙ length-set (map f places) i (f new) ∙ placed.count;
      found = λ a. ap (λ (ps : List (List (List ℕ))). list_any (bytes_eq a) (get_or ps (place_of a) [])) put ∙ found a;
    }
