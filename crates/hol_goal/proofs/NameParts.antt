-- Names in parts.
use Rattle.std.specs.Prelude.{◌≡◌, ◌<◌, ◌+◌, ◌||◌, ℕ, Bool, true, false, List, [], ◌∷◌, ◌++◌, map, length, take, drop, slice_index_or, refl}
use Rattle.std.specs.List.{list_any}
use Rattle.std.proofs.Common.{ap, sym, ◌∙◌, add-one, arith}
use Rattle.std.proofs.Math.Seq.{drop-cons}
use Rattle.std.proofs.lemmas.List.{append-nil, append_assoc, map-append, take_more, take-map}
use Rattle.std.proofs.lemmas.List.Folds.{list_any-append}
use Rattle.hol_goal.specs.NamesView.{all_names}

module _ {A : Type 0} (f : A → List (List ℕ)) where
  pub part_more : (parts : List A) (part : A) → all_names (map f (parts ++ part ∷ [])) ≡ all_names (map f parts) ++ f part
  part_more [] part = append-nil (f part)
  part_more (p ∷ parts) part = ap (λ (t : List (List ℕ)). f p ++ t) (part_more parts part) ∙ sym (append_assoc (f p) (all_names (map f parts)) (f part))

  -- one part more
  pub part_put : (parts new : List A) (part : A) (self names : List (List ℕ)) → new ≡ parts ++ part ∷ [] → f part ≡ names → all_names (map f parts) ≡ self → all_names (map f new) ≡ self ++ names
  part_put parts new part self names is has view =
      ap (λ (ps : List A). all_names (map f ps)) is
      ∙ part_more parts part
      ∙ ap (λ (t : List (List ℕ)). all_names (map f parts) ++ t) has
      ∙ ap (λ (t : List (List ℕ)). t ++ names) view

  -- the last part taken out
  pub last_out : (parts rest : List A) (last : A) (self : List (List ℕ)) → all_names (map f parts) ≡ self → parts ≡ rest ++ last ∷ [] → self ≡ all_names (map f rest) ++ f last
  last_out parts rest last self view is = sym view ∙ ap (λ (ps : List A). all_names (map f ps)) is ∙ part_more rest last

  module _ (test : List ℕ → Bool) (self : List (List ℕ)) (parts : List A) (i : ℕ) (part : A) (within : i < length parts) (is : part ≡ slice_index_or parts i part)
      (at : list_any test self ≡ list_any test (all_names (map f (drop i parts)))) where
    at_part : list_any test self ≡ (list_any test (f part) || list_any test (all_names (map f (drop (i + 1) parts))))
    at_part =
        let all : drop i parts ≡ part ∷ drop (i + 1) parts = rw (add-one, drop-cons parts i part within, ← is) refl in
        at ∙ ap (λ (ps : List A). list_any test (all_names (map f ps))) all ∙ list_any-append test (f part) (all_names (map f (drop (i + 1) parts)))

    -- one in this part
    pub in_part : true ≡ list_any test (f part) → true ≡ list_any test self
    in_part found = sym (at_part ∙ ap (λ b. b || list_any test (all_names (map f (drop (i + 1) parts)))) (sym found))

    -- where there is none, one in those after it
    pub in_later : false ≡ list_any test (f part) → list_any test self ≡ list_any test (all_names (map f (drop (i + 1) parts)))
    in_later none = at_part ∙ ap (λ b. b || list_any test (all_names (map f (drop (i + 1) parts)))) (sym none)

-- both parts in one
pub one_of_two : {X : Type 0} (self rest whole first second names : List X) → self ≡ rest ++ second → rest ≡ whole ++ first → names ≡ first ++ second → whole ++ names ≡ self
one_of_two self rest whole first second names last before is =
    ap (λ (t : List _). whole ++ t) is ∙ sym (append_assoc whole first second) ∙ ap (λ (t : List _). t ++ second) (sym before) ∙ sym last

-- a copy of one more
pub copied_more : {A X : Type 0} (f : A → X) (copied parts : List A) (i : ℕ) (part copy : A) → i < length parts → part ≡ slice_index_or parts i part → f copy ≡ f part →
    map f copied ≡ take i (map f parts) → map f (copied ++ copy ∷ []) ≡ take (i + 1) (map f parts)
copied_more {A} {X} f copied parts i part copy within is same done =
    map-append f copied (copy ∷ [])
    ∙ ap (λ (xs : List X). xs ++ f copy ∷ []) (done ∙ take-map f i parts)
    ∙ ap (λ (e : X). map f (take i parts) ++ e ∷ []) (same ∙ ap f is)
    ∙ sym (map-append f (take i parts) (slice_index_or parts i part ∷ []))
    ∙ ap (map f) (sym (take_more parts i part within))
    ∙ sym (take-map f (i + 1) parts)
