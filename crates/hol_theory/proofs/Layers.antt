-- Entries in layers, one after the other, in which no two have one key.
use Rattle.std.specs.Prelude.{◌≡◌, ◌<◌, ◌≤◌, ◌-◌, ℕ, List, [], ◌∷◌, ◌++◌, map, length, take, drop, slice_get, slice_index_or, Some, None, is_some, refl}
use Rattle.std.proofs.Common.{ap, sym, ◌∙◌, subst, ◌+◌, zero, suc, add-one, arith}
use Rattle.std.proofs.Math.Seq.{drop-cons}
use Rattle.std.proofs.lemmas.List.{append-nil, append_assoc, map-append, length-append, take_more, take-map}
use Rattle.std.proofs.lemmas.Map.Keys.{IsDistinct-push}
use Rattle.std.proofs.lemmas.Map.Made.{is_some-lookup}
use Rattle.std.specs.Cmp.{decided}
use Rattle.std.specs.List.{IsDistinct}
use Rattle.std.specs.Map.{keys_of}
use Rattle.hol_theory.specs.Key.{KeyValue, key_eq}
use Rattle.hol_theory.specs.Entry.{EntryValue, Entries, entry_at}
use Rattle.hol_theory.specs.Adding.{AreNew}
use Rattle.hol_theory.specs.Layers.{joined}
use Rattle.hol_theory.proofs.Keys.{key_is, key_itself}
use Rattle.hol_theory.proofs.Entries.{at_left, at_right, none_left, new_of}

-- ---- new entries

pub new_left : (es fs gs : Entries) → AreNew es (fs ++ gs) → AreNew es fs
new_left es [] gs new = tt
new_left es (f ∷ fs) gs new = (new.0, new_left (es ++ f ∷ []) fs gs new.1)

pub new_after : (es fs gs : Entries) → AreNew es (fs ++ gs) → AreNew (es ++ fs) gs
new_after es [] gs new = subst (λ (t : Entries). AreNew t gs) (sym (append-nil es)) new
new_after es (f ∷ fs) gs new = subst (λ (t : Entries). AreNew t gs) (append_assoc es (f ∷ []) fs) (new_after (es ++ f ∷ []) fs gs new.1)

pub new_joined : (es fs gs : Entries) → AreNew es fs → AreNew (es ++ fs) gs → AreNew es (fs ++ gs)
new_joined es [] gs new more = subst (λ (t : Entries). AreNew t gs) (append-nil es) more
new_joined es (f ∷ fs) gs new more =
    (new.0, new_joined (es ++ f ∷ []) fs gs new.1 (subst (λ (t : Entries). AreNew t gs) (sym (append_assoc es (f ∷ []) fs)) more))

pub none_right : (key : KeyValue) (es fs : Entries) → entry_at key (es ++ fs) ≡ None → entry_at key fs ≡ None
none_right key es fs h = sym (at_right key es fs (none_left key es fs h)) ∙ h

-- new after all of them, so new after the last of them
pub new_right : (es fs more : Entries) → AreNew (es ++ fs) more → AreNew fs more
new_right es fs [] new = tt
new_right es fs (e ∷ more) new =
    (none_right e.0 es fs new.0, new_right es (fs ++ e ∷ []) more (subst (λ (t : Entries). AreNew t more) (append_assoc es fs (e ∷ [])) new.1))

-- entries that are new where nothing stands have keys that differ, and the other way round
pub distinct_new : (es : Entries) → IsDistinct key_eq (keys_of es) → AreNew [] es
distinct_new es d = new_of [] es (λ f i. refl) d

new_pushed : (es : Entries) (e : KeyValue × EntryValue) → IsDistinct key_eq (keys_of es) → entry_at e.0 es ≡ None → IsDistinct key_eq (keys_of (es ++ e ∷ []))
new_pushed es e d none =
    subst (IsDistinct key_eq) (sym (map-append (λ (f : KeyValue × EntryValue). f.0) es (e ∷ [])))
    (IsDistinct-push (decided key_eq (λ a b. (key_is a b, λ is. ap (key_eq a) (sym is) ∙ key_itself a))) (keys_of es) e.0 d (sym (is_some-lookup (key_eq e.0) es) ∙ ap is_some none))

new_added : (es more : Entries) → IsDistinct key_eq (keys_of es) → AreNew es more → IsDistinct key_eq (keys_of (es ++ more))
new_added es [] d new = subst (λ (t : Entries). IsDistinct key_eq (keys_of t)) (sym (append-nil es)) d
new_added es (e ∷ more) d new =
    subst (λ (t : Entries). IsDistinct key_eq (keys_of t)) (append_assoc es (e ∷ []) more) (new_added (es ++ e ∷ []) more (new_pushed es e d new.0) new.1)

pub new_distinct : (es : Entries) → AreNew [] es → IsDistinct key_eq (keys_of es)
unfolding IsDistinct
new_distinct es new = new_added [] es tt new

-- ---- which entry stands at a place

pub place_left : (es fs : Entries) (i : ℕ) → i < length es → slice_get (es ++ fs) i ≡ slice_get es i
place_left [] fs i h = absurd (omega (arith, h))
place_left (e ∷ es) fs zero h = refl
place_left (e ∷ es) fs (suc i) h = place_left es fs i (omega (arith, h))

pub place_right : (es fs : Entries) (i j : ℕ) → i ≡ length es + j → slice_get (es ++ fs) i ≡ slice_get fs j
place_right [] fs i j h =
    let same : i ≡ j = omega (arith, h) in
    ap (slice_get fs) same
place_right (e ∷ es) fs zero j h = absurd (omega (arith, h))
place_right (e ∷ es) fs (suc i) j h = place_right es fs i j (omega (arith, h))

-- ---- layers

module _ {A : Type 0} (f : A → Entries) where
  -- the entries of the layers from one on
  pub from_here : (layers : List A) (i : ℕ) (layer : A) → i < length layers → layer ≡ slice_index_or layers i layer →
      joined (map f (drop i layers)) ≡ f layer ++ joined (map f (drop (i + 1) layers))
  from_here layers i layer h is =
      let all : drop i layers ≡ layer ∷ drop (i + 1) layers = rw (add-one, drop-cons layers i layer h, ← is) refl in
      ap (λ xs. joined (map f xs)) all

  -- one layer more
  pub layer_more : (layers : List A) (layer : A) → joined (map f (layers ++ layer ∷ [])) ≡ joined (map f layers) ++ f layer
  layer_more [] layer = append-nil (f layer)
  layer_more (l ∷ layers) layer =
      ap (λ (t : Entries). f l ++ t) (layer_more layers layer) ∙ sym (append_assoc (f l) (joined (map f layers)) (f layer))

  module _ (key : KeyValue) (self : Entries) (layers : List A) (i : ℕ) (layer : A) (within : i < length layers) (is : layer ≡ slice_index_or layers i layer)
      (at : entry_at key self ≡ entry_at key (joined (map f (drop i layers)))) where
    at_here : entry_at key self ≡ entry_at key (f layer ++ joined (map f (drop (i + 1) layers)))
    at_here = at ∙ ap (entry_at key) (from_here layers i layer within is)

    -- what stands under the key in this layer
    pub found_here : (v : EntryValue) → Some v ≡ entry_at key (f layer) → Some v ≡ entry_at key self
    found_here v found = sym (at_here ∙ at_left key (f layer) (joined (map f (drop (i + 1) layers))) v (sym found))

    -- where nothing does, it is what stands in the layers after it
    pub at_later : None ≡ entry_at key (f layer) → entry_at key self ≡ entry_at key (joined (map f (drop (i + 1) layers)))
    at_later none = at_here ∙ at_right key (f layer) (joined (map f (drop (i + 1) layers))) (sym none)

  module _ (self : Entries) (place rest : ℕ) (layers : List A) (i : ℕ) (layer : A) (within : i < length layers) (is : layer ≡ slice_index_or layers i layer)
      (at : slice_get self place ≡ slice_get (joined (map f (drop i layers))) rest) where
    place_here : slice_get self place ≡ slice_get (f layer ++ joined (map f (drop (i + 1) layers))) rest
    place_here = at ∙ ap (λ (t : Entries). slice_get t rest) (from_here layers i layer within is)

    -- the entry at a place of this layer
    pub entry_here : rest < length (f layer) → slice_get self place ≡ slice_get (f layer) rest
    entry_here h = place_here ∙ place_left (f layer) (joined (map f (drop (i + 1) layers))) rest h

    -- or of the layers after it
    pub entry_later : (n : ℕ) → n ≡ length (f layer) → n ≤ rest → slice_get self place ≡ slice_get (joined (map f (drop (i + 1) layers))) (rest - n)
    entry_later n len h = place_here ∙ place_right (f layer) (joined (map f (drop (i + 1) layers))) rest (rest - n) (omega (arith, h, len))

  pub places_later : (rest n : ℕ) (layers : List A) (i : ℕ) (layer : A) → i < length layers → layer ≡ slice_index_or layers i layer → n ≡ length (f layer) →
      rest < length (joined (map f (drop i layers))) → n ≤ rest → rest - n < length (joined (map f (drop (i + 1) layers)))
  places_later rest n layers i layer within is len few h =
      let all : length (joined (map f (drop i layers))) ≡ length (f layer) + length (joined (map f (drop (i + 1) layers))) =
      ap length (from_here layers i layer within is) ∙ length-append (f layer) (joined (map f (drop (i + 1) layers))) in
      omega (arith, few, h, len, all)

  -- the last two layers after the others
  pub last_two : (layers more rest : List A) (before last : A) → layers ≡ more ++ last ∷ [] → more ≡ rest ++ before ∷ [] →
      joined (map f layers) ≡ (joined (map f rest) ++ f before) ++ f last
  last_two layers more rest before last is was =
      ap (λ xs. joined (map f xs)) is ∙ layer_more more last ∙ ap (λ xs. joined (map f xs) ++ f last) was ∙ ap (λ (t : Entries). t ++ f last) (layer_more rest before)

  -- a copy of one more
  pub copied_more : (copied layers : List A) (i : ℕ) (layer copy : A) → i < length layers → layer ≡ slice_index_or layers i layer → f copy ≡ f layer →
      map f copied ≡ take i (map f layers) → map f (copied ++ copy ∷ []) ≡ take (i + 1) (map f layers)
  copied_more copied layers i layer copy within is same done =
      map-append f copied (copy ∷ [])
      ∙ ap (λ (xs : List Entries). xs ++ f copy ∷ []) (done ∙ take-map f i layers)
      ∙ ap (λ (e : Entries). map f (take i layers) ++ e ∷ []) (same ∙ ap f is)
      ∙ sym (map-append f (take i layers) (slice_index_or layers i layer ∷ []))
      ∙ ap (map f) (sym (take_more layers i layer within))
      ∙ sym (take-map f (i + 1) layers)

  -- a layer pushed, where `self` is what stood
  pub layer_pushed : (layers room new : List A) (layer : A) (self es : Entries) → joined (map f layers) ≡ self → room ≡ layers → new ≡ room ++ layer ∷ [] → f layer ≡ es →
      joined (map f new) ≡ self ++ es
  layer_pushed layers room new layer self es view is n same =
      ap (λ xs. joined (map f xs)) n
      ∙ layer_more room layer
      ∙ ap (λ xs. joined (map f xs) ++ f layer) is
      ∙ ap (λ (t : Entries). t ++ f layer) view
      ∙ ap (λ (t : Entries). self ++ t) same

  module _ (layers more rest : List A) (before last : A) (is : layers ≡ more ++ last ∷ []) (was : more ≡ rest ++ before ∷ []) where
    -- the entries of the last layer are new after those of the one before it
    pub last_new : AreNew [] (joined (map f layers)) → AreNew (f before) (f last)
    last_new new = new_right (joined (map f rest)) (f before) (f last)
        (new_after [] (joined (map f rest) ++ f before) (f last) (subst (AreNew []) (last_two layers more rest before last is was) new))

    -- one layer in the place of the last two
    pub last_joined : (new : List A) (both : A) → new ≡ rest ++ both ∷ [] → f both ≡ f before ++ f last → joined (map f new) ≡ joined (map f layers)
    last_joined new both n same =
        ap (λ xs. joined (map f xs)) n
        ∙ layer_more rest both
        ∙ ap (λ (t : Entries). joined (map f rest) ++ t) same
        ∙ sym (append_assoc (joined (map f rest)) (f before) (f last))
        ∙ sym (last_two layers more rest before last is was)
