-- Names gone through from the front.
use Rattle.std.proofs.Common.{◌≡◌, ◌∙◌, ℕ, suc, ◌<◌, ◌+◌, Bool, true, false, ◌||◌, List, [], ◌∷◌, ◌++◌, map, take, drop, length, get_or, bytes_eq, ap, sym, refl, drop-cons, arith}
use Rattle.std.proofs.lemmas.Bool.{or_parts}
use Rattle.std.proofs.lemmas.List.{get_or-map, map_more, take-append-drop, take-map, length-map}
use Rattle.std.proofs.lemmas.Slice.Eq.{bytes_eq-Decides}
use Rattle.std.proofs.lemmas.Map.Keys.{IsDistinct-head, IsDistinct-tail, IsDistinct-cons}
use Rattle.std.specs.List.{IsDistinct, Contains, list_any}
use Rattle.hol_just.proofs.Validity.{all_both}
use Rattle.hol_registry.specs.Table.{IsMetAgain}

pub none_yet : IsDistinct bytes_eq []
unfolding IsDistinct
none_yet = tt

module _ {X : Type 0} (name : X → List ℕ) where
  -- the name stands where the test finds it
  is_among : (xs : List X) (n : List ℕ) → list_any (λ x. bytes_eq (name x) n) xs ≡ true → Contains (map name xs) n
  is_among [] n h = absurd (cc)
  is_among (x ∷ xs) n h = by (bytes_eq (name x) n) refl h (λ later. is_among xs n later) where
    by : (b : Bool) → bytes_eq (name x) n ≡ b → b || list_any (λ y. bytes_eq (name y) n) xs ≡ true → (list_any (λ y. bytes_eq (name y) n) xs ≡ true → Contains (map name xs) n) → Contains (name x ∷ map name xs) n
    by true is found later = (0, omega arith, (bytes_eq-Decides (name x) n).0 is)
    by false is found later = let r = later found in (suc r.0, omega arith, r.2)

  -- a name that none of them has goes to the end
  differs_more : (xs : List X) (n : List ℕ) → IsDistinct bytes_eq (map name xs) → list_any (λ x. bytes_eq (name x) n) xs ≡ false → IsDistinct bytes_eq (map name xs ++ n ∷ [])
  differs_more [] n d h = IsDistinct-cons bytes_eq n [] tt d
  differs_more (x ∷ xs) n d h =
      let parts = or_parts (bytes_eq (name x) n) (list_any (λ y. bytes_eq (name y) n) xs) h in
      let others = all_both (λ m. bytes_eq (name x) m ≡ false) (map name xs) (n ∷ []) (IsDistinct-head bytes_eq (name x) (map name xs) d) (parts.0, tt) in
      IsDistinct-cons bytes_eq (name x) (map name xs ++ n ∷ []) others (differs_more xs n (IsDistinct-tail bytes_eq (name x) (map name xs) d) parts.1)

  -- at a step of the loop
  pub one_more : (xs : List X) (i : ℕ) (d : X) (n : List ℕ) → i < length xs → n ≡ name (get_or xs i d) → IsDistinct bytes_eq (map name (take i xs)) → list_any (λ x. bytes_eq (name x) n) (take i xs) ≡ false → IsDistinct bytes_eq (map name (take (i + 1) xs))
  one_more xs i d n within is apart h = rw (map_more name xs i d within, sym is) (differs_more (take i xs) n apart h)

  -- where the loop stops
  pub met_again : (xs : List X) (i : ℕ) (d : X) (n : List ℕ) → i < length xs → n ≡ name (get_or xs i d) → IsDistinct bytes_eq (map name (take i xs)) → list_any (λ x. bytes_eq (name x) n) (take i xs) ≡ true → IsMetAgain (map name xs) (get_or (map name xs) i [])
  met_again xs i d n within is apart h =
      let all = map name xs in
      let this : get_or all i [] ≡ n = get_or-map name xs i d [] within ∙ sym is in
      let short : i < length all = rw (length-map xs name) within in
      record {
        before = take i all;
        after = drop (suc i) all;
        stands = sym (take-append-drop i all) ∙ ap (λ rest. take i all ++ rest) (drop-cons all i [] short);
        differ = rw (take-map name i xs) apart;
        again = rw (take-map name i xs, this) (is_among (take i xs) n h);
      }
