-- Searches in a table of rows.
use Rattle.std.proofs.Common.{◌≡◌, Bool, List, [], ◌∷◌, map, refl, not}
use Rattle.std.proofs.lemmas.List.{length-map}
use Rattle.std.specs.List.{position, prefix_len}

prefix_of_map : {X Y : Type 0} (p : Y → Bool) (f : X → Y) (xs : List X) → prefix_len p (map f xs) ≡ prefix_len (λ x. p (f x)) xs
prefix_of_map p f [] = refl
prefix_of_map p f (x ∷ xs) = rw (prefix_of_map p f xs)

pub position_of_map : {X Y : Type 0} (p : Y → Bool) (f : X → Y) (xs : List X) → position p (map f xs) ≡ position (λ x. p (f x)) xs
position_of_map p f xs = rw (prefix_of_map (λ y. not (p y)) f xs, length-map xs f)
