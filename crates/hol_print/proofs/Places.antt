-- The shown names, which the code keeps the innermost last.
use Rattle.std.proofs.Common.{◌≡◌, ℕ, ◌-◌, ◌<◌, ◌≤◌, List, length, get_or, Some, None, sym, ap, ◌∙◌, arith}
use Rattle.std.specs.Prelude.{reverse, slice_get}
use Rattle.std.proofs.lemmas.List.{get_or-reverse, length-reverse}
use Rattle.std.proofs.lemmas.Option.{slice_get-get_or, slice_get_past}

pub inner : (names : List (List ℕ)) (i n : ℕ) (name : List ℕ) → i < length names → n ≡ length names → name ≡ get_or names (n - 1 - i) name → slice_get (reverse names) i ≡ Some name
inner names i n name h l e =
    let within : i < length (reverse names) = omega (arith, length-reverse names) in
    slice_get-get_or (reverse names) i name within ∙ ap Some (get_or-reverse names i name h ∙ ap (λ n. get_or names (n - 1 - i) name) (sym l) ∙ sym e)

pub none_inner : (names : List (List ℕ)) (i : ℕ) → length names ≤ i → slice_get (reverse names) i ≡ None
none_inner names i h = slice_get_past (reverse names) i (omega (arith, length-reverse names))
