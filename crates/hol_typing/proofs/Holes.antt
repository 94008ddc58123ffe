-- The order in which open slots occur.
use Rattle.std.proofs.Common.{◌≡◌, ℕ, ◌+◌, ◌<◌, ◌≤◌, List, [], ◌∷◌, ◌++◌, length, map, get_or, take, drop, refl, sym, ◌∙◌, ap, subst, Bool, true, false, ◌||◌, ◌==◌, cond}
use Rattle.std.specs.Global.{Vec}
use Rattle.std.proofs.lemmas.Bool.{eq-eqb, eqb-true}
use Rattle.std.proofs.lemmas.List.{take_all}
use Rattle.std.proofs.Math.Bool.{or-true, or-false}
use Rattle.hol_types.specs.Tree.{TypeTree, more_types, type_list}
use Rattle.hol_types.proofs.Steps.{next_of}
use Rattle.hol_typing.specs.Shape.{ShapeTree, shape_list, shape_holes, shapes_holes, fill, fills}
use Rattle.hol_typing.specs.Holes.{add_hole, add_holes, is_hole_among, AreHolesOf}

pub add_holes_append : (order xs ys : List ℕ) → add_holes order (xs ++ ys) ≡ add_holes (add_holes order xs) ys
add_holes_append order [] ys = refl
add_holes_append order (x ∷ xs) ys = add_holes_append (add_hole order x) xs ys

-- one turn of the loop over the parts
pub add_step : (order : List ℕ) (ss : List ShapeTree) (i : ℕ) (s : ShapeTree) → i < length ss → s ≡ get_or ss i s → add_holes order (shapes_holes (shape_list (drop i ss))) ≡ add_holes (add_holes order (shape_holes s)) (shapes_holes (shape_list (drop (i + 1) ss)))
add_step order ss i s h e = rw (next_of ss i s h e) (add_holes_append order (shape_holes s) (shapes_holes (shape_list (drop (i + 1) ss))))

fill_list : (at : ℕ → TypeTree) (ss : List ShapeTree) → type_list (map (fill at) ss) ≡ fills at (shape_list ss)
fill_list at [] = refl
fill_list at (s ∷ ss) = ap (more_types (fill at s)) (fill_list at ss)

-- where the loop over the parts is over
pub fill_all : (at : ℕ → TypeTree) (ss : List ShapeTree) (ts : List TypeTree) (i : ℕ) → ts ≡ map (fill at) (take i ss) → length ss ≤ i → type_list ts ≡ fills at (shape_list ss)
fill_all at ss ts i e h = ap type_list (e ∙ ap (map (fill at)) (take_all i ss h)) ∙ fill_list at ss

-- ---- open slots of parts of instances

-- one turn of a loop over open slots
pub hole_step : (order holes : List ℕ) (i k : ℕ) → i < length holes → k ≡ get_or holes i k → add_holes order (drop i holes) ≡ add_holes (add_hole order k) (drop (i + 1) holes)
hole_step order holes i k lt e = rw (next_of holes i k lt e) refl

among_last : (order : List ℕ) (j k : ℕ) → is_hole_among (order ++ j ∷ []) k ≡ (is_hole_among order k || (j == k))
among_last [] j k = or-false (j == k)
among_last (l ∷ order) j k = by (l == k) (among_last order j k)
  where
    by : (b : Bool) → is_hole_among (order ++ j ∷ []) k ≡ (is_hole_among order k || (j == k)) → (b || is_hole_among (order ++ j ∷ []) k) ≡ ((b || is_hole_among order k) || (j == k))
    by true r = refl
    by false r = r

among_kept : (order : List ℕ) (j k : ℕ) → is_hole_among order k ≡ true → is_hole_among (add_hole order j) k ≡ true
among_kept order j k h = by (is_hole_among order j)
  where
    by : (b : Bool) → is_hole_among (cond b order (order ++ j ∷ [])) k ≡ true
    by true = h
    by false = among_last order j k ∙ rw h refl

among_all : (order xs : List ℕ) (k : ℕ) → is_hole_among order k ≡ true → is_hole_among (add_holes order xs) k ≡ true
among_all order [] k h = h
among_all order (x ∷ xs) k h = among_all (add_hole order x) xs k (among_kept order x k h)

pub added_there : (order : List ℕ) (k : ℕ) → is_hole_among (add_hole order k) k ≡ true
added_there order k = by (is_hole_among order k) refl
  where
    by : (b : Bool) → is_hole_among order k ≡ b → is_hole_among (cond b order (order ++ k ∷ [])) k ≡ true
    by true e = e
    by false e = among_last order k k ∙ rw (eq-eqb k k refl) (or-true (is_hole_among order k))

among_added : (order xs : List ℕ) (k : ℕ) → is_hole_among xs k ≡ true → is_hole_among (add_holes order xs) k ≡ true
among_added order [] k h = absurd (cc)
among_added order (x ∷ xs) k h = by (x == k) refl h (λ m. among_added (add_hole order x) xs k m)
  where
    by : (b : Bool) → (x == k) ≡ b → (b || is_hole_among xs k) ≡ true → (is_hole_among xs k ≡ true → is_hole_among (add_holes (add_hole order x) xs) k ≡ true) → is_hole_among (add_holes (add_hole order x) xs) k ≡ true
    by true e m r = among_all (add_hole order x) xs k (subst (λ (n : ℕ). is_hole_among (add_hole order x) n ≡ true) (eqb-true x k e) (added_there order x))
    by false e m r = r m

add_one : (order acc : List ℕ) (x : ℕ) → add_holes order (add_hole acc x) ≡ add_hole (add_holes order acc) x
add_one order acc x = by (is_hole_among acc x) refl
  where
    by : (b : Bool) → is_hole_among acc x ≡ b → add_holes order (cond b acc (acc ++ x ∷ [])) ≡ add_hole (add_holes order acc) x
    by true e = sym (rw (among_added order acc x e) refl)
    by false e = add_holes_append order acc (x ∷ [])

-- a list in which each stands once adds the same
pub add_added : (order acc xs : List ℕ) → add_holes order (add_holes acc xs) ≡ add_holes (add_holes order acc) xs
add_added order acc [] = refl
add_added order acc (x ∷ xs) = add_added order (add_hole acc x) xs ∙ ap (λ (o : List ℕ). add_holes o xs) (add_one order acc x)

pub holes_of_push : (bound : List (Vec ℕ × List ℕ)) (shapes : List (ShapeTree × List ℕ)) (q : Vec ℕ × List ℕ) (p : ShapeTree × List ℕ) → AreHolesOf bound shapes → q.0.items ≡ add_holes [] (shape_holes p.0) → q.1 ≡ p.1 → AreHolesOf (bound ++ q ∷ []) (shapes ++ p ∷ [])
holes_of_push [] [] q p all h e = (h, e, tt)
holes_of_push [] (s ∷ shapes) q p all h e = absurd all
holes_of_push (b ∷ bound) [] q p all h e = absurd all
holes_of_push (b ∷ bound) (s ∷ shapes) q p all h e = (all.0, all.1, holes_of_push bound shapes q p all.2 h e)
