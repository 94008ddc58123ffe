-- Places in a term: what stands around a part, and how the next redex is looked for.
use Rattle.std.proofs.Common.{◌≡◌, ℕ, ◌+◌, ◌<◌, ◌≤◌, List, [], ◌∷◌, ◌++◌, reverse, refl, ap, sym, ◌∙◌, subst, true, false, Option, Some, None, arith}
use Rattle.std.specs.Option.{option_map}
use Rattle.std.proofs.lemmas.List.{reverse-append}
use Rattle.std.proofs.lemmas.Bool.{false≢true}
use Rattle.hol_types.specs.Tree.{TypeTree}
use Rattle.hol_types.specs.Equal.{variable_eq}
use Rattle.hol_terms.specs.Named.{Named, var, constant, comb, abs, named_type, term_nodes}
use Rattle.hol_terms.specs.Nameless.{Nameless, free, bound, fixed, app, lam, nameless, nameless_type}
use Rattle.hol_terms.proofs.Same.{variable_eq_decides}
use Rattle.hol_terms.proofs.Typing.{type_outside}
use Rattle.hol_subst.specs.Closing.{close, bind}
use Rattle.hol_subst.proofs.Closing.{nameless_abs}
use Rattle.hol_conv.specs.declared.redexes.Redexes.{Redexes}
use Rattle.hol_conv.specs.declared.frame.Step.{Step}
use Rattle.hol_conv.specs.declared.frame.Step.TheVariants.{Function, Argument, Body}
use Rattle.hol_conv.specs.declared.frame.Frame.{Frame}
use Rattle.hol_conv.specs.Redexes.{contraction, IsOutside, passes_over}
use Rattle.hol_conv.specs.Turns.{turn}
use Rattle.hol_conv.specs.Places.{around, whole, FitsIn, NoneLeft, AreWalked, NoneAbove, ArePassedOver, AreMarked, Stands, Lands, StepsIn, waiting, right_of}
use Rattle.hol_conv.proofs.Outside.{commutes, turn_close}
use Rattle.hol_conv.proofs.Parts.{nodes_of_body}

-- ---- the term around a part
pub fits_function : (f x : Named) → (nameless_type [] (app (nameless [] f) (nameless [] x)) ≡ None → ⊥) → named_type (comb f x) ≡ None → ⊥
fits_function f x h n = h (type_outside (comb f x) ∙ n)

pub around_abstraction : (v : List ℕ × TypeTree) (b t : Named) → t ≡ abs v b → nameless [] t ≡ bind v (nameless [] b)
around_abstraction v b t e = ap (nameless []) e ∙ nameless_abs v b

pub around_application : (f x t : Named) → t ≡ comb f x → nameless [] t ≡ app (nameless [] f) (nameless [] x)
around_application f x t e = ap (nameless []) e

pub ruleset arounds = (fits_function, around_application, around_abstraction)

-- the very nodes
pub very_application : (f x g y t : Named) → t ≡ comb f x → f ≡ g → x ≡ y → t ≡ comb g y
very_application f x g y t e p q = e ∙ (λ i. comb (p i) (q i))

pub very_abstraction : (v w : List ℕ × TypeTree) (b c t : Named) → t ≡ abs w b → variable_eq w v ≡ true → b ≡ c → t ≡ abs v c
very_abstraction v w b c t e p q = e ∙ (λ i. abs ((variable_eq_decides w v).0 p i) (q i))

-- ---- the frames, the innermost first
pub innermost : (fs : List Frame) (f : Frame) → reverse (fs ++ f ∷ []) ≡ f ∷ reverse fs
innermost fs f = reverse-append fs (f ∷ [])

module _ (r : Redexes) where
  -- ---- turns
  pub turn_here : (n u : Nameless) → contraction r [] n ≡ Some u → turn (contraction r) [] n ≡ Some u
  turn_here (free v) u h = h
  turn_here (bound i) u h = h
  turn_here (fixed c s) u h = h
  turn_here (app f x) u h = rw h refl
  turn_here (lam a s b) u h = rw h refl

  bound_turn : (v : List ℕ × TypeTree) (n : Nameless) (o : Option Nameless) → IsOutside r v → turn (contraction r) [] n ≡ o → turn (contraction r) (v.1 ∷ []) (close v 0 n) ≡ option_map (close v 0) o
  bound_turn v n o out h = turn_close (contraction r) v (commutes r v out) [] n ∙ ap (option_map (close v 0)) h

  turn_around : (s : Step) (n u : Nameless) → NoneLeft r s → contraction r [] (around s n) ≡ None → turn (contraction r) [] n ≡ Some u → turn (contraction r) [] (around s n) ≡ Some (around s u)
  turn_around (Function x) n u p c h = rw (c, h) refl
  turn_around (Argument f) n u p c h = rw (c, p, h) refl
  turn_around (Body v) n u p c h = rw (c, bound_turn v n (Some u) p h) refl

  -- the turn in the part is that of the whole term
  pub whole_turn : (fs : List Frame) (n u : Nameless) → AreWalked r fs n → NoneAbove r fs n → turn (contraction r) [] n ≡ Some u → turn (contraction r) [] (whole fs n) ≡ Some (whole fs u)
  whole_turn [] n u p a h = h
  whole_turn (f ∷ fs) n u p a h = whole_turn fs (around f.step n) (around f.step u) p.2 a.1 (turn_around f.step n u p.1 a.0 h)

  -- nothing is in a term whose last part has no redex
  pub nothing_in_application : (f : Named) (n : Nameless) → turn (contraction r) [] (nameless [] f) ≡ None → contraction r [] (app (nameless [] f) n) ≡ None → turn (contraction r) [] n ≡ None → turn (contraction r) [] (app (nameless [] f) n) ≡ None
  nothing_in_application f n p c h = rw (c, p, h) refl

  pub nothing_in_abstraction : (v : List ℕ × TypeTree) (n : Nameless) → IsOutside r v → contraction r [] (bind v n) ≡ None → turn (contraction r) [] n ≡ None → turn (contraction r) [] (bind v n) ≡ None
  nothing_in_abstraction v n p c h = rw (c, bound_turn v n None p h) refl

  -- ---- stepping in
  stepped : (fs : List Frame) (f : Frame) (n m : Nameless) → around f.step m ≡ n → FitsIn f.step m → NoneLeft r f.step → f.is_passed_over ≡ false → contraction r [] n ≡ None → Stands r fs n → Lands r fs n (f ∷ fs) m
  stepped fs f n m e fit p over c s = record {
    stands = record {
      walked = (fit, p, subst (AreWalked r fs) (sym e) s.walked);
      above = (ap (contraction r []) e ∙ c, subst (NoneAbove r fs) (sym e) s.above);
      marked = ((λ k. absurd (false≢true (sym over ∙ k))), subst (AreMarked r fs) (sym e) s.marked);
    };
    same = ap (whole fs) e;
  }

  to_places : (fs gs : List Frame) (f : Frame) (n m : Nameless) → gs ≡ fs ++ f ∷ [] → Lands r (reverse fs) n (f ∷ reverse fs) m → Lands r (reverse fs) n (reverse gs) m
  to_places fs gs f n m e h = subst (λ z. Lands r (reverse fs) n z m) (sym (ap reverse e ∙ innermost fs f)) h

  pub in_function : (fs gs : List Frame) (f : Frame) (t g x : Named) (s : TypeTree) → gs ≡ fs ++ f ∷ [] → f.step ≡ Function x → f.is_passed_over ≡ false → t ≡ comb g x → named_type t ≡ Some s → contraction r [] (nameless [] t) ≡ None → Stands r (reverse fs) (nameless [] t) → Lands r (reverse fs) (nameless [] t) (reverse gs) (nameless [] g)
  in_function fs gs f t g x s e k over d ty c h =
      to_places fs gs f (nameless [] t) (nameless [] g) e
      (stepped (reverse fs) f (nameless [] t) (nameless [] g) at (subst (λ z. FitsIn z (nameless [] g)) (sym k) fits) (subst (NoneLeft r) (sym k) tt) over c h)
    where
      at : around f.step (nameless [] g) ≡ nameless [] t
      at = ap (λ z. around z (nameless [] g)) k ∙ ap (nameless []) (sym d)

      fits : nameless_type [] (app (nameless [] g) (nameless [] x)) ≡ None → ⊥
      fits n = let no : Some s ≡ None = sym ty ∙ sym (type_outside t) ∙ ap (λ z. nameless_type [] (nameless [] z)) d ∙ n in absurd (cc)

  pub in_body : (fs gs : List Frame) (f : Frame) (t b c : Named) (v w : List ℕ × TypeTree) → gs ≡ fs ++ f ∷ [] → f.step ≡ Body w → f.is_passed_over ≡ false → t ≡ abs v b → nameless [] (abs w c) ≡ nameless [] (abs v b) → IsOutside r w → contraction r [] (nameless [] t) ≡ None → Stands r (reverse fs) (nameless [] t) → Lands r (reverse fs) (nameless [] t) (reverse gs) (nameless [] c)
  in_body fs gs f t b c v w e k over d same out n h =
      to_places fs gs f (nameless [] t) (nameless [] c) e
      (stepped (reverse fs) f (nameless [] t) (nameless [] c) at (subst (λ z. FitsIn z (nameless [] c)) (sym k) tt) (subst (NoneLeft r) (sym k) out) over n h)
    where
      at : around f.step (nameless [] c) ≡ nameless [] t
      at = ap (λ z. around z (nameless [] c)) k ∙ sym (nameless_abs w c) ∙ same ∙ ap (nameless []) (sym d)

  pub no_turn_variable : (t : Named) (v : List ℕ × TypeTree) → t ≡ var v → contraction r [] (nameless [] t) ≡ None → turn (contraction r) [] (nameless [] t) ≡ None
  no_turn_variable t v e c = ap (λ z. turn (contraction r) [] (nameless [] z)) e ∙ sym (ap (λ z. contraction r [] (nameless [] z)) e) ∙ c

  pub no_turn_constant : (t : Named) (a : List ℕ) (s : TypeTree) → t ≡ constant a s → contraction r [] (nameless [] t) ≡ None → turn (contraction r) [] (nameless [] t) ≡ None
  no_turn_constant t a s e c = ap (λ z. turn (contraction r) [] (nameless [] z)) e ∙ sym (ap (λ z. contraction r [] (nameless [] z)) e) ∙ c

  -- ---- where nothing changes
  pub stays : (fs : List Frame) (n : Nameless) → Stands r fs n → Lands r fs n fs n
  stays fs n h = record { stands = h; same = refl }

  pub lands_again : (fs gs hs : List Frame) (n m k : Nameless) → Lands r fs n gs m → Lands r gs m hs k → Lands r fs n hs k
  lands_again fs gs hs n m k g h = record { stands = h.stands; same = h.same ∙ g.same }

  -- ---- stepping out
  out_of : (fs : List Frame) (f : Frame) (n : Nameless) → Stands r (f ∷ fs) n → Lands r (f ∷ fs) n fs (around f.step n)
  out_of fs f n h = record { stands = record { walked = h.walked.2; above = h.above.1; marked = h.marked.1 }; same = refl }

  from_places : (fs gs : List Frame) (f : Frame) (n : Nameless) → fs ≡ gs ++ f ∷ [] → Stands r (reverse fs) n → Stands r (f ∷ reverse gs) n
  from_places fs gs f n e h = subst (λ z. Stands r z n) (ap reverse e ∙ innermost gs f) h

  pub fits_innermost : (fs gs : List Frame) (f : Frame) (n : Nameless) → fs ≡ gs ++ f ∷ [] → Stands r (reverse fs) n → FitsIn f.step n
  fits_innermost fs gs f n e h = (from_places fs gs f n e h).walked.0

  pub stepped_out : (fs gs : List Frame) (f : Frame) (n m : Nameless) → fs ≡ gs ++ f ∷ [] → m ≡ around f.step n → Stands r (reverse fs) n → Lands r (reverse fs) n (reverse gs) m
  stepped_out fs gs f n m e k h =
      let out : Lands r (f ∷ reverse gs) n (reverse gs) (around f.step n) = out_of (reverse gs) f n (from_places fs gs f n e h) in
      let at : Lands r (reverse fs) n (reverse gs) (around f.step n) = subst (λ z. Lands r z n (reverse gs) (around f.step n)) (sym (ap reverse e ∙ innermost gs f)) out in
      subst (λ z. Lands r (reverse fs) n (reverse gs) z) (sym k) at

  -- a part without a redex that is no function is the last one of a term without a redex
  pub nothing_around : (fs gs : List Frame) (f : Frame) (n m : Nameless) → fs ≡ gs ++ f ∷ [] → m ≡ around f.step n → ((x : Named) → f.step ≡ Function x → ⊥) → Stands r (reverse fs) n → turn (contraction r) [] n ≡ None → turn (contraction r) [] m ≡ None
  nothing_around fs gs f n m e k other h none = ap (turn (contraction r) []) k ∙ by f.step other (from_places fs gs f n e h).walked.1 (from_places fs gs f n e h).above.0
    where
      by : (s : Step) → ((x : Named) → s ≡ Function x → ⊥) → NoneLeft r s → contraction r [] (around s n) ≡ None → turn (contraction r) [] (around s n) ≡ None
      by (Function x) other p c = absurd (other x refl)
      by (Argument g) other p c = nothing_in_application g n p c none
      by (Body v) other p c = nothing_in_abstraction v n p c none

  -- on to the argument
  moved : (fs : List Frame) (f k : Frame) (n m : Nameless) → around k.step m ≡ around f.step n → FitsIn k.step m → NoneLeft r k.step → k.is_passed_over ≡ f.is_passed_over → Stands r (f ∷ fs) n → Lands r (f ∷ fs) n (k ∷ fs) m
  moved fs f k n m e fit p over s = record {
    stands = record {
      walked = (fit, p, subst (AreWalked r fs) (sym e) s.walked.2);
      above = (ap (contraction r []) e ∙ s.above.0, subst (NoneAbove r fs) (sym e) s.above.1);
      marked = ((λ q. (ap (passes_over r) e ∙ (s.marked.0 (sym over ∙ q)).0, subst (ArePassedOver r fs) (sym e) (s.marked.0 (sym over ∙ q)).1)), subst (AreMarked r fs) (sym e) s.marked.1);
    };
    same = ap (whole fs) e;
  }

  pub on_to_argument : (fs gs hs : List Frame) (f k : Frame) (t x : Named) → fs ≡ gs ++ f ∷ [] → hs ≡ gs ++ k ∷ [] → f.step ≡ Function x → k.step ≡ Argument t → k.is_passed_over ≡ f.is_passed_over → Stands r (reverse fs) (nameless [] t) → turn (contraction r) [] (nameless [] t) ≡ None → Lands r (reverse fs) (nameless [] t) (reverse hs) (nameless [] x)
  on_to_argument fs gs hs f k t x d e p q over h none =
      let stood : Stands r (f ∷ reverse gs) (nameless [] t) = from_places fs gs f (nameless [] t) d h in
      let fit : FitsIn (Function x) (nameless [] t) = subst (λ z. FitsIn z (nameless [] t)) p stood.walked.0 in
      let at : around k.step (nameless [] x) ≡ around f.step (nameless [] t) = ap (λ z. around z (nameless [] x)) q ∙ sym (ap (λ z. around z (nameless [] t)) p) in
      let there : Lands r (f ∷ reverse gs) (nameless [] t) (k ∷ reverse gs) (nameless [] x) = moved (reverse gs) f k (nameless [] t) (nameless [] x) at (subst (λ z. FitsIn z (nameless [] x)) (sym q) fit) (subst (NoneLeft r) (sym q) none) over stood in
      subst (λ z. Lands r z (nameless [] t) (reverse hs) (nameless [] x)) (sym (ap reverse d ∙ innermost gs f))
      (subst (λ z. Lands r (f ∷ reverse gs) (nameless [] t) z (nameless [] x)) (sym (ap reverse e ∙ innermost gs k)) there)

  -- ---- what the next redex is for the whole term
  pub next_turn : (fs gs : List Frame) (n m u : Nameless) → Lands r fs n gs m → contraction r [] m ≡ Some u → turn (contraction r) [] (whole fs n) ≡ Some (whole gs u)
  next_turn fs gs n m u h c = ap (turn (contraction r) []) (sym h.same) ∙ whole_turn gs m u h.stands.walked h.stands.above (turn_here m u c)

  pub no_next_turn : (fs gs : List Frame) (n m : Nameless) → Lands r fs n (reverse gs) m → gs ≡ [] → turn (contraction r) [] m ≡ None → (turn (contraction r) [] (whole fs n) ≡ None) × (whole fs n ≡ m)
  no_next_turn fs gs n m h e none =
      let same : whole fs n ≡ m = sym h.same ∙ ap (λ z. whole (reverse z) m) e in
      (ap (turn (contraction r) []) same ∙ none, same)

-- ---- counts
some_nodes : (t : Named) → 1 ≤ term_nodes t
some_nodes (var v) = omega arith
some_nodes (constant c s) = omega arith
some_nodes (comb f x) = omega arith
some_nodes (abs v b) = omega arith

waiting_innermost : (fs gs : List Frame) (f : Frame) → gs ≡ fs ++ f ∷ [] → waiting (reverse gs) ≡ right_of f.step + waiting (reverse fs)
waiting_innermost fs gs f e = ap waiting (ap reverse e ∙ innermost fs f)

pub less_in_function : (fs gs : List Frame) (f : Frame) (t g x : Named) → gs ≡ fs ++ f ∷ [] → f.step ≡ Function x → t ≡ comb g x → waiting (reverse gs) + term_nodes g < waiting (reverse fs) + term_nodes t
less_in_function fs gs f t g x e k d =
    let right : right_of f.step ≡ term_nodes x = ap right_of k in
    let whole : term_nodes t ≡ 1 + term_nodes g + term_nodes x = ap term_nodes d in
    omega (arith, waiting_innermost fs gs f e, right, whole)

pub less_in_body : (fs gs : List Frame) (f : Frame) (t b c : Named) (v w : List ℕ × TypeTree) → gs ≡ fs ++ f ∷ [] → f.step ≡ Body w → t ≡ abs v b → nameless [] (abs w c) ≡ nameless [] (abs v b) → waiting (reverse gs) + term_nodes c < waiting (reverse fs) + term_nodes t
less_in_body fs gs f t b c v w e k d same =
    let right : right_of f.step ≡ 0 = ap right_of k in
    let whole : term_nodes t ≡ 1 + term_nodes b = ap term_nodes d in
    omega (arith, waiting_innermost fs gs f e, right, whole, nodes_of_body v w b c same)

pub as_many_wait : (fs gs : List Frame) (f : Frame) → fs ≡ gs ++ f ∷ [] → ((x : Named) → f.step ≡ Function x → ⊥) → waiting (reverse gs) ≡ waiting (reverse fs)
as_many_wait fs gs f e other =
    let none : right_of f.step ≡ 0 = by f.step other in
    omega (arith, waiting_innermost gs fs f e, none)
  where
    by : (s : Step) → ((x : Named) → s ≡ Function x → ⊥) → right_of s ≡ 0
    by (Function x) other = absurd (other x refl)
    by (Argument g) other = refl
    by (Body v) other = refl

-- out of a term whose last part has no redex
pub goes_out : (r : Redexes) (os fs gs : List Frame) (f : Frame) (o n m : Nameless) → fs ≡ gs ++ f ∷ [] → m ≡ around f.step n → ((x : Named) → f.step ≡ Function x → ⊥) → Lands r os o (reverse fs) n → turn (contraction r) [] n ≡ None → Lands r os o (reverse gs) m × (turn (contraction r) [] m ≡ None) × (waiting (reverse gs) ≡ waiting (reverse fs))
goes_out r os fs gs f o n m is at other lands none = (
  lands_again r os (reverse fs) (reverse gs) o n m lands (stepped_out r fs gs f n m is at lands.stands),
  nothing_around r fs gs f n m is at other lands.stands none,
  as_many_wait fs gs f is other,
)

pub less_in_argument : (fs gs hs : List Frame) (f k : Frame) (t x : Named) (w : ℕ) → fs ≡ gs ++ f ∷ [] → hs ≡ gs ++ k ∷ [] → f.step ≡ Function x → k.step ≡ Argument t → waiting (reverse fs) ≡ w → (o : Named) → waiting (reverse hs) + term_nodes x < w + term_nodes o
less_in_argument fs gs hs f k t x w d e p q h o =
    let right : right_of f.step ≡ term_nodes x = ap right_of p in
    let none : right_of k.step ≡ 0 = ap right_of q in
    omega (arith, waiting_innermost gs fs f d, waiting_innermost gs hs k e, right, none, h, some_nodes o)

pub steps_in : (s : Step) (fs gs : List Frame) (f : Frame) → gs ≡ fs ++ f ∷ [] → f.step ≡ s → f.is_passed_over ≡ false → StepsIn s fs gs
steps_in s fs gs f e k over = record { frame = f; pushed = e; how = k; unseen = over }

pub ruleset stepping = (steps_in)

pub not_function : (s : Step) (f : Named) → s ≡ Argument f → (x : Named) → s ≡ Function x → ⊥
not_function s f e x k = let no : Argument f ≡ Function x = sym e ∙ k in absurd (cc)

pub not_function_body : (s : Step) (v : List ℕ × TypeTree) → s ≡ Body v → (x : Named) → s ≡ Function x → ⊥
not_function_body s v e x k = let no : Body v ≡ Function x = sym e ∙ k in absurd (cc)

-- the term around
pub around_argument : (s : Step) (g t u : Named) → s ≡ Argument g → u ≡ comb g t → nameless [] u ≡ around s (nameless [] t)
around_argument s g t u k d = ap (nameless []) d ∙ sym (ap (λ z. around z (nameless [] t)) k)

pub around_body : (s : Step) (v : List ℕ × TypeTree) (t u : Named) → s ≡ Body v → u ≡ abs v t → nameless [] u ≡ around s (nameless [] t)
around_body s v t u k d = around_abstraction v t u d ∙ sym (ap (λ z. around z (nameless [] t)) k)

-- the part fits there
pub fits_argument : (s : Step) (g t : Named) → s ≡ Argument g → FitsIn s (nameless [] t) → named_type (comb g t) ≡ None → ⊥
fits_argument s g t k h = fits_function g t (subst (λ z. FitsIn z (nameless [] t)) k h)

pub ruleset leaving = (fits_innermost, fits_argument, on_to_argument, less_in_argument, stepped_out, nothing_around, as_many_wait, lands_again, stays)

pub ruleset going = (lands_again, stays)

pub ruleset entering = (in_function, in_body, no_turn_variable, no_turn_constant, stays, less_in_function, less_in_body)
