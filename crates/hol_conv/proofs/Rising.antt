-- After a turn: which term above is now a redex.
use Rattle.std.proofs.Common.{◌≡◌, ℕ, zero, suc, ◌+◌, ◌≤◌, List, [], ◌∷◌, ◌++◌, reverse, refl, ap, sym, ◌∙◌, subst, true, false, not, ◌&&◌, Option, Some, None, arith}
use Rattle.std.specs.Prelude.{pred, IfSome}
use Rattle.std.specs.Option.{option_map}
use Rattle.std.proofs.lemmas.Bool.{and_parts, not-true}
use Rattle.hol_types.specs.Fun.{fun_type}
use Rattle.hol_terms.specs.Named.{Named, named_type}
use Rattle.hol_terms.specs.Nameless.{Nameless, free, bound, fixed, app, lam, nameless, nameless_type}
use Rattle.hol_terms.proofs.Typing.{type_outside}
use Rattle.hol_match.specs.Outlines.{AreAlike, is_abstraction}
use Rattle.hol_match.proofs.PassedOver.{is_compound, alike_refl, passed_over_alike, passed_over_stays}
use Rattle.hol_match.specs.SetView.{set_rules}
use Rattle.hol_match.proofs.Under.{type_close}
use Rattle.hol_conv.specs.declared.redexes.Redexes.{Redexes}
use Rattle.hol_conv.specs.declared.redexes.Redexes.TheVariants.{Beta, Rules}
use Rattle.hol_conv.specs.declared.frame.Step.{Step}
use Rattle.hol_conv.specs.declared.frame.Step.TheVariants.{Function, Argument, Body}
use Rattle.hol_conv.specs.declared.frame.Frame.{Frame}
use Rattle.hol_conv.specs.Redexes.{contraction, is_applied_abstraction, passes_over, depth}
use Rattle.hol_conv.specs.Places.{around, whole, FitsIn, NoneLeft, AreWalked, NoneAbove, ArePassedOver, AreMarked, is_marked, Stands, Lands, Took}
use Rattle.hol_conv.proofs.Places.{innermost}
use Rattle.hol_conv.proofs.RedexLaws.{no_beta_redex}

-- ---- terms of one outline
alike_around : (s : Step) (k : ℕ) (n m : Nameless) → AreAlike k n m → AreAlike (suc k) (around s n) (around s m)
alike_around (Function x) k n m h = (m, nameless [] x, refl, h, alike_refl k (nameless [] x))
alike_around (Argument f) k n m h = (nameless [] f, m, refl, alike_refl k (nameless [] f), h)
alike_around (Body v) k n m h = refl

compound_around : (s : Step) (n : Nameless) → is_compound (around s n) ≡ true
compound_around (Function x) n = refl
compound_around (Argument f) n = refl
compound_around (Body v) n = refl

type_around : (s : Step) (n m : Nameless) → nameless_type [] n ≡ nameless_type [] m → nameless_type [] (around s n) ≡ nameless_type [] (around s m)
type_around (Function x) n m h = rw h refl
type_around (Argument f) n m h = rw h refl
type_around (Body v) n m h = ap (option_map (λ t. fun_type v.1 t)) (type_close v [] n ∙ h ∙ sym (type_close v [] m))

applied_alike : (k : ℕ) (t u : Nameless) → AreAlike (suc (suc k)) t u → is_applied_abstraction t ≡ is_applied_abstraction u
applied_alike k (free v) u h = ap is_applied_abstraction (sym h)
applied_alike k (bound i) u h = ap is_applied_abstraction (sym h)
applied_alike k (fixed c s) u h = ap is_applied_abstraction (sym h)
applied_alike k (app f x) u h = by f h.0 h.3 ∙ ap is_applied_abstraction (sym h.2)
  where
    by : (f g : Nameless) → AreAlike (suc k) f g → is_abstraction f ≡ is_abstraction g
    by (free v) g e = ap is_abstraction (sym e)
    by (bound i) g e = ap is_abstraction (sym e)
    by (fixed c s) g e = ap is_abstraction (sym e)
    by (app p q) g e = ap is_abstraction (sym e.2)
    by (lam a s b) g e = sym e
applied_alike k (lam a s b) u h = by u h
  where
    by : (u : Nameless) → is_abstraction u ≡ true → false ≡ is_applied_abstraction u
    by (free v) e = refl
    by (bound i) e = refl
    by (fixed c s) e = refl
    by (app f x) e = absurd (cc)
    by (lam a s b) e = refl

over_stays : (r : Redexes) (k : ℕ) (t u : Nameless) → depth r ≤ k → AreAlike k t u → passes_over r t ≡ passes_over r u
over_stays Beta zero t u l a = absurd (omega (arith, l))
over_stays Beta (suc zero) t u l a = absurd (omega (arith, l))
over_stays Beta (suc (suc k)) t u l a = ap not (applied_alike k t u a)
over_stays (Rules set) k t u l a = passed_over_alike (set_rules set.now.rules.items) k t u l a

redex_stays : (r : Redexes) (k : ℕ) (t u : Nameless) → depth r ≤ k → AreAlike k t u → is_compound t ≡ true → nameless_type [] t ≡ nameless_type [] u → passes_over r t ≡ true → contraction r [] t ≡ None → contraction r [] u ≡ None
redex_stays Beta k t u l a c same o h = no_beta_redex u (not-true (is_applied_abstraction u) (sym (over_stays Beta k t u l a) ∙ o))
redex_stays (Rules set) k t u l a c same o h = passed_over_stays set.now.rules.items k t u l a c same o h

module _ (r : Redexes) where
  -- ---- frames whose terms are all passed over
  none_still : (fs : List Frame) (k : ℕ) (n m : Nameless) → depth r ≤ suc k → AreAlike k n m → nameless_type [] n ≡ nameless_type [] m → ArePassedOver r fs n → NoneAbove r fs n → NoneAbove r fs m
  none_still [] k n m l a t o h = tt
  none_still (f ∷ fs) k n m l a t o h =
      let up : AreAlike (suc k) (around f.step n) (around f.step m) = alike_around f.step k n m a in
      let typed : nameless_type [] (around f.step n) ≡ nameless_type [] (around f.step m) = type_around f.step n m t in
      let more : depth r ≤ suc (suc k) = omega (arith, l) in (
        redex_stays r (suc k) (around f.step n) (around f.step m) l up (compound_around f.step n) typed o.0 h.0,
        none_still fs (suc k) (around f.step n) (around f.step m) more up typed o.1 h.1,
      )

  over_still : (fs : List Frame) (k : ℕ) (n m : Nameless) → depth r ≤ suc k → AreAlike k n m → ArePassedOver r fs n → ArePassedOver r fs m
  over_still [] k n m l a o = tt
  over_still (f ∷ fs) k n m l a o =
      let up : AreAlike (suc k) (around f.step n) (around f.step m) = alike_around f.step k n m a in
      let more : depth r ≤ suc (suc k) = omega (arith, l) in
      (sym (over_stays r (suc k) (around f.step n) (around f.step m) l up) ∙ o.0, over_still fs (suc k) (around f.step n) (around f.step m) more up o.1)

  all_marked : (fs : List Frame) (n : Nameless) → ArePassedOver r fs n → AreMarked r fs n
  all_marked [] n o = tt
  all_marked (f ∷ fs) n o = ((λ q. o), all_marked fs (around f.step n) o.1)

  marked_over : (fs : List Frame) (n : Nameless) → is_marked fs ≡ true → AreMarked r fs n → ArePassedOver r fs n
  marked_over [] n q h = tt
  marked_over (f ∷ fs) n q h = h.0 q

  -- ---- going up
  pub seen_all : (left : Option ℕ) (fs : List Frame) (n : Nameless) → left ≡ Some 0 → is_marked fs ≡ true → AreWalked r fs n → Took r left fs n → Lands r fs n fs n
  seen_all left fs n e q p h =
      let l : depth r ≤ suc h.levels = omega (arith, h.looked 0 e) in
      let over : ArePassedOver r fs h.before = marked_over fs h.before q h.stood.marked in
      record {
        stands = record {
          walked = p;
          above = none_still fs h.levels h.before n l h.alike h.typed over h.stood.above;
          marked = all_marked fs n (over_still fs h.levels h.before n l h.alike over);
        };
        same = refl;
      }

  pub at_the_top : (fs : List Frame) (n : Nameless) → fs ≡ [] → Lands r (reverse fs) n (reverse fs) n
  at_the_top fs n e = subst (λ z. Lands r (reverse z) n (reverse z) n) (sym e) (record { stands = record { walked = tt; above = tt; marked = tt }; same = refl })

  fewer_left : (left : Option ℕ) (levels : ℕ) → ((d : ℕ) → left ≡ Some d → depth r ≤ suc levels + d) → (d : ℕ) → option_map pred left ≡ Some d → depth r ≤ suc (suc levels) + d
  fewer_left None levels h d e = absurd (cc)
  fewer_left (Some zero) levels h d e = omega (arith, h 0 refl)
  fewer_left (Some (suc k)) levels h d e =
      let is : k ≡ d = cc in
      omega (arith, h (suc k) refl, is)

  pub walked_out : (fs gs : List Frame) (f : Frame) (n m : Nameless) → fs ≡ gs ++ f ∷ [] → m ≡ around f.step n → AreWalked r (reverse fs) n → AreWalked r (reverse gs) m
  walked_out fs gs f n m e k h =
      let all : AreWalked r (f ∷ reverse gs) n = subst (λ z. AreWalked r z n) (ap reverse e ∙ innermost gs f) h in
      subst (AreWalked r (reverse gs)) (sym k) all.2

  pub fits_out : (fs gs : List Frame) (f : Frame) (n : Nameless) → fs ≡ gs ++ f ∷ [] → AreWalked r (reverse fs) n → FitsIn f.step n
  fits_out fs gs f n e h =
      let all : AreWalked r (f ∷ reverse gs) n = subst (λ z. AreWalked r z n) (ap reverse e ∙ innermost gs f) h in
      all.0

  pub took_out : (left : Option ℕ) (fs gs : List Frame) (f : Frame) (n m : Nameless) → fs ≡ gs ++ f ∷ [] → m ≡ around f.step n → Took r left (reverse fs) n → Took r (option_map pred left) (reverse gs) m
  took_out left fs gs f n m e k h =
      let stood : Stands r (f ∷ reverse gs) h.before = subst (λ z. Stands r z h.before) (ap reverse e ∙ innermost gs f) h.stood in
      record {
        before = around f.step h.before;
        levels = suc h.levels;
        stood = record { walked = stood.walked.2; above = stood.above.1; marked = stood.marked.1 };
        typed = type_around f.step h.before n h.typed ∙ ap (nameless_type []) (sym k);
        alike = subst (AreAlike (suc h.levels) (around f.step h.before)) (sym k) (alike_around f.step h.levels h.before n h.alike);
        looked = fewer_left left h.levels h.looked;
      }

  whole_out : (fs gs : List Frame) (f : Frame) (n m : Nameless) → fs ≡ gs ++ f ∷ [] → m ≡ around f.step n → whole (reverse gs) m ≡ whole (reverse fs) n
  whole_out fs gs f n m e k = ap (whole (reverse gs)) k ∙ sym (ap (λ z. whole z n) (ap reverse e ∙ innermost gs f))

  pub lands_higher : (fs gs hs : List Frame) (f : Frame) (n m k : Nameless) → fs ≡ gs ++ f ∷ [] → m ≡ around f.step n → Lands r (reverse gs) m hs k → Lands r (reverse fs) n hs k
  lands_higher fs gs hs f n m k e d h = record { stands = h.stands; same = h.same ∙ whole_out fs gs f n m e d }

  pub lands_back : (fs gs hs ks : List Frame) (f g : Frame) (n m : Nameless) → fs ≡ gs ++ f ∷ [] → ks ≡ hs ++ g ∷ [] → m ≡ around f.step n → g.step ≡ f.step → g.is_passed_over ≡ (is_marked (reverse hs) && passes_over r m) → AreWalked r (reverse fs) n → contraction r [] m ≡ None → Lands r (reverse gs) m (reverse hs) m → Lands r (reverse fs) n (reverse ks) n
  lands_back fs gs hs ks f g n m e k d step over p none h = subst (λ z. Lands r (reverse fs) n z n) (sym (ap reverse k ∙ innermost hs g)) (record {
    stands = record {
      walked = (subst (λ z. FitsIn z n) (sym step) own.0, subst (NoneLeft r) (sym step) own.1, subst (AreWalked r (reverse hs)) at h.stands.walked);
      above = (ap (contraction r []) (sym at) ∙ none, subst (NoneAbove r (reverse hs)) at h.stands.above);
      marked = (marks, subst (AreMarked r (reverse hs)) at h.stands.marked);
    };
    same = ap (whole (reverse hs)) (sym at) ∙ h.same ∙ whole_out fs gs f n m e d;
  })
    where
      at : m ≡ around g.step n
      at = d ∙ ap (λ z. around z n) (sym step)

      own : AreWalked r (f ∷ reverse gs) n
      own = subst (λ z. AreWalked r z n) (ap reverse e ∙ innermost gs f) p

      marks : g.is_passed_over ≡ true → ArePassedOver r (g ∷ reverse hs) n
      marks q =
          let both = and_parts (is_marked (reverse hs)) (passes_over r m) (sym over ∙ q) in
          (ap (passes_over r) (sym at) ∙ both.1, subst (ArePassedOver r (reverse hs)) at (marked_over (reverse hs) m both.0 h.stands.marked))

  -- ---- a term takes the part's place
  fits_still : (s : Step) (n m : Nameless) → nameless_type [] n ≡ nameless_type [] m → FitsIn s n → FitsIn s m
  fits_still (Function x) n m t h = λ e. h (type_around (Function x) n m t ∙ e)
  fits_still (Argument f) n m t h = λ e. h (type_around (Argument f) n m t ∙ e)
  fits_still (Body v) n m t h = tt

  walked_still : (fs : List Frame) (n m : Nameless) → nameless_type [] n ≡ nameless_type [] m → AreWalked r fs n → AreWalked r fs m
  walked_still [] n m t h = tt
  walked_still (f ∷ fs) n m t h = (fits_still f.step n m t h.0, h.1, walked_still fs (around f.step n) (around f.step m) (type_around f.step n m t) h.2)

  typed_still : (t u : Named) → named_type u ≡ named_type t → nameless_type [] (nameless [] t) ≡ nameless_type [] (nameless [] u)
  typed_still t u e = type_outside t ∙ sym e ∙ sym (type_outside u)

  pub walked_put : (fs : List Frame) (t u : Named) → named_type u ≡ named_type t → Stands r fs (nameless [] t) → AreWalked r fs (nameless [] u)
  walked_put fs t u e h = walked_still fs (nameless [] t) (nameless [] u) (typed_still t u e) h.walked

  pub just_put : (fs : List Frame) (t u : Named) (levels : Option ℕ) → named_type u ≡ named_type t → Stands r fs (nameless [] t) → IfSome levels (λ d. d ≡ depth r) → Took r (option_map pred levels) fs (nameless [] u)
  just_put fs t u levels e h l = record { before = nameless [] t; levels = 0; stood = h; typed = typed_still t u e; alike = tt; looked = by levels l }
    where
      by : (levels : Option ℕ) → IfSome levels (λ d. d ≡ depth r) → (d : ℕ) → option_map pred levels ≡ Some d → depth r ≤ 1 + d
      by None h d q = absurd (cc)
      by (Some zero) h d q = omega (arith, h)
      by (Some (suc k)) h d q =
          let is : k ≡ d = cc in
          omega (arith, h, is)

pub ruleset putting = (walked_put, just_put)

pub ruleset rising = (seen_all, at_the_top, walked_out, fits_out, took_out, lands_higher, lands_back)
