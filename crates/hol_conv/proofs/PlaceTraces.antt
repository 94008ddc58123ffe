-- What traces that are kept around a part say of the whole term.
use Rattle.std.proofs.Common.{◌≡◌, ℕ, suc, ◌+◌, ◌<◌, ◌==◌, List, [], ◌∷◌, ◌++◌, map, length, reverse, refl, ap, sym, ◌∙◌, subst, Bool, true, false, cond, Some, None, arith}
use Rattle.std.proofs.lemmas.Bool.Decides.{Decides-eqb}
use Rattle.std.proofs.lemmas.List.{length-map, length-reverse, reverse-append}
use Rattle.hol_types.specs.Tree.{TypeTree}
use Rattle.hol_terms.specs.Named.{Named, comb, abs}
use Rattle.hol_terms.specs.Nameless.{Nameless, app, nameless}
use Rattle.hol_kernel.specs.Given.{Given}
use Rattle.hol_match.specs.SetView.{AreGivenIn}
use Rattle.hol_subst.specs.Closing.{bind}
use Rattle.hol_subst.proofs.Closing.{nameless_abs}
use Rattle.hol_conv.specs.declared.frame.Frame.{Frame}
use Rattle.hol_conv.specs.declared.frame.Step.{Step}
use Rattle.hol_conv.specs.declared.frame.Step.TheVariants.{Function, Argument, Body}
use Rattle.hol_conv.specs.declared.kept.Kept.{Kept}
use Rattle.hol_conv.specs.declared.place.Place.{Place}
use Rattle.hol_conv.specs.declared.redexes.Redexes.{Redexes}
use Rattle.hol_conv.specs.declared.trace_node.TraceNode.{TraceNode}
use Rattle.hol_conv.specs.declared.trace_node.TraceNode.TheVariants.{Same}
use Rattle.hol_conv.specs.Kept.{node_of, is_kept, kept_at, kept_outside, AreAbove, IsPut, steps_of, outward, NoneLeftOf, Leaves, Became, LeadsOut, own_depth, Led, HasLed, LeadsOn}
use Rattle.hol_conv.specs.Places.{around, NoneLeft, AreWalked, StepsIn}
use Rattle.hol_conv.specs.Traces.{used, traced}
use Rattle.hol_conv.specs.Tracing.{IsParts, IsBody, IsAfter, Traces, redex_givens}
use Rattle.hol_conv.proofs.Places.{innermost}
use Rattle.hol_conv.proofs.Traces.{given_both, parts_give, body_gives, opened_again, after_nothing}
use Rattle.hol_conv.proofs.Tracing.{outside_used, after_traces}

-- ---- what is kept at one depth
none_kept : (d : ℕ) (k : Kept) → k.depth < d → (k.depth == d) ≡ false
none_kept d k h = by (k.depth == d) refl
  where
    by : (b : Bool) → (k.depth == d) ≡ b → (k.depth == d) ≡ false
    by true e = absurd (let same : k.depth ≡ d = (Decides-eqb k.depth d).0 e in omega (arith, same, h))
    by false e = e

nothing_at : (d : ℕ) (ks : List Kept) → AreAbove d ks → kept_at d ks ≡ Same
nothing_at d [] h = refl
nothing_at d (k ∷ ks) h = ap (λ b. cond b k.node.value Same) (none_kept d k h)

all_outside : (d : ℕ) (ks : List Kept) → AreAbove d ks → kept_outside d ks ≡ ks
all_outside d [] h = refl
all_outside d (k ∷ ks) h = ap (λ b. cond b ks (k ∷ ks)) (none_kept d k h)

above_more : (d : ℕ) (ks : List Kept) → AreAbove d ks → AreAbove (suc d) ks
above_more d [] h = tt
above_more d (k ∷ ks) h = omega (arith, h)

pub nothing_put : (d : ℕ) (ks ls : List Kept) → ls ≡ ks → IsPut d Same ks ls
nothing_put d ks ls e = subst (IsPut d Same ks) (sym e) (record { at = nothing_at d ks; outside = all_outside d ks; above = above_more d ks })

pub one_put : (d : ℕ) (k : Kept) (a : TraceNode) (ks ls : List Kept) → ls ≡ k ∷ ks → k.depth ≡ d → k.node.value ≡ a → IsPut d a ks ls
one_put d k a ks ls e f g = subst (IsPut d a ks) (sym e) (record {
  at = λ h. ap (λ b. cond b k.node.value Same) here ∙ g;
  outside = λ h. ap (λ b. cond b ks (k ∷ ks)) here;
  above = λ h. omega (arith, f);
})
  where
    here : (k.depth == d) ≡ true
    here = (Decides-eqb k.depth d).1 f

pub kept_here : (d : ℕ) (k : Kept) (ks ls : List Kept) → ls ≡ k ∷ ks → is_kept d ls ≡ true → (k.node.value ≡ kept_at d ls) × (ks ≡ kept_outside d ls)
kept_here d k ks ls e h =
    let here : (k.depth == d) ≡ true = ap (is_kept d) (sym e) ∙ h in (
      sym (ap (kept_at d) e ∙ ap (λ b. cond b k.node.value Same) here),
      sym (ap (kept_outside d) e ∙ ap (λ b. cond b ks (k ∷ ks)) here),
    )

pub kept_nowhere : (d : ℕ) (ks : List Kept) → is_kept d ks ≡ false → (Same ≡ kept_at d ks) × (ks ≡ kept_outside d ks)
kept_nowhere d [] h = (refl, refl)
kept_nowhere d (k ∷ ks) h = (sym (ap (λ b. cond b k.node.value Same) h), sym (ap (λ b. cond b ks (k ∷ ks)) h))

-- ---- one step out
same_term : (all : List Given) (t u : Nameless) → Traces all Same t u → t ≡ u
same_term all t u h = let e : Some t ≡ Some u = h.gives in cc

pub unchanged_out : (s : Step) (e a n : TraceNode) → e ≡ Same → a ≡ Same → n ≡ Same → LeadsOut s e a n
unchanged_out s e a n p q k r u m l h = subst (λ z. Traces (redex_givens r) z u (around s m)) (sym k) (by s (subst (λ z. Became r s Same z u m) q (subst (λ z. Became r s z a u m) p h)))
  where
    at : (w : Nameless) → u ≡ w → Traces (redex_givens r) Same u w
    at w i = record { gives = ap (λ z. Some z) i; given = tt }

    by : (s : Step) → Became r s Same Same u m → Traces (redex_givens r) Same u (around s m)
    by (Function x) g = at (app m (nameless [] x)) (g.1 ∙ ap (λ z. app z (nameless [] x)) (same_term (redex_givens r) g.0 m g.2))
    by (Argument f) g = at (app (nameless [] f) m) (g.2 ∙ (λ i. app (same_term (redex_givens r) g.0 (nameless [] f) g.3 i) (same_term (redex_givens r) g.1 m g.4 i)))
    by (Body v) g = at (bind v m) (g.1 ∙ ap (bind v) (same_term (redex_givens r) g.0 m g.2))

pub function_out : (s : Step) (x : Named) (e a p c n : TraceNode) → s ≡ Function x → p ≡ a → c ≡ Same → IsParts p c n → LeadsOut s e a n
function_out s x e a p c n k part same h r u m l b = subst (λ z. Traces (redex_givens r) n u (around z m)) (sym k) (by (subst (λ z. Became r z e p u m) k (subst (λ z. Became r s e z u m) (sym part) b)))
  where
    by : Became r (Function x) e p u m → Traces (redex_givens r) n u (app m (nameless [] x))
    by g = record {
      gives = ap (traced n) g.1 ∙ h.gives (app g.0 (nameless [] x)) ∙ parts_give (traced p) (traced c) g.0 (nameless [] x) m (nameless [] x) g.2.gives (ap (λ z. traced z (nameless [] x)) same);
      given = subst (AreGivenIn (redex_givens r)) (sym h.given) (given_both (redex_givens r) (used p) (used c) g.2.given (subst (λ z. AreGivenIn (redex_givens r) (used z)) (sym same) tt));
    }

pub argument_out : (s : Step) (f : Named) (e a q p n : TraceNode) → s ≡ Argument f → q ≡ e → p ≡ a → IsParts q p n → LeadsOut s e a n
argument_out s f e a q p n k function part h r u m l b = subst (λ z. Traces (redex_givens r) n u (around z m)) (sym k) (by (subst (λ z. Became r z q p u m) k (subst (λ z. Became r s z p u m) (sym function) (subst (λ z. Became r s e z u m) (sym part) b))))
  where
    by : Became r (Argument f) q p u m → Traces (redex_givens r) n u (app (nameless [] f) m)
    by g = record {
      gives = ap (traced n) g.2 ∙ h.gives (app g.0 g.1) ∙ parts_give (traced q) (traced p) g.0 g.1 (nameless [] f) m g.3.gives g.4.gives;
      given = subst (AreGivenIn (redex_givens r)) (sym h.given) (given_both (redex_givens r) (used q) (used p) g.3.given g.4.given);
    }

pub body_out : (s : Step) (v : List ℕ × TypeTree) (e a p n : TraceNode) → s ≡ Body v → p ≡ a → IsBody v p n → LeadsOut s e a n
body_out s v e a p n k part h r u m l b = subst (λ z. Traces (redex_givens r) n u (around z m)) (sym k) (by (subst (λ z. Became r z e p u m) k (subst (λ z. Became r s e z u m) (sym part) b)))
  where
    by : Became r (Body v) e p u m → Traces (redex_givens r) n u (bind v m)
    by g = record {
      gives = ap (traced n) g.1 ∙ h.gives (bind v g.0) ∙ body_gives v (used p) (traced p) (bind v g.0) g.0 m (outside_used r v p (subst (NoneLeft r) k l) g.2.given) (opened_again v g.0) g.2.gives;
      given = subst (AreGivenIn (redex_givens r)) (sym h.given) g.2.given;
    }

pub ruleset one_out = (function_out, argument_out)

-- ---- all that is kept
nothing_traced : (all : List Given) (n : Nameless) → Traces all Same n n
nothing_traced all n = record { gives = refl; given = tt }

became_more : (r : Redexes) (s : Step) (e a b c : TraceNode) (u n m : Nameless) → IsAfter a b c → Traces (redex_givens r) b n m → Became r s e a u n → Became r s e c u m
became_more r (Function x) e a b c u n m h k g = (g.0, g.1, after_traces (redex_givens r) a b c g.0 n m h g.2 k)
became_more r (Argument f) e a b c u n m h k g = (g.0, g.1, g.2, g.3, after_traces (redex_givens r) a b c g.1 n m h g.4 k)
became_more r (Body v) e a b c u n m h k g = (g.0, g.1, after_traces (redex_givens r) a b c g.0 n m h g.2 k)

pub led_more : (r : Redexes) (ss : List Step) (bs es : List Kept) (a b c : TraceNode) (t n m : Nameless) → IsAfter a b c → Traces (redex_givens r) b n m → Led r ss bs es a t n → Led r ss bs es c t m
led_more r [] bs es a b c t n m h k l = (l.0, l.1, after_traces (redex_givens r) a b c t n m h l.2 k)
led_more r (s ∷ ss) bs es a b c t n m h k l = (l.0, l.1, became_more r s (kept_at (length ss) es) a b c l.0 n m h k l.2, l.3, l.4)

none_above : (d : ℕ) (ks : List Kept) → ks ≡ [] → AreAbove d ks
none_above d ks e = subst (AreAbove d) (sym e) tt

own_above : (s : Step) (d : ℕ) (ks : List Kept) → AreAbove (own_depth s d) ks → AreAbove (suc d) ks
own_above (Function x) d ks h = above_more d ks h
own_above (Argument f) d ks h = h
own_above (Body v) d ks h = above_more d ks h

led_above : (r : Redexes) (ss : List Step) (bs es : List Kept) (a : TraceNode) (t n : Nameless) → Led r ss bs es a t n → AreAbove (length ss) bs × AreAbove (length ss) es
led_above r [] bs es a t n l = (none_above 0 bs l.0, none_above 0 es l.1)
led_above r (s ∷ ss) bs es a t n l = (l.3, own_above s (length ss) es l.4)

pub led_first : (r : Redexes) (t : Nameless) (bs es : List Kept) (a : TraceNode) → bs ≡ [] → es ≡ [] → a ≡ Same → Led r [] bs es a t t
led_first r t bs es a p q k = (p, q, subst (λ z. Traces (redex_givens r) z t t) (sym k) (nothing_traced (redex_givens r) t))

-- into a part
became_first : (r : Redexes) (s : Step) (e a : TraceNode) (m : Nameless) → e ≡ Same → a ≡ Same → Became r s e a (around s m) m
became_first r s e a m p q = subst (λ z. Became r s z a (around s m) m) (sym p) (subst (λ z. Became r s Same z (around s m) m) (sym q) (by s))
  where
    by : (s : Step) → Became r s Same Same (around s m) m
    by (Function x) = (m, refl, nothing_traced (redex_givens r) m)
    by (Argument f) = (nameless [] f, m, refl, nothing_traced (redex_givens r) (nameless [] f), nothing_traced (redex_givens r) m)
    by (Body v) = (m, refl, nothing_traced (redex_givens r) m)

own_depth_above : (s : Step) (d : ℕ) (ks : List Kept) → AreAbove d ks → AreAbove (own_depth s d) ks
own_depth_above (Function x) d ks h = h
own_depth_above (Argument f) d ks h = above_more d ks h
own_depth_above (Body v) d ks h = h

pub led_in : (r : Redexes) (s : Step) (ss : List Step) (bs cs es : List Kept) (a b : TraceNode) (t n m : Nameless) → IsPut (length ss) a bs cs → b ≡ Same → around s m ≡ n → Led r ss bs es a t n → Led r (s ∷ ss) cs es b t m
led_in r s ss bs cs es a b t n m put same at l =
    let above = led_above r ss bs es a t n l in
    let outer : Led r ss (kept_outside (length ss) cs) (kept_outside (length ss) es) (kept_at (length ss) cs) t n =
    subst (λ z. Led r ss z (kept_outside (length ss) es) (kept_at (length ss) cs) t n) (sym (put.outside above.0))
    (subst (λ z. Led r ss bs z (kept_at (length ss) cs) t n) (sym (all_outside (length ss) es above.1))
    (subst (λ z. Led r ss bs es z t n) (sym (put.at above.0)) l)) in
    let became : Became r s (kept_at (length ss) es) b n m = subst (λ z. Became r s (kept_at (length ss) es) b z m) at (became_first r s (kept_at (length ss) es) b m (nothing_at (length ss) es above.1) same) in
    (n, outer, became, put.above above.0, own_depth_above s (length ss) es above.1)

-- out of it
pub led_out : (r : Redexes) (s : Step) (ss : List Step) (bs es cs fs : List Kept) (a e b w c : TraceNode) (t n : Nameless)
    → e ≡ kept_at (length ss) es → b ≡ kept_at (length ss) bs → cs ≡ kept_outside (length ss) bs → fs ≡ kept_outside (length ss) es → LeadsOut s e a w → IsAfter b w c → NoneLeft r s → Led r (s ∷ ss) bs es a t n → Led r ss cs fs c t (around s n)
led_out r s ss bs es cs fs a e b w c t n p q k f one after none l =
    let became : Became r s e a l.0 n = subst (λ z. Became r s z a l.0 n) (sym p) l.2 in
    let turned : Traces (redex_givens r) w l.0 (around s n) = one r l.0 n none became in
    let outer : Led r ss cs fs b t l.0 = subst (λ z. Led r ss z fs b t l.0) (sym k) (subst (λ z. Led r ss (kept_outside (length ss) bs) z b t l.0) (sym f) (subst (λ z. Led r ss (kept_outside (length ss) bs) (kept_outside (length ss) es) z t l.0) (sym q) l.1)) in
    led_more r ss cs fs b w c t l.0 (around s n) after turned outer

-- on to the argument
pub led_on : (r : Redexes) (x q : Named) (ss : List Step) (bs es fs : List Kept) (a b : TraceNode) (t n : Nameless) → IsPut (length ss) a es fs → b ≡ Same → nameless [] q ≡ n → Led r (Function x ∷ ss) bs es a t n → Led r (Argument q ∷ ss) bs fs b t (nameless [] x)
led_on r x q ss bs es fs a b t n put same at l =
    let outer : Led r ss (kept_outside (length ss) bs) (kept_outside (length ss) fs) (kept_at (length ss) bs) t l.0 =
    subst (λ z. Led r ss (kept_outside (length ss) bs) z (kept_at (length ss) bs) t l.0) (all_outside (length ss) es l.4 ∙ sym (put.outside l.4)) l.1 in
    let function : Traces (redex_givens r) (kept_at (length ss) fs) l.2.0 (nameless [] q) = subst (λ z. Traces (redex_givens r) z l.2.0 (nameless [] q)) (sym (put.at l.4)) (subst (λ z. Traces (redex_givens r) a l.2.0 z) (sym at) l.2.2) in
    let part : Traces (redex_givens r) b (nameless [] x) (nameless [] x) = subst (λ z. Traces (redex_givens r) z (nameless [] x) (nameless [] x)) (sym same) (nothing_traced (redex_givens r) (nameless [] x)) in
    (l.0, outer, (l.2.0, nameless [] x, l.2.1, function, part), l.3, put.above l.4)

pub on_by : (r : Redexes) (s : Step) (x : Named) (ss : List Step) (bs es fs : List Kept) (a b : TraceNode) (t n : Nameless) → s ≡ Function x → IsPut (length ss) a es fs → b ≡ Same → Led r (s ∷ ss) bs es a t n → LeadsOn r s ss bs fs b t n
on_by r s x ss bs es fs a b t n k put same l = subst (λ z. LeadsOn r z ss bs fs b t n) (sym k) (λ q at. led_on r x q ss bs es fs a b t n put same at (subst (λ z. Led r (z ∷ ss) bs es a t n) k l))

pub out_by : (r : Redexes) (s : Step) (ss : List Step) (bs es : List Kept) (a : TraceNode) (t n : Nameless) → ((x : Named) → s ≡ Function x → ⊥) → Led r ss bs es a t (around s n) → LeadsOn r s ss bs es a t n
out_by r (Function x) ss bs es a t n other l = absurd (other x refl)
out_by r (Argument f) ss bs es a t n other l = l
out_by r (Body v) ss bs es a t n other l = l

-- where nothing was traced
led_past : (r : Redexes) (s : Step) (ss : List Step) (bs es : List Kept) (a : TraceNode) (t n : Nameless) → a ≡ Same → is_kept (length ss) es ≡ false → is_kept (length ss) bs ≡ false → NoneLeft r s → Led r (s ∷ ss) bs es a t n → Led r ss bs es a t (around s n)
led_past r s ss bs es a t n same p q none l =
    let e = kept_nowhere (length ss) es p in
    let b = kept_nowhere (length ss) bs q in
    led_out r s ss bs es bs es a Same Same Same a t n e.0 b.0 b.1 e.1 (unchanged_out s Same a Same refl same refl) (after_nothing Same Same a refl same) none l

pub led_untraced : (r : Redexes) (s : Step) (ss : List Step) (bs es : List Kept) (a : TraceNode) (t n : Nameless) → a ≡ Same → is_kept (length ss) es ≡ false → is_kept (length ss) bs ≡ false → NoneLeft r s → Led r (s ∷ ss) bs es a t n → LeadsOn r s ss bs es a t n
led_untraced r (Function x) ss bs es a t n same p q none l = λ f at. led_on r x f ss bs es es a a t n (subst (λ z. IsPut (length ss) z es es) (sym same) (nothing_put (length ss) es es refl)) same at l
led_untraced r (Argument f) ss bs es a t n same p q none l = led_past r (Argument f) ss bs es a t n same p q none l
led_untraced r (Body v) ss bs es a t n same p q none l = led_past r (Body v) ss bs es a t n same p q none l

-- ---- the steps of frames
pub innermost_step : (fs gs : List Frame) (f : Frame) → fs ≡ gs ++ f ∷ [] → steps_of (reverse fs) ≡ f.step ∷ steps_of (reverse gs)
innermost_step fs gs f e = ap (λ z. steps_of z) (ap reverse e ∙ innermost gs f)

pub so_many_steps : (fs : List Frame) → length (steps_of (reverse fs)) ≡ length fs
so_many_steps fs = simp (length-map, length-reverse)

pub none_left_of : (r : Redexes) (fs : List Frame) (n : Nameless) (left rest : List Step) → AreWalked r fs n → steps_of fs ≡ left ++ rest → NoneLeftOf r left
none_left_of r fs n [] rest h e = tt
none_left_of r [] n (s ∷ left) rest h e = absurd (cc)
none_left_of r (f ∷ fs) n (s ∷ left) rest h e =
    let first : f.step ≡ s = cc in
    let others : steps_of fs ≡ left ++ rest = cc in
    (subst (NoneLeft r) first h.1, none_left_of r fs (around f.step n) left rest h.2 others)

-- ---- places
pub put_last : (d : ℕ) (k : Kept) (a : TraceNode) (xs ys : List Kept) → ys ≡ xs ++ k ∷ [] → k.depth ≡ d → k.node.value ≡ a → IsPut d a (reverse xs) (reverse ys)
put_last d k a xs ys e f g = one_put d k a (reverse xs) (reverse ys) (ap reverse e ∙ reverse-append xs (k ∷ [])) f g

pub put_none : (d : ℕ) (a : TraceNode) (xs ys : List Kept) → a ≡ Same → ys ≡ xs → IsPut d a (reverse xs) (reverse ys)
put_none d a xs ys e f = subst (λ z. IsPut d z (reverse xs) (reverse ys)) (sym e) (nothing_put d (reverse xs) (reverse ys) (ap reverse f))

pub took_last : (d : ℕ) (k : Kept) (xs ys : List Kept) → xs ≡ ys ++ k ∷ [] → is_kept d (reverse xs) ≡ true → (k.node.value ≡ kept_at d (reverse xs)) × (reverse ys ≡ kept_outside d (reverse xs))
took_last d k xs ys e h = kept_here d k (reverse ys) (reverse xs) (ap reverse e ∙ reverse-append ys (k ∷ [])) h

pub led_at : (r : Redexes) (ss rs : List Step) (bs cs es fs : List Kept) (a b : TraceNode) (t n m : Nameless) → ss ≡ rs → bs ≡ cs → es ≡ fs → a ≡ b → n ≡ m → Led r ss bs es a t n → Led r rs cs fs b t m
led_at r ss rs bs cs es fs a b t n m p q k h i l =
    subst (λ z. Led r z cs fs b t m) p (subst (λ z. Led r ss z fs b t m) q (subst (λ z. Led r ss bs z b t m) k (subst (λ z. Led r ss bs es z t m) h (subst (λ z. Led r ss bs es a t z) i l))))

pub led_of : (r : Redexes) (t : Named) (p : Place) → p.frames.items ≡ [] → p.part ≡ t → p.node ≡ None → p.before.items ≡ [] → p.functions.items ≡ [] → HasLed r (nameless [] t) p
led_of r t p e k a b f =
    led_at r [] (steps_of (reverse p.frames.items)) [] (reverse p.before.items) [] (reverse p.functions.items) Same (node_of p.node) (nameless [] t) (nameless [] t) (nameless [] p.part)
    (sym (ap (λ z. steps_of (reverse z)) e)) (sym (ap reverse b)) (sym (ap reverse f)) (sym (ap node_of a)) (sym (ap (nameless []) k))
    (led_first r (nameless [] t) [] [] Same refl refl refl)

pub led_whole : (r : Redexes) (t : Nameless) (p : Place) → p.frames.items ≡ [] → HasLed r t p → Traces (redex_givens r) (node_of p.node) t (nameless [] p.part)
led_whole r t p e l =
    let at : Led r [] (reverse p.before.items) (reverse p.functions.items) (node_of p.node) t (nameless [] p.part) = subst (λ z. Led r z (reverse p.before.items) (reverse p.functions.items) (node_of p.node) t (nameless [] p.part)) (ap (λ z. steps_of (reverse z)) e) l in
    at.2

led_enters : (r : Redexes) (t : Nameless) (p q : Place) (s : Step) → StepsIn s p.frames.items q.frames.items → q.node ≡ None → IsPut (length p.frames.items) (node_of p.node) (reverse p.before.items) (reverse q.before.items) → q.functions.items ≡ p.functions.items → around s (nameless [] q.part) ≡ nameless [] p.part → HasLed r t p → HasLed r t q
led_enters r t p q s entered none put same at l =
    let ss = steps_of (reverse p.frames.items) in
    let steps : steps_of (reverse q.frames.items) ≡ s ∷ ss = innermost_step q.frames.items p.frames.items entered.frame entered.pushed ∙ ap (λ z. z ∷ ss) entered.how in
    let there : IsPut (length ss) (node_of p.node) (reverse p.before.items) (reverse q.before.items) = subst (λ d. IsPut d (node_of p.node) (reverse p.before.items) (reverse q.before.items)) (sym (so_many_steps p.frames.items)) put in
    led_at r (s ∷ ss) (steps_of (reverse q.frames.items)) (reverse q.before.items) (reverse q.before.items) (reverse p.functions.items) (reverse q.functions.items) (node_of q.node) (node_of q.node) t (nameless [] q.part) (nameless [] q.part)
    (sym steps) refl (sym (ap reverse same)) refl refl
    (led_in r s ss (reverse p.before.items) (reverse q.before.items) (reverse p.functions.items) (node_of p.node) (node_of q.node) t (nameless [] p.part) (nameless [] q.part) there (ap node_of none) at l)

pub led_into_function : (r : Redexes) (p q : Place) (f x : Named) → StepsIn (Function x) p.frames.items q.frames.items → q.part ≡ f → q.node ≡ None → IsPut (length p.frames.items) (node_of p.node) (reverse p.before.items) (reverse q.before.items) → q.functions.items ≡ p.functions.items → p.part ≡ comb f x → (t : Nameless) → HasLed r t p → HasLed r t q
led_into_function r p q f x entered part none put same is t l = led_enters r t p q (Function x) entered none put same (ap (λ z. app (nameless [] z) (nameless [] x)) part ∙ sym (ap (nameless []) is)) l

pub led_into_body : (r : Redexes) (p q : Place) (v w : List ℕ × TypeTree) (b c : Named) → StepsIn (Body w) p.frames.items q.frames.items → q.part ≡ c → q.node ≡ None → IsPut (length p.frames.items) (node_of p.node) (reverse p.before.items) (reverse q.before.items) → q.functions.items ≡ p.functions.items → p.part ≡ abs v b → nameless [] (abs w c) ≡ nameless [] (abs v b) → (t : Nameless) → HasLed r t p → HasLed r t q
led_into_body r p q v w b c entered part none put same is opened t l = led_enters r t p q (Body w) entered none put same (ap (λ z. bind w (nameless [] z)) part ∙ sym (nameless_abs w c) ∙ opened ∙ sym (ap (nameless []) is)) l

pub led_right : (r : Redexes) (s : Step) (ss : List Step) (bs es : List Kept) (a : TraceNode) (t : Nameless) (part x : Named) → s ≡ Function x → LeadsOn r s ss bs es a t (nameless [] part) → Led r (Argument part ∷ ss) bs es a t (nameless [] x)
led_right r s ss bs es a t part x k h =
    let on : LeadsOn r (Function x) ss bs es a t (nameless [] part) = subst (λ z. LeadsOn r z ss bs es a t (nameless [] part)) k h in
    on part refl

pub led_left : (r : Redexes) (s : Step) (ss : List Step) (bs es : List Kept) (a : TraceNode) (t n m : Nameless) → ((x : Named) → s ≡ Function x → ⊥) → m ≡ around s n → LeadsOn r s ss bs es a t n → Led r ss bs es a t m
led_left r s ss bs es a t n m other e h = subst (λ z. Led r ss bs es a t z) (sym e) (by s other h)
  where
    by : (s : Step) → ((x : Named) → s ≡ Function x → ⊥) → LeadsOn r s ss bs es a t n → Led r ss bs es a t (around s n)
    by (Function x) other h = absurd (other x refl)
    by (Argument f) other h = h
    by (Body v) other h = h

-- ---- steps that are left
pub leaves_none : (fs gs : List Frame) (n : Nameless) → fs ≡ gs → Leaves [] (steps_of (reverse fs)) (steps_of (reverse gs)) n n
leaves_none fs gs n e = record { split = ap (λ z. steps_of (reverse z)) e; out = refl }

pub leaves_one : (fs gs hs : List Frame) (f : Frame) (left : List Step) (n m : Nameless) → fs ≡ gs ++ f ∷ [] → m ≡ around f.step n → left ≡ f.step ∷ [] → Leaves [] (steps_of (reverse gs)) (steps_of (reverse hs)) m m → Leaves (reverse left) (steps_of (reverse fs)) (steps_of (reverse hs)) n m
leaves_one fs gs hs f left n m e k l h = subst (λ z. Leaves (reverse z) (steps_of (reverse fs)) (steps_of (reverse hs)) n m) (sym l) (record { split = innermost_step fs gs f e ∙ ap (λ z. f.step ∷ z) h.split; out = k })

pub leaves_more : (fs gs hs : List Frame) (f : Frame) (left more : List Step) (n m k : Nameless) → fs ≡ gs ++ f ∷ [] → m ≡ around f.step n → more ≡ left ++ f.step ∷ [] → Leaves (reverse left) (steps_of (reverse gs)) (steps_of (reverse hs)) m k → Leaves (reverse more) (steps_of (reverse fs)) (steps_of (reverse hs)) n k
leaves_more fs gs hs f left more n m k e d l h = subst (λ z. Leaves z (steps_of (reverse fs)) (steps_of (reverse hs)) n k) (sym (ap reverse l ∙ reverse-append left (f.step ∷ []))) (record {
  split = innermost_step fs gs f e ∙ ap (λ z. f.step ∷ z) h.split;
  out = h.out ∙ ap (outward (reverse left)) d;
})

pub leaves_back : (fs gs hs ks : List Frame) (f g : Frame) (n m : Nameless) → fs ≡ gs ++ f ∷ [] → ks ≡ hs ++ g ∷ [] → g.step ≡ f.step → Leaves [] (steps_of (reverse gs)) (steps_of (reverse hs)) m m → Leaves [] (steps_of (reverse fs)) (steps_of (reverse ks)) n n
leaves_back fs gs hs ks f g n m e k same h = record {
  split = innermost_step fs gs f e ∙ (λ i. sym same i ∷ h.split i) ∙ sym (innermost_step ks hs g k);
  out = refl;
}

pub ruleset leaving = (leaves_none, leaves_one, leaves_more)

-- ---- all steps that are left
pub record IsGoing (r : Redexes) (steps ss : List Step) (bs es : List Kept) (a : TraceNode) (t end : Nameless) : Type 0 where
  pub part : Nameless
  pub none : NoneLeftOf r steps
  pub led : Led r (steps ++ ss) bs es a t part
  pub same : outward steps part ≡ end

pub going_begins : (r : Redexes) (steps ss : List Step) (bs es : List Kept) (a : TraceNode) (t n : Nameless) → NoneLeftOf r steps → Led r (steps ++ ss) bs es a t n → IsGoing r steps ss bs es a t (outward steps n)
going_begins r steps ss bs es a t n h l = record { part = n; none = h; led = l; same = refl }

pub going_further : (r : Redexes) (before steps ss : List Step) (s : Step) (bs es cs ds : List Kept) (a b : TraceNode) (t end : Nameless) → before ≡ s ∷ steps
    → ((n : Nameless) → NoneLeft r s → Led r (s ∷ (steps ++ ss)) bs es a t n → Led r (steps ++ ss) cs ds b t (around s n)) → IsGoing r before ss bs es a t end → IsGoing r steps ss cs ds b t end
going_further r before steps ss s bs es cs ds a b t end e out g = by (subst (λ z. IsGoing r z ss bs es a t end) e g)
  where
    by : IsGoing r (s ∷ steps) ss bs es a t end → IsGoing r steps ss cs ds b t end
    by h = record { part = around s h.part; none = h.none.1; led = out h.part h.none.0 h.led; same = h.same }

pub going_ends : (r : Redexes) (steps ss : List Step) (bs es : List Kept) (a : TraceNode) (t end : Nameless) → steps ≡ [] → IsGoing r steps ss bs es a t end → Led r ss bs es a t end
going_ends r steps ss bs es a t end e g = by (subst (λ z. IsGoing r z ss bs es a t end) e g)
  where
    by : IsGoing r [] ss bs es a t end → Led r ss bs es a t end
    by h = subst (λ z. Led r ss bs es a t z) h.same h.led

-- ---- where the part is left
none_left_at : (r : Redexes) (fs gs : List Frame) (f : Frame) (n : Nameless) → fs ≡ gs ++ f ∷ [] → AreWalked r (reverse fs) n → NoneLeft r f.step
none_left_at r fs gs f n e h = at.1
  where
    at : AreWalked r (f ∷ reverse gs) n
    at = subst (λ z. AreWalked r z n) (ap reverse e ∙ innermost gs f) h

pub led_left_by : (r : Redexes) (fs gs : List Frame) (f : Frame) (t n m : Nameless) (bs es cs ds : List Kept) (a b : TraceNode) → fs ≡ gs ++ f ∷ [] → AreWalked r (reverse fs) n → ((x : Named) → f.step ≡ Function x → ⊥) → m ≡ around f.step n
    → (NoneLeft r f.step → Led r (f.step ∷ steps_of (reverse gs)) bs es a t n → LeadsOn r f.step (steps_of (reverse gs)) cs ds b t n) → Led r (steps_of (reverse fs)) bs es a t n → Led r (steps_of (reverse gs)) cs ds b t m
led_left_by r fs gs f t n m bs es cs ds a b e walked other at on l =
    led_left r f.step (steps_of (reverse gs)) cs ds b t n m other at (on (none_left_at r fs gs f n e walked) (subst (λ z. Led r z bs es a t n) (innermost_step fs gs f e) l))

pub led_right_by : (r : Redexes) (fs gs hs : List Frame) (f k : Frame) (t : Nameless) (part x : Named) (bs es cs ds : List Kept) (a b : TraceNode) → fs ≡ gs ++ f ∷ [] → hs ≡ gs ++ k ∷ [] → AreWalked r (reverse fs) (nameless [] part) → f.step ≡ Function x → k.step ≡ Argument part
    → (NoneLeft r f.step → Led r (f.step ∷ steps_of (reverse gs)) bs es a t (nameless [] part) → LeadsOn r f.step (steps_of (reverse gs)) cs ds b t (nameless [] part)) → Led r (steps_of (reverse fs)) bs es a t (nameless [] part) → Led r (steps_of (reverse hs)) cs ds b t (nameless [] x)
led_right_by r fs gs hs f k t part x bs es cs ds a b e d walked p q on l =
    let there : LeadsOn r f.step (steps_of (reverse gs)) cs ds b t (nameless [] part) = on (none_left_at r fs gs f (nameless [] part) e walked) (subst (λ z. Led r z bs es a t (nameless [] part)) (innermost_step fs gs f e) l) in
    let steps : steps_of (reverse hs) ≡ Argument part ∷ steps_of (reverse gs) = innermost_step hs gs k d ∙ ap (λ z. z ∷ steps_of (reverse gs)) q in
    subst (λ z. Led r z cs ds b t (nameless [] x)) (sym steps) (led_right r f.step (steps_of (reverse gs)) cs ds b t part x p there)

-- ---- after a turn
pub led_put : (r : Redexes) (fs gs : List Frame) (left : List Step) (bs es cs ds : List Kept) (a b c e : TraceNode) (t n m k : Nameless) → AreWalked r (reverse fs) m → IsAfter a b c → Traces (redex_givens r) b n m → Leaves left (steps_of (reverse fs)) (steps_of (reverse gs)) m k
    → ((NoneLeftOf r left → Led r (left ++ steps_of (reverse gs)) bs es c t m → Led r (steps_of (reverse gs)) cs ds e t (outward left m))) → Led r (steps_of (reverse fs)) bs es a t n → Led r (steps_of (reverse gs)) cs ds e t k
led_put r fs gs left bs es cs ds a b c e t n m k walked after turn leaves out l =
    let put : Led r (steps_of (reverse fs)) bs es c t m = led_more r (steps_of (reverse fs)) bs es a b c t n m after turn l in
    let none : NoneLeftOf r left = none_left_of r (reverse fs) m left (steps_of (reverse gs)) walked leaves.split in
    subst (λ z. Led r (steps_of (reverse gs)) cs ds e t z) (sym leaves.out) (out none (subst (λ z. Led r z bs es c t m) leaves.split put))
