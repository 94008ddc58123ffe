-- What becomes of the names of bound variables in a substitution.
use Rattle.std.proofs.Common.{◌≡◌, ℕ, List, [], ◌∷◌, refl, ap, sym, ◌∙◌, subst, Bool, true, false, cond, not, ◌&&◌, ◌||◌, arith}
use Rattle.std.proofs.lemmas.Bool.{or_left, or_right, or_parts, and_parts, not-true}
use Rattle.hol_types.specs.Tree.{TypeTree}
use Rattle.hol_types.specs.Equal.{variable_eq}
use Rattle.hol_terms.specs.Named.{Named, var, constant, comb, abs}
use Rattle.hol_terms.specs.Scoped.{occurs_in}
use Rattle.hol_terms.proofs.Primes.{fewest_other}
use Rattle.hol_terms.proofs.Same.{variable_eq_decides}
use Rattle.hol_subst.specs.Substituted.{Captures, IsBinder, put, IsSubstituted}
use Rattle.hol_subst.specs.Capture.{given_or, given, has_pair, Fit, comes_in, is_taken, IsRenaming, IsRest}
use Rattle.hol_subst.proofs.Closing.{eq_same, eq_flip}

abbrev Var : Type 0
Var = List ℕ × TypeTree

abbrev Pairs : Type 0
Pairs = List (Named × (List ℕ × TypeTree))

-- ---- functions that give the same for each free variable give the same term
pub captures_agree : (f h : List ℕ × TypeTree → Named) (v : List ℕ × TypeTree) (b : Named) (u : List ℕ × TypeTree) → ((w : List ℕ × TypeTree) → occurs_in w b ≡ true → variable_eq v w ≡ false → f w ≡ h w) → Captures f v b u → Captures h v b u
captures_agree f h v b u e c = record {
  other = c.other;
  in_body = c.in_body;
  differs = c.differs;
  comes = ap (occurs_in u) (sym (e c.other c.in_body c.differs)) ∙ c.comes;
}

binder_agree : (f h : Var → Named) (v : Var) (s : TypeTree) (b : Named) (u : Var) → ((w : Var) → occurs_in w b ≡ true → variable_eq v w ≡ false → f w ≡ h w) → IsBinder f v s b u → IsBinder h v s b u
binder_agree f h v s b u e i = record {
  type_is = i.type_is;
  name = fewest_other (λ a. Captures f v b (a, s)) (λ a. Captures h v b (a, s)) v.0 u.0
      (λ a c. captures_agree f h v b (a, s) e c)
      (λ a c. captures_agree h f v b (a, s) (λ w o d. sym (e w o d)) c)
      i.name;
}

pub put_agree : (f h : List ℕ × TypeTree → Named) (v u : List ℕ × TypeTree) (b : Named) → ((w : List ℕ × TypeTree) → occurs_in w (abs v b) ≡ true → f w ≡ h w) → (w : List ℕ × TypeTree) → occurs_in w b ≡ true → put v u f w ≡ put v u h w
put_agree f h v u b e w o = by (variable_eq v w) refl
  where
    by : (t : Bool) → variable_eq v w ≡ t → cond t (var u) (f w) ≡ cond t (var u) (h w)
    by true q = refl
    by false q = e w (rw q o)

pub substituted_agree : (f h : List ℕ × TypeTree → Named) (g : TypeTree → TypeTree) (t r : Named) → ((w : List ℕ × TypeTree) → occurs_in w t ≡ true → f w ≡ h w) → IsSubstituted f g t r → IsSubstituted h g t r
substituted_agree f h g (var v) r e m = m ∙ e v (eq_same v)
substituted_agree f h g (constant c s) r e m = m
substituted_agree f h g (comb s t) r e m = (
  m.0,
  m.1,
  m.2,
  substituted_agree f h g s m.0 (λ w o. e w (or_left (occurs_in w s) (occurs_in w t) o)) m.3,
  substituted_agree f h g t m.1 (λ w o. e w (or_right (occurs_in w s) (occurs_in w t) o)) m.4,
)
substituted_agree f h g (abs v b) r e m = (
  m.0,
  m.1,
  m.2,
  binder_agree f h v (g v.1) b m.0 (λ w o d. e w (rw d o)) m.3,
  substituted_agree (put v m.0 f) (put v m.0 h) g b m.1 (put_agree f h v m.0 b e) m.4,
)

-- ---- a term that stays
-- the types of the term's constants and binders stay
abbrev pub TypesStay : (TypeTree → TypeTree) → Named → Type 0
TypesStay g (var v) = Unit {0}
TypesStay g (constant c s) = s ≡ g s
TypesStay g (comb s t) = TypesStay g s × TypesStay g t
TypesStay g (abs v b) = (v.1 ≡ g v.1) × TypesStay g b

pub same_types_stay : (t : Named) → TypesStay (λ s. s) t
same_types_stay (var v) = tt
same_types_stay (constant c s) = refl
same_types_stay (comb s t) = (same_types_stay s, same_types_stay t)
same_types_stay (abs v b) = (refl, same_types_stay b)

-- a binder that captures nothing keeps its name
pub binder_kept : (f : List ℕ × TypeTree → Named) (v u : List ℕ × TypeTree) (s : TypeTree) (b : Named) → u.0 ≡ v.0 → u.1 ≡ s → (Captures f v b u → ⊥) → IsBinder f v s b u
binder_kept f v u s b n t c = record {
  type_is = t;
  name = record { primes = 0; is = n; fresh = λ k. c (subst (λ (x : Var). Captures f v b x) (λ i. (u.0, sym t i)) k); least = λ j l. absurd (omega arith) };
}

pub stays_put : (f : List ℕ × TypeTree → Named) (v : List ℕ × TypeTree) (b : Named) → ((w : List ℕ × TypeTree) → occurs_in w (abs v b) ≡ true → f w ≡ var w) → (w : List ℕ × TypeTree) → occurs_in w b ≡ true → put v v f w ≡ var w
stays_put f v b e w o = by (variable_eq v w) refl
  where
    by : (t : Bool) → variable_eq v w ≡ t → cond t (var v) (f w) ≡ var w
    by true q = ap var ((variable_eq_decides v w).0 q)
    by false q = e w (rw q o)

-- variables that stand for themselves are not captured
never_captured : (f : Var → Named) (v : Var) (b : Named) → ((w : Var) → occurs_in w b ≡ true → variable_eq v w ≡ false → f w ≡ var w) → Captures f v b v → ⊥
never_captured f v b e c =
    let own : variable_eq c.other v ≡ true = ap (occurs_in v) (sym (e c.other c.in_body c.differs)) ∙ c.comes in
    let z : true ≡ false = sym own ∙ eq_flip c.other v ∙ c.differs in
    absurd (cc)

pub stays : (f : List ℕ × TypeTree → Named) (g : TypeTree → TypeTree) (t : Named) → TypesStay g t → ((w : List ℕ × TypeTree) → occurs_in w t ≡ true → f w ≡ var w) → IsSubstituted f g t t
stays f g (var v) s e = sym (e v (eq_same v))
stays f g (constant c r) s e = ap (constant c) s
stays f g (comb p q) s e = (
  p,
  q,
  refl,
  stays f g p s.0 (λ w o. e w (or_left (occurs_in w p) (occurs_in w q) o)),
  stays f g q s.1 (λ w o. e w (or_right (occurs_in w p) (occurs_in w q) o)),
)
stays f g (abs v b) s e = (
  v,
  b,
  refl,
  binder_kept f v v (g v.1) b refl s.0 (never_captured f v b (λ w o d. e w (rw d o))),
  stays (put v v f) g b s.1 (stays_put f v b e),
)

-- ---- pairs
pub none_given : (ps : List (Named × (List ℕ × TypeTree))) (w : List ℕ × TypeTree) (o : Named) → has_pair ps w ≡ false → given_or ps w o ≡ o
none_given [] w o e = refl
none_given (p ∷ ps) w o e = let z = or_parts (variable_eq p.1 w) (has_pair ps w) e in rw z.0 (none_given ps w o z.1)

-- what comes in for a variable that has a pair
pair_comes : (ps : Pairs) (w u : Var) (b o : Named) → occurs_in w b ≡ true → has_pair ps w ≡ true → occurs_in u (given_or ps w o) ≡ true → comes_in ps u b ≡ true
pair_comes [] w u b o i h c = absurd (cc)
pair_comes (p ∷ ps) w u b o i h c = by (variable_eq p.1 w) refl h c (pair_comes ps w u b o i)
  where
    both : occurs_in u p.0 ≡ true → occurs_in p.1 b ≡ true → ((occurs_in u p.0 && occurs_in p.1 b) || comes_in ps u b) ≡ true
    both k l = rw (k, l) refl

    by : (t : Bool) → variable_eq p.1 w ≡ t → (t || has_pair ps w) ≡ true → occurs_in u (cond t p.0 (given_or ps w o)) ≡ true → (has_pair ps w ≡ true → occurs_in u (given_or ps w o) ≡ true → comes_in ps u b ≡ true) → ((occurs_in u p.0 && occurs_in p.1 b) || comes_in ps u b) ≡ true
    by true q g k r = both k (ap (λ x. occurs_in x b) ((variable_eq_decides p.1 w).0 q) ∙ i)
    by false q g k r = or_right (occurs_in u p.0 && occurs_in p.1 b) (comes_in ps u b) (r g k)

-- what is captured is taken
pub captured_taken : (ps : List (Named × (List ℕ × TypeTree))) (v u : List ℕ × TypeTree) (b : Named) → Captures (given ps) v b u → is_taken ps b u ≡ true
captured_taken ps v u b c = by (has_pair ps c.other) refl
  where
    by : (t : Bool) → has_pair ps c.other ≡ t → is_taken ps b u ≡ true
    by true h = or_right (occurs_in u b && not (has_pair ps u)) (comes_in ps u b) (pair_comes ps c.other u b (var c.other) c.in_body h c.comes)
    by false h =
        let same : c.other ≡ u = (variable_eq_decides c.other u).0 (ap (occurs_in u) (sym (none_given ps c.other (var c.other) h)) ∙ c.comes) in
        let inside : occurs_in u b ≡ true = ap (λ x. occurs_in x b) (sym same) ∙ c.in_body in
        let alone : has_pair ps u ≡ false = ap (has_pair ps) (sym same) ∙ h in
        rw (inside, alone) refl

-- and what the bound variable itself captures comes in
pub captured_comes : (ps : List (Named × (List ℕ × TypeTree))) (v : List ℕ × TypeTree) (b : Named) → Captures (given ps) v b v → comes_in ps v b ≡ true
captured_comes ps v b c = by (has_pair ps c.other) refl
  where
    by : (t : Bool) → has_pair ps c.other ≡ t → comes_in ps v b ≡ true
    by true h = pair_comes ps c.other v b (var c.other) c.in_body h c.comes
    by false h =
        let own : variable_eq c.other v ≡ true = ap (occurs_in v) (sym (none_given ps c.other (var c.other) h)) ∙ c.comes in
        let z : true ≡ false = sym own ∙ eq_flip c.other v ∙ c.differs in
        absurd (cc)

-- a pair of a variable of the body in whose term u is
pub record IsComing (ps : List (Named × (List ℕ × TypeTree))) (u : List ℕ × TypeTree) (b : Named) : Type 0 where
  pub of : List ℕ × TypeTree
  pub has : has_pair ps of ≡ true
  pub in_body : occurs_in of b ≡ true
  pub comes : occurs_in u (given ps of) ≡ true

coming : (ps : Pairs) (u : Var) (b : Named) → Fit ps → comes_in ps u b ≡ true → IsComing ps u b
coming [] u b f e = absurd (cc)
coming (p ∷ ps) u b f e = by (occurs_in u p.0 && occurs_in p.1 b) refl e (coming ps u b f.2)
  where
    later : IsComing ps u b → IsComing (p ∷ ps) u b
    later c = record {
      of = c.of;
      has = or_right (variable_eq p.1 c.of) (has_pair ps c.of) c.has;
      in_body = c.in_body;
      comes = at (variable_eq p.1 c.of) refl;
    }
      where
        at : (t : Bool) → variable_eq p.1 c.of ≡ t → occurs_in u (cond t p.0 (given ps c.of)) ≡ true
        at true q = let z : true ≡ false = sym c.has ∙ ap (has_pair ps) (sym ((variable_eq_decides p.1 c.of).0 q)) ∙ f.1 in absurd (cc)
        at false q = c.comes

    by : (t : Bool) → (occurs_in u p.0 && occurs_in p.1 b) ≡ t → (t || comes_in ps u b) ≡ true → (comes_in ps u b ≡ true → IsComing ps u b) → IsComing (p ∷ ps) u b
    by true q k r =
        let z = and_parts (occurs_in u p.0) (occurs_in p.1 b) q in
        record {
          of = p.1;
          has = or_left (variable_eq p.1 p.1) (has_pair ps p.1) (eq_same p.1);
          in_body = z.1;
          comes = rw (eq_same p.1) z.0;
        }
    by false q k r = later (r k)

-- what comes in would be captured
pub coming_captured : (ps : List (Named × (List ℕ × TypeTree))) (v u : List ℕ × TypeTree) (b : Named) → Fit ps → has_pair ps v ≡ false → comes_in ps u b ≡ true → Captures (given ps) v b u
coming_captured ps v u b f n e = by (coming ps u b f e)
  where
    by : IsComing ps u b → Captures (given ps) v b u
    by c = record { other = c.of; in_body = c.in_body; differs = at (variable_eq v c.of) refl; comes = c.comes }
      where
        at : (t : Bool) → variable_eq v c.of ≡ t → variable_eq v c.of ≡ false
        at true q = let z : true ≡ false = sym c.has ∙ ap (has_pair ps) (sym ((variable_eq_decides v c.of).0 q)) ∙ n in absurd (cc)
        at false q = q

-- what is taken would be captured, where the bound variable itself would be
pub taken_captured : (ps : List (Named × (List ℕ × TypeTree))) (v u : List ℕ × TypeTree) (b : Named) → Fit ps → has_pair ps v ≡ false → comes_in ps v b ≡ true → is_taken ps b u ≡ true → Captures (given ps) v b u
taken_captured ps v u b f n e k = by (variable_eq v u) refl (occurs_in u b && not (has_pair ps u)) refl k
  where
    by : (s : Bool) → variable_eq v u ≡ s → (t : Bool) → (occurs_in u b && not (has_pair ps u)) ≡ t → (t || comes_in ps u b) ≡ true → Captures (given ps) v b u
    by true p t q z = coming_captured ps v u b f n (ap (λ x. comes_in ps x b) (sym ((variable_eq_decides v u).0 p)) ∙ e)
    by false p true q z =
        let parts = and_parts (occurs_in u b) (not (has_pair ps u)) q in
        record {
          other = u;
          in_body = parts.0;
          differs = p;
          comes = ap (occurs_in u) (none_given ps u (var u) (not-true (has_pair ps u) parts.1)) ∙ eq_same u;
        }
    by false p false q z = coming_captured ps v u b f n z

-- ---- under a binder

rest_inside : (v u : Var) (b : Named) (ps rest : Pairs) → IsRest v b ps rest → (w : Var) → occurs_in w b ≡ true → given ((var u, v) ∷ rest) w ≡ put v u (given ps) w
rest_inside v u b ps rest g w o = by (variable_eq v w) refl
  where
    by : (t : Bool) → variable_eq v w ≡ t → cond t (var u) (given rest w) ≡ cond t (var u) (given ps w)
    by true q = refl
    by false q = g.others w q o

rest_kept_inside : (v : Var) (b : Named) (ps rest : Pairs) → IsRest v b ps rest → (w : Var) → occurs_in w b ≡ true → given rest w ≡ put v v (given ps) w
rest_kept_inside v b ps rest g w o = by (variable_eq v w) refl
  where
    by : (t : Bool) → variable_eq v w ≡ t → given rest w ≡ cond t (var v) (given ps w)
    by true q = let same : v ≡ w = (variable_eq_decides v w).0 q in ap (given rest) (sym same) ∙ none_given rest v (var v) g.own
    by false q = g.others w q o

pub names_kept : (v : List ℕ × TypeTree) (b r : Named) (ps rest : List (Named × (List ℕ × TypeTree))) → IsRest v b ps rest → comes_in rest v b ≡ false → IsSubstituted (λ w. given rest w) (λ s. s) b r → IsSubstituted (λ w. given ps w) (λ s. s) (abs v b) (abs v r)
names_kept v b r ps rest g n m = (
  v,
  r,
  refl,
  binder_kept (λ w. given ps w) v v v.1 b refl refl free,
  substituted_agree (λ w. given rest w) (put v v (λ w. given ps w)) (λ s. s) b r (rest_kept_inside v b ps rest g) m,
)
  where
    free : Captures (λ w. given ps w) v b v → ⊥
    free c =
        let k : Captures (given rest) v b v = captures_agree (given ps) (given rest) v b v (λ w o d. sym (g.others w d o)) c in
        let z : true ≡ false = sym (captured_comes rest v b k) ∙ n in
        absurd (cc)

pub names_renamed : (v u : List ℕ × TypeTree) (b r : Named) (ps rest : List (Named × (List ℕ × TypeTree))) → IsRest v b ps rest → Fit rest → comes_in rest v b ≡ true → IsRenaming rest b v u → IsSubstituted (λ w. given ((var u, v) ∷ rest) w) (λ s. s) b r → IsSubstituted (λ w. given ps w) (λ s. s) (abs v b) (abs u r)
names_renamed v u b r ps rest g f n i m = (
  u,
  r,
  refl,
  record {
    type_is = i.same_type;
    name = fewest_other (λ a. is_taken rest b (a, v.1) ≡ true) (λ a. Captures (λ w. given ps w) v b (a, v.1)) v.0 u.0
        (λ a k. captures_agree (given rest) (given ps) v b (a, v.1) (λ w o d. g.others w d o) (taken_captured rest v (a, v.1) b f g.own n k))
        (λ a c. captured_taken rest v (a, v.1) b (captures_agree (given ps) (given rest) v b (a, v.1) (λ w o d. sym (g.others w d o)) c))
        i.name;
  },
  substituted_agree (λ w. given ((var u, v) ∷ rest) w) (put v u (λ w. given ps w)) (λ s. s) b r (rest_inside v u b ps rest g) m,
)
