-- The cases of substitution in a named term, for what the code has at its ends.
use Rattle.std.proofs.Common.{◌≡◌, ℕ, ◌+◌, ◌<◌, ◌≤◌, List, [], ◌∷◌, length, drop, get_or, refl, ap, sym, ◌∙◌, Bool, true, false, cond, subst, Some, IsSome, is_some, unwrap_or, inl, inr, ◌⊎◌, ◌↔◌}
use Rattle.std.proofs.lemmas.Bool.{or_parts}
use Rattle.std.proofs.lemmas.List.{drop_all}
use Rattle.hol_types.proofs.Steps.{next_of}
use Rattle.hol_types.specs.Tree.{TypeTree}
use Rattle.hol_types.specs.Equal.{variable_eq}
use Rattle.hol_terms.specs.Named.{Named, var, constant, comb, abs, named_type}
use Rattle.hol_terms.specs.Nameless.{free, app, nameless, nameless_type}
use Rattle.hol_terms.proofs.Same.{variable_eq_decides}
use Rattle.hol_terms.specs.Scoped.{occurs_in}
use Rattle.hol_terms.proofs.Occurs.{occurs_is}
use Rattle.hol_terms.proofs.Typing.{type_outside}
use Rattle.hol_subst.specs.Substitution.{term_lookup, term_for, term_subst}
use Rattle.hol_subst.specs.Pairs.{nameless_pairs, pair_before, IsGoodPair, HasBadPair}
use Rattle.hol_subst.specs.Capture.{named_pairs, given, has_pair, Fit, touches, comes_in, IsRest, IsRenaming, IsResult, IsEntry}
use Rattle.hol_subst.specs.Substituted.{named_at, named_for, IsVsubst}
use Rattle.hol_subst.proofs.Closing.{shift_whole}
use Rattle.hol_subst.proofs.Commute.{subst_agree, subst_nothing}
use Rattle.hol_subst.proofs.Typing.{AllTyped, subst_type}
use Rattle.hol_subst.proofs.Binders.{stays, same_types_stay, substituted_agree, names_kept, names_renamed}
use Rattle.hol_subst.proofs.Taken.{closed_pairs, kept, nameless_given, renamed}

abbrev Var : Type 0
Var = List ℕ × TypeTree

abbrev NamedPairs : Type 0
NamedPairs = List (Named × (List ℕ × TypeTree))

-- what the term r is where it stands for t after substitution
abbrev pub IsSubst : List (Named × (List ℕ × TypeTree)) → Named → Named → Type 0
IsSubst ps t r = nameless [] r ≡ term_subst (named_pairs ps) 0 (nameless [] t)

-- ---- types
pub fit_typed : (ps : List (Named × (List ℕ × TypeTree))) → Fit ps → AllTyped (named_pairs ps)
fit_typed [] h w = refl
fit_typed (p ∷ ps) h w = by (variable_eq p.1 w) refl (fit_typed ps h.2 w)
  where
    by : (b : Bool) → variable_eq p.1 w ≡ b → nameless_type [] (term_for (named_pairs ps) w) ≡ Some w.1 → nameless_type [] (unwrap_or (cond b (Some (nameless [] p.0)) (term_lookup (named_pairs ps) w)) (free w)) ≡ Some w.1
    by true q r = type_outside p.0 ∙ h.0 ∙ ap (λ x. Some x.1) ((variable_eq_decides p.1 w).0 q)
    by false q r = r

pub kept_type : (ps : List (Named × (List ℕ × TypeTree))) (t r : Named) → Fit ps → IsSubst ps t r → named_type r ≡ named_type t
kept_type ps t r h e = sym (type_outside r) ∙ ap (nameless_type []) e ∙ subst_type (named_pairs ps) [] 0 (nameless [] t) (fit_typed ps h) ∙ type_outside t

pub comb_fits : (ps : List (Named × (List ℕ × TypeTree))) (t f x g y : Named) → Fit ps → t ≡ comb f x → IsResult ps f g → IsResult ps x y → (s : TypeTree) → named_type t ≡ Some s → IsSome (named_type (comb g y))
comb_fits ps t f x g y h e p q s k =
    let i : IsSubst ps (comb f x) (comb g y) = (λ j. app (p.terms j) (q.terms j)) in
    ap is_some (kept_type ps (comb f x) (comb g y) h i ∙ ap named_type (sym e) ∙ k)

pub renaming_fits : (rest pairs : List (Named × (List ℕ × TypeTree))) (v u : List ℕ × TypeTree) → Fit rest → u.1 ≡ v.1 → has_pair rest v ≡ false → pairs ≡ (var u, v) ∷ rest → Fit pairs
renaming_fits rest pairs v u h t n e = subst Fit (sym e) (ap Some t, n, h)

-- ---- no variable of a pair is free
untouched_given : (ps : NamedPairs) (t : Named) (w : Var) → touches ps t ≡ false → occurs_in w t ≡ true → given ps w ≡ var w
untouched_given [] t w e o = refl
untouched_given (p ∷ ps) t w e o = by (variable_eq p.1 w) refl (untouched_given ps t w (or_parts _ _ e).1 o)
  where
    by : (b : Bool) → variable_eq p.1 w ≡ b → given ps w ≡ var w → cond b p.0 (given ps w) ≡ var w
    by true q r = let z : true ≡ false = sym o ∙ ap (λ x. occurs_in x t) (sym ((variable_eq_decides p.1 w).0 q)) ∙ (or_parts _ _ e).0 in absurd (cc)
    by false q r = r

pub untouched : (ps : List (Named × (List ℕ × TypeTree))) (t : Named) → touches ps t ≡ false → IsResult ps t t
untouched ps t e = record {
  terms = sym (subst_agree (named_pairs ps) [] 0 (nameless [] t) (λ w f. nameless_given ps w ∙ ap (nameless []) (untouched_given ps t w e (occurs_is w t ∙ f))) ∙ subst_nothing 0 (nameless [] t));
  names = stays (λ w. given ps w) (λ s. s) t (same_types_stay t) (λ w o. untouched_given ps t w e o);
}

-- ---- cases
pub at_var : (ps : List (Named × (List ℕ × TypeTree))) (t : Named) (v : List ℕ × TypeTree) (r : Named) → t ≡ var v → r ≡ given ps v → IsResult ps t r
at_var ps t v r e h = subst (λ x. IsResult ps x r) (sym e) (record {
  terms = ap (nameless []) h ∙ sym (nameless_given ps v) ∙ sym (shift_whole 0 0 (term_for (named_pairs ps) v) (closed_pairs ps v));
  names = h;
})

pub at_comb : (ps : List (Named × (List ℕ × TypeTree))) (t f x g y o : Named) → t ≡ comb f x → IsResult ps f g → IsResult ps x y → o ≡ comb g y → IsResult ps t o
at_comb ps t f x g y o e p q r = subst (λ z. IsResult ps z o) (sym e) (record {
  terms = ap (nameless []) r ∙ (λ j. app (p.terms j) (q.terms j));
  names = (g, y, r, p.names, q.names);
})

-- nothing comes in, and the binder stays
pub entry_kept : (ps rest : List (Named × (List ℕ × TypeTree))) (v : List ℕ × TypeTree) (b : Named) (u : List ℕ × TypeTree) → Fit ps → IsRest v b ps rest → comes_in rest v b ≡ false → u ≡ v → IsEntry ps v b u rest
entry_kept ps rest v b u f g n e = record {
  fit = g.fit f;
  gives = λ r h. subst (λ (w : Var). IsResult ps (abs v b) (abs w r)) (sym e) (record { terms = kept v b r ps rest g n h.terms; names = names_kept v b r ps rest g n h.names });
}

-- the binder would capture, and is renamed
pub entry_renamed : (ps rest inner : List (Named × (List ℕ × TypeTree))) (v : List ℕ × TypeTree) (b : Named) (u : List ℕ × TypeTree) → Fit ps → IsRest v b ps rest → comes_in rest v b ≡ true → IsRenaming rest b v u → inner ≡ (var u, v) ∷ rest → IsEntry ps v b u inner
entry_renamed ps rest inner v b u f g c n p = record {
  fit = renaming_fits rest inner v u (g.fit f) n.same_type g.own p;
  gives =
      λ r h. let own : IsResult ((var u, v) ∷ rest) b r = subst (λ x. IsResult x b r) p h in
      record { terms = renamed v u b r ps rest g n own.terms; names = names_renamed v u b r ps rest g (g.fit f) c n own.names };
}

pub at_abs : (ps inner : List (Named × (List ℕ × TypeTree))) (t b r : Named) (v u : List ℕ × TypeTree) (o : Named) → t ≡ abs v b → IsEntry ps v b u inner → IsResult inner b r → o ≡ abs u r → IsResult ps t o
at_abs ps inner t b r v u o e n h k = subst (λ z. IsResult ps z o) (sym e) (subst (λ z. IsResult ps (abs v b) z) (sym k) (n.gives r h))

-- what stands for a variable by the pairs that a caller handed in
nameless_named : (pairs : List (Named × Named)) (w : Var) → term_for (nameless_pairs pairs) w ≡ nameless [] (named_for pairs w)
nameless_named [] w = refl
nameless_named (p ∷ pairs) w = by p.1 (nameless_named pairs w)
  where
    found : (b : Bool) → term_for (nameless_pairs pairs) w ≡ nameless [] (named_for pairs w) → unwrap_or (cond b (Some (nameless [] p.0)) (term_lookup (nameless_pairs pairs) w)) (free w) ≡ nameless [] (cond b p.0 (named_for pairs w))
    found true e = refl
    found false e = e

    by : (u : Named) → term_for (nameless_pairs pairs) w ≡ nameless [] (named_for pairs w) → term_for (pair_before (nameless [] p.0) u (nameless_pairs pairs)) w ≡ nameless [] (named_at u p.0 (named_for pairs w) w)
    by (var v) e = found (variable_eq v w) e
    by (constant c s) e = e
    by (comb f x) e = e
    by (abs v b) e = e

pub at_top : (pairs : List (Named × Named)) (found : List (Named × (List ℕ × TypeTree))) (t r q : Named) → ((w : List ℕ × TypeTree) → given found w ≡ named_for pairs w) → IsResult found t r → q ≡ r → nameless [] q ≡ term_subst (nameless_pairs pairs) 0 (nameless [] t)
at_top pairs found t r q h e f = ap (nameless []) f ∙ e.terms ∙ subst_agree (named_pairs found) (nameless_pairs pairs) 0 (nameless [] t) (λ w g. nameless_given found w ∙ ap (nameless []) (h w) ∙ sym (nameless_named pairs w))

pub names_at_top : (pairs : List (Named × Named)) (found : List (Named × (List ℕ × TypeTree))) (t r q : Named) → ((w : List ℕ × TypeTree) → given found w ≡ named_for pairs w) → IsResult found t r → q ≡ r → IsVsubst pairs t q
names_at_top pairs found t r q h e f = subst (λ (x : Named). IsVsubst pairs t x) (sym f) (substituted_agree (λ w. given found w) (λ w. named_for pairs w) (λ s. s) t r (λ w o. h w) e.names)

-- ---- bad pairs
pub bad_here : (pairs : List (Named × Named)) (i : ℕ) (p : Named × Named) → (HasBadPair pairs ↔ HasBadPair (drop i pairs)) → i < length pairs → p ≡ get_or pairs i p → (IsGoodPair p → ⊥) → HasBadPair pairs
bad_here pairs i p h l e b = h.1 (subst HasBadPair (sym (next_of pairs i p l e)) (inl b))

pub bad_later : (pairs : List (Named × Named)) (i : ℕ) (p : Named × Named) → (HasBadPair pairs ↔ HasBadPair (drop i pairs)) → i < length pairs → p ≡ get_or pairs i p → IsGoodPair p → HasBadPair pairs ↔ HasBadPair (drop (i + 1) pairs)
bad_later pairs i p h l e g = (λ b. by (subst HasBadPair (next_of pairs i p l e) (h.0 b)), λ b. h.1 (subst HasBadPair (sym (next_of pairs i p l e)) (inr b)))
  where
    by : (IsGoodPair p → ⊥) ⊎ HasBadPair (drop (i + 1) pairs) → HasBadPair (drop (i + 1) pairs)
    by (inl b) = absurd (b g)
    by (inr b) = b

pub bad_nowhere : (pairs : List (Named × Named)) (i : ℕ) → (HasBadPair pairs ↔ HasBadPair (drop i pairs)) → length pairs ≤ i → HasBadPair pairs → ⊥
bad_nowhere pairs i h l b = subst HasBadPair (drop_all i pairs l) (h.0 b)

pub ruleset bad_pairs = (bad_here, bad_later, bad_nowhere)
