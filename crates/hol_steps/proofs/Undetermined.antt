-- The variables that a match does not determine, and quantifiers over variables, one after the other.
use Rattle.std.specs.Prelude.{◌≡◌, ℕ, zero, suc, ◌+◌, ◌<◌, ◌≤◌, Bool, true, false, cond, List, [], ◌∷◌, ◌++◌, map, length, drop, get_or, refl}
use Rattle.std.proofs.Common.{ap, sym, ◌∙◌, arith}
use Rattle.std.proofs.lemmas.List.{append-nil, append_assoc, drop_all}
use Rattle.hol_types.specs.Tree.{TypeTree}
use Rattle.hol_types.proofs.Steps.{next_of}
use Rattle.hol_terms.specs.Named.{Named}
use Rattle.hol_terms.specs.Nameless.{Nameless, nameless}
use Rattle.hol_subst.specs.Substitution.{variable_inst}
use Rattle.hol_formulas.specs.Formula.{quantifier_type, existential}
use Rattle.hol_formulas.specs.Making.{mk_forall, mk_exists}
use Rattle.hol_formulas.proofs.EquationTypes.{type_eq_itself}
use Rattle.hol_derived.specs.Rules.{over_variable}
use Rattle.hol_just.specs.Matching.{bound_variables}
use Rattle.hol_just.specs.MatchMp.{is_undetermined, undetermined, existentials}
use Rattle.hol_just.proofs.MatchChain.{exists_made}

-- ---- undetermined variables

module _ (types : List (TypeTree × List ℕ)) (s t : Nameless) where
  abbrev own : List (List ℕ × TypeTree) → List (List ℕ × TypeTree)
  own vs = map (variable_inst types) (undetermined s t vs)

  first_own : (v : List ℕ × TypeTree) (vs : List (List ℕ × TypeTree)) → own (v ∷ vs) ≡ own (v ∷ []) ++ own vs
  first_own v vs = by (is_undetermined s t v)
    where
      by : (b : Bool) → map (variable_inst types) (cond b (v ∷ undetermined s t vs) (undetermined s t vs)) ≡ map (variable_inst types) (cond b (v ∷ []) []) ++ own vs
      by true = refl
      by false = refl

  pub next_own :
      (vs rest new : List (List ℕ × TypeTree)) (i : ℕ) (v : List ℕ × TypeTree) → own vs ≡ rest ++ own (drop i vs) → i < length vs → v ≡ get_or vs i v → new ≡ rest ++ own (v ∷ []) →
      own vs ≡ new ++ own (drop (i + 1) vs)
  next_own vs rest new i v h l at is =
      h ∙ ap (λ (us : List (List ℕ × TypeTree)). rest ++ own us) (next_of vs i v l at) ∙ ap (λ (us : List (List ℕ × TypeTree)). rest ++ us) (first_own v (drop (i + 1) vs))
      ∙ sym (append_assoc rest (own (v ∷ [])) (own (drop (i + 1) vs))) ∙ ap (λ (us : List (List ℕ × TypeTree)). us ++ own (drop (i + 1) vs)) (sym is)

  pub last_own : (vs rest : List (List ℕ × TypeTree)) (i : ℕ) → own vs ≡ rest ++ own (drop i vs) → length vs ≤ i → rest ≡ own vs
  last_own vs rest i h l = sym (h ∙ ap (λ (us : List (List ℕ × TypeTree)). rest ++ own us) (drop_all i vs l) ∙ append-nil rest)

  pub determined : (rest : List (List ℕ × TypeTree)) (v : List ℕ × TypeTree) → false ≡ is_undetermined s t v → rest ≡ rest ++ own (v ∷ [])
  determined rest v e = sym (ap (λ b. rest ++ map (variable_inst types) (cond b (v ∷ []) [])) (sym e) ∙ append-nil rest)

  pub not_determined :
      (rest new : List (List ℕ × TypeTree)) (v u : List ℕ × TypeTree) → true ≡ is_undetermined s t v → u ≡ variable_inst types v → new ≡ rest ++ u ∷ [] → new ≡ rest ++ own (v ∷ [])
  not_determined rest new v u e is push =
      push ∙ ap (λ (w : List ℕ × TypeTree). rest ++ w ∷ []) is ∙ sym (ap (λ b. rest ++ map (variable_inst types) (cond b (v ∷ []) [])) (sym e))

-- ---- quantifiers, from the last one on

existentials_last : (vs : List (List ℕ × TypeTree)) (v : List ℕ × TypeTree) (q : Nameless) → existentials (vs ++ v ∷ []) q ≡ existentials vs (existentials (v ∷ []) q)
existentials_last [] v q = refl
existentials_last (w ∷ vs) v q = ap (λ n. existential (over_variable w n)) (existentials_last vs v q)

pub exists_next :
    (left outer all : List (List ℕ × TypeTree)) (v : List ℕ × TypeTree) (whole new : Named) (p : Nameless) → left ≡ outer ++ v ∷ [] → new ≡ mk_exists v whole → existentials left (nameless [] whole) ≡ existentials all p →
    existentials outer (nameless [] new) ≡ existentials all p
exists_next left outer all v whole new p is made h =
    ap (λ (t : Named). existentials outer (nameless [] t)) made ∙ ap (existentials outer) (exists_made v whole [] (nameless [] whole) refl) ∙ sym (existentials_last outer v (nameless [] whole))
    ∙ ap (λ (us : List (List ℕ × TypeTree)). existentials us (nameless [] whole)) (sym is) ∙ h

forall_made : (v : List ℕ × TypeTree) (p : Named) → bound_variables (mk_forall v p) ≡ v ∷ bound_variables p
forall_made v p = ap (λ k. cond k (v ∷ bound_variables p) []) (type_eq_itself (quantifier_type v.1))

pub forall_next :
    (left outer all : List (List ℕ × TypeTree)) (v : List ℕ × TypeTree) (whole new p : Named) → left ≡ outer ++ v ∷ [] → new ≡ mk_forall v whole → left ++ bound_variables whole ≡ all ++ bound_variables p →
    outer ++ bound_variables new ≡ all ++ bound_variables p
forall_next left outer all v whole new p is made h =
    ap (λ (t : Named). outer ++ bound_variables t) made ∙ ap (λ (us : List (List ℕ × TypeTree)). outer ++ us) (forall_made v whole) ∙ sym (append_assoc outer (v ∷ []) (bound_variables whole))
    ∙ ap (λ (us : List (List ℕ × TypeTree)). us ++ bound_variables whole) (sym is) ∙ h

-- ---- those that come after as many as others

pub rest_next : {A B : Type 0} (own vs : List A) (v : A) (rest us all : List B) (u : B) (first : List A) → own ≡ v ∷ vs → rest ≡ u ∷ us → drop (length own) rest ≡ drop (length first) all → drop (length vs) us ≡ drop (length first) all
rest_next own vs v rest us all u first is are h = sym (λ i. drop (length (is i)) (are i)) ∙ h

rest_itself : {A B : Type 0} (own : List A) (rest : List B) → length rest ≡ 0 → rest ≡ drop (length own) rest
rest_itself {A} {B} own rest empty = by rest (length own) empty
  where
    by : (us : List B) (n : ℕ) → length us ≡ 0 → us ≡ drop n us
    by [] zero e = refl
    by [] (suc n) e = refl
    by (u ∷ us) n e = absurd (omega (arith, e))

pub rest_none : {A B : Type 0} (own : List A) (rest all : List B) (first : List A) → rest ≡ [] → drop (length own) rest ≡ drop (length first) all → rest ≡ drop (length first) all
rest_none own rest all first none h = let empty : length rest ≡ 0 = ap length none in rest_itself own rest empty ∙ h

pub rest_all : {A B : Type 0} (own : List A) (rest all : List B) (first : List A) → own ≡ [] → drop (length own) rest ≡ drop (length first) all → rest ≡ drop (length first) all
rest_all own rest all first none h = sym (ap (λ ns. drop (length ns) rest) none) ∙ h
