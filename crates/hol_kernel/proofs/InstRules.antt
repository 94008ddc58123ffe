-- What INST_TYPE and INST make of theorems.
use Rattle.std.specs.Prelude.{◌≡◌, ℕ, Bool, true, false, cond, ◌&&◌, List, [], ◌∷◌, Option, Some, None, refl}
use Rattle.std.specs.Option.{option_map}
use Rattle.std.proofs.Common.{ap, sym, ◌∙◌, subst, inl, inr}
use Rattle.std.proofs.lemmas.Bool.{and_parts}
use mathlib.Core.Bool.{true≢false}
use Rattle.hol_types.specs.Tree.{TypeTree}
use Rattle.hol_types.proofs.OrderLaws.{type_cmp_decides}
use Rattle.hol_terms.specs.Named.{Named, var, constant, comb, abs, named_type}
use Rattle.hol_terms.specs.Nameless.{Nameless, nameless, nameless_type}
use Rattle.hol_terms.proofs.Typing.{type_outside}
use Rattle.hol_subst.specs.Pairs.{nameless_pairs, pair_before, IsGoodPair, HasBadPair}
use Rattle.hol_subst.specs.Substitution.{term_subst, types_inst}
use Rattle.hol_subst.proofs.Typing.{subst_type}
use Rattle.hol_subst.proofs.TypeLaws.{pairs_typed, good_pairs_fit}
use Rattle.hol_subst.proofs.TypesInst.{typed_instance}
use Rattle.hol_kernel.specs.Items.{Items}
use Rattle.hol_kernel.specs.Sequent.{Hyps, hyps_image, Sequent}
use Rattle.hol_formulas.specs.Equation.{bool_type}
use Rattle.hol_kernel.specs.Typing.{is_known, is_type_at, are_types_for, are_typed_for}
use Rattle.hol_kernel.specs.Derivation.{Derives, by_inst_type, by_inst}
use Rattle.hol_kernel.specs.Rules.{sequent_image, inst_type_of, inst_of, is_pair_at, are_pairs_over}
use Rattle.hol_kernel.specs.Theorem.{Theorem, theorem_on, theorem_over, over, IsDerived}

-- ---- derivations

pub along_nameless : (b own : Items) (h hyps : Hyps) (n : Nameless) (concl : Named) → own ≡ b → hyps ≡ h → nameless [] concl ≡ n → Derives b h n → named_type concl ≡ Some bool_type → IsDerived own hyps concl
along_nameless b own h hyps n concl p q r d t = record {
  derives = subst (λ (s : Items). Derives s hyps (nameless [] concl)) (sym p) (subst (λ (hs : Hyps). Derives b hs (nameless [] concl)) (sym q) (subst (λ (u : Nameless). Derives b h u) (sym r) d));
  typed = t;
}

-- ---- types for type variables

pub types_derived : (basis : Items) (pairs : List (TypeTree × List ℕ)) (s : Sequent) (t : Named) (own : Items) (hyps : Hyps) (concl : Named) → Derives basis s.hyps s.concl → are_types_for basis pairs ≡ true → nameless [] t ≡ s.concl → named_type t ≡ Some bool_type → own ≡ basis → hyps ≡ hyps_image (types_inst pairs) s.hyps → nameless [] concl ≡ types_inst pairs (nameless [] t) → IsDerived own hyps concl
types_derived basis pairs s t own hyps concl d over is typed p q r =
    along_nameless basis own (hyps_image (types_inst pairs) s.hyps) hyps (types_inst pairs s.concl) concl p q (r ∙ ap (types_inst pairs) is)
    (by_inst_type s.hyps s.concl pairs over d)
    (typed_instance pairs t concl bool_type r typed)

pub types_given : (basis : Items) (pairs : List (TypeTree × List ℕ)) (s : Sequent) (made : Theorem) (hyps : Hyps) (t concl : Named) → are_types_for basis pairs ≡ true → nameless [] t ≡ s.concl → hyps ≡ hyps_image (types_inst pairs) s.hyps → nameless [] concl ≡ types_inst pairs (nameless [] t) → made ≡ theorem_over basis hyps (nameless [] concl) → over basis (inst_type_of basis pairs s) ≡ Some made
types_given basis pairs s made hyps t concl fit is q r e =
    (λ i. option_map (theorem_on basis) (cond (fit i) (Some (sequent_image (types_inst pairs) s)) None))
    ∙ (λ i. Some (theorem_over basis (sym q i) (sym (r ∙ ap (types_inst pairs) is) i))) ∙ ap Some (sym e)

-- ---- terms for variables

has_type_is : (k : Bool) (o : Option TypeTree) (a : TypeTree) → is_type_at (cond k o None) a ≡ true → o ≡ Some a
has_type_is true (Some s) a e = ap Some ((type_cmp_decides s a).0 e)
has_type_is true None a e = absurd (true≢false (sym e))
has_type_is false o a e = absurd (true≢false (sym e))

good_pair : (basis : Items) (t u : Named) → is_pair_at basis (nameless [] t) u ≡ true → IsGoodPair (t, u)
good_pair basis t (var v) e = (v, refl, sym (type_outside t) ∙ has_type_is (is_known basis (nameless [] t)) (nameless_type [] (nameless [] t)) v.1 e)
good_pair basis t (constant c s) e = absurd (true≢false (sym e))
good_pair basis t (comb f x) e = absurd (true≢false (sym e))
good_pair basis t (abs v b) e = absurd (true≢false (sym e))

pub pairs_good : (basis : Items) (pairs : List (Named × Named)) → are_pairs_over basis pairs ≡ true → HasBadPair pairs → ⊥
pairs_good basis [] e bad = bad
pairs_good basis (p ∷ pairs) e (inl bad) = bad (good_pair basis p.0 p.1 (and_parts (is_pair_at basis (nameless [] p.0) p.1) (are_pairs_over basis pairs) e).0)
pairs_good basis (p ∷ pairs) e (inr bad) = pairs_good basis pairs (and_parts (is_pair_at basis (nameless [] p.0) p.1) (are_pairs_over basis pairs) e).1 bad

pub pairs_typed_over : (basis : Items) (pairs : List (Named × Named)) → are_pairs_over basis pairs ≡ true → are_typed_for basis (nameless_pairs pairs) ≡ true
pairs_typed_over basis [] e = refl
pairs_typed_over basis (p ∷ pairs) e =
    let h = and_parts (is_pair_at basis (nameless [] p.0) p.1) (are_pairs_over basis pairs) e in
    by p.1 h.0 (pairs_typed_over basis pairs h.1)
  where
    by : (u : Named) → is_pair_at basis (nameless [] p.0) u ≡ true → are_typed_for basis (nameless_pairs pairs) ≡ true → are_typed_for basis (pair_before (nameless [] p.0) u (nameless_pairs pairs)) ≡ true
    by (var v) f g = λ i. f i && g i
    by (constant c s) f g = absurd (true≢false (sym f))
    by (comb k x) f g = absurd (true≢false (sym f))
    by (abs v b) f g = absurd (true≢false (sym f))

abbrev put : List (Named × Named) → Nameless → Nameless
put pairs = term_subst (nameless_pairs pairs) 0

-- an instance keeps its type
pub instance_typed : (basis : Items) (pairs : List (Named × Named)) (t made : Named) (a : TypeTree) → are_pairs_over basis pairs ≡ true → nameless [] made ≡ term_subst (nameless_pairs pairs) 0 (nameless [] t) → named_type t ≡ Some a → named_type made ≡ Some a
instance_typed basis pairs t made a over r typed =
    sym (type_outside made) ∙ ap (nameless_type []) r
    ∙ subst_type (nameless_pairs pairs) [] 0 (nameless [] t) (pairs_typed (nameless_pairs pairs) (good_pairs_fit pairs (pairs_good basis pairs over)))
    ∙ type_outside t ∙ typed

pub terms_derived : (basis : Items) (pairs : List (Named × Named)) (s : Sequent) (t : Named) (own : Items) (hyps : Hyps) (concl : Named) → Derives basis s.hyps s.concl → are_pairs_over basis pairs ≡ true → nameless [] t ≡ s.concl → named_type t ≡ Some bool_type → own ≡ basis → hyps ≡ hyps_image (term_subst (nameless_pairs pairs) 0) s.hyps → nameless [] concl ≡ term_subst (nameless_pairs pairs) 0 (nameless [] t) → IsDerived own hyps concl
terms_derived basis pairs s t own hyps concl d over is typed p q r =
    along_nameless basis own (hyps_image (put pairs) s.hyps) hyps (put pairs s.concl) concl p q (r ∙ ap (put pairs) is)
    (by_inst s.hyps s.concl (nameless_pairs pairs) (pairs_typed_over basis pairs over) d)
    (instance_typed basis pairs t concl bool_type over r typed)

pub terms_given : (basis : Items) (pairs : List (Named × Named)) (s : Sequent) (made : Theorem) (hyps : Hyps) (t concl : Named) → are_pairs_over basis pairs ≡ true → nameless [] t ≡ s.concl → hyps ≡ hyps_image (term_subst (nameless_pairs pairs) 0) s.hyps → nameless [] concl ≡ term_subst (nameless_pairs pairs) 0 (nameless [] t) → made ≡ theorem_over basis hyps (nameless [] concl) → over basis (inst_of basis pairs s) ≡ Some made
terms_given basis pairs s made hyps t concl fit is q r e =
    (λ i. option_map (theorem_on basis) (cond (fit i) (Some (sequent_image (put pairs) s)) None))
    ∙ (λ i. Some (theorem_over basis (sym q i) (sym (r ∙ ap (put pairs) is) i))) ∙ ap Some (sym e)
