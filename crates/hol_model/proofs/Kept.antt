-- What stands over a set of items keeps its meaning in an interpretation that gives more: values of types and of terms, and what is valid.
use Rattle.std.proofs.Common.{◌≡◌, ℕ, List, [], ◌∷◌, refl, ap, sym, ◌∙◌, subst, Bool, true, false, cond, ◌&&◌, bytes_eq, codes}
use Rattle.std.proofs.lemmas.Bool.{and_parts}
use Rattle.hol_types.specs.Tree.{TypeTree, TypeList, TyVar, TyApp, no_types, more_types}
use Rattle.hol_terms.specs.Nameless.{Nameless, free, bound, fixed, app, lam}
use Rattle.hol_kernel.specs.Items.{Items}
use Rattle.hol_kernel.specs.Signature.{has_arity, has_constant}
use Rattle.hol_kernel.specs.Typing.{types_count, is_type, are_types, is_base, is_known}
use Rattle.hol_model.proofs.Interpretations.{Assignment, Interpretation, Constructors, Valuation, constructed, elements, elements_of, eval}
use Rattle.hol_model.proofs.Types.{IsInhabited, AreInhabited, inhabited, HaveSameElements, AllHaveSame, same_elements, all_same_elements}
use Rattle.hol_model.proofs.Evaluation.{IsFitting, TermAgrees, eval_same}
use Rattle.hol_model.proofs.Models.{IsTrueIn}
use Rattle.hol_model.proofs.Universes.{Universe}

module _ (U : Universe) where
  open U use {Value, Set}
  open U.laws use {is_in, same, first, on, booleans, tables}

  abbrev In : Value → Set → Type 0
  In x xs = is_in x xs ≡ true

  -- The second interpretation gives the types and constants that stand over the items what the first gives them.
  pub record KeepsMeanings (items : Items) (m n : Interpretation U) : Type 0 where
    pub constructors : (c : List ℕ) (count : ℕ) → has_arity items c count ≡ true → (vs : List Set) → n.constructors c vs ≡ m.constructors c vs
    pub generics : (c : List ℕ) (s : TypeTree) → has_constant items c s ≡ true → n.generics c ≡ m.generics c
    pub constants : (c : List ℕ) (s : TypeTree) → has_constant items c s ≡ true → (d : Assignment U) → n.constants c d ≡ m.constants c d

  constructed_same : (k l : Constructors U) (c : List ℕ) (vs : List Set) → l c vs ≡ k c vs → constructed U l c vs ≡ constructed U k c vs
  constructed_same k l c [] e = ap (cond (bytes_eq c (codes "bool")) booleans) e
  constructed_same k l c (xs ∷ []) e = e
  constructed_same k l c (xs ∷ ys ∷ []) e = ap (cond (bytes_eq c (codes "fun")) (tables xs ys)) e
  constructed_same k l c (xs ∷ ys ∷ zs ∷ more) e = e

  module _ (items : Items) (m n : Interpretation U) (keeps : KeepsMeanings items m n) where
    module _ (d : Assignment U) where
      mutual
        type_kept : (t : TypeTree) → is_type items t ≡ true → HaveSameElements U n.constructors m.constructors d d t
        type_kept (TyVar a) e = refl
        type_kept (TyApp c ts) e =
            let p = and_parts (has_arity items c (types_count ts)) (are_types items ts) e in
            let all = types_kept ts p.1 in (
              ap (constructed U n.constructors c) (all_same_elements U n.constructors m.constructors d d ts all)
                  ∙ constructed_same m.constructors n.constructors c (elements_of U m.constructors d ts) (keeps.constructors c (types_count ts) p.0 (elements_of U m.constructors d ts)),
              all,
            )

        types_kept : (ts : TypeList) → are_types items ts ≡ true → AllHaveSame U n.constructors m.constructors d d ts
        types_kept no_types e = tt
        types_kept (more_types t ts) e = let p = and_parts (is_type items t) (are_types items ts) e in (type_kept t p.0, types_kept ts p.1)

      pub elements_kept : (t : TypeTree) → is_type items t ≡ true → elements U n.constructors d t ≡ elements U m.constructors d t
      elements_kept t e = same_elements U n.constructors m.constructors d d t (type_kept t e)

      module _ (f g : Valuation U) (same : (v : List ℕ × TypeTree) → is_type items v.1 ≡ true → f v ≡ g v) where
        term_kept : (t : Nameless) → is_known items t ≡ true → TermAgrees U n m d d f g t
        term_kept (free v) e = same v e
        term_kept (bound i) e = tt
        term_kept (fixed c s) e =
            let p = and_parts (is_type items s) (has_constant items c s) e in (keeps.generics c s p.1, keeps.constants c s p.1, type_kept s p.0)
        term_kept (app h x) e = let p = and_parts (is_known items h) (is_known items x) e in (term_kept h p.0, term_kept x p.1)
        term_kept (lam a s b) e =
            let p = and_parts (is_type items s) (is_known items b) (and_parts (is_base a) (is_type items s && is_known items b) e).1 in
            (type_kept s p.0, term_kept b p.1)

        pub eval_kept : (env : List Value) (t : Nameless) → is_known items t ≡ true → eval U n d f env t ≡ eval U m d g env t
        eval_kept env t e = eval_same U n m d d f g env t (term_kept t e)

    -- the valuation on the variables whose types stand, and some value for the others
    module _ (full : AreInhabited U m.constructors) (d : Assignment U) (h : IsInhabited U d) (f : Valuation U) where
      abbrev restricted : Valuation U
      restricted v = cond (is_type items v.1) (f v) (first (elements U m.constructors d v.1))

      restricted_fits : IsFitting U n.constructors d f → IsFitting U m.constructors d restricted
      restricted_fits fit v = by (is_type items v.1) refl
        where
          by : (b : Bool) → is_type items v.1 ≡ b → In (cond b (f v) (first (elements U m.constructors d v.1))) (elements U m.constructors d v.1)
          by true e = subst (λ (xs : Set). In (f v) xs) (elements_kept d v.1 e) (fit v)
          by false e = inhabited U m.constructors full d h v.1

      restricted_same : (v : List ℕ × TypeTree) → is_type items v.1 ≡ true → f v ≡ restricted v
      restricted_same v e = sym (ap (λ b. cond b (f v) (first (elements U m.constructors d v.1))) e)

    -- what is well typed over the items, and valid, stays valid
    pub valid_kept : AreInhabited U m.constructors → (p : Nameless) → is_known items p ≡ true → IsTrueIn U m p → IsTrueIn U n p
    valid_kept full p known valid d h f fit =
        eval_kept d f (restricted full d h f) (restricted_same full d h f) [] p known ∙ valid d h (restricted full d h f) (restricted_fits full d h f fit)
