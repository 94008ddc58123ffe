-- Type instantiation keeps types up to the substitution.
use Rattle.std.proofs.Common.{◌≡◌, ℕ, List, [], ◌∷◌, map, refl, ap, sym, ◌∙◌, Option, Some, None}
use Rattle.std.specs.Option.{option_map, option_and_then}
use Rattle.std.proofs.lemmas.Option.{slice_get-map}
use Rattle.hol_types.specs.Tree.{TypeTree}
use Rattle.hol_types.specs.Subst.{type_subst}
use Rattle.hol_types.specs.Fun.{fun_type}
use Rattle.hol_terms.specs.Named.{Named, named_type, applied_type}
use Rattle.hol_terms.specs.Nameless.{Nameless, free, bound, fixed, app, lam, nameless, nameless_type}
use Rattle.hol_terms.proofs.Typing.{type_outside, applied_fits}
pub use Rattle.hol_terms.proofs.Typing.{applied_is}
use Rattle.hol_subst.specs.Substitution.{types_inst}

-- ---- types
-- an application that fits still fits
pub applied_inst : (pairs : List (TypeTree × List ℕ)) (s t u : TypeTree) → applied_type s t ≡ Some u → applied_type (type_subst pairs s) (type_subst pairs t) ≡ Some (type_subst pairs u)
applied_inst pairs s t u e = ap (λ r. applied_type (type_subst pairs r) (type_subst pairs t)) (applied_is s t u e) ∙ applied_fits (type_subst pairs t) (type_subst pairs u)

-- the instance of a term of type s, under binders of types env, has the instance of s
pub inst_type : (pairs : List (TypeTree × List ℕ)) (env : List TypeTree) (n : Nameless) (s : TypeTree) → nameless_type env n ≡ Some s → nameless_type (map (type_subst pairs) env) (types_inst pairs n) ≡ Some (type_subst pairs s)
inst_type pairs env (free v) s e = ap (option_map (type_subst pairs)) e
inst_type pairs env (bound i) s e = slice_get-map (type_subst pairs) env i ∙ ap (option_map (type_subst pairs)) e
inst_type pairs env (fixed c t) s e = ap (option_map (type_subst pairs)) e
inst_type pairs env (app f x) s e = by (nameless_type env f) refl (nameless_type env x) refl e (inst_type pairs env f) (inst_type pairs env x)
  where
    by : (o : Option TypeTree) → nameless_type env f ≡ o → (q : Option TypeTree) → nameless_type env x ≡ q
        → option_and_then (λ r. option_and_then (λ t. applied_type r t) q) o ≡ Some s
        → ((r : TypeTree) → nameless_type env f ≡ Some r → nameless_type (map (type_subst pairs) env) (types_inst pairs f) ≡ Some (type_subst pairs r))
        → ((r : TypeTree) → nameless_type env x ≡ Some r → nameless_type (map (type_subst pairs) env) (types_inst pairs x) ≡ Some (type_subst pairs r))
        → nameless_type (map (type_subst pairs) env) (types_inst pairs (app f x)) ≡ Some (type_subst pairs s)
    by None h q i g l r = absurd (cc)
    by (Some a) h None i g l r = absurd (cc)
    by (Some a) h (Some t) i g l r = rw (l a h, r t i) (applied_inst pairs a t s g)
inst_type pairs env (lam a t b) s e = by (nameless_type (t ∷ env) b) refl e (inst_type pairs (t ∷ env) b)
  where
    by : (o : Option TypeTree) → nameless_type (t ∷ env) b ≡ o → option_map (λ r. fun_type t r) o ≡ Some s
        → ((r : TypeTree) → nameless_type (t ∷ env) b ≡ Some r → nameless_type (map (type_subst pairs) (t ∷ env)) (types_inst pairs b) ≡ Some (type_subst pairs r))
        → option_map (λ r. fun_type (type_subst pairs t) r) (nameless_type (type_subst pairs t ∷ map (type_subst pairs) env) (types_inst pairs b)) ≡ Some (type_subst pairs s)
    by None h g l = absurd (cc)
    by (Some r) h g l = ap (option_map (λ q. fun_type (type_subst pairs t) q)) (l r h) ∙ ap (option_map (type_subst pairs)) g

-- ---- what a caller of inst has: r, whose nameless term is the instance of that of t
pub typed_instance : (pairs : List (TypeTree × List ℕ)) (t r : Named) (s : TypeTree) → nameless [] r ≡ types_inst pairs (nameless [] t) → named_type t ≡ Some s → named_type r ≡ Some (type_subst pairs s)
typed_instance pairs t r s e h = sym (type_outside r) ∙ ap (nameless_type []) e ∙ inst_type pairs [] (nameless [] t) s (type_outside t ∙ h)
