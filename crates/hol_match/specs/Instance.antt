-- Instances of a term: types for its type variables, and then terms for its free variables, at the types that these have then.
-- Source: HOL Light's drule.ml, where instantiate takes such pairs; here without variables of higher order.
use Rattle.std.specs.Prelude.{ℕ, List, ◌++◌, map, refl}
use Rattle.std.specs.Coded.{Coded, code_by, coded×, coded_list}
use Rattle.hol_types.specs.Tree.{TypeTree, TyVar}
use Rattle.hol_types.specs.Code.{coded_name, coded_type}
use Rattle.hol_terms.specs.Named.{Named}
use Rattle.hol_terms.specs.Nameless.{Nameless, free}
use Rattle.hol_terms.specs.Code.{coded_nameless, coded_variable}
use Rattle.hol_subst.specs.Substitution.{term_subst, types_inst}
use Rattle.hol_subst.specs.Pairs.{nameless_pairs}

-- pairs as type instantiation and substitution take them
pub record InstanceValue : Type 0 where
  pub types : List (TypeTree × List ℕ)
  pub terms : List (Nameless × (List ℕ × TypeTree))

abbrev pub instance_of : List (TypeTree × List ℕ) → List (Nameless × (List ℕ × TypeTree)) → InstanceValue
instance_of types terms = record { types = types; terms = terms }

abbrev pub instance_code : Coded InstanceValue
instance_code =
    code_by (List (TypeTree × List ℕ) × List (Nameless × (List ℕ × TypeTree)))
    (coded× (coded_list (coded× coded_type coded_name)) (coded_list (coded× coded_nameless coded_variable)))
    (λ a. (a.types, a.terms))
    (λ p. record { types = p.0; terms = p.1 })
    (λ _. refl)

-- the instance that the program's pairs say
abbrev pub instance_from : List (TypeTree × List ℕ) → List (Named × Named) → InstanceValue
instance_from types terms = instance_of types (nameless_pairs terms)

-- the term at the instance, where k binders are passed; of a whole term at k = 0
abbrev pub instantiated : InstanceValue → ℕ → Nameless → Nameless
instantiated a k p = term_subst a.terms k (types_inst a.types p)

-- the first instance's pairs, and then those of the second
abbrev pub both : InstanceValue → InstanceValue → InstanceValue
both a b = instance_of (a.types ++ b.types) (a.terms ++ b.terms)

-- what is to stay: each of these type variables and variables is given itself
abbrev pub staying : List (List ℕ) → List (List ℕ × TypeTree) → InstanceValue
staying names variables = instance_of (map (λ a. (TyVar a, a)) names) (map (λ v. (free v, v)) variables)
