-- A theorem's outer quantifiers taken off: SPEC at the variables gives what stands under them.
use Rattle.std.specs.Prelude.{◌≡◌, ℕ, zero, suc, ◌<◌, ◌≤◌, cond, List, ◌∷◌, codes, Option, Some, None, refl}
use Rattle.std.specs.Option.{option_and_then}
use Rattle.std.proofs.Common.{ap, ◌∙◌, subst, arith}
use Rattle.hol_types.specs.Tree.{TypeTree}
use Rattle.hol_terms.specs.Nameless.{Nameless, free}
use Rattle.hol_subst.specs.Closing.{open_with}
use Rattle.hol_formulas.specs.Equation.{bool_type}
use Rattle.hol_formulas.specs.Formula.{Abstraction, universal, dest_forall}
use Rattle.hol_formulas.proofs.FormulaLaws.{dest_quantifier_is}
use Rattle.hol_kernel.specs.Items.{Items}
use Rattle.hol_kernel.specs.Sequent.{Hyps, sequent_of}
use Rattle.hol_kernel.specs.Typing.{has_type, HasType}
use Rattle.hol_kernel.proofs.Declared.{has_type_of}
use Rattle.hol_kernel.proofs.Variables.{variable_typed}
use Rattle.hol_match.specs.Rules.{apart, nodes}
use Rattle.hol_match.proofs.Opened.{nodes_opened}
use Rattle.hol_just.specs.Matching.{specialized}
use Rattle.hol_just.specs.MatchMp.{OpenedValue, under, opened_at, opened_in, opened}
use Rattle.hol_just.specs.Openings.{OpeningGoesByQuantifiers}
use Rattle.hol_just.proofs.Typings.{property_typed, opened_typed}
use Rattle.hol_just.proofs.Pieces.{some_node}

-- ---- no more steps are needed than there are nodes

pub fewer : (body : Nameless) (x : Abstraction) (v : List ℕ × TypeTree) → dest_forall body ≡ Some x → nodes (open_with (free v) 0 x.body) < nodes body
fewer body x v e =
    let is : body ≡ universal x = dest_quantifier_is (codes "!") body x e in
    let same : nodes body ≡ nodes (universal x) = ap nodes is in
    let opened : nodes (open_with (free v) 0 x.body) ≡ nodes x.body = nodes_opened v 0 x.body in
    omega (arith, same, opened)

enough : (n m : ℕ) (avoid : List Nameless) (p : Nameless) → nodes p ≤ n → nodes p ≤ m → opened_in n avoid p ≡ opened_in m avoid p
enough zero m avoid p l k = let one = some_node p in absurd (omega (arith, l, one))
enough (suc n) zero avoid p l k = let one = some_node p in absurd (omega (arith, k, one))
enough (suc n) (suc m) avoid p l k = by (dest_forall p) refl (λ more q. enough n m more q)
  where
    by :
        (o : Option Abstraction) → dest_forall p ≡ o → ((more : List Nameless) (q : Nameless) → nodes q ≤ n → nodes q ≤ m → opened_in n more q ≡ opened_in m more q) →
        opened_at (opened_in n) avoid p o ≡ opened_at (opened_in m) avoid p o
    by None e on = refl
    by (Some x) e on =
        let v = apart avoid x in
        let less = fewer p x v e in
        ap (under v) (on (free v ∷ avoid) (open_with (free v) 0 x.body) (omega (arith, less, l)) (omega (arith, less, k)))

pub go_by_quantifiers : OpeningGoesByQuantifiers
go_by_quantifiers avoid p = enough (nodes p) (suc (nodes p)) avoid p (omega arith) (omega arith) ∙ by (dest_forall p) refl
  where
    by : (o : Option Abstraction) → dest_forall p ≡ o → opened_at (opened_in (nodes p)) avoid p o ≡ opened_at opened avoid p o
    by None e = refl
    by (Some x) e =
        let v = apart avoid x in
        let less = fewer p x v e in
        ap (under v) (enough (nodes p) (nodes (open_with (free v) 0 x.body)) (free v ∷ avoid) (open_with (free v) 0 x.body) (omega (arith, less)) (omega arith))

-- ---- SPEC at the variables

module _ (basis : Items) (hs : Hyps) where
  -- SPEC at the variables gives the body, which is a formula
  abbrev pub IsOpened : Nameless → OpenedValue → Type 0
  IsOpened p o = (specialized basis o.variables (sequent_of hs p) ≡ Some (sequent_of hs o.body)) × HasType basis o.body bool_type

  opens : (p : Nameless) (x : Abstraction) (v : List ℕ × TypeTree) (o : OpenedValue) → dest_forall p ≡ Some x → HasType basis (free v) x.domain → IsOpened (open_with (free v) 0 x.body) o → IsOpened p (under v o)
  opens p x v o e typed h = (
    ap (option_and_then (specialized basis o.variables))
        (ap (option_and_then (λ y. cond (has_type basis (free v) y.domain) (Some (sequent_of hs (open_with (free v) 0 y.body))) None)) e
        ∙ ap (λ c. cond c (Some (sequent_of hs (open_with (free v) 0 x.body))) None) (has_type_of basis (free v) x.domain typed))
        ∙ h.0,
    h.1,
  )

  pub opened_is : (n : ℕ) (avoid : List Nameless) (p : Nameless) → HasType basis p bool_type → IsOpened p (opened_in n avoid p)
  opened_is zero avoid p h = (refl, h)
  opened_is (suc n) avoid p h = by (dest_forall p) refl (λ more q k. opened_is n more q k)
    where
      by : (o : Option Abstraction) → dest_forall p ≡ o → ((more : List Nameless) (q : Nameless) → HasType basis q bool_type → IsOpened q (opened_in n more q)) → IsOpened p (opened_at (opened_in n) avoid p o)
      by None e on = (refl, h)
      by (Some x) e on =
          let v = apart avoid x in
          let property = property_typed basis (codes "!") x (subst (λ (q : Nameless). HasType basis q bool_type) (dest_quantifier_is (codes "!") p x e) h) in
          let typed = variable_typed basis v property.domain in
          opens p x v (opened_in n (free v ∷ avoid) (open_with (free v) 0 x.body)) e typed (on (free v ∷ avoid) (open_with (free v) 0 x.body) (opened_typed basis x (free v) property typed))
