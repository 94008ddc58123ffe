-- Terms that are equal up to bound names have one form.
use Rattle.std.specs.Prelude.{◌≡◌, ℕ, List, codes, Some, refl}
use Rattle.std.proofs.Common.{ap, ◌∙◌}
use Rattle.hol_types.specs.Tree.{TypeTree}
use Rattle.hol_terms.specs.Nameless.{Nameless, free, bound, fixed, app, lam}
use Rattle.hol_terms.specs.Alpha.{strip}
use Rattle.hol_formulas.specs.Equation.{equality_type, equation, dest_eq}
use Rattle.hol_formulas.proofs.FormulaLaws.{dest_eq_equation}

pub record IsApplication (t f x : Nameless) : Type 0 where
  pub function : Nameless
  pub argument : Nameless
  pub is : t ≡ app function argument
  pub functions : strip function ≡ f
  pub arguments : strip argument ≡ x

pub like_app : (t f x : Nameless) → strip t ≡ app f x → IsApplication t f x
like_app (free v) f x e = absurd (cc)
like_app (bound i) f x e = absurd (cc)
like_app (fixed c s) f x e = absurd (cc)
like_app (app g y) f x e = record { function = g; argument = y; is = refl; functions = cc; arguments = cc }
like_app (lam a s b) f x e = absurd (cc)

pub like_fixed : (t : Nameless) (c : List ℕ) (s : TypeTree) → strip t ≡ fixed c s → t ≡ fixed c s
like_fixed (free v) c s e = absurd (cc)
like_fixed (bound i) c s e = absurd (cc)
like_fixed (fixed d r) c s e = e
like_fixed (app g y) c s e = absurd (cc)
like_fixed (lam a r b) c s e = absurd (cc)

-- a constant applied to two terms
pub record IsBinary (t k x y : Nameless) : Type 0 where
  pub first : Nameless
  pub second : Nameless
  pub is : t ≡ app (app k first) second
  pub firsts : strip first ≡ x
  pub seconds : strip second ≡ y

pub like_binary : (t : Nameless) (c : List ℕ) (s : TypeTree) (x y : Nameless) → strip t ≡ app (app (fixed c s) x) y → IsBinary t (fixed c s) x y
like_binary t c s x y e =
    let outer = like_app t (app (fixed c s) x) y e in
    let inner = like_app outer.function (fixed c s) x outer.functions in
    record {
      first = inner.argument;
      second = outer.argument;
      is = outer.is ∙ (λ i. app (inner.is i) outer.argument) ∙ (λ i. app (app (like_fixed inner.function c s inner.functions i) inner.argument) outer.argument);
      firsts = inner.arguments;
      seconds = outer.arguments;
    }

-- the sides of a term that is an equation up to bound names
pub record IsEquation (t : Nameless) (a : TypeTree) (l r : Nameless) : Type 0 where
  pub left : Nameless
  pub right : Nameless
  pub is : dest_eq t ≡ Some (record { sides_type = a; left = left; right = right })
  pub lefts : strip left ≡ strip l
  pub rights : strip right ≡ strip r

pub like_equation : (t : Nameless) (a : TypeTree) (l r : Nameless) → strip t ≡ strip (equation a l r) → IsEquation t a l r
like_equation t a l r e =
    let b = like_binary t (codes "=") (equality_type a) (strip l) (strip r) e in
    record { left = b.first; right = b.second; is = ap dest_eq b.is ∙ dest_eq_equation a b.first b.second; lefts = b.firsts; rights = b.seconds }
