-- The theorem that a definition of a function makes.
-- Source: HOL Light's bool.ml, new_definition, whose theorem quantifies over the parameters.
use Rattle.std.specs.Prelude.{ℕ, zero, suc}
use Rattle.hol_types.specs.Tree.{TypeTree}
use Rattle.hol_terms.specs.Nameless.{Nameless, free, bound, fixed, app, lam}
use Rattle.hol_subst.specs.Shift.{shift}
use Rattle.hol_formulas.specs.Equation.{equation}
use Rattle.hol_formulas.specs.Formula.{universal}
use Rattle.hol_equal.specs.Applied.{range_of}

-- From `l = \v1 .. vn. r`, of a type: `!v1 .. vn. l v1 .. vn = r`. Where fewer variables are abstracted, as many as are.
abbrev pub for_all : ℕ → TypeTree → Nameless → Nameless → Nameless
for_all zero a l r = equation a l r
for_all (suc n) a l (lam b s r) = universal (record { base = b; domain = s; body = for_all n (range_of a) (app (shift 1 0 l) (bound 0)) r })
for_all (suc n) a l (free v) = equation a l (free v)
for_all (suc n) a l (bound i) = equation a l (bound i)
for_all (suc n) a l (fixed c s) = equation a l (fixed c s)
for_all (suc n) a l (app f x) = equation a l (app f x)
