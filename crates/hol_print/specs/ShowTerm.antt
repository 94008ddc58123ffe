-- The text of a nameless term.
-- Source: the notation of HOL Light (parser.ml, printer.ml) for the connectives, `=` and the binders; the exact text is this project's.
use Rattle.std.specs.Prelude.{ℕ, zero, suc, ◌+◌, ◌-◌, List, [], ◌∷◌, ◌++◌, length, codes, Bool, false, cond, ◌&&◌, ◌||◌, nat_lt, bytes_eq, Option, Some, None, is_some, slice_get, unwrap_or}
use Rattle.hol_types.specs.Tree.{TypeTree}
use Rattle.hol_types.specs.Fun.{fun_parts}
use Rattle.hol_types.specs.Equal.{type_eq}
use Rattle.hol_types.specs.Names.{is_among}
use Rattle.hol_terms.specs.Nameless.{Nameless, free, bound, fixed, app, lam}
use Rattle.hol_formulas.specs.Equation.{bool_type}
use Rattle.hol_print.specs.ShowType.{in_parentheses}

-- ---- The names of bound variables. `env` has the shown names of the enclosing binders, the innermost first.

-- the names of free variables and constants in a term, and those of env that it shows; the d innermost binders are the term's own
abbrev pub names_at : Option (List ℕ) → List (List ℕ)
names_at None = []
names_at (Some name) = name ∷ []

abbrev pub names_in : ℕ → List (List ℕ) → Nameless → List (List ℕ)
names_in d env (free v) = v.0 ∷ []
names_in d env (bound i) = cond (nat_lt i d) [] (names_at (slice_get env (i - d)))
names_in d env (fixed c s) = c ∷ []
names_in d env (app f x) = names_in d env f ++ names_in d env x
names_in d env (lam a s b) = names_in (d + 1) env b

-- a with the fewest primes that make it none of the names: at most n, as many as there are names
abbrev pub primed : ℕ → List (List ℕ) → List ℕ → List ℕ
primed zero names a = a
primed (suc n) names a = cond (is_among names a) (primed n names (a ++ codes "'")) a

-- how a variable of base a is shown, whose binder has the body b
abbrev pub shown_name : List (List ℕ) → List ℕ → Nameless → List ℕ
shown_name env a b = let names = names_in 1 env b in primed (length names) names a

-- ---- Notation

-- `=` at bool is `<=>`
abbrev pub first_is_bool : Option (TypeTree × TypeTree) → Bool
first_is_bool None = false
first_is_bool (Some p) = type_eq p.0 bool_type

abbrev pub symbol : List ℕ → TypeTree → List ℕ
symbol c s = cond (bytes_eq c (codes "=") && first_is_bool (fun_parts s)) (codes "<=>") c

-- how strongly an infix binds; all are right associative
abbrev pub infix_number : List ℕ → Option ℕ
infix_number c =
    cond (bytes_eq c (codes "<=>")) (Some 2)
    (cond (bytes_eq c (codes "==>")) (Some 4)
    (cond (bytes_eq c (codes "\\/")) (Some 6)
    (cond (bytes_eq c (codes "/\\")) (Some 8)
    (cond (bytes_eq c (codes "=")) (Some 12) None))))

abbrev pub is_not : List ℕ → Bool
is_not c = bytes_eq c (codes "~")

abbrev pub is_quantifier : List ℕ → Bool
is_quantifier c = bytes_eq c (codes "!") || bytes_eq c (codes "?") || bytes_eq c (codes "?!") || bytes_eq c (codes "@")

abbrev pub is_operator : List ℕ → Bool
is_operator c = is_some (infix_number c) || is_not c || is_quantifier c

-- a term as it is written: parentheses are left to `text`
pub data Syntax : Type 0 where
  -- a variable, or a constant, which stands in parentheses where it is an operator
  Word : List ℕ → Syntax
  -- a binder's symbol, its variable and its body
  Binder : List ℕ → List ℕ → Syntax → Syntax
  -- how strongly the infix binds, the infix, and its operands
  Infix : ℕ → List ℕ → Syntax → Syntax → Syntax
  Negation : Syntax → Syntax
  Apply : Syntax → Syntax → Syntax

abbrev pub prefixed : List ℕ → Syntax → Syntax → Syntax
prefixed c f x = cond (is_not c) (Negation x) (Apply f x)

abbrev pub infixed : Option ℕ → List ℕ → Syntax → Syntax → Syntax → Syntax
infixed (Some n) c x f y = Infix n c x y
infixed None c x f y = Apply f y

-- an operator applied to two arguments (`~` to one, `!` and its like to one abstraction) is written in its notation
abbrev pub syntax : List (List ℕ) → Nameless → Syntax
syntax env (free v) = Word v.0
syntax env (bound i) = Word (unwrap_or (slice_get env i) [])
syntax env (fixed c s) = Word (in_parentheses (is_operator (symbol c s)) (symbol c s))
syntax env (lam a s b) = Binder (codes "\\") (shown_name env a b) (syntax (shown_name env a b ∷ env) b)
-- a constant and its first argument
syntax env (app (fixed c s) (free v)) = prefixed c (syntax env (fixed c s)) (syntax env (free v))
syntax env (app (fixed c s) (bound i)) = prefixed c (syntax env (fixed c s)) (syntax env (bound i))
syntax env (app (fixed c s) (fixed d t)) = prefixed c (syntax env (fixed c s)) (syntax env (fixed d t))
syntax env (app (fixed c s) (app g y)) = prefixed c (syntax env (fixed c s)) (syntax env (app g y))
syntax env (app (fixed c s) (lam a t b)) =
    cond (is_quantifier c)
    (Binder c (shown_name env a b) (syntax (shown_name env a b ∷ env) b))
    (prefixed c (syntax env (fixed c s)) (syntax env (lam a t b)))
-- a constant and two arguments
syntax env (app (app (fixed c s) x) y) = infixed (infix_number (symbol c s)) (symbol c s) (syntax env x) (syntax env (app (fixed c s) x)) (syntax env y)
-- what else is applied
syntax env (app (app (free v) x) y) = Apply (syntax env (app (free v) x)) (syntax env y)
syntax env (app (app (bound i) x) y) = Apply (syntax env (app (bound i) x)) (syntax env y)
syntax env (app (app (app g w) x) y) = Apply (syntax env (app (app g w) x)) (syntax env y)
syntax env (app (app (lam a s b) x) y) = Apply (syntax env (app (lam a s b) x)) (syntax env y)
syntax env (app (free v) x) = Apply (syntax env (free v)) (syntax env x)
syntax env (app (bound i) x) = Apply (syntax env (bound i)) (syntax env x)
syntax env (app (lam a s b) x) = Apply (syntax env (lam a s b)) (syntax env x)

-- ---- Text

-- where a term stands
pub data Place : Type 0 where
  -- where what binds less than this needs parentheses
  Within : ℕ → Place
  -- right after the variable of a binder of this symbol
  After : List ℕ → Place

abbrev pub before : Place → ℕ → List ℕ
before (Within least) n = cond (nat_lt n least) (codes "(") []
before (After k) n = codes ". "

abbrev pub after : Place → ℕ → List ℕ
after (Within least) n = cond (nat_lt n least) (codes ")") []
after (After k) n = []

-- what stands before the variable of a binder of symbol k: successive ones of one symbol stand together
abbrev pub opening : Place → List ℕ → List ℕ
opening (Within least) k = before (Within least) 0 ++ k
opening (After j) k = cond (bytes_eq j k) (codes " ") (codes ". " ++ k)

-- A binder binds least (0), then the infixes by their numbers, then `~` (14), application (15), words (16).
abbrev pub text : Place → Syntax → List ℕ
text p (Word w) = before p 16 ++ w ++ after p 16
text p (Binder k x b) = opening p k ++ x ++ text (After k) b ++ after p 0
text p (Infix n c x y) = before p n ++ text (Within (n + 1)) x ++ codes " " ++ c ++ codes " " ++ text (Within n) y ++ after p n
text p (Negation x) = before p 14 ++ codes "~" ++ text (Within 14) x ++ after p 14
text p (Apply f x) = before p 15 ++ text (Within 15) f ++ codes " " ++ text (Within 16) x ++ after p 15

abbrev pub show : Nameless → List ℕ
show t = text (Within 0) (syntax [] t)
