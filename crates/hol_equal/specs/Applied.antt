-- What rules give where they apply, as sequents: cited by the calls for callers that know that the rule applies. Laws in proofs/ lead from here to the rules.
use Rattle.std.specs.Prelude.{ℕ, List}
use Rattle.std.specs.FinSet as set
use Rattle.hol_types.specs.Tree.{TypeTree, TyVar, TyApp, TypeList, no_types, more_types}
use Rattle.hol_types.specs.Fun.{fun_type}
use Rattle.hol_terms.specs.Nameless.{Nameless, free, bound, fixed, app, lam}
use Rattle.hol_subst.specs.Closing.{bind, open_with}
use Rattle.hol_formulas.specs.Equation.{bool_type, equation}
use Rattle.hol_equal.specs.Rules.{m_with}
use Rattle.hol_kernel.specs.Sequent.{no_hyps, Sequent, sequent_of}

-- ---- parts of terms; a term without the part stands for it

-- the function and the argument of an application (basics.ml: rator, rand)
abbrev pub rator : Nameless → Nameless
rator (free v) = free v
rator (bound i) = bound i
rator (fixed c s) = fixed c s
rator (app f x) = f
rator (lam a s b) = lam a s b

abbrev pub rand : Nameless → Nameless
rand (free v) = free v
rand (bound i) = bound i
rand (fixed c s) = fixed c s
rand (app f x) = x
rand (lam a s b) = lam a s b

-- the body of an abstraction
abbrev pub body : Nameless → Nameless
body (free v) = free v
body (bound i) = bound i
body (fixed c s) = fixed c s
body (app f x) = app f x
body (lam a s b) = b

-- the type of a constant
abbrev pub constant_type : Nameless → TypeTree
constant_type (free v) = bool_type
constant_type (bound i) = bool_type
constant_type (fixed c s) = s
constant_type (app f x) = bool_type
constant_type (lam a s b) = bool_type

-- the first and the second argument of a type constructor
abbrev pub first_type : TypeList → TypeTree
first_type no_types = bool_type
first_type (more_types a ts) = a

abbrev pub second_type : TypeList → TypeTree
second_type no_types = bool_type
second_type (more_types a ts) = first_type ts

abbrev pub domain_of : TypeTree → TypeTree
domain_of (TyVar a) = TyVar a
domain_of (TyApp c ts) = first_type ts

abbrev pub range_of : TypeTree → TypeTree
range_of (TyVar a) = TyVar a
range_of (TyApp c ts) = second_type ts

-- the sides of an equation and their type
abbrev pub lhs : Nameless → Nameless
lhs t = rand (rator t)

abbrev pub rhs : Nameless → Nameless
rhs t = rand t

abbrev pub side_type : Nameless → TypeTree
side_type t = domain_of (constant_type (rator (rator t)))

-- ---- the kernel's rules

abbrev pub transitive : Sequent → Sequent → Sequent
transitive a b = sequent_of (set.union a.hyps b.hyps) (equation (side_type a.concl) (lhs a.concl) (rhs b.concl))

abbrev pub combined : Sequent → Sequent → Sequent
combined a b = sequent_of (set.union a.hyps b.hyps) (equation (range_of (side_type a.concl)) (app (lhs a.concl) (lhs b.concl)) (app (rhs a.concl) (rhs b.concl)))

abbrev pub abstracted : List ℕ × TypeTree → Sequent → Sequent
abstracted v a = sequent_of a.hyps (equation (fun_type v.1 (side_type a.concl)) (bind v (lhs a.concl)) (bind v (rhs a.concl)))

-- EQ_MP, and MP
abbrev pub concluded : Sequent → Sequent → Sequent
concluded a b = sequent_of (set.union a.hyps b.hyps) (rhs a.concl)

-- ---- rules of equations

abbrev pub symmetric : Sequent → Sequent
symmetric a = sequent_of a.hyps (equation (side_type a.concl) (rhs a.concl) (lhs a.concl))

-- for a function f of the type s
abbrev pub under : TypeTree → Nameless → Sequent → Sequent
under s f a = sequent_of a.hyps (equation (range_of s) (app f (lhs a.concl)) (app f (rhs a.concl)))

abbrev pub at_argument : Nameless → Sequent → Sequent
at_argument x a = sequent_of a.hyps (equation (range_of (side_type a.concl)) (app (lhs a.concl) x) (app (rhs a.concl) x))

-- for a redex of the type s
abbrev pub reduct : Nameless → Nameless
reduct t = open_with (rand t) 0 (body (rator t))

abbrev pub contraction : TypeTree → Nameless → Sequent
contraction s t = sequent_of no_hyps (equation s t (reduct t))

-- SUBST: m with the right side for v
abbrev pub substituted : List ℕ × TypeTree → Nameless → Sequent → Sequent → Sequent
substituted v m a b = sequent_of (set.union a.hyps b.hyps) (m_with (rhs a.concl) v m)
