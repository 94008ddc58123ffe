-- What steps of derivations give, as sequents: cited by private clauses alone. Terms that stand under a binder here have no free indices.
use Rattle.std.specs.Prelude.{ℕ, List, codes}
use Rattle.std.specs.FinSet as set
use Rattle.hol_types.specs.Tree.{TypeTree}
use Rattle.hol_terms.specs.Nameless.{Nameless, free, bound, fixed, app}
use Rattle.hol_formulas.specs.Equation.{bool_type}
use Rattle.hol_formulas.specs.Formula.{Abstraction, quantifier_type, falsity, disjunction, implication, universal}
use Rattle.hol_formulas.specs.Constants.{var_a}
use Rattle.hol_formulas.specs.Prelude.{property, element}
use Rattle.hol_kernel.specs.Sequent.{only_hyp, Sequent, sequent_of}
use Rattle.hol_equal.specs.Applied.{lhs}

-- l, from l = r and r
abbrev pub replaced : Sequent → Sequent → Sequent
replaced e a = sequent_of (set.union e.hyps a.hyps) (lhs e.concl)

-- ---- falsity

-- ---- disjunction

-- (p ==> r) ==> (q ==> r) ==> r
abbrev pub either : Nameless → Nameless → Nameless → Nameless
either p q r = implication (implication p r) (implication (implication q r) r)

abbrev pub either_for_all : Nameless → Nameless → Abstraction
either_for_all p q = record { base = codes "r"; domain = bool_type; body = either p q (bound 0) }

-- the variable of the name of type bool
abbrev pub letter : List ℕ → Nameless
letter name = free (name, bool_type)

-- ---- existence

-- !x. f x ==> q
abbrev pub all_imply : TypeTree → Nameless → Nameless → Nameless
all_imply a f q = universal (record { base = codes "x"; domain = a; body = implication (app f (bound 0)) q })

-- (?) f
abbrev pub exists_in : TypeTree → Nameless → Nameless
exists_in a f = app (fixed (codes "?") (quantifier_type a)) f

abbrev pub implied_by_all : TypeTree → Nameless → Abstraction
implied_by_all a f = record { base = codes "q"; domain = bool_type; body = implication (all_imply a f (bound 1)) (bound 0) }

-- P:A->bool, and P x
abbrev pub predicate : Nameless
predicate = free property

abbrev pub of_witness : Nameless
of_witness = app predicate (free (element (codes "x")))

-- !x. P x ==> q
abbrev pub all_witnesses : Nameless
all_witnesses = all_imply var_a predicate (letter (codes "q"))

-- q under the hypotheses !x. P x ==> q and P x
abbrev pub followed : Sequent
followed = sequent_of (set.union (only_hyp all_witnesses) (only_hyp of_witness)) (letter (codes "q"))
