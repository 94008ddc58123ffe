-- Formulas with the names of their bound variables, as HOL Light's bool.ml makes them: mk_conj, mk_forall and so on. Leaving the names out gives the formulas of
-- Formula.antt.
use Rattle.std.specs.Prelude.{ℕ, List, codes}
use Rattle.hol_types.specs.Tree.{TypeTree}
use Rattle.hol_terms.specs.Named.{Named, constant, comb, abs}
use Rattle.hol_formulas.specs.Equation.{bool_type, mk_eq}
use Rattle.hol_formulas.specs.Formula.{connective_type, negation_type, quantifier_type}

abbrev pub mk_truth : Named
mk_truth = constant (codes "T") bool_type

abbrev pub mk_falsity : Named
mk_falsity = constant (codes "F") bool_type

-- the connective c between p and q
abbrev pub mk_binary : List ℕ → Named → Named → Named
mk_binary c p q = comb (comb (constant c connective_type) p) q

-- p /\ q
abbrev pub mk_conj : Named → Named → Named
mk_conj p q = mk_binary (codes "/\\") p q

-- p \/ q
abbrev pub mk_disj : Named → Named → Named
mk_disj p q = mk_binary (codes "\\/") p q

-- p ==> q
abbrev pub mk_imp : Named → Named → Named
mk_imp p q = mk_binary (codes "==>") p q

-- p <=> q
abbrev pub mk_iff : Named → Named → Named
mk_iff p q = mk_eq bool_type p q

-- ~p
abbrev pub mk_neg : Named → Named
mk_neg p = comb (constant (codes "~") negation_type) p

-- the quantifier c over the variable v
abbrev pub mk_quantifier : List ℕ → List ℕ × TypeTree → Named → Named
mk_quantifier c v p = comb (constant c (quantifier_type v.1)) (abs v p)

-- !v. p
abbrev pub mk_forall : List ℕ × TypeTree → Named → Named
mk_forall v p = mk_quantifier (codes "!") v p

-- ?v. p
abbrev pub mk_exists : List ℕ × TypeTree → Named → Named
mk_exists v p = mk_quantifier (codes "?") v p
