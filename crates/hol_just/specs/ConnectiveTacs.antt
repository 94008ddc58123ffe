-- What the functions on connectives leave of a goal, or nothing where they do not fit it (HOL Light Reference Manual). Terms are compared up to bound names.
use Rattle.std.specs.Prelude.{List, [], ◌∷◌, cond, Option, Some, None}
use Rattle.std.specs.Option.{option_map, option_or}
use Rattle.hol_terms.specs.Nameless.{Nameless}
use Rattle.hol_terms.specs.Alpha.{alpha_eq}
use Rattle.hol_formulas.specs.Formula.{falsity, implication, is_falsity, dest_conj, dest_disj, dest_imp, dest_neg}
use Rattle.hol_kernel.specs.Given.{Given, given_sequent}
use Rattle.hol_goal.specs.Goal.{GoalValue}
use Rattle.hol_just.specs.Leaving.{concluding, assuming}

-- ACCEPT_TAC closes what the theorem concludes.
abbrev pub accept_tac : Given → GoalValue → Option (List GoalValue)
accept_tac th goal = cond (alpha_eq (given_sequent th).concl goal.conclusion) (Some []) None

-- CONJ_TAC leaves p and q of `p /\ q`.
abbrev pub conj_tac : GoalValue → Option (List GoalValue)
conj_tac goal = option_map (λ p. concluding goal p.0 ∷ concluding goal p.1 ∷ []) (dest_conj goal.conclusion)

-- DISJ1_TAC and DISJ2_TAC leave p, and q, of `p \/ q`.
abbrev pub disj1_tac : GoalValue → Option (List GoalValue)
disj1_tac goal = option_map (λ p. concluding goal p.0 ∷ []) (dest_disj goal.conclusion)

abbrev pub disj2_tac : GoalValue → Option (List GoalValue)
disj2_tac goal = option_map (λ p. concluding goal p.1 ∷ []) (dest_disj goal.conclusion)

-- DISCH_TAC assumes p of `p ==> q`, and of `~p`, which leaves F.
abbrev pub disch_tac : GoalValue → Option (List GoalValue)
disch_tac goal = option_or (option_map (λ p. assuming goal p.0 p.1 ∷ []) (dest_imp goal.conclusion)) (option_map (λ p. assuming goal p falsity ∷ []) (dest_neg goal.conclusion))

-- UNDISCH_TAC takes the newest assumption p that equals the term out, and leaves `p ==> w` of w.
abbrev pub taken_out : Nameless → List Nameless → Option (Nameless × List Nameless)
taken_out t [] = None
taken_out t (p ∷ ps) = cond (alpha_eq p t) (Some (p, ps)) (option_map (λ r. (r.0, p ∷ r.1)) (taken_out t ps))

abbrev pub undisch_tac : Nameless → GoalValue → Option (List GoalValue)
undisch_tac t goal = option_map (λ r. record { assumptions = r.1; conclusion = implication r.0 goal.conclusion } ∷ []) (taken_out t goal.assumptions)

-- MP_TAC leaves `c ==> w` of w, for a theorem c.
abbrev pub mp_tac : Given → GoalValue → Option (List GoalValue)
mp_tac th goal = Some (concluding goal (implication (given_sequent th).concl goal.conclusion) ∷ [])

-- ASSUME_TAC assumes a theorem c.
abbrev pub assume_tac : Given → GoalValue → Option (List GoalValue)
assume_tac th goal = Some (assuming goal (given_sequent th).concl goal.conclusion ∷ [])

-- CONTR_TAC closes every goal by a theorem F.
abbrev pub contr_tac : Given → GoalValue → Option (List GoalValue)
contr_tac th goal = cond (is_falsity (given_sequent th).concl) (Some []) None

-- DISJ_CASES_TAC leaves the goal twice, with p and with q assumed, by a theorem `p \/ q`.
abbrev pub disj_cases_tac : Given → GoalValue → Option (List GoalValue)
disj_cases_tac th goal = option_map (λ p. assuming goal p.0 goal.conclusion ∷ assuming goal p.1 goal.conclusion ∷ []) (dest_disj (given_sequent th).concl)
