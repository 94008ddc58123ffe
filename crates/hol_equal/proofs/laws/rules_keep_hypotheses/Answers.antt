use Rattle.hol_equal.proofs.KeptHypotheses.{sym_keeps, ap_term_keeps, ap_thm_keeps, alpha_keeps, beta_conv_keeps, prove_hyp_keeps, subst_keeps}
use Rattle.hol_equal.proofs.laws.rules_keep_hypotheses.Goals as goal

pub returns-clause-sym : goal.returns-clause-sym
returns-clause-sym c = λ a. sym_keeps a

pub returns-clause-ap_term : goal.returns-clause-ap_term
returns-clause-ap_term c = λ basis f a. ap_term_keeps basis f a

pub returns-clause-ap_thm : goal.returns-clause-ap_thm
returns-clause-ap_thm c = λ basis a x. ap_thm_keeps basis a x

pub returns-clause-alpha : goal.returns-clause-alpha
returns-clause-alpha c = λ basis s t. alpha_keeps basis s t

pub returns-clause-beta_conv : goal.returns-clause-beta_conv
returns-clause-beta_conv c = λ basis t. beta_conv_keeps basis t

pub returns-clause-prove_hyp : goal.returns-clause-prove_hyp
returns-clause-prove_hyp c = λ a b. prove_hyp_keeps a b

pub returns-clause-subst : goal.returns-clause-subst
returns-clause-subst c = λ basis a v m b. subst_keeps basis a v m b
