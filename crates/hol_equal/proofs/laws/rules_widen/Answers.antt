use Rattle.hol_equal.proofs.RuleLaws.{ap_term_monotone, ap_thm_monotone, alpha_monotone, beta_conv_monotone, subst_monotone}
use Rattle.hol_equal.proofs.laws.rules_widen.Goals as goal

pub returns-clause-ap_term : goal.returns-clause-ap_term
returns-clause-ap_term c = λ f a. ap_term_monotone f a

pub returns-clause-ap_thm : goal.returns-clause-ap_thm
returns-clause-ap_thm c = λ a x. ap_thm_monotone a x

pub returns-clause-alpha : goal.returns-clause-alpha
returns-clause-alpha c = λ s t. alpha_monotone s t

pub returns-clause-beta_conv : goal.returns-clause-beta_conv
returns-clause-beta_conv c = λ t. beta_conv_monotone t

pub returns-clause-subst : goal.returns-clause-subst
returns-clause-subst c = λ a v m b. subst_monotone a v m b
