use Rattle.hol_kernel.proofs.RuleLaws.{inst_type_monotone, inst_monotone}
use Rattle.hol_kernel.proofs.laws.rules_widen.Goals as goal

pub returns-clause-inst_type : goal.returns-clause-inst_type
returns-clause-inst_type c = λ pairs s. inst_type_monotone pairs s

pub returns-clause-inst : goal.returns-clause-inst
returns-clause-inst c = λ pairs s. inst_monotone pairs s
