use Rattle.std.specs.Cmp.Lexicographic.{nat_list_cmp_total}
use Rattle.hol_types.proofs.OrderLaws.{name_equal, type_cmp_total, type_equal}
use Rattle.hol_subst.proofs.CodeOrder.{nameless_total, nameless_same}
use Rattle.hol_kernel.proofs.ItemOrder.{total, only}
use Rattle.hol_model.proofs.Orders.{same_types, same_variables, listed}
use Rattle.hol_model.proofs.definitions.orders_are_total.Goals as goal

pub returns-clause-names : goal.returns-clause-names
returns-clause-names c = nat_list_cmp_total

pub returns-clause-names_differ : goal.returns-clause-names_differ
returns-clause-names_differ c = name_equal

pub returns-clause-types : goal.returns-clause-types
returns-clause-types c = type_cmp_total

pub returns-clause-types_differ : goal.returns-clause-types_differ
returns-clause-types_differ c = type_equal

pub returns-clause-terms : goal.returns-clause-terms
returns-clause-terms c = nameless_total

pub returns-clause-terms_differ : goal.returns-clause-terms_differ
returns-clause-terms_differ c = nameless_same

pub returns-clause-items : goal.returns-clause-items
returns-clause-items c = total

pub returns-clause-items_differ : goal.returns-clause-items_differ
returns-clause-items_differ c = only

pub returns-clause-same_types : goal.returns-clause-same_types
returns-clause-same_types c = same_types

pub returns-clause-same_variables : goal.returns-clause-same_variables
returns-clause-same_variables c = same_variables

pub returns-clause-listed : goal.returns-clause-listed
returns-clause-listed c = listed
