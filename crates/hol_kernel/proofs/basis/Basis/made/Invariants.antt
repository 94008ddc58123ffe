use Rattle.hol_kernel.specs.Items.{item_set, items_code}
use Rattle.hol_kernel.proofs.basis.Basis.made.Given as goal

abbrev pub ghost-about : goal.ghost-about
ghost-about a = items_code.code (item_set a.value.now.items)
