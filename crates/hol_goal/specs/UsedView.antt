-- What the code's `Used` stands for.
use Rattle.hol_goal.specs.Answer.{UsedValue}
use Rattle.hol_goal.specs.declared.used.Used.{Used}

abbrev pub used_value : Used → UsedValue
used_value used = record { turns_left = used.left; tested = used.tested.items }
