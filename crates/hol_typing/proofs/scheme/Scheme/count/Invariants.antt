use Rattle.hol_types.specs.Code.{coded_type}
use Rattle.hol_typing.proofs.scheme.Scheme.count.Given as goal

abbrev pub ghost-about : goal.ghost-about
ghost-about a = coded_type.code a.value.now
