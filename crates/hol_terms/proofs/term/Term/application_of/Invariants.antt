use Rattle.hol_terms.specs.Code.{named_code}
use Rattle.hol_terms.specs.View.{named_of}
use Rattle.hol_terms.proofs.term.Term.application_of.Given as goal

abbrev pub ghost-about : goal.ghost-about
ghost-about a = named_code (named_of a.value.now)
