use Rattle.std.proofs.Common.{◌≡◌, ap, sym, ◌∙◌, Some, List}
use Rattle.hol_equal.proofs.Outcomes.{found}
use Rattle.hol_prelude.specs.Statements.{prelude_statements, prelude_theorem}
use Rattle.hol_prelude.specs.Prelude.{theorem_in}
use Rattle.hol_prelude.proofs.Names.{Entry, named_found}
use Rattle.hol_prelude.proofs.prelude.Prelude.get.Goals as goal

pub returns : goal.returns
returns c =
    let name = c.args.name.now in
    let same : theorem_in c.deref.result.now name ≡ prelude_theorem name = ap (λ (es : List Entry). theorem_in es name) (c.deref.ensures.value ∙ c.self.invariant.0) ∙ named_found prelude_statements name in
    found (λ th. theorem_in c.deref.result.now name ≡ Some th.now) (λ th. prelude_theorem name ≡ Some th.now) c.find.result (λ e. sym same ∙ e) (λ th e. sym same ∙ e) c.find.ensures
