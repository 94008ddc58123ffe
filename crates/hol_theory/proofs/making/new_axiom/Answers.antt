use Rattle.std.proofs.Common.{[]}
use Rattle.std.proofs.lemmas.Result.{err_from_is_err_and}
use Rattle.hol_terms.specs.Nameless.{nameless}
use Rattle.hol_theory.specs.Making.{IsNewAxiom}
use Rattle.hol_theory.proofs.Declaring.{axiom_fails, axiom_made}
use Rattle.hol_theory.proofs.making.new_axiom.Goals as goal

pub returns-in_err-theorem : goal.returns-in_err-theorem
returns-in_err-theorem c =
    let p = err_from_is_err_and c.from_residual-in_err-theorem.result c.from_residual-in_err-theorem.ensures.1 in
    rw (p.1, p.2) (axiom_fails c.args.basis.now c.in_ok-larger.larger c.args.name.now (nameless [] c.args.p.now) (IsNewAxiom c.args.basis.now c.args.name.now (nameless [] c.args.p.now)) _ c.in_ok-larger.ensures.made c.in_err-theorem.ensures)

pub returns : goal.returns
returns c = axiom_made c.args.basis.now c.in_ok-larger.larger c.args.name.now c.as_str.result.now (nameless [] c.args.p.now) c.in_ok-theorem.theorem c.in_ok-key.key c.in_ok-value.value c.in_ok-larger.ensures.made c.in_ok-theorem.ensures c.in_ok-key.ensures c.as_str.ensures c.in_ok-value.ensures
