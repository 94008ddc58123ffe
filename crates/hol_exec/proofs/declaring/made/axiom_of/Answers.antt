use Rattle.std.proofs.Common.{[], sym, ◌∙◌, subst, Bool, ◌≡◌, rules}
use Rattle.std.specs.Prelude.{true, IfOk}
use Rattle.hol_terms.specs.Nameless.{nameless}
use Rattle.hol_exec.specs.Making.{StatesAxiom}
use Rattle.hol_exec.proofs.ReadOver.{statement_over}
use Rattle.hol_exec.proofs.UnlessTaken.{taken_refused, untaken_made}
use Rattle.hol_exec.proofs.declaring.made.axiom_of.Goals as goal

pub axiom_stated-requires-clause-new : goal.axiom_stated-requires-clause-new
axiom_stated-requires-clause-new c = sym c.in_default.ensures.key

pub axiom_stated-requires-clause-statement : goal.axiom_stated-requires-clause-statement
axiom_stated-requires-clause-statement c =
    statement_over _ _ c.args.place c.requires.read.0 (nameless [] c.args.term.now) c.is_statement.result c.first_taken.ensures.theory c.requires.read.1 (search rules) c.is_statement.ensures

pub returns-in-Some : goal.returns-in-Some
returns-in-Some c =
    let holds : c.is_statement.result ≡ true = search rules in
    subst (λ (b : Bool). IfOk c.name_taken.result (StatesAxiom c.args.name.now c.args.place c.args.reads.now (nameless [] c.args.term.now) b)) (sym holds ∙ c.is_statement.ensures)
    (taken_refused c.name_taken.result _ _ c.in-Some.key.now c.in-Some.ensures.key c.name_taken.ensures)

pub returns : goal.returns
returns c =
    let holds : c.is_statement.result ≡ true = search rules in
    subst (λ (b : Bool). IfOk c.axiom_stated.result (StatesAxiom c.args.name.now c.args.place c.args.reads.now (nameless [] c.args.term.now) b)) (sym holds ∙ c.is_statement.ensures)
    (untaken_made c.axiom_stated.result _ _ c.in_default.ensures.key c.axiom_stated.ensures)
