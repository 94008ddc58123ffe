use Rattle.std.specs.Prelude.{codes}
use Rattle.std.proofs.Common.{rules}
use Rattle.hol_terms.specs.Named.{constant, comb}
use Rattle.hol_formulas.specs.Equation.{equality_type}
use Rattle.hol_formulas.specs.Formula.{connective_type}
use Rattle.hol_formulas.specs.Written.{sort_type, written_term}
use Rattle.hol_formulas.proofs.WrittenParts.{argument_stands}
use Rattle.hol_formulas.proofs.written.+made.Goals as goal

pub make_application-written_term-requires-2 : goal.make_application-written_term-requires-2
make_application-written_term-requires-2 n c = (search rules, argument_stands (written_term c.args.f.now) (written_term c.args.x.now) c.requires)

pub make_connective-written_term-requires-2 : goal.make_connective-written_term-requires-2
make_connective-written_term-requires-2 n c =
    (search rules, argument_stands (comb (constant c.args.sign.now connective_type) (written_term c.args.p.now)) (written_term c.args.q.now) c.requires.1.1)

pub make_equation-written_term-requires-2 : goal.make_equation-written_term-requires-2
make_equation-written_term-requires-2 n c =
    (search rules, argument_stands (comb (constant (codes "=") (equality_type (sort_type c.args.sort))) (written_term c.args.left.now)) (written_term c.args.right.now) c.requires)
