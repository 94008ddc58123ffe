use Rattle.std.specs.Prelude.{List}
use Rattle.std.proofs.Common.{[], map, sym, subst}
use Rattle.hol_terms.specs.Named.{Named}
use Rattle.hol_terms.specs.Nameless.{nameless}
use Rattle.hol_steps.specs.Fresh.{AreAlike, terms_of}
use Rattle.hol_steps.proofs.FreshNames.{new_always}
use Rattle.hol_steps.proofs.pieces.new_variable.Goals as goal

pub returns : goal.returns
returns c =
    new_always c.fresh_variable.result (map (nameless []) c.as_slice.result.now) (map (nameless []) c.args.others.now) c.args.names.now (nameless [] c.args.piece.now) c.args.rest.now c.args.x.now
    (λ others' alike. subst (λ (ts : List Named). AreAlike (map (nameless []) ts) (terms_of others' (nameless [] c.args.piece.now) c.args.rest.now)) (sym c.as_slice.ensures.value) (c.in_ok-avoid.ensures others' alike))
    c.fresh_variable.ensures
