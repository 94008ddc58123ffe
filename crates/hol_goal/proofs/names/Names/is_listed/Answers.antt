use Rattle.std.proofs.Common.{◌≡◌, ◌∙◌, true, false, rules, bytes_eq}
use Rattle.std.specs.List.{list_any}
use Rattle.hol_goal.proofs.NameParts.{in_part, in_later}
use Rattle.hol_goal.proofs.names.Names.is_listed.Goals as goal

pub returns-then-has : goal.returns-then-has
returns-then-has c =
    let found : true ≡ list_any (bytes_eq c.args.name.now) c.part-item.result.value = search rules in
    in_part (λ part. part.value) (bytes_eq c.args.name.now) c.args.self.now c.deref-part-items.result.now c.loop-part.part-index c.part-item.result c.loop-part-test.true c.part-item.is c.loop-part.invariant found

pub loop-part-preserved : goal.loop-part-preserved
loop-part-preserved c =
    let none : false ≡ list_any (bytes_eq c.args.name.now) c.part-item.result.value = search rules in
    in_later (λ part. part.value) (bytes_eq c.args.name.now) c.args.self.now c.deref-part-items.result.now c.loop-part.part-index c.part-item.result c.loop-part-test.true c.part-item.is c.loop-part.invariant none
