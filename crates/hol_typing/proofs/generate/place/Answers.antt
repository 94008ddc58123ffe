use Rattle.std.proofs.Common.{◌≡◌, [], arith, get_or, sym, ◌∙◌, true, bytes_eq, rules}
use Rattle.std.proofs.lemmas.List.{get_or_default}
use Rattle.hol_typing.proofs.Instances.{place_at, no_place}
use Rattle.hol_typing.proofs.generate.place.Goals as goal

pub returns-then-same : goal.returns-then-same
returns-then-same c =
    let e : get_or c.args.names.now c.loop-i.i [] ≡ c.index-names-i.result = get_or_default c.args.names.now c.loop-i.i [] c.index-names-i.result (omega arith) ∙ sym c.index-names-i.is in
    let f : bytes_eq c.index-names-i.result c.args.name.now ≡ true = search rules in
    place_at c.args.names.now c.args.name.now c.loop-i.i c.loop-i.invariant (omega arith) (rw e f)

pub returns : goal.returns
returns c = no_place c.args.names.now c.args.name.now (λ k lt. c.loop-i.invariant k (omega arith))
