use Rattle.std.proofs.Common.{◌≡◌, [], map, rules}
use Rattle.hol_types.specs.Subst.{type_subst}
use Rattle.hol_terms.specs.Nameless.{nameless}
use Rattle.hol_steps.proofs.KeptVariables.{determined_kept, undetermined_kept, on_ok_both}
use Rattle.hol_steps.proofs.keeping.keep.Goals as goal

pub returns-then-not-is_undetermined : goal.returns-then-not-is_undetermined
returns-then-not-is_undetermined c =
    determined_kept (nameless [] c.args.s.now) (nameless [] c.args.t.now) (c.args.v.now, c.args.u.now) (map (nameless []) c.args.avoid.now.items) c.args.whole.now c.if-not-is_undetermined.ensures

pub returns : goal.returns
returns c =
    let typed : c.in_ok-ty.ty ≡ type_subst c.args.whole.now.types c.args.u.now.1 = search rules in
    on_ok_both c.put_own.result
    (λ longer is. undetermined_kept (nameless [] c.args.s.now) (nameless [] c.args.t.now) (c.args.v.now, c.args.u.now) (map (nameless []) c.args.avoid.now.items) (map (nameless []) c.put_own.new.avoid.items) c.args.whole.now
    c.put_own.new.whole c.in_ok-ty.ty c.if-not-is_undetermined.ensures typed longer is)
    c.put_own.ensures.avoid c.put_own.ensures.whole
