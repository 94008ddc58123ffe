use Rattle.std.proofs.Common.{◌≡◌, ◌∙◌, ◌+◌, true, Some, rules}
use Rattle.hol_types.specs.Names.{is_among, type_names}
use Rattle.hol_typing.specs.Found.{found_at}
use Rattle.hol_typing.proofs.Parts.{adds_one, read_found}
use Rattle.hol_typing.proofs.finding.add_bound.Goals as goal

pub returns-in_ok-push-in-Some : goal.returns-in_ok-push-in-Some
returns-in_ok-push-in-Some c =
    let stands : is_among (type_names c.args.part.now.ty) c.args.name.now ≡ true = search rules in
    let some : found_at c.args.found.now (c.args.part.now.base + c.args.at) ≡ Some c.in-Some.shape =
    read_found c.args.found.now (c.args.part.now.base + c.args.at) c.index-found-part.result c.requires.row_in c.index-found-part.is ∙ c.in-Some.is in
    adds_one c.args.found.now c.args.part.now.ty (c.args.part.now.base + c.args.at) c.args.name.now c.args.bound.now.items c.push.new.self.items c.in-Some.shape stands some (search rules)
