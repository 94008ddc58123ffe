use Rattle.std.proofs.Common.{◌≡◌, ◌∷◌, [], codes, rules}
use Rattle.std.proofs.lemmas.Result.{IfOk-weaker}
use Rattle.hol_typing.proofs.Slots.{function_of, function_cell}
use Rattle.hol_typing.proofs.generate.Graph.function.Goals as goal

pub returns : goal.returns
returns c =
    let items : c.push-2.new.self.items ≡ c.args.domain ∷ c.args.range ∷ [] = search rules in
    let name : c.in_ok-name.name ≡ codes "fun" = search rules in
    IfOk-weaker c.fresh.result _ _
    (λ slot. function_of c.args.self.now c.fresh.new.self slot c.args.domain c.args.range _
    (λ types t. function_cell c.in_ok-name.name c.push-2.new.self.items c.args.domain c.args.range types t name items))
    c.fresh.ensures
