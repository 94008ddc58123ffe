use Rattle.std.proofs.Common.{◌≡◌, ◌++◌, ◌+◌, List, length, sym, subst, ap, ◌∙◌, arith, rules, map, length-append, OnOk, IfErr}
use Rattle.std.specs.Prelude.{◌↔◌}
use Rattle.std.specs.List.{All}
use Rattle.std.proofs.lemmas.Result.{on_ok_weaker, IfErr-weaker}
use Rattle.hol_types.specs.Tree.{TyApp, type_list}
use Rattle.hol_typing.specs.declared.cell.Equation.{Equation}
use Rattle.hol_typing.specs.declared.fault.Fault.TheVariants.{Untypable}
use Rattle.hol_typing.specs.Graph.{part_equations, EquationHolds, AreBelow}
use Rattle.hol_typing.proofs.Joining.{parts_joined, joined_below, lengths_apart, length_equations}
use Rattle.hol_typing.proofs.graph.join.Goals as goal

pub returns-in_ok-one_name-in-App-App-clause-untypable : goal.returns-in_ok-one_name-in-App-App-clause-untypable
returns-in_ok-one_name-in-App-App-clause-untypable c =
    let lefts = c.in-App-App.lefts.items in
    let rights = c.in-App-App.rights.items in
    let apart : IfErr c.join_parts.result (λ e. e ≡ Untypable → length lefts ≡ length rights → ⊥) = search rules in
    IfErr-weaker c.join_parts.result _ _
    (λ e ne is types t p q. lengths_apart types c.in-App-App.c c.in-App-App.d t lefts rights (ne is) (rw c.in-App-App.is-0 at p) (rw c.in-App-App.is-1 at q))
    apart

pub returns-in_ok-one_name-in-App-App-clause-joined : goal.returns-in_ok-one_name-in-App-App-clause-joined
returns-in_ok-one_name-in-App-App-clause-joined c =
    let lefts = c.in-App-App.lefts.items in
    let rights = c.in-App-App.rights.items in
    let before = c.args.pending.now.items in
    let name : c.in-App-App.c ≡ c.in-App-App.d = search rules in
    let equations : OnOk c.join_parts.result ((length lefts ≡ length rights) × (c.join_parts.new.pending.items ≡ before ++ part_equations lefts rights)) = search rules in
    on_ok_weaker c.join_parts.result
    (λ (len, after).
    let size : length c.join_parts.new.pending.items ≡ length before + length lefts =
    ap length after ∙ length-append before (part_equations lefts rights) ∙ ap (λ n. length before + n) (length_equations lefts rights len) in
    record {
      joins = λ types t holds. rw c.in-App-App.is-1
          (subst (λ (xs : List Equation). All (EquationHolds types) xs ↔ ((t ≡ TyApp c.in-App-App.d (type_list (map types rights))) × All (EquationHolds types) before)) (sym after)
          (parts_joined types c.in-App-App.c c.in-App-App.d t lefts rights before name len (rw c.in-App-App.is-0 at holds)));
      are_in = λ n i j p q h. subst (AreBelow n) (sym after) (joined_below n before lefts rights (rw c.in-App-App.is-0 at p) (rw c.in-App-App.is-1 at q) h);
      less = rw c.in-App-App.is-1 (omega (arith, size, len));
    })
    equations
