use Rattle.std.proofs.Common.{[], map}
use Rattle.hol_terms.specs.Nameless.{nameless}
use Rattle.hol_goal.specs.UsedView.{used_value}
use Rattle.hol_just.specs.Strip.{avoiding, Conjuncts, Disjuncts, Property, plain_piece}
use Rattle.hol_steps.specs.Fresh.{abstraction_of}
use Rattle.hol_steps.proofs.PieceLaws.{conj_piece, disj_piece, exists_piece, other_piece, become_as, becomes_as}
use Rattle.hol_steps.proofs.pieces.becomes.Goals as goal

pub returns-in-Some : goal.returns-in-Some
returns-in-Some c =
    let n = nameless [] c.args.formula.now in
    let a = nameless [] c.in-Some.p.now in
    let b = nameless [] c.in-Some.q.now in
    let made = c.in_ok-conjuncts in
    become_as (avoiding (map (nameless []) c.args.others.now) c.args.names.now) n c.args.rest (used_value c.args.used) (Conjuncts a b) made.field-0 (conj_piece c.args.rest.goal n a b c.in-Some.ensures.parts) (λ avoided alike. made.ensures avoided)

pub returns-in-Some-dest_disj : goal.returns-in-Some-dest_disj
returns-in-Some-dest_disj c =
    let n = nameless [] c.args.formula.now in
    let a = nameless [] c.in-Some-dest_disj.p.now in
    let b = nameless [] c.in-Some-dest_disj.q.now in
    let others = avoiding (map (nameless []) c.args.others.now) c.args.names.now in
    becomes_as others n c.args.rest (used_value c.args.used) c.disjuncts.result (Disjuncts a b) (disj_piece c.args.rest.goal n a b c.in_default.ensures.parts c.in-Some-dest_disj.ensures.parts) (c.disjuncts.ensures others)

pub returns-in-Some-dest_exists : goal.returns-in-Some-dest_exists
returns-in-Some-dest_exists c =
    let n = nameless [] c.args.formula.now in
    let x = abstraction_of c.in-Some-dest_exists.x.now c.in-Some-dest_exists.p.now in
    let made = c.in_ok-parts in
    become_as (avoiding (map (nameless []) c.args.others.now) c.args.names.now) n c.args.rest (used_value c.args.used) (Property x) made.parts
    (exists_piece c.args.rest.goal n x c.in_default.ensures.parts c.in_default-dest_disj.ensures.parts c.in-Some-dest_exists.ensures.parts) made.ensures

pub returns : goal.returns
returns c =
    let n = nameless [] c.args.formula.now in
    let made = c.in_ok-plain in
    become_as (avoiding (map (nameless []) c.args.others.now) c.args.names.now) n c.args.rest (used_value c.args.used) (plain_piece c.args.rest.goal n) made.field-0
    (other_piece c.args.rest.goal n c.in_default.ensures.parts c.in_default-dest_disj.ensures.parts c.in_default-dest_exists.ensures.parts) (λ avoided alike. made.ensures avoided)
