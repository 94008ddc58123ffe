use Rattle.std.specs.Prelude.{◌≡◌, ◌||◌, true, false, List}
use Rattle.std.specs.List.{list_any}
use Rattle.std.proofs.Common.{[], ◌∷◌, ap, sym, ◌∙◌, refl, subst}
use Rattle.hol_terms.specs.Nameless.{Nameless, nameless}
use Rattle.hol_terms.specs.Alpha.{strip, alpha_eq}
use Rattle.hol_formulas.specs.Formula.{is_truth}
use Rattle.hol_goal.specs.Goal.{GoalValue}
use Rattle.hol_kernel.specs.Given.{assumed}
use Rattle.hol_goal.specs.UsedView.{used_value}
use Rattle.hol_just.specs.Strip.{AvoidedValue, Piece, Dropped, Kept, plain_piece, waiting}
use Rattle.hol_just.specs.Valid.{IsValid}
use Rattle.hol_just.specs.Justifies.{always, ClosesByFalsity}
use Rattle.hol_just.specs.declared.reason.Move.{Move}
use Rattle.hol_steps.specs.Parts.{with_pieces, AreParts}
use Rattle.hol_steps.proofs.PieceLaws.{contr_piece_valid, accept_piece_valid, dropped_valid, one_always, none_always, kind_is, closing_false, closing_same, dropped_piece, kept_piece}
use Rattle.hol_steps.proofs.pieces.plain.Goals as goal

pub returns-then-is_falsity : goal.returns-then-is_falsity
returns-then-is_falsity c =
    let n = nameless [] c.args.piece.now in
    let rest = c.args.rest in
    let moves = c.in_ok-just.just in
    let made = c.no_part.result in
    let kind = sym c.if-is_falsity.ensures in
    let closes = subst (λ (t : Nameless). ClosesByFalsity t (assumed n) moves) (c.conclusion.ensures.term ∙ ap (λ (g : GoalValue). g.conclusion) c.goal.ensures) c.in_ok-just.ensures in
    subst (λ (k : Piece). (avoided : AvoidedValue) → AreParts avoided n rest (used_value c.args.used) k made) (sym (closing_false rest.goal n kind))
    (none_always made n rest (used_value c.args.used) moves (λ extra. contr_piece_valid n rest extra moves kind closes) c.no_part.ensures.waiting c.no_part.ensures.just c.no_part.ensures.used)

pub returns-then-alpha_equivalent : goal.returns-then-alpha_equivalent
returns-then-alpha_equivalent c =
    let n = nameless [] c.args.piece.now in
    let rest = c.args.rest in
    let concl : nameless [] c.conclusion-2.result.now ≡ rest.goal.conclusion = c.conclusion-2.ensures.term ∙ ap (λ (g : GoalValue). g.conclusion) c.goal-2.ensures in
    let same : alpha_eq n rest.goal.conclusion ≡ true = ap (alpha_eq n) (sym concl) ∙ sym c.if-alpha_equivalent.ensures.test in
    let alike : strip n ≡ strip rest.goal.conclusion = c.if-alpha_equivalent.ensures.equal.0 refl ∙ ap strip concl in
    let moves = c.in_ok-just-2.just in
    let made = c.no_part-then-alpha_equivalent.result in
    let closes = c.in_ok-just-2.ensures in
    subst (λ (k : Piece). (avoided : AvoidedValue) → AreParts avoided n rest (used_value c.args.used) k made) (sym (closing_same rest.goal n (sym c.if-is_falsity.ensures) same))
    (none_always made n rest (used_value c.args.used) moves (λ extra. accept_piece_valid n rest extra moves alike closes) c.no_part-then-alpha_equivalent.ensures.waiting c.no_part-then-alpha_equivalent.ensures.just
    c.no_part-then-alpha_equivalent.ensures.used)

pub returns-then-is_dropped : goal.returns-then-is_dropped
returns-then-is_dropped c =
    let n = nameless [] c.args.piece.now in
    let rest = c.args.rest in
    let concl : nameless [] c.conclusion-2.result.now ≡ rest.goal.conclusion = c.conclusion-2.ensures.term ∙ ap (λ (g : GoalValue). g.conclusion) c.goal-2.ensures in
    let other : alpha_eq n rest.goal.conclusion ≡ false = ap (alpha_eq n) (sym concl) ∙ sym c.if-alpha_equivalent.ensures.test in
    let dropped : (is_truth n || list_any (alpha_eq n) rest.goal.assumptions) ≡ true = ap (λ (g : GoalValue). is_truth n || list_any (alpha_eq n) g.assumptions) (sym c.goal-3.ensures) ∙ sym c.if-is_dropped.ensures in
    kind_is c.one_part.result n rest (used_value c.args.used) Dropped (plain_piece rest.goal n) (sym (dropped_piece rest.goal n (sym c.if-is_falsity.ensures) other dropped))
    (one_always c.one_part.result n rest (used_value c.args.used) Dropped rest rest c.none.result refl (λ avoided. refl)
    (λ extra. subst (λ (ms : List Move). IsValid always extra ms (with_pieces (waiting (n ∷ rest.pieces) rest.goal) ∷ []) (with_pieces rest ∷ [])) (sym c.none.ensures) (dropped_valid n rest extra))
    c.one_part.ensures.waiting c.one_part.ensures.just c.one_part.ensures.used)

pub returns : goal.returns
returns c =
    let n = nameless [] c.args.piece.now in
    let rest = c.args.rest in
    let concl : nameless [] c.conclusion-2.result.now ≡ rest.goal.conclusion = c.conclusion-2.ensures.term ∙ ap (λ (g : GoalValue). g.conclusion) c.goal-2.ensures in
    let other : alpha_eq n rest.goal.conclusion ≡ false = ap (alpha_eq n) (sym concl) ∙ sym c.if-alpha_equivalent.ensures.test in
    let kept : (is_truth n || list_any (alpha_eq n) rest.goal.assumptions) ≡ false = ap (λ (g : GoalValue). is_truth n || list_any (alpha_eq n) g.assumptions) (sym c.goal-3.ensures) ∙ sym c.if-is_dropped.ensures in
    kind_is c.kept.result n rest (used_value c.args.used) Kept (plain_piece rest.goal n) (sym (kept_piece rest.goal n (sym c.if-is_falsity.ensures) other kept)) c.kept.ensures
