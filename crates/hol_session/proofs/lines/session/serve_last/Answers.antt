use Rattle.std.proofs.Common.{◌≡◌, ◌∷◌, [], false, refl}
use Rattle.std.proofs.KnownBytes.{Appends-nil}
use Rattle.hol_session.specs.Lines.{unless_empty}
use Rattle.hol_session.proofs.Sessions.{on_err, answers_one, part_of_one}
use Rattle.hol_session.proofs.lines.session.serve_last.Goals as goal

pub returns-then-is_empty-clause-answered : goal.returns-then-is_empty-clause-answered
returns-then-is_empty-clause-answered g c text h =
    let none : unless_empty text ≡ [] = rw c.if-is_empty.true at (c.is_empty.ensures text h) in
    ([], false, Appends-nil _, rw none (refl, refl, refl))

pub returns-in_err-_closes-clause-in_part : goal.returns-in_err-_closes-clause-in_part
returns-in_err-_closes-clause-in_part g c = on_err c.from_residual.result _ (λ text h.
    let one : unless_empty text ≡ text ∷ [] = rw c.if-is_empty.false at (c.is_empty.ensures text h) in
    let (part, missing, closes, appends, step, some) = c.in_err-_closes.ensures.in_part text h in
    (part, appends, rw one (part_of_one g.S.Service.may_answer _ _ text part missing closes step some)))

pub returns-clause-answered : goal.returns-clause-answered
returns-clause-answered g c text h =
    let one : unless_empty text ≡ text ∷ [] = rw c.if-is_empty.false at (c.is_empty.ensures text h) in
    let (reply, appends, step) = c.in_ok-_closes.ensures.answered text h in
    (reply, c.in_ok-_closes._closes, appends, rw one (answers_one g.S.Service.may_answer _ _ text reply c.in_ok-_closes._closes step))
