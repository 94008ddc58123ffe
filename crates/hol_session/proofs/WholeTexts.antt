-- A session over a whole text.
use Rattle.std.proofs.Common.{◌≡◌, ℕ, List, [], ◌++◌, Bool, true, sym, ◌∙◌, ap, subst, append_assoc, arith, inl, inr}
use Rattle.std.proofs.lemmas.Grind.{common_steps}
use Rattle.std.specs.Prelude.{Some}
use Rattle.hol_session.specs.Lines.{ended_lines, begun_line, unless_empty, whole_lines, lines_of}
use Rattle.hol_session.specs.Session.{Answers, Finishes}
use Rattle.hol_session.proofs.Cutting.{ended_lines_joined}
use Rattle.hol_session.proofs.Sessions.{Machine, answers_closed}

-- what begins with a text has its whole lines first
lines_of_more : (read rest : List ℕ) → lines_of (read ++ rest) ≡ whole_lines read ++ (ended_lines (begun_line [] read) rest ++ unless_empty (begun_line [] (read ++ rest)))
lines_of_more read rest =
    ap (λ l. l ++ unless_empty (begun_line [] (read ++ rest))) (ended_lines_joined [] read rest)
    ∙ append_assoc (ended_lines [] read) (ended_lines (begun_line [] read) rest) (unless_empty (begun_line [] (read ++ rest)))

pub whole_text : {S : Type 0} (may : Machine S) (old new : S) (text rest bytes : List ℕ) → Finishes may old new (Some text) (Some rest) (Some []) (Some bytes)
    → (closed : Bool) × Answers may old (lines_of text) bytes closed new
whole_text may old new text rest bytes (read, replies, consumes, appends, inl (end, closed, answers)) =
    let all : read ≡ text = grind (arith, common_steps, consumes, end) in
    (closed, subst (λ l. Answers may old (lines_of text) l closed new) (sym appends) (subst (λ l. Answers may old (lines_of l) replies closed new) all answers))
whole_text may old new text rest bytes (read, replies, consumes, appends, inr answers) =
    let more : List (List ℕ) = ended_lines (begun_line [] read) rest ++ unless_empty (begun_line [] (read ++ rest)) in
    let are : whole_lines read ++ more ≡ lines_of text = sym (lines_of_more read rest) ∙ ap lines_of (sym consumes) in (
      true,
      subst (λ l. Answers may old (lines_of text) l true new) (sym appends)
          (subst (λ l. Answers may old l replies true new) are (answers_closed may old new (whole_lines read) more replies answers)),
    )
