-- Sessions go on.
use Rattle.std.proofs.Common.{Result, Ok, Err, OnErr, ◌≢◌, inl, inr, ℕ, List, [], ◌∷◌, ◌++◌, Bool, true, false, refl, sym, ◌∙◌, ap, subst, append_assoc, arith, Option}
use Rattle.std.proofs.lemmas.Grind.{common_steps}
use Rattle.hol_session.specs.Lines.{whole_lines, lines_of}
use Rattle.hol_session.specs.Session.{Answers, AnswersInPart, Finishes, StopsReading, StopsWriting}

abbrev pub Machine : Type 0 → Type 1
Machine S = S → List ℕ → List ℕ → Bool → S → Type 0

-- the rest of the lines is answered too
pub answers_more : {S : Type 0} (may : Machine S) (old mid new : S) (lines others : List (List ℕ)) (xs ys : List ℕ) (closed : Bool)
    → Answers may old lines xs false mid → Answers may mid others ys closed new → Answers may old (lines ++ others) (xs ++ ys) closed new
answers_more may old mid new [] others xs ys closed (e, _, m) next =
    let moved : Answers may old others ys closed new = subst (λ s. Answers may s others ys closed new) m next in
    subst (λ l. Answers may old others (l ++ ys) closed new) (sym e) moved
answers_more may old mid new (line ∷ lines) others xs ys closed (reply, closes, after, step, inl (_, _, f, _)) next = absurd (cc)
answers_more may old mid new (line ∷ lines) others xs ys closed (reply, closes, after, step, inr (stays, rest, e, goes)) next =
    (reply, closes, after, step, inr (stays, rest ++ ys, ap (λ l. l ++ ys) e ∙ append_assoc reply rest ys, answers_more may after mid new lines others rest ys closed goes next))

-- what comes after a close is not answered
pub answers_closed : {S : Type 0} (may : Machine S) (old new : S) (lines others : List (List ℕ)) (xs : List ℕ)
    → Answers may old lines xs true new → Answers may old (lines ++ others) xs true new
answers_closed may old new [] others xs (_, f, _) = absurd (cc)
answers_closed may old new (line ∷ lines) others xs (reply, closes, after, step, inl h) = (reply, closes, after, step, inl h)
answers_closed may old new (line ∷ lines) others xs (reply, closes, after, step, inr (stays, rest, e, goes)) =
    (reply, closes, after, step, inr (stays, rest, e, answers_closed may after new lines others rest goes))

-- one line is answered
pub answers_one : {S : Type 0} (may : Machine S) (old new : S) (line reply : List ℕ) (closes : Bool)
    → may old line reply closes new → Answers may old (line ∷ []) reply closes new
answers_one may old new line reply true step = (reply, true, new, step, inl (refl, refl, refl, refl))
answers_one may old new line reply false step = (reply, false, new, step, inr (refl, [], grind (arith, common_steps), (refl, refl, refl)))

-- one reply went out in part
pub part_of_one : {S : Type 0} (may : Machine S) (old new : S) (line part missing : List ℕ) (closes : Bool)
    → may old line (part ++ missing) closes new → missing ≢ [] → AnswersInPart may old (line ∷ []) part new
part_of_one may old new line part missing closes step some =
    ([], line, [], refl, [], old, (refl, refl, refl), part, missing, closes, step, some, refl)

pub part_more_lines : {S : Type 0} (may : Machine S) (old new : S) (lines others : List (List ℕ)) (xs : List ℕ)
    → AnswersInPart may old lines xs new → AnswersInPart may old (lines ++ others) xs new
part_more_lines may old new lines others xs (served, last, more, e, replies, mid, run, part, missing, closes, step, some, w) =
    (served, last, more ++ others, ap (λ l. l ++ others) e ∙ append_assoc served (last ∷ more) others, replies, mid, run, part, missing, closes, step, some, w)

pub part_after : {S : Type 0} (may : Machine S) (old mid new : S) (lines others : List (List ℕ)) (xs ys : List ℕ)
    → Answers may old lines xs false mid → AnswersInPart may mid others ys new → AnswersInPart may old (lines ++ others) (xs ++ ys) new
part_after may old mid new lines others xs ys run (served, last, more, e, replies, between, rest, part, missing, closes, step, some, w) = (
  lines ++ served,
  last,
  more,
  ap (λ l. lines ++ l) e ∙ sym (append_assoc lines served (last ∷ more)),
  xs ++ replies,
  between,
  answers_more may old mid between lines served xs replies false run rest,
  part,
  missing,
  closes,
  step,
  some,
  ap (λ l. xs ++ l) w ∙ sym (append_assoc xs replies part),
)

pub on_err : {A E : Type 0} (r : Result A E) (P : Type 0) → P → OnErr r P
on_err (Ok x) P h = tt
on_err (Err e) P h = h

-- the same sessions, of what f sees of each state
pub answers_seen : {S T : Type 0} (f : S → T) (may : Machine T) (old new : S) (lines : List (List ℕ)) (xs : List ℕ) (closed : Bool)
    → Answers (λ o l t c n. may (f o) l t c (f n)) old lines xs closed new → Answers may (f old) lines xs closed (f new)
answers_seen f may old new [] xs closed (e, c, m) = (e, c, ap f m)
answers_seen f may old new (line ∷ lines) xs closed (reply, closes, after, step, inl (a, b, d, e)) = (reply, closes, f after, step, inl (a, b, d, ap f e))
answers_seen f may old new (line ∷ lines) xs closed (reply, closes, after, step, inr (a, rest, e, goes)) =
    (reply, closes, f after, step, inr (a, rest, e, answers_seen f may after new lines rest closed goes))

pub part_seen : {S T : Type 0} (f : S → T) (may : Machine T) (old new : S) (lines : List (List ℕ)) (xs : List ℕ)
    → AnswersInPart (λ o l t c n. may (f o) l t c (f n)) old lines xs new → AnswersInPart may (f old) lines xs (f new)
part_seen f may old new lines xs (served, last, more, e, replies, mid, run, part, missing, closes, step, some, w) =
    (served, last, more, e, replies, f mid, answers_seen f may old mid served replies false run, part, missing, closes, step, some, w)

pub finishes_seen : {S T : Type 0} (f : S → T) (may : Machine T) (old new : S) (left left' held held' : Option (List ℕ))
    → Finishes (λ o l t c n. may (f o) l t c (f n)) old new left left' held held' → Finishes may (f old) (f new) left left' held held'
finishes_seen f may old new left left' held held' (read, replies, consumes, appends, inl (end, closed, answers)) =
    (read, replies, consumes, appends, inl (end, closed, answers_seen f may old new (lines_of read) replies closed answers))
finishes_seen f may old new left left' held held' (read, replies, consumes, appends, inr answers) =
    (read, replies, consumes, appends, inr (answers_seen f may old new (whole_lines read) replies true answers))

pub stops_reading_seen : {S T : Type 0} (f : S → T) (may : Machine T) (old new : S) (left left' held held' : Option (List ℕ))
    → StopsReading (λ o l t c n. may (f o) l t c (f n)) old new left left' held held' → StopsReading may (f old) (f new) left left' held held'
stops_reading_seen f may old new left left' held held' (read, replies, consumes, appends, answers) =
    (read, replies, consumes, appends, answers_seen f may old new (whole_lines read) replies false answers)

pub stops_writing_seen : {S T : Type 0} (f : S → T) (may : Machine T) (old new : S) (left left' held held' : Option (List ℕ))
    → StopsWriting (λ o l t c n. may (f o) l t c (f n)) old new left left' held held' → StopsWriting may (f old) (f new) left left' held held'
stops_writing_seen f may old new left left' held held' (read, written, consumes, appends, inl part) =
    (read, written, consumes, appends, inl (part_seen f may old new (whole_lines read) written part))
stops_writing_seen f may old new left left' held held' (read, written, consumes, appends, inr (end, part)) =
    (read, written, consumes, appends, inr (end, part_seen f may old new (lines_of read) written part))
