-- The steps of the loop over a chunk, over plain variables.
use Rattle.std.proofs.Common.{◌≡◌, ◌≢◌, ◌==◌, ℕ, ◌+◌, ◌<◌, List, [], ◌∷◌, ◌++◌, length, take, drop, get_or, Bool, true, false, Option, refl, sym, ◌∙◌, ap, subst, arith}
use Rattle.std.proofs.lemmas.List.{take_more, take-append-drop}
use Rattle.std.proofs.lemmas.Grind.{common_steps}
use Rattle.std.proofs.lemmas.Bool.Decides.{nat_tests}
use Rattle.std.specs.Io.KnownBytes.{Appends}
use Rattle.std.proofs.KnownBytes.{Appends-nil, Appends-trans}
use Rattle.hol_session.specs.Lines.{newline, StandsFor, ended_lines, begun_line}
use Rattle.hol_session.specs.Session.{Answers, AnswersInPart}
use Rattle.hol_session.proofs.Cutting.{ended_lines_joined, begun_line_joined, ended_lines_at_newline, begun_line_at_newline, ended_lines_at_other, begun_line_at_other}
use Rattle.hol_session.proofs.Sessions.{Machine, answers_more, answers_closed, answers_one, part_of_one, part_more_lines, part_after}

-- the chunk's first i bytes have been gone through
abbrev pub GoesOn : {S : Type 0} → Machine S → Option (List ℕ) → Option (List ℕ) → S → S → List ℕ → Bool → List ℕ → List ℕ → Type 0
GoesOn may held holds old now kept overlong begun text =
    StandsFor kept overlong (begun_line begun text)
    × (replies : List ℕ) × Appends held holds replies × Answers may old (ended_lines begun text) replies false now

pub starts : {S : Type 0} (may : Machine S) (held : Option (List ℕ)) (old : S) (kept : List ℕ) (overlong : Bool) (begun : List ℕ)
    → StandsFor kept overlong begun → GoesOn may held held old old kept overlong begun []
unfolding ended_lines begun_line
starts may held old kept overlong begun h = (h, [], Appends-nil held, (refl, refl, refl))

pub other_byte : {S : Type 0} (may : Machine S) (held holds : Option (List ℕ)) (old now : S) (kept kept' : List ℕ) (overlong overlong' : Bool) (begun chunk : List ℕ) (i : ℕ)
    → i < length chunk → (get_or chunk i 0 ≢ 10)
    → GoesOn may held holds old now kept overlong begun (take i chunk)
    → ((line : List ℕ) → StandsFor kept overlong line → StandsFor kept' overlong' (line ++ get_or chunk i 0 ∷ []))
    → GoesOn may held holds old now kept' overlong' begun (take (i + 1) chunk)
other_byte may held holds old now kept kept' overlong overlong' begun chunk i below other (stands, replies, appends, answers) push =
    let b : ℕ = get_or chunk i 0 in
    let front : List ℕ = take i chunk in
    let test : (b == newline) ≡ false = grind (arith, nat_tests, common_steps) in
    let more : take (i + 1) chunk ≡ front ++ b ∷ [] = take_more chunk i 0 below in
    let line : begun_line begun (front ++ b ∷ []) ≡ begun_line begun front ++ b ∷ [] = begun_line_joined begun front (b ∷ []) ∙ begun_line_at_other (begun_line begun front) b test in
    let none : ended_lines begun (front ++ b ∷ []) ≡ ended_lines begun front ++ [] =
    ended_lines_joined begun front (b ∷ []) ∙ ap (λ l. ended_lines begun front ++ l) (ended_lines_at_other (begun_line begun front) b test) in
    let same : ended_lines begun (front ++ b ∷ []) ≡ ended_lines begun front = grind (arith, common_steps, none) in
    rw more (
      subst (λ l. StandsFor kept' overlong' l) (sym line) (push (begun_line begun front) stands),
      replies,
      appends,
      subst (λ l. Answers may old l replies false now) (sym same) answers,
    )

-- the lines of the chunk up to a newline at i
pub up_to_newline : (begun chunk : List ℕ) (i : ℕ) → i < length chunk → get_or chunk i 0 ≡ 10
    → ended_lines begun (take (i + 1) chunk) ≡ ended_lines begun (take i chunk) ++ begun_line begun (take i chunk) ∷ []
up_to_newline begun chunk i below is =
    rw (take_more chunk i 0 below, is)
    (ended_lines_joined begun (take i chunk) (10 ∷ []) ∙ ap (λ l. ended_lines begun (take i chunk) ++ l) (ended_lines_at_newline (begun_line begun (take i chunk))))

pub after_newline : (begun chunk : List ℕ) (i : ℕ) → i < length chunk → get_or chunk i 0 ≡ 10 → begun_line begun (take (i + 1) chunk) ≡ []
after_newline begun chunk i below is =
    rw (take_more chunk i 0 below, is) (begun_line_joined begun (take i chunk) (10 ∷ []) ∙ begun_line_at_newline (begun_line begun (take i chunk)))

-- all lines that end in the chunk, with those up to a newline at i in front
pub with_the_rest : (begun chunk : List ℕ) (i : ℕ) → i < length chunk → get_or chunk i 0 ≡ 10
    → (others : List (List ℕ)) × (ended_lines begun chunk ≡ (ended_lines begun (take i chunk) ++ begun_line begun (take i chunk) ∷ []) ++ others)
with_the_rest begun chunk i below is = (
  ended_lines (begun_line begun (take (i + 1) chunk)) (drop (i + 1) chunk),
  ap (ended_lines begun) (sym (take-append-drop (i + 1) chunk)) ∙ ended_lines_joined begun (take (i + 1) chunk) (drop (i + 1) chunk)
      ∙ ap (λ l. l ++ ended_lines (begun_line begun (take (i + 1) chunk)) (drop (i + 1) chunk)) (up_to_newline begun chunk i below is),
)

pub line_ends : {S : Type 0} (may : Machine S) (held holds holds' : Option (List ℕ)) (old now new : S) (kept kept' : List ℕ) (overlong overlong' : Bool) (begun chunk : List ℕ) (i : ℕ)
    → i < length chunk → get_or chunk i 0 ≡ 10
    → GoesOn may held holds old now kept overlong begun (take i chunk)
    → ((line : List ℕ) → StandsFor kept overlong line → (reply : List ℕ) × Appends holds holds' reply × may now line reply false new)
    → StandsFor kept' overlong' []
    → GoesOn may held holds' old new kept' overlong' begun (take (i + 1) chunk)
line_ends may held holds holds' old now new kept kept' overlong overlong' begun chunk i below is (stands, replies, appends, answers) serve clear =
    let line : List ℕ = begun_line begun (take i chunk) in
    let served : (reply : List ℕ) × Appends holds holds' reply × may now line reply false new = serve line stands in (
      rw (after_newline begun chunk i below is) clear,
      replies ++ served.0,
      Appends-trans held holds holds' replies served.0 appends served.1,
      rw (up_to_newline begun chunk i below is) (answers_more may old now new (ended_lines begun (take i chunk)) (line ∷ []) replies served.0 false answers (answers_one may now new line served.0 false served.2)),
    )

pub line_closes : {S : Type 0} (may : Machine S) (held holds holds' : Option (List ℕ)) (old now new : S) (kept : List ℕ) (overlong : Bool) (begun chunk : List ℕ) (i : ℕ)
    → i < length chunk → get_or chunk i 0 ≡ 10
    → GoesOn may held holds old now kept overlong begun (take i chunk)
    → ((line : List ℕ) → StandsFor kept overlong line → (reply : List ℕ) × Appends holds holds' reply × may now line reply true new)
    → (replies : List ℕ) × Appends held holds' replies × Answers may old (ended_lines begun chunk) replies true new
line_closes may held holds holds' old now new kept overlong begun chunk i below is (stands, replies, appends, answers) serve =
    let line : List ℕ = begun_line begun (take i chunk) in
    let served : (reply : List ℕ) × Appends holds holds' reply × may now line reply true new = serve line stands in
    let rest = with_the_rest begun chunk i below is in (
      replies ++ served.0,
      Appends-trans held holds holds' replies served.0 appends served.1,
      rw rest.1 (answers_closed may old new (ended_lines begun (take i chunk) ++ line ∷ []) rest.0 (replies ++ served.0)
          (answers_more may old now new (ended_lines begun (take i chunk)) (line ∷ []) replies served.0 true answers (answers_one may now new line served.0 true served.2))),
    )

pub line_fails : {S : Type 0} (may : Machine S) (held holds holds' : Option (List ℕ)) (old now new : S) (kept : List ℕ) (overlong : Bool) (begun chunk : List ℕ) (i : ℕ)
    → i < length chunk → get_or chunk i 0 ≡ 10
    → GoesOn may held holds old now kept overlong begun (take i chunk)
    → ((line : List ℕ) → StandsFor kept overlong line → (part : List ℕ) × (missing : List ℕ) × (closes : Bool) × Appends holds holds' part × may now line (part ++ missing) closes new × (missing ≢ []))
    → (written : List ℕ) × Appends held holds' written × AnswersInPart may old (ended_lines begun chunk) written new
line_fails may held holds holds' old now new kept overlong begun chunk i below is (stands, replies, appends, answers) serve =
    let line : List ℕ = begun_line begun (take i chunk) in
    let served : (part : List ℕ) × (missing : List ℕ) × (closes : Bool) × Appends holds holds' part × may now line (part ++ missing) closes new × (missing ≢ []) = serve line stands in
    let rest = with_the_rest begun chunk i below is in (
      replies ++ served.0,
      Appends-trans held holds holds' replies served.0 appends served.3,
      rw rest.1 (part_more_lines may old new (ended_lines begun (take i chunk) ++ line ∷ []) rest.0 (replies ++ served.0)
          (part_after may old now new (ended_lines begun (take i chunk)) (line ∷ []) replies served.0 answers (part_of_one may now new line served.0 served.1 served.2 served.4 served.5))),
    )
