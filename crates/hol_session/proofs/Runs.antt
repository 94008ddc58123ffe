-- The steps of the loop over reads, over plain variables.
use Rattle.std.proofs.Common.{◌≡◌, ℕ, ◌+◌, List, [], ◌++◌, Bool, true, false, Option, refl, arith, inl, inr}
use Rattle.std.proofs.lemmas.Grind.{common_steps}
use Rattle.std.specs.Io.KnownBytes.{Appends, Consumes, IsAtEnd}
use Rattle.std.proofs.KnownBytes.{Appends-nil, Appends-trans, Consumes-nil, Consumes-trans}
use Rattle.hol_session.specs.Lines.{StandsFor, unless_empty, ended_lines, begun_line}
use Rattle.hol_session.specs.Session.{Answers, AnswersInPart, CountsUp, Finishes, StopsWriting}
use Rattle.hol_session.proofs.Cutting.{ended_lines_joined, begun_line_joined}
use Rattle.hol_session.proofs.Sessions.{Machine, answers_more, part_after}

-- what holds before each read
abbrev pub Runs : {S : Type 0} → Machine S → Option (List ℕ) → Option (List ℕ) → Option (List ℕ) → Option (List ℕ) → S → S → List ℕ → Bool → Type 0
Runs may first left held holds old now kept overlong =
    (read : List ℕ) × (replies : List ℕ) × Consumes first left read
    × StandsFor kept overlong (begun_line [] read) × Appends held holds replies × Answers may old (ended_lines [] read) replies false now

pub run_starts : {S : Type 0} (may : Machine S) (first held : Option (List ℕ)) (old : S) (kept : List ℕ) (overlong : Bool)
    → StandsFor kept overlong [] → Runs may first first held held old old kept overlong
unfolding ended_lines begun_line
run_starts may first held old kept overlong h = ([], [], Consumes-nil first, h, Appends-nil held, (refl, refl, refl))

pub run_goes_on : {S : Type 0} (may : Machine S) (first left left' held holds holds' : Option (List ℕ)) (old now new : S) (kept kept' : List ℕ) (overlong overlong' : Bool) (chunk : List ℕ)
    → Runs may first left held holds old now kept overlong → Consumes left left' chunk
    → ((begun : List ℕ) → StandsFor kept overlong begun → StandsFor kept' overlong' (begun_line begun chunk)
    × (replies : List ℕ) × Appends holds holds' replies × Answers may now (ended_lines begun chunk) replies false new)
    → Runs may first left' held holds' old new kept' overlong'
run_goes_on may first left left' held holds holds' old now new kept kept' overlong overlong' chunk (read, replies, consumes, stands, appends, answers) takes serve =
    let (stands', more, appends', answers') = serve (begun_line [] read) stands in (
      read ++ chunk,
      replies ++ more,
      Consumes-trans first left left' read chunk consumes takes,
      rw (begun_line_joined [] read chunk) stands',
      Appends-trans held holds holds' replies more appends appends',
      rw (ended_lines_joined [] read chunk) (answers_more may old now new (ended_lines [] read) (ended_lines (begun_line [] read) chunk) replies more false answers answers'),
    )

pub run_closes : {S : Type 0} (may : Machine S) (first left left' held holds holds' : Option (List ℕ)) (old now new : S) (kept : List ℕ) (overlong : Bool) (chunk : List ℕ)
    → Runs may first left held holds old now kept overlong → Consumes left left' chunk
    → ((begun : List ℕ) → StandsFor kept overlong begun → (replies : List ℕ) × Appends holds holds' replies × Answers may now (ended_lines begun chunk) replies true new)
    → Finishes may old new first left' held holds'
run_closes may first left left' held holds holds' old now new kept overlong chunk (read, replies, consumes, stands, appends, answers) takes serve =
    let (more, appends', answers') = serve (begun_line [] read) stands in (
      read ++ chunk,
      replies ++ more,
      Consumes-trans first left left' read chunk consumes takes,
      Appends-trans held holds holds' replies more appends appends',
      inr (rw (ended_lines_joined [] read chunk)
          (answers_more may old now new (ended_lines [] read) (ended_lines (begun_line [] read) chunk) replies more true answers answers')),
    )

pub run_fails : {S : Type 0} (may : Machine S) (first left left' held holds holds' : Option (List ℕ)) (old now new : S) (kept : List ℕ) (overlong : Bool) (chunk : List ℕ)
    → Runs may first left held holds old now kept overlong → Consumes left left' chunk
    → ((begun : List ℕ) → StandsFor kept overlong begun → (written : List ℕ) × Appends holds holds' written × AnswersInPart may now (ended_lines begun chunk) written new)
    → StopsWriting may old new first left' held holds'
run_fails may first left left' held holds holds' old now new kept overlong chunk (read, replies, consumes, stands, appends, answers) takes serve =
    let (more, appends', part) = serve (begun_line [] read) stands in (
      read ++ chunk,
      replies ++ more,
      Consumes-trans first left left' read chunk consumes takes,
      Appends-trans held holds holds' replies more appends appends',
      inl (rw (ended_lines_joined [] read chunk)
          (part_after may old now new (ended_lines [] read) (ended_lines (begun_line [] read) chunk) replies more answers part)),
    )

pub run_ends : {S : Type 0} (may : Machine S) (first left left' held holds holds' : Option (List ℕ)) (old now new : S) (kept : List ℕ) (overlong : Bool)
    → Runs may first left held holds old now kept overlong → Consumes left left' [] → IsAtEnd left'
    → ((text : List ℕ) → StandsFor kept overlong text → (replies : List ℕ) × (closed : Bool) × Appends holds holds' replies × Answers may now (unless_empty text) replies closed new)
    → Finishes may old new first left' held holds'
run_ends may first left left' held holds holds' old now new kept overlong (read, replies, consumes, stands, appends, answers) takes end serve =
    let none : read ++ [] ≡ read = grind (arith, common_steps) in
    let (more, closed, appends', answers') = serve (begun_line [] read) stands in (
      read,
      replies ++ more,
      rw none at (Consumes-trans first left left' read [] consumes takes),
      Appends-trans held holds holds' replies more appends appends',
      inl (end, closed, answers_more may old now new (ended_lines [] read) (unless_empty (begun_line [] read)) replies more closed answers answers'),
    )

pub run_ends_in_part : {S : Type 0} (may : Machine S) (first left left' held holds holds' : Option (List ℕ)) (old now new : S) (kept : List ℕ) (overlong : Bool)
    → Runs may first left held holds old now kept overlong → Consumes left left' [] → IsAtEnd left'
    → ((text : List ℕ) → StandsFor kept overlong text → (written : List ℕ) × Appends holds holds' written × AnswersInPart may now (unless_empty text) written new)
    → StopsWriting may old new first left' held holds'
run_ends_in_part may first left left' held holds holds' old now new kept overlong (read, replies, consumes, stands, appends, answers) takes end serve =
    let none : read ++ [] ≡ read = grind (arith, common_steps) in
    let (more, appends', part) = serve (begun_line [] read) stands in (
      read,
      replies ++ more,
      rw none at (Consumes-trans first left left' read [] consumes takes),
      Appends-trans held holds holds' replies more appends appends',
      inr (end, part_after may old now new (ended_lines [] read) (unless_empty (begun_line [] read)) replies more answers part),
    )

-- one read more
pub counts_more : (first old new n : ℕ) → CountsUp n first old → CountsUp 1 old new → CountsUp (n + 1) first new
counts_more first old new n before one room =
    let was : old ≡ first + n = before (omega (arith, room)) in
    let is : new ≡ old + 1 = one (omega (arith, room, was)) in
    omega (arith, was, is)
