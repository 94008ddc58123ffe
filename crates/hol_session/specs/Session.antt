-- Sessions of a machine that answers lines.
use Rattle.std.specs.Prelude.{◌≡◌, ◌≢◌, ◌⊎◌, ◌<◌, ◌+◌, ◌^◌, ℕ, List, [], ◌∷◌, ◌++◌, Bool, true, false, Option}
use Rattle.std.specs.Io.KnownBytes.{Appends, Consumes, IsAtEnd}
use Rattle.hol_session.specs.Lines.{lines_of, whole_lines}

-- The machine answers the lines in order, up to the last or to a reply that closes the session; these bytes are its replies.
abbrev pub Answers : {S : Type 0} → (S → List ℕ → List ℕ → Bool → S → Type 0) → S → List (List ℕ) → List ℕ → Bool → S → Type 0
Answers may old [] replies closed new = (replies ≡ []) × (closed ≡ false) × (new ≡ old)
Answers {S} may old (line ∷ lines) replies closed new =
    (reply : List ℕ) × (closes : Bool) × (mid : S) × may old line reply closes mid
    × (((closes ≡ true) × (replies ≡ reply) × (closed ≡ true) × (new ≡ mid))
    ⊎ ((closes ≡ false) × (rest : List ℕ) × (replies ≡ reply ++ rest) × Answers may mid lines rest closed new))

-- The machine answered some of the lines, and of the last of these replies only a part was written, and not the whole.
abbrev pub AnswersInPart : {S : Type 0} → (S → List ℕ → List ℕ → Bool → S → Type 0) → S → List (List ℕ) → List ℕ → S → Type 0
AnswersInPart {S} may old lines written new =
    (served : List (List ℕ)) × (last : List ℕ) × (more : List (List ℕ)) × (lines ≡ served ++ last ∷ more)
    × (replies : List ℕ) × (mid : S) × Answers may old served replies false mid
    × (part : List ℕ) × (missing : List ℕ) × (closes : Bool) × may mid last (part ++ missing) closes new
    × (missing ≢ []) × (written ≡ replies ++ part)

-- the number of reads went up by n, where 64 bits have room for it
abbrev pub CountsUp : ℕ → ℕ → ℕ → Type 0
CountsUp n old new = old + n < 2 ^ 64 → new ≡ old + n

-- A session came to its end: the replies to the lines of what was read are written, and the reader is at its end, or a whole line
-- closed it. Of the reader's and the writer's bytes, as they were and are, these are what was read and written.
abbrev pub Finishes : {S : Type 0} → (S → List ℕ → List ℕ → Bool → S → Type 0) → S → S → Option (List ℕ) → Option (List ℕ) → Option (List ℕ) → Option (List ℕ) → Type 0
Finishes may old new left left' held held' =
    (read : List ℕ) × (replies : List ℕ) × Consumes left left' read × Appends held held' replies
    × ((IsAtEnd left' × (closed : Bool) × Answers may old (lines_of read) replies closed new)
    ⊎ Answers may old (whole_lines read) replies true new)

-- A session ended at a read: the replies to the whole lines of what was read are written.
abbrev pub StopsReading : {S : Type 0} → (S → List ℕ → List ℕ → Bool → S → Type 0) → S → S → Option (List ℕ) → Option (List ℕ) → Option (List ℕ) → Option (List ℕ) → Type 0
StopsReading may old new left left' held held' =
    (read : List ℕ) × (replies : List ℕ) × Consumes left left' read × Appends held held' replies
    × Answers may old (whole_lines read) replies false new

-- A session ended at a write: of the last line's reply only a part is written. That line is a whole one, or the reader is at its end.
abbrev pub StopsWriting : {S : Type 0} → (S → List ℕ → List ℕ → Bool → S → Type 0) → S → S → Option (List ℕ) → Option (List ℕ) → Option (List ℕ) → Option (List ℕ) → Type 0
StopsWriting may old new left left' held held' =
    (read : List ℕ) × (written : List ℕ) × Consumes left left' read × Appends held held' written
    × (AnswersInPart may old (whole_lines read) written new ⊎ (IsAtEnd left' × AnswersInPart may old (lines_of read) written new))
