-- How the program ends.
use Rattle.std.specs.Prelude.{◌≡◌, ◌⊎◌, ℕ, List, [], ◌∷◌, ◌++◌, codes, Option}
use Rattle.std.specs.Io.KnownBytes.{Appends}
use Rattle.hol_session.specs.declared.ending.Ending.{Ending}
use Rattle.hol_session.specs.declared.ending.Ending.TheVariants.{BadWords, Read, Write, Memory}

-- 2 where the program's words are refused, 1 for the other ends; a session that comes to its end has 0
abbrev pub status_of : Ending → ℕ
status_of BadWords = 2
status_of Read = 1
status_of Write = 1
status_of Memory = 1

-- its line on standard error, with its newline
abbrev pub told_of : Ending → List ℕ
told_of BadWords = codes "hol-serve: bad words" ++ 10 ∷ []
told_of Read = codes "hol-serve: read fault" ++ 10 ∷ []
told_of Write = codes "hol-serve: write fault" ++ 10 ∷ []
told_of Memory = codes "hol-serve: no memory" ++ 10 ∷ []

-- the line is written where lines of errors go, or a part of it where that fails
abbrev pub Tells : Ending → Option (List ℕ) → Option (List ℕ) → Type 0 → Type 0
Tells ending held held' failed = (told : List ℕ) × (missing : List ℕ) × (told_of ending ≡ told ++ missing)
    × Appends held held' told × ((missing ≡ []) ⊎ failed)
