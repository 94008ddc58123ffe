-- How many commands are affected: sums over parts.
use Rattle.std.specs.Prelude.{◌≡◌, ◌+◌, List, [], ◌∷◌, ◌++◌, cond, map, length, Option, Some, None, refl}
use Rattle.std.proofs.Common.{ap, ◌∙◌, arith}
use Rattle.hol_exec.specs.ReadsValue.{ReadsValue}
use Rattle.hol_exec.specs.SameReads.{same_reads_are, same_tested_are}
use Rattle.hol_document.specs.Affected.{counts_beside, counts_where, counts, affected_rows, affected_in, rows_before, changed_at}
use Rattle.hol_document.specs.Afresh.{Row, TheoryRun}

-- ---- one command

same_count : (reads : Option ReadsValue) → counts_beside reads reads ≡ 0
same_count None = refl
same_count (Some reads) = ap (λ b. cond b 0 1) ((same_reads_are reads reads).1 refl)

-- a row that stands as it did isn't counted
pub counts_same : (old new : Row) → new ≡ old → counts (Some old) new ≡ 0
counts_same old new e =
    ap (λ (row : Row). counts (Some old) row) e
    ∙ ap (λ b. counts_where b old.reads old.reads) ((same_tested_are old.tested old.tested).1 refl)
    ∙ same_count old.reads

-- ---- the commands of a theory

pub rows_append : (olds more : List (Option Row)) (rows rows' : List Row) → length olds ≡ length rows → affected_rows (olds ++ more) (rows ++ rows') ≡ affected_rows olds rows + affected_rows more rows'
rows_append [] more [] rows' h = omega arith
rows_append [] more (row ∷ rows) rows' h = absurd (cc)
rows_append (old ∷ olds) more [] rows' h = absurd (cc)
rows_append (old ∷ olds) more (row ∷ rows) rows' h = grind (arith, rows_append olds more rows rows' (cc))

pub rows_same : (rows : List Row) → affected_rows (map Some rows) rows ≡ 0
rows_same [] = refl
rows_same (row ∷ rows) = omega (arith, counts_same row row refl, rows_same rows)

-- ---- theories

pub theories_append : (olds more : List (List (Option Row))) (runs runs' : List TheoryRun) → length olds ≡ length runs → affected_in (olds ++ more) (runs ++ runs') ≡ affected_in olds runs + affected_in more runs'
theories_append [] more [] runs' h = omega arith
theories_append [] more (run ∷ runs) runs' h = absurd (cc)
theories_append (old ∷ olds) more [] runs' h = absurd (cc)
theories_append (old ∷ olds) more (run ∷ runs) runs' h = grind (arith, theories_append olds more runs runs' (cc))

pub theories_same : (runs : List TheoryRun) → affected_in (map rows_before runs) runs ≡ 0
theories_same [] = refl
theories_same (run ∷ runs) = omega (arith, rows_same run.rows, theories_same runs)

-- the list with the element after the first ones changed
pub changed_there : {X : Type 0} (f : X → X) (front : List X) (x : X) (more : List X) → changed_at f (length front) (front ++ x ∷ more) ≡ front ++ f x ∷ more
changed_there f [] x more = refl
changed_there f (y ∷ front) x more = ap (λ xs. y ∷ xs) (changed_there f front x more)
