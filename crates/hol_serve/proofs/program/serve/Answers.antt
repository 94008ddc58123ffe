use Rattle.std.proofs.Common.{ap, refl, Err}
use Rattle.hol_serve.specs.Begun.{tacs, begun_by}
use Rattle.hol_serve.proofs.program.serve.Goals as goal

pub returns-in-Ok-clause-ok : goal.returns-in-Ok-clause-ok
returns-in-Ok-clause-ok g c =
    let (new, finishes) = c.in-Ok.ensures.ok in
    rw c.in_ok-words.was (begun_by tacs c.in_ok-turns.turns c.in_ok-turns.cache, new, (c.in_ok-turns.ensures.taken, c.in_ok-turns.turns, c.in_ok-turns.cache, c.in_ok-turns.ensures.turns, c.in_ok-turns.ensures.cache, refl), finishes)

pub returns-in-Err-Read-clause-read_fault : goal.returns-in-Err-Read-clause-read_fault
returns-in-Err-Read-clause-read_fault g c e =
    let ((new, stops), why) = c.in-Err-Read.ensures.read_fault (ap Err c.in-Err-Read.field-0-is) in
    (rw c.in_ok-words.was (begun_by tacs c.in_ok-turns.turns c.in_ok-turns.cache, new, (c.in_ok-turns.ensures.taken, c.in_ok-turns.turns, c.in_ok-turns.cache, c.in_ok-turns.ensures.turns, c.in_ok-turns.ensures.cache, refl), stops), why)

pub returns-in-Err-Write-clause-write_fault : goal.returns-in-Err-Write-clause-write_fault
returns-in-Err-Write-clause-write_fault g c e =
    let ((new, stops), failed) = c.in-Err-Write.ensures.write_fault (ap Err c.in-Err-Write.field-0-is) in
    (rw c.in_ok-words.was (begun_by tacs c.in_ok-turns.turns c.in_ok-turns.cache, new, (c.in_ok-turns.ensures.taken, c.in_ok-turns.turns, c.in_ok-turns.cache, c.in_ok-turns.ensures.turns, c.in_ok-turns.ensures.cache, refl), stops), failed)
