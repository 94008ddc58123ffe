use Rattle.hol_infer.proofs.Unique.{one_reading, reading_typable, reading_not_large, large_typable}
use Rattle.hol_infer.proofs.laws.one_reading.Goals as goal

pub returns-clause-unique : goal.returns-clause-unique
returns-clause-unique c = one_reading

pub returns-clause-typable : goal.returns-clause-typable
returns-clause-typable c = reading_typable

pub returns-clause-small : goal.returns-clause-small
returns-clause-small c = reading_not_large

pub returns-clause-large : goal.returns-clause-large
returns-clause-large c = large_typable
