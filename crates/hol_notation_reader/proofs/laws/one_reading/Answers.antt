use Rattle.hol_notation_reader.proofs.OneReading.{one_reading}
use Rattle.hol_notation_reader.proofs.laws.one_reading.Goals as goal

pub returns : goal.returns
returns c = one_reading
