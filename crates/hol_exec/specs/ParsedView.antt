-- What the code's texts read as.
use Rattle.hol_notation_reader.specs.Reading.{ReadText, Reads, Breaks}
use Rattle.hol_exec.specs.declared.reading.parsed.Parsed.{Parsed}
use Rattle.hol_exec.specs.declared.reading.parsed.Parsed.TheVariants as code

abbrev pub parsed_value : Parsed → ReadText
parsed_value (code.Read command) = Reads command
parsed_value (code.Unread place) = Breaks place
