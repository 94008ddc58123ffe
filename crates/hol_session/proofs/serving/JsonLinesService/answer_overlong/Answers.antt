use Rattle.hol_session.proofs.Machines.{line_overlong}
use Rattle.hol_session.proofs.serving.JsonLinesService.answer_overlong.Goals as goal

pub returns : goal.returns
returns g c line long = line_overlong _ line c.line_too_long.result long c.line_too_long.ensures
