use Rattle.hol_typing.proofs.generate.Graph.open_application.Goals as goal

pub returns-clause-opens : goal.returns-clause-opens
returns-clause-opens c = record {
  middle = c.fresh.new.self;
  domain = c.in_ok-domain.ensures;
  function = c.in_ok-whole.ensures;
}
