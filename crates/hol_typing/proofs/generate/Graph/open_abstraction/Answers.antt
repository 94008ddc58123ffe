use Rattle.hol_typing.proofs.generate.Graph.open_abstraction.Goals as goal

pub returns-clause-opens : goal.returns-clause-opens
returns-clause-opens c = record {
  first = c.variable_slot.new.self;
  second = c.fresh.new.self;
  third = c.function.new.self;
  slot = c.in_ok-whole.whole;
  variable = c.in_ok-variable.ensures;
  range = c.in_ok-range.ensures;
  whole = c.in_ok-whole.ensures;
  same = c.in_ok-equate.ensures;
}
