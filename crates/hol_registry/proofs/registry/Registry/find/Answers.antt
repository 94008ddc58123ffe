use Rattle.std.proofs.Common.{rules, bytes_eq}
use Rattle.hol_registry.proofs.Tables.{position_of_map}
use Rattle.hol_registry.specs.RegistryView.{row}
use Rattle.hol_registry.proofs.registry.Registry.find.Goals as goal

pub returns-clause-index : goal.returns-clause-index
returns-clause-index g c = rw (position_of_map (λ r. bytes_eq r.0 c.args.name.now) row c.args.self.now.entries.items) (search rules)
