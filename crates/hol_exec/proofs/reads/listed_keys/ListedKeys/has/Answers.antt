use Rattle.std.proofs.Common.{ap, sym, ◌∙◌, refl, false, List}
use Rattle.hol_theory.specs.Key.{KeyValue}
use Rattle.hol_exec.specs.ChangedKeys.{is_one_of}
use Rattle.hol_exec.proofs.NameFilters.{no_name, own_place}
use Rattle.hol_exec.proofs.reads.listed_keys.ListedKeys.has.Goals as goal

pub returns-then-not-meets : goal.returns-then-not-meets
returns-then-not-meets c =
    sym
    (ap (λ (ks : List KeyValue). is_one_of ks c.args.key.now) (sym c.self.view_is)
    ∙ no_name c.self.inside.names.bits c.filter.result.bits c.self.inside.keys.keys c.args.key.now false c.self.invariant.1 (own_place c.args.key.now c.filter.result.bits c.filter.ensures) c.if-not-meets.ensures refl)
