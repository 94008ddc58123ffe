use Rattle.std.specs.Prelude.{is_some}
use Rattle.std.specs.List.{list_any}
use Rattle.std.proofs.Common.{◌∙◌, ap, List}
use Rattle.hol_theory.specs.Entry.{Entries, entry_at}
use Rattle.hol_exec.proofs.Changing.{in_listed, in_rest}
use Rattle.hol_exec.proofs.reads.changed_keys.ChangedKeys.has.Goals as goal

pub returns-then-has : goal.returns-then-has
returns-then-has c = in_listed c.self.inside.listed c.args.self.now c.self.inside.theories.items c.args.key.now c.has.result c.self.view_is c.has.ensures c.if-has.true

pub returns-else-has : goal.returns-else-has
returns-else-has c =
    in_rest c.self.inside.listed c.args.self.now c.self.inside.theories.items c.args.key.now c.has.result c.is_in_any.result c.self.view_is c.has.ensures c.if-has.false
    (c.is_in_any.ensures ∙ ap (λ (ts : List Entries). list_any (λ entries. is_some (entry_at c.args.key.now entries)) ts) c.deref.ensures.value)
