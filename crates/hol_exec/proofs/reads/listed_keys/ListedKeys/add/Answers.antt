use Rattle.std.proofs.Common.{◌||◌, ap, sym, ◌∙◌, List}
use Rattle.hol_types.specs.Filter.{name_bit}
use Rattle.hol_theory.specs.Key.{KeyValue, key_eq}
use Rattle.hol_exec.specs.ChangedKeys.{is_one_of}
use Rattle.hol_exec.specs.Filters.{HasNames}
use Rattle.hol_exec.proofs.Changing.{inserted, inserted_names}
use Rattle.hol_exec.proofs.reads.listed_keys.ListedKeys.add.Goals as goal

pub invariant_of-self-2 : goal.invariant_of-self-2
invariant_of-self-2 c =
    let own : HasNames c.union-self-inside.result.bits c.insert.new.self.keys =
    rw (c.union-self-inside.ensures, c.in_ok-insert.ensures.keys)
    (inserted_names c.self.inside.names.bits c.filter.result.bits c.self.inside.keys.keys c.in_ok-copy.field-0 c.self.invariant.1
    (c.filter.ensures ∙ ap (λ (k : KeyValue). name_bit k.name) (sym c.in_ok-copy.ensures))) in
    (c.insert.ensures.unique, own)

pub returns : goal.returns
returns c = λ k.
    ap (λ (ks : List KeyValue). is_one_of ks k) c.in_ok-insert.ensures.keys ∙ inserted c.self.inside.keys.keys c.in_ok-copy.field-0 k
    ∙ (λ i. is_one_of (c.self.view_is i) k || key_eq k (c.in_ok-copy.ensures i))
