use Rattle.std.proofs.Common.{◌≡◌, ap, ◌||◌, map, ◌∙◌, refl}
use Rattle.std.proofs.lemmas.Result.{on_ok_weaker}
use Rattle.hol_theory.specs.Entry.{Entries}
use Rattle.hol_exec.specs.ChangedKeys.{is_one_of}
use Rattle.hol_exec.proofs.reads.changed_keys.ChangedKeys.add_keys_of.Goals as goal

pub returns-in-Some : goal.returns-in-Some
returns-in-Some c =
    on_ok_weaker c.add_theory.result (λ more. λ k.
    more k ∙ ap (λ (es : Entries). is_one_of c.args.self.now k || is_one_of (map (λ entry. entry.0) es) k) (c.in-Some.ensures c.in-Some.theory.now refl))
    c.add_theory.ensures
