-- The entries that are held one by one, or as those of a theory.
use Rattle.hol_theory.specs.Entry.{Entries}
use Rattle.hol_exec.specs.declared.state.new_entries.Held.{Held}
use Rattle.hol_exec.specs.declared.state.new_entries.Held.TheVariants as held

abbrev pub held_entries : Held → Entries
held_entries (held.Listed entries) = entries.items
held_entries (held.Shared env) = env
