-- What comes after the entries of a theory: what it has to meet, and what an import brings and refuses.
-- Source: this project.
use Rattle.std.specs.Prelude.{◌≡◌, ◌⊎◌, [], ◌∷◌, ◌++◌, Bool, false, not, cond, filter, Option, Some, None, is_some, is_none, IsTrue, Result, Ok, Err}
use Rattle.hol_kernel.specs.Item.{Item}
use Rattle.hol_kernel.specs.Items.{Holds}
use Rattle.hol_theory.specs.declared.error.EnvError.{EnvError}
use Rattle.hol_theory.specs.declared.error.EnvError.TheVariants.{Taken, ImportClash, Memory}
use Rattle.hol_theory.specs.Key.{KeyValue}
use Rattle.hol_theory.specs.Entry.{EntryValue, Entries, EachIsEntry, entry_at}
use Rattle.hol_theory.specs.Theory.{items_of, items_in, RestsOn, IsNamedIn}
use Rattle.hol_theory.specs.SameValue.{same_value}

-- Nothing stands under the keys of the entries, and no two of these keys are one.
abbrev pub AreNew : Entries → Entries → Type 0
AreNew entries [] = Unit {0}
AreNew entries (e ∷ more) = (entry_at e.0 entries ≡ None) × AreNew (entries ++ e ∷ []) more

-- Each is an entry; each rests on items that stand before it and on its own one; and under each name of an own item that does not stand yet
-- there is its entry among them.
pub record CanFollow (entries more : Entries) : Type 0 where
  pub each : EachIsEntry more
  pub rests : RestsOn (items_of entries) more
  pub named : (x : Item) → Holds (items_in more) x → Holds (items_in entries) x ⊎ IsNamedIn more x

-- one entry more; refused where something stands under its key
abbrev pub Adds : KeyValue → EntryValue → Entries → Entries → Result (Unit {0}) EnvError → Type 0
Adds key value old new (Ok done) = (entry_at key old ≡ None) × (new ≡ old ++ (key, value) ∷ [])
Adds key value old new (Err (Taken k)) = IsTrue (is_some (entry_at key old)) × (k ≡ key) × (new ≡ old)
Adds key value old new (Err (ImportClash k)) = ⊥
Adds key value old new (Err Memory) = new ≡ old

-- ---- imports

-- another value stands
abbrev pub stands_otherwise : Option EntryValue → EntryValue → Bool
stands_otherwise None value = false
stands_otherwise (Some own) value = not (same_value own value)

-- the first key of the theory's under which another value stands here
abbrev pub first_clash : Entries → Entries → Option KeyValue
first_clash entries [] = None
first_clash entries (e ∷ theory) = cond (stands_otherwise (entry_at e.0 entries) e.1) (Some e.0) (first_clash entries theory)

-- the theory's entries under whose keys nothing stands here, in their order
abbrev pub missing : Entries → Entries → Entries
missing entries theory = filter (λ e. is_none (entry_at e.0 entries)) theory

-- what does not stand here comes after what stands; refused where a key has another value here
abbrev pub Imports : Entries → Entries → Entries → Result (Unit {0}) EnvError → Type 0
Imports theory old new (Ok done) = (first_clash old theory ≡ None) × (new ≡ old ++ missing old theory)
Imports theory old new (Err (Taken k)) = ⊥
Imports theory old new (Err (ImportClash k)) = (first_clash old theory ≡ Some k) × (new ≡ old)
Imports theory old new (Err Memory) = new ≡ old
