-- A type constructor, and a constant, that is declared over no items can come after any theory.
use Rattle.std.specs.Prelude.{◌≡◌, ℕ, List, [], ◌∷◌, refl}
use Rattle.std.proofs.Common.{subst, sym}
use Rattle.hol_types.specs.Tree.{TypeTree}
use Rattle.hol_kernel.specs.Items.{Items, no_items}
use Rattle.hol_kernel.specs.Legal.{IsLegalSet}
use Rattle.hol_kernel.proofs.Subsets.{none_within}
use Rattle.hol_theory.specs.Key.{KeyValue}
use Rattle.hol_theory.specs.Entry.{EntryValue, Entries}
use Rattle.hol_theory.specs.Theory.{items_in}
use Rattle.hol_theory.specs.Adding.{CanFollow}
use Rattle.hol_theory.specs.Making.{IsNewType, IsNewConstant}
use Rattle.hol_theory.proofs.Declaring.{type_follows as follows, constant_follows as constant_comes}

pub type_follows : (entries : Entries) (basis : Items) (name : List ℕ) (arity : ℕ) (entry : KeyValue × EntryValue) → basis ≡ no_items → IsNewType basis name arity entry → CanFollow entries (entry ∷ [])
type_follows entries basis name arity entry e n = follows entries basis name arity entry (subst IsLegalSet (sym e) ([], tt, refl)) (none_within basis (items_in entries) e) n

pub constant_follows : (entries : Entries) (basis : Items) (name : List ℕ) (ty : TypeTree) (entry : KeyValue × EntryValue) → basis ≡ no_items → IsNewConstant basis name ty entry → CanFollow entries (entry ∷ [])
constant_follows entries basis name ty entry e n = constant_comes entries basis name ty entry (subst IsLegalSet (sym e) ([], tt, refl)) (none_within basis (items_in entries) e) n
