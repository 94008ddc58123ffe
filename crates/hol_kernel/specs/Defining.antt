-- What the code tests before it defines a constant or a type. Laws in proofs/ lead from here to `IsDefinable` and `IsTypeDefine`.
use Rattle.std.specs.Prelude.{◌≡◌, ℕ, List, Bool, not, ◌&&◌, bytes_eq}
use Rattle.hol_types.specs.Tree.{TypeTree}
use Rattle.hol_types.specs.Names.{tyvars}
use Rattle.hol_terms.specs.Nameless.{Nameless, app}
pub use Rattle.hol_subst.specs.ClosedTerm.{has_none, is_closed}
pub use Rattle.hol_subst.specs.TermTyvars.{are_among}
use Rattle.hol_kernel.specs.Items.{Items}
use Rattle.hol_kernel.specs.Sequent.{no_hyps}
use Rattle.hol_kernel.specs.Signature.{type_key, constant_key, term_tyvars}
use Rattle.hol_kernel.specs.Typing.{is_typed}
use Rattle.hol_kernel.specs.Theorem.{Theorem}
use Rattle.hol_kernel.specs.Clashing.{is_new}

-- the term is well typed and closed, and each of its type variables occurs in the type
abbrev pub is_definable : Items → Nameless → TypeTree → Bool
is_definable items t a = is_typed items t && (is_closed t && are_among (tyvars a) (term_tyvars t))

-- the names of a type and of two different constants are new
abbrev pub are_new_names : Items → List ℕ → List ℕ → List ℕ → Bool
are_new_names items c abs rep = is_new items (type_key c) && (is_new items (constant_key abs) && (is_new items (constant_key rep) && not (bytes_eq abs rep)))

-- the theorem is |- p x, without hypotheses
abbrev pub IsMembership : Theorem → Nameless → Nameless → Type 0
IsMembership th p x = (th.sequent.hyps ≡ no_hyps) × (th.sequent.concl ≡ app p x)
