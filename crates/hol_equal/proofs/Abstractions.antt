-- Abstractions over a variable are well typed.
use Rattle.std.specs.Prelude.{◌≡◌, ℕ, true, List}
use Rattle.hol_types.specs.Tree.{TypeTree}
use Rattle.hol_types.specs.Fun.{fun_type}
use Rattle.hol_terms.specs.Nameless.{Nameless}
use Rattle.hol_subst.specs.Closing.{bind}
use Rattle.hol_kernel.specs.Items.{Items}
use Rattle.hol_kernel.specs.Typing.{is_type, HasType}
use Rattle.hol_kernel.proofs.Stands.{known_bind}
use Rattle.hol_kernel.proofs.Variables.{typed_known, known_typed}
use Rattle.hol_subst.proofs.TypeLaws.{bind_type}

pub bound_typed : (items : Items) (v : List ℕ × TypeTree) (a : TypeTree) (n : Nameless) → is_type items v.1 ≡ true → HasType items n a → HasType items (bind v n) (fun_type v.1 a)
bound_typed items v a n stands h =
    let p = known_typed items n a h in
    typed_known items (bind v n) (fun_type v.1 a) (known_bind items v n stands p.0) (bind_type v n a p.1)
