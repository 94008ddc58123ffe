-- Parts of well typed terms are well typed.
use Rattle.std.specs.Prelude.{◌≡◌, ◌&&◌, [], codes, Some}
use Rattle.hol_types.specs.Tree.{TypeTree}
use Rattle.hol_types.specs.Fun.{fun_type}
use Rattle.hol_terms.specs.Nameless.{Nameless, fixed, app}
use Rattle.hol_formulas.specs.Equation.{equality_type, equation}
use Rattle.hol_kernel.specs.Items.{Items}
use Rattle.hol_kernel.specs.Typing.{is_known, HasType}
use Rattle.hol_kernel.proofs.Stands.{both, app_parts}
use Rattle.hol_kernel.proofs.Variables.{typed_known, known_typed}

module _ (items : Items) where
  -- What a well typed application says of its parts.
  pub record AreParts (f x : Nameless) (b : TypeTree) : Type 0 where
    pub domain : TypeTree
    pub function : HasType items f (fun_type domain b)
    pub argument : HasType items x domain

  pub parts_typed : (f x : Nameless) (b : TypeTree) → HasType items (app f x) b → AreParts f x b
  parts_typed f x b h =
      let p = known_typed items (app f x) b h in
      let known = both (is_known items f) (is_known items x) p.0 in
      let types = app_parts [] f x b p.1 in
      record { domain = types.0; function = typed_known items f (fun_type types.0 b) known.0 types.1; argument = typed_known items x types.0 known.1 types.2 }

  -- the sign of a well typed equation
  pub sign_typed : (a b : TypeTree) (l r : Nameless) → HasType items (equation a l r) b → HasType items (fixed (codes "=") (equality_type a)) (equality_type a)
  sign_typed a b l r h =
      let outer = parts_typed (app (fixed (codes "=") (equality_type a)) l) r b h in
      let inner = parts_typed (fixed (codes "=") (equality_type a)) l (fun_type outer.domain b) outer.function in
      let p = known_typed items (fixed (codes "=") (equality_type a)) (fun_type inner.domain (fun_type outer.domain b)) inner.function in
      typed_known items (fixed (codes "=") (equality_type a)) (equality_type a) p.0 (λ _. Some (equality_type a))
