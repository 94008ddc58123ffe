use Rattle.std.proofs.Common.{◌≡◌, List, ℕ, map, sym, refl, subst}
use Rattle.std.specs.Prelude.{◌↔◌}
use Rattle.hol_types.specs.Tree.{TyApp, type_list}
use Rattle.hol_typing.proofs.Splitting.{builds_split}
use Rattle.hol_typing.proofs.generate.Graph.split.Goals as goal

pub returns : goal.returns
returns c =
    builds_split c.args.self.now c.generic_slots.new.self c.args.name.now c.in_ok-parts.parts.items c.args.args.now _ c.requires.apart c.in_ok-parts.ensures
    (λ types t. subst (λ (d : List ℕ). (t ≡ TyApp d (type_list (map types c.in_ok-parts.parts.items))) ↔ (t ≡ TyApp c.args.name.now (type_list (map types c.in_ok-parts.parts.items)))) (sym c.in_ok-copy.ensures) (λ e. e, λ e. e))
    (λ i. c.in_ok-parts.ensures.parts_in)
    refl
