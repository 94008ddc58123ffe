use Rattle.std.proofs.Common.{ℕ, ◌∙◌, sym, ap, min, rules}
use Rattle.hol_typing.specs.Shape.{AreSingle}
use Rattle.hol_typing.proofs.Parts.{single_size}
use Rattle.hol_typing.proofs.shape.part_size.Goals as goal

pub returns-then-are_single : goal.returns-then-are_single
returns-then-are_single c = λ base names.
    let single : AreSingle c.args.bound.now = search rules in
    c.size.ensures ∙ sym (ap (λ (n : ℕ). min n 20001) (single_size c.args.bound.now base names c.args.ty.now single))
