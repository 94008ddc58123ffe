use Rattle.std.proofs.Common.{ap, ◌∙◌}
use Rattle.hol_terms.specs.Named.{named_type}
use Rattle.hol_formulas.proofs.Signs.{half_type}
use Rattle.hol_formulas.proofs.equality.Equality.between.Goals as goal

pub application_of-requires : goal.application_of-requires
application_of-requires c = half_type c.in-Ok-Ok-Ok.sign c.in-Ok-Ok-Ok.first c.args.self.now c.in-Ok-Ok-Ok.property (c.in-Ok-Ok-Ok.ensures ∙ c.sign.ensures) (c.in-Ok-Ok-Ok.ensures'' ∙ c.property.ensures) (ap named_type c.in-Ok-Ok-Ok.ensures' ∙ c.requires.left)
