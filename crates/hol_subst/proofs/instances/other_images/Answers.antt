use Rattle.std.proofs.Common.{◌≡◌, [], map, ap, subst, ◌||◌, ◌∙◌}
use Rattle.std.proofs.lemmas.Result.{IfOk-weaker}
use Rattle.hol_terms.specs.Nameless.{nameless, base_of}
use Rattle.hol_terms.specs.Scope.{binders}
use Rattle.hol_terms.specs.Scoped.{binds}
use Rattle.hol_subst.specs.Variant.{is_free_in}
use Rattle.hol_subst.specs.Renaming.{images_of, is_alike_in}
use Rattle.hol_subst.specs.Marks.{HasPrimed}
use Rattle.hol_subst.proofs.Alike.{alike_images}
use Rattle.hol_subst.proofs.NameFilters.{primed}
use Rattle.hol_subst.proofs.instances.other_images.Goals as goal

pub returns-clause-is : goal.returns-clause-is
returns-clause-is c =
    let pairs = c.args.types.now in
    let old = binders c.args.old.now in
    let new = binders c.args.new.now in
    let v = c.args.v.now in
    let body = c.args.body.now in
    IfOk-weaker c.images.result _ _
    (λ ts e u q. ap (λ xs. is_free_in (map (λ t. nameless [] t) xs) u) (e ∙ ap (λ ws. images_of pairs old new ws) c.deref.ensures.value)
    ∙ alike_images pairs old new v body c.add_alike.new.found.items c.requires (λ w. c.in_ok-add_alike.ensures w ∙ ap (λ xs. binds xs w || is_alike_in v [] body w) c.new-found.ensures.items) u q)
    c.images.ensures.is

-- all names of the base with primes
pub add_alike-requires-clause-primed : goal.add_alike-requires-clause-primed
add_alike-requires-clause-primed c =
    let is : c.base_name-base.result.now ≡ base_of c.args.v.now.0 = c.base_name-base.ensures ∙ ap base_of (c.as_str.ensures ∙ c.name.ensures) in
    subst (HasPrimed c.of_primed-primed.result.bits) is (primed c.of_primed-primed.result.bits c.base_name-base.result.now c.of_primed-primed.ensures.base c.of_primed-primed.ensures.primed)
