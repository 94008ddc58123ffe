use Rattle.std.proofs.Common.{◌≡◌, ◌++◌, drop}
use Rattle.hol_terms.specs.Scope.{binders}
use Rattle.hol_subst.specs.Renaming.{images_of}
use Rattle.hol_subst.proofs.instances.images.Given as goal

abbrev pub invariant-loop-w : goal.invariant-loop-w
invariant-loop-w l = (l.types ≡ l.initial.types) × (l.images.items ++ images_of l.types (binders l.old) (binders l.new) (drop l.w-index l.variables) ≡ images_of l.types (binders l.old) (binders l.new) l.variables)
