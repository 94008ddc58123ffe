-- What a type definition says of the constants to and from the new type (fusion.ml, new_basic_type_definition).
use Rattle.std.specs.Prelude.{ℕ, List, codes}
use Rattle.hol_types.specs.Tree.{TypeTree}
use Rattle.hol_types.specs.Fun.{fun_type}
use Rattle.hol_terms.specs.Nameless.{Nameless, free, fixed, app}
use Rattle.hol_formulas.specs.Equation.{bool_type, equation}

-- the constant abs to the new type, and the constant rep from it
abbrev pub to_new : List ℕ → TypeTree → TypeTree → Nameless
to_new abs old new = fixed abs (fun_type old new)

abbrev pub from_new : List ℕ → TypeTree → TypeTree → Nameless
from_new rep old new = fixed rep (fun_type new old)

-- abs (rep a) = a, for a variable a of the new type
abbrev pub abs_rep : List ℕ → List ℕ → TypeTree → TypeTree → Nameless
abs_rep abs rep old new =
    let a : Nameless = free (codes "a", new) in
    equation new (app (to_new abs old new) (app (from_new rep old new) a)) a

-- P r = (rep (abs r) = r), for a variable r of the type that P is about
abbrev pub rep_abs : List ℕ → List ℕ → Nameless → TypeTree → TypeTree → Nameless
rep_abs abs rep p old new =
    let r : Nameless = free (codes "r", old) in
    equation bool_type (app p r) (equation old (app (from_new rep old new) (app (to_new abs old new) r)) r)
