-- How the logic stores a variable, a named term and a nameless term: as trees of numbers, by functions that map no two to one tree.
use Rattle.std.specs.Coded.{Coded, coded×}
use Rattle.std.proofs.Common.{◌≡◌, ℕ, List, ap, arith}
use base.Stored.{Gv, gnum, gcons}
use Rattle.hol_types.specs.Tree.{TypeTree}
use Rattle.hol_types.specs.Code.{head, tail, apart, coded_name, coded_type}
use Rattle.hol_terms.specs.Named.{Named, var, constant, comb, abs}
use Rattle.hol_terms.specs.Nameless.{Nameless, free, bound, fixed, app, lam}

abbrev pub coded_variable : Coded (List ℕ × TypeTree)
coded_variable = coded× coded_name coded_type

abbrev pub named_code : Named → Gv
named_code (var v) = gcons (gnum 0) (coded_variable.code v)
named_code (constant c s) = gcons (gnum 1) (gcons (coded_name.code c) (coded_type.code s))
named_code (comb f x) = gcons (gnum 2) (gcons (named_code f) (named_code x))
named_code (abs v b) = gcons (gnum 3) (gcons (coded_variable.code v) (named_code b))

pub named_inj : (x y : Named) → named_code x ≡ named_code y → x ≡ y
named_inj (var v) (var w) p = λ i. var (coded_variable.inj v w (ap (λ g. tail g) p) i)
named_inj (var v) (constant d t) p = absurd (apart 0 1 p (omega arith))
named_inj (var v) (comb g y) p = absurd (apart 0 2 p (omega arith))
named_inj (var v) (abs w c) p = absurd (apart 0 3 p (omega arith))
named_inj (constant c s) (var w) p = absurd (apart 1 0 p (omega arith))
named_inj (constant c s) (constant d t) p = λ i. constant (coded_name.inj c d (ap (λ g. head (tail g)) p) i) (coded_type.inj s t (ap (λ g. tail (tail g)) p) i)
named_inj (constant c s) (comb g y) p = absurd (apart 1 2 p (omega arith))
named_inj (constant c s) (abs w b) p = absurd (apart 1 3 p (omega arith))
named_inj (comb f x) (var w) p = absurd (apart 2 0 p (omega arith))
named_inj (comb f x) (constant d t) p = absurd (apart 2 1 p (omega arith))
named_inj (comb f x) (comb g y) p = λ i. comb (named_inj f g (ap (λ h. head (tail h)) p) i) (named_inj x y (ap (λ h. tail (tail h)) p) i)
named_inj (comb f x) (abs w c) p = absurd (apart 2 3 p (omega arith))
named_inj (abs v b) (var w) p = absurd (apart 3 0 p (omega arith))
named_inj (abs v b) (constant d t) p = absurd (apart 3 1 p (omega arith))
named_inj (abs v b) (comb g y) p = absurd (apart 3 2 p (omega arith))
named_inj (abs v b) (abs w c) p = λ i. abs (coded_variable.inj v w (ap (λ g. head (tail g)) p) i) (named_inj b c (ap (λ g. tail (tail g)) p) i)

abbrev pub coded_named : Coded Named
coded_named = record { code = named_code; inj = named_inj }

-- The numbers of the kinds, and the order of the parts, are those of the alpha order: constant, bound by index, free variable,
-- application, abstraction. The base name, which that order leaves out, stands last.
abbrev pub nameless_code : Nameless → Gv
nameless_code (fixed c s) = gcons (gnum 0) (gcons (coded_name.code c) (coded_type.code s))
nameless_code (bound i) = gcons (gnum 1) (gnum i)
nameless_code (free v) = gcons (gnum 2) (coded_variable.code v)
nameless_code (app f x) = gcons (gnum 3) (gcons (nameless_code f) (nameless_code x))
nameless_code (lam a s b) = gcons (gnum 4) (gcons (coded_type.code s) (gcons (nameless_code b) (coded_name.code a)))

pub nameless_inj : (x y : Nameless) → nameless_code x ≡ nameless_code y → x ≡ y
nameless_inj (fixed c s) (fixed d t) p = λ i. fixed (coded_name.inj c d (ap (λ g. head (tail g)) p) i) (coded_type.inj s t (ap (λ g. tail (tail g)) p) i)
nameless_inj (fixed c s) (bound j) p = absurd (apart 0 1 p (omega arith))
nameless_inj (fixed c s) (free w) p = absurd (apart 0 2 p (omega arith))
nameless_inj (fixed c s) (app g y) p = absurd (apart 0 3 p (omega arith))
nameless_inj (fixed c s) (lam e t d) p = absurd (apart 0 4 p (omega arith))
nameless_inj (bound i) (fixed d t) p = absurd (apart 1 0 p (omega arith))
nameless_inj (bound i) (bound j) p = let e : i ≡ j = cc in ap bound e
nameless_inj (bound i) (free w) p = absurd (apart 1 2 p (omega arith))
nameless_inj (bound i) (app g y) p = absurd (apart 1 3 p (omega arith))
nameless_inj (bound i) (lam e t d) p = absurd (apart 1 4 p (omega arith))
nameless_inj (free v) (fixed d t) p = absurd (apart 2 0 p (omega arith))
nameless_inj (free v) (bound j) p = absurd (apart 2 1 p (omega arith))
nameless_inj (free v) (free w) p = λ i. free (coded_variable.inj v w (ap (λ g. tail g) p) i)
nameless_inj (free v) (app g y) p = absurd (apart 2 3 p (omega arith))
nameless_inj (free v) (lam e t d) p = absurd (apart 2 4 p (omega arith))
nameless_inj (app f x) (fixed d t) p = absurd (apart 3 0 p (omega arith))
nameless_inj (app f x) (bound j) p = absurd (apart 3 1 p (omega arith))
nameless_inj (app f x) (free w) p = absurd (apart 3 2 p (omega arith))
nameless_inj (app f x) (app g y) p = λ i. app (nameless_inj f g (ap (λ h. head (tail h)) p) i) (nameless_inj x y (ap (λ h. tail (tail h)) p) i)
nameless_inj (app f x) (lam e t d) p = absurd (apart 3 4 p (omega arith))
nameless_inj (lam a s b) (fixed d t) p = absurd (apart 4 0 p (omega arith))
nameless_inj (lam a s b) (bound j) p = absurd (apart 4 1 p (omega arith))
nameless_inj (lam a s b) (free w) p = absurd (apart 4 2 p (omega arith))
nameless_inj (lam a s b) (app g y) p = absurd (apart 4 3 p (omega arith))
nameless_inj (lam a s b) (lam e t d) p = λ i. lam (coded_name.inj a e (ap (λ h. tail (tail (tail h))) p) i) (coded_type.inj s t (ap (λ h. head (tail h)) p) i) (nameless_inj b d (ap (λ h. head (tail (tail h))) p) i)

abbrev pub coded_nameless : Coded Nameless
coded_nameless = record { code = nameless_code; inj = nameless_inj }
