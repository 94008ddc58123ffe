use Rattle.std.proofs.Common.{◌≡◌, subst, [], ◌∷◌, rules}
use Rattle.std.specs.Prelude.{List, IfOk}
use Rattle.hol_terms.specs.Named.{Named, var}
use Rattle.hol_terms.specs.Nameless.{nameless}
use Rattle.hol_subst.specs.Pairs.{nameless_pairs}
use Rattle.hol_subst.specs.Substitution.{term_subst}
use Rattle.hol_equal.proofs.Replaced.{good_alone}
use Rattle.hol_equal.proofs.replacement.m_with.Goals as goal

pub vsubst_good-requires : goal.vsubst_good-requires
vsubst_good-requires c =
    let all : c.deref.result.now ≡ (c.args.r.now, var c.args.v.now) ∷ [] = search rules in
    rw all (good_alone c.args.r.now c.args.v.now c.requires.fits)

pub returns : goal.returns
returns c =
    let all : c.deref.result.now ≡ (c.args.r.now, var c.args.v.now) ∷ [] = search rules in
    subst (λ (pairs : List (Named × Named)). IfOk c.vsubst_good.result (λ t. nameless [] t ≡ term_subst (nameless_pairs pairs) 0 (nameless [] c.args.m.now))) all c.vsubst_good.ensures.ok
