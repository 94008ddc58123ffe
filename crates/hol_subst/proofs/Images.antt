-- What substitution makes of sets of terms.
use Rattle.std.specs.Prelude.{◌≡◌, ℕ, List, [], ◌∷◌, map, refl}
use Rattle.std.proofs.Common.{ap, sym, ◌∙◌}
use Rattle.std.specs.FinSet as set
use Rattle.hol_types.specs.Tree.{TypeTree}
use Rattle.hol_terms.specs.Named.{Named}
use Rattle.hol_terms.specs.Nameless.{Nameless, free, bound, fixed, app, lam, nameless}
use Rattle.hol_terms.specs.Alpha.{strip}
use Rattle.hol_subst.specs.AlphaOrder.{nameless_cmp}
use Rattle.hol_subst.specs.Pairs.{nameless_pairs}
use Rattle.hol_subst.specs.Substitution.{term_subst, types_inst}
use Rattle.hol_subst.specs.Hypotheses.{Hyps, hyp_of, hyps_of, hyps_image}
use Rattle.hol_subst.proofs.Strip.{inst_alpha, subst_alpha}
use Rattle.hol_subst.proofs.SortedSets.{map_of_set}
use Rattle.hol_subst.proofs.HypothesisLists.{hyps_total, hyps_same}

-- ---- base names left out

pub strip_strip : (n : Nameless) → strip (strip n) ≡ strip n
strip_strip (free v) = refl
strip_strip (bound i) = refl
strip_strip (fixed c s) = refl
strip_strip (app f x) = λ i. app (strip_strip f i) (strip_strip x i)
strip_strip (lam a s b) = ap (lam [] s) (strip_strip b)

-- ---- the images of hypotheses, by a map under which base names do not count

module _ (f : Nameless → Nameless) (minds : (n : Nameless) → strip (f (strip n)) ≡ strip (f n)) where
  keys : (ps : List Named) → map (λ h. strip (f h)) (map hyp_of ps) ≡ map strip (map (λ p. f (nameless [] p)) ps)
  keys [] = refl
  keys (p ∷ ps) = λ i. minds (nameless [] p) i ∷ keys ps i

  stripped : (rs : List Named) → map hyp_of rs ≡ map strip (map (λ r. nameless [] r) rs)
  stripped [] = refl
  stripped (r ∷ rs) = ap (λ ns. hyp_of r ∷ ns) (stripped rs)

  pub image_hyps : (hs : Hyps) (ps rs : List Named) → hyps_of ps ≡ hs → map (λ r. nameless [] r) rs ≡ map (λ p. f (nameless [] p)) ps → hyps_of rs ≡ hyps_image f hs
  image_hyps hs ps rs is e =
      ap (λ (ks : List Nameless). set.from_list {R = nameless_cmp} ks) (stripped rs ∙ ap (map strip) e ∙ sym (keys ps))
      ∙ sym (map_of_set hyps_total hyps_same (λ h. strip (f h)) (map hyp_of ps)) ∙ ap (hyps_image f) is

-- ---- types for type variables, terms for variables

pub types_hyps : (pairs : List (TypeTree × List ℕ)) (hs : Hyps) (ps rs : List Named) → hyps_of ps ≡ hs → map (λ r. nameless [] r) rs ≡ map (λ p. types_inst pairs (nameless [] p)) ps → hyps_of rs ≡ hyps_image (types_inst pairs) hs
types_hyps pairs = image_hyps (types_inst pairs) (λ n. inst_alpha pairs (strip n) n (strip_strip n))

pub terms_hyps : (pairs : List (Named × Named)) (hs : Hyps) (ps rs : List Named) → hyps_of ps ≡ hs → map (λ r. nameless [] r) rs ≡ map (λ p. term_subst (nameless_pairs pairs) 0 (nameless [] p)) ps → hyps_of rs ≡ hyps_image (term_subst (nameless_pairs pairs) 0) hs
terms_hyps pairs = image_hyps (term_subst (nameless_pairs pairs) 0) (λ n. subst_alpha (nameless_pairs pairs) 0 (strip n) n (strip_strip n))
