-- The size of a theorem's hypotheses, each once, is that of the terms that the program keeps.
use Rattle.std.specs.Prelude.{◌≡◌, ◌+◌, List, [], ◌∷◌, map, refl}
use Rattle.std.proofs.Common.{ap, sym, ◌∙◌}
use Rattle.std.specs.List.Sorted.{IsStrictlySortedBy}
use Rattle.hol_types.specs.Tree.{TypeTree, type_size}
use Rattle.hol_terms.specs.Named.{Named}
use Rattle.hol_terms.specs.Nameless.{Nameless, free, bound, fixed, app, lam, nameless}
use Rattle.hol_terms.specs.Alpha.{strip}
use Rattle.hol_terms.specs.Size.{term_size}
use Rattle.hol_subst.specs.AlphaOrder.{nameless_cmp}
use Rattle.hol_subst.specs.Hypotheses.{hyp_of, hyps_of}
use Rattle.hol_subst.proofs.HypothesisLists.{hyps_total, hyps_same}
use Rattle.hol_kernel.specs.Sequent.{Sequent}
use Rattle.hol_kernel.proofs.Ordered.{sorted_is}
use Rattle.hol_goal.specs.Goal.{terms_size}
use Rattle.hol_resolve.specs.Forward.{sequent_size}

strip_size : (env : List TypeTree) (p : Nameless) → term_size env (strip p) ≡ term_size env p
strip_size env (free v) = refl
strip_size env (bound i) = refl
strip_size env (fixed c s) = refl
strip_size env (app f x) = λ i. 1 + strip_size env f i + strip_size env x i
strip_size env (lam a s b) = ap (λ n. 1 + type_size s + n) (strip_size (s ∷ env) b)

kept_size : (ts : List Named) → terms_size (map (nameless []) ts) ≡ terms_size (map hyp_of ts)
kept_size [] = refl
kept_size (t ∷ ts) = λ i. sym (strip_size [] (nameless [] t)) i + kept_size ts i

pub size_is : (s : Sequent) (ts : List Named) (p : Nameless) → hyps_of ts ≡ s.hyps → IsStrictlySortedBy nameless_cmp (map hyp_of ts) → p ≡ s.concl → term_size [] p + terms_size (map (nameless []) ts) ≡ sequent_size s
size_is s ts p e sorted c = λ i. term_size [] (c i) + (kept_size ts ∙ ap terms_size (sorted_is hyps_total hyps_same (map hyp_of ts) s.hyps sorted e)) i
