-- The general theorems of the rules, of formulas p and q, or of P:A->bool and x:A (bool.ml keeps each beside its rule, as pth): what each
-- assumes, and what it concludes. Private clauses alone speak of them.
use Rattle.std.specs.Prelude.{Bool, true, false, cond, [], ◌∷◌, codes}
use Rattle.std.specs.FinSet as set
use Rattle.hol_types.specs.Tree.{TypeTree}
use Rattle.hol_types.specs.Fun.{fun_type}
use Rattle.hol_terms.specs.Nameless.{Nameless, fixed, app}
use Rattle.hol_terms.specs.Alpha.{strip}
use Rattle.hol_formulas.specs.Equation.{bool_type, equation}
use Rattle.hol_formulas.specs.Formula.{quantifier_type, truth, falsity, negation, conjunction, disjunction, implication, equivalence, universal}
use Rattle.hol_formulas.specs.Constants.{var_a}
use Rattle.hol_formulas.specs.Prelude.{boolean}
use Rattle.hol_subst.specs.Substitution.{term_subst, types_inst}
use Rattle.hol_kernel.specs.Rules.{sequent_image}
use Rattle.hol_kernel.specs.Sequent.{Hyps, no_hyps, only_hyp, Sequent, sequent_of}
use Rattle.hol_derived.specs.Applied.{constantly_true}
use Rattle.hol_derived.specs.Unfolded.{letter, predicate, of_witness, exists_in, implied_by_all, either}
use Rattle.hol_derived.specs.Which.{Lemma, EqtIntro, Both, Conj, Conjunct1, Conjunct2, Mp, Disch, Disj1, Disj2, Contr, NotIntro, EqfIntro, Gen, DisjCases, Spec, Exists, Choose}

abbrev pub hypothesis : Lemma → Nameless → Nameless → Nameless
hypothesis EqtIntro p q = p
hypothesis Both p q = q
hypothesis Conj p q = q
hypothesis Conjunct1 p q = conjunction p q
hypothesis Conjunct2 p q = conjunction p q
hypothesis Mp p q = p
hypothesis Disch p q = equivalence (conjunction p q) p
hypothesis Disj1 p q = p
hypothesis Disj2 p q = q
hypothesis Contr p q = falsity
hypothesis NotIntro p q = implication p falsity
hypothesis EqfIntro p q = negation p
hypothesis Gen p q = equation (fun_type var_a bool_type) predicate (constantly_true var_a)
hypothesis DisjCases p q = disjunction p q
hypothesis Spec p q = app (fixed (codes "!") (quantifier_type var_a)) predicate
hypothesis Exists p q = of_witness
hypothesis Choose p q = exists_in var_a predicate

abbrev pub conclusion : Lemma → Nameless → Nameless → Nameless
conclusion EqtIntro p q = equivalence p truth
conclusion Both p q = conjunction p q
conclusion Conj p q = equivalence p (conjunction p q)
conclusion Conjunct1 p q = p
conclusion Conjunct2 p q = q
conclusion Mp p q = equivalence (implication p q) q
conclusion Disch p q = implication p q
conclusion Disj1 p q = disjunction p q
conclusion Disj2 p q = disjunction p q
conclusion Contr p q = p
conclusion NotIntro p q = negation p
conclusion EqfIntro p q = equivalence p falsity
conclusion Gen p q = app (fixed (codes "!") (quantifier_type var_a)) predicate
conclusion DisjCases p q = either p q (letter (codes "r"))
conclusion Spec p q = of_witness
conclusion Exists p q = exists_in var_a predicate
conclusion Choose p q = universal (implied_by_all var_a predicate)

-- where the two are equivalent, the theorem assumes nothing and says that
abbrev pub is_equation : Lemma → Bool
is_equation EqtIntro = true
is_equation Both = false
is_equation Conj = false
is_equation Conjunct1 = false
is_equation Conjunct2 = false
is_equation Mp = false
is_equation Disch = true
is_equation Disj1 = false
is_equation Disj2 = false
is_equation Contr = false
is_equation NotIntro = true
is_equation EqfIntro = false
is_equation Gen = true
is_equation DisjCases = false
is_equation Spec = false
is_equation Exists = false
is_equation Choose = false

-- else it assumes the one, and p beside it where it is of both
abbrev pub assumed : Lemma → Nameless → Nameless → Hyps
assumed EqtIntro p q = only_hyp p
assumed Both p q = set.insert (only_hyp q) (strip p)
assumed Conj p q = only_hyp (hypothesis Conj p q)
assumed Conjunct1 p q = only_hyp (hypothesis Conjunct1 p q)
assumed Conjunct2 p q = only_hyp (hypothesis Conjunct2 p q)
assumed Mp p q = only_hyp (hypothesis Mp p q)
assumed Disch p q = only_hyp (hypothesis Disch p q)
assumed Disj1 p q = only_hyp (hypothesis Disj1 p q)
assumed Disj2 p q = only_hyp (hypothesis Disj2 p q)
assumed Contr p q = only_hyp (hypothesis Contr p q)
assumed NotIntro p q = only_hyp (hypothesis NotIntro p q)
assumed EqfIntro p q = only_hyp (hypothesis EqfIntro p q)
assumed Gen p q = only_hyp (hypothesis Gen p q)
assumed DisjCases p q = only_hyp (hypothesis DisjCases p q)
assumed Spec p q = only_hyp (hypothesis Spec p q)
assumed Exists p q = only_hyp (hypothesis Exists p q)
assumed Choose p q = only_hyp (hypothesis Choose p q)

abbrev pub lemma_at : Lemma → Nameless → Nameless → Sequent
lemma_at which p q =
    cond (is_equation which) (sequent_of no_hyps (equivalence (hypothesis which p q) (conclusion which p q)))
    (sequent_of (assumed which p q) (conclusion which p q))

-- the general theorem itself, of the variables p and q of type bool
abbrev pub general : Lemma → Sequent
general which = lemma_at which (letter (codes "p")) (letter (codes "q"))

-- p and q for the variables of these names, in a sequent
abbrev pub put : Nameless → Nameless → Sequent → Sequent
put p q a = sequent_image (term_subst ((p, boolean (codes "p")) ∷ (q, boolean (codes "q")) ∷ []) 0) a

-- a predicate f on the type a for P:A->bool, in a sequent
abbrev pub put_predicate : TypeTree → Nameless → Sequent → Sequent
put_predicate a f s = sequent_image (term_subst ((f, (codes "P", fun_type a bool_type)) ∷ []) 0) (sequent_image (types_inst ((a, codes "A") ∷ [])) s)

-- and a term t of the type for x:A
abbrev pub put_at : TypeTree → Nameless → Nameless → Sequent → Sequent
put_at a f t s = sequent_image (term_subst ((f, (codes "P", fun_type a bool_type)) ∷ (t, (codes "x", a)) ∷ []) 0) (sequent_image (types_inst ((a, codes "A") ∷ [])) s)
