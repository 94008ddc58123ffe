-- Steps of a derivation: a rule of the kernel that gives a sequent gives its theorem, or wants memory.
use Rattle.std.specs.Prelude.{◌≡◌, Bool, true, false, cond, List, Option, Some, None, Result, Ok, Err, IfOk, refl}
use Rattle.std.proofs.Common.{ap, sym, ◌∙◌}
use Rattle.hol_terms.specs.Named.{Named}
use Rattle.hol_subst.specs.Pairs.{nameless_pairs}
use Rattle.hol_subst.specs.Substitution.{term_subst}
use Rattle.hol_kernel.specs.Items.{Items}
use Rattle.hol_kernel.specs.Rules.{sequent_image, are_pairs_over, inst_of}
use Rattle.hol_kernel.specs.Sequent.{Sequent}
use Rattle.hol_kernel.specs.Theorem.{Theorem, theorem_on, over}
use Rattle.hol_kernel.specs.Gives.{Gives, in_kernel}
use Rattle.hol_kernel.specs.declared.error.Rule.{Rule}
use Rattle.hol_kernel.specs.declared.error.KernelError.{KernelError}
use Rattle.hol_kernel.specs.declared.error.KernelError.TheVariants.{Refused, Clash, Memory}
use Rattle.hol_equal.specs.Unrefused.{IsUnrefused}

module _ (basis : Items) (o : Option Sequent) (s : Sequent) (is : o ≡ Some s) where
  given_theorem : over basis o ≡ Some (theorem_on basis s)
  given_theorem = ap (over basis) is

  -- a rule of what is known to be well typed, which gives what the rule gives
  pub known : {E : Type 0} (r : Result Theorem E) → IfOk r (λ th. over basis o ≡ Some th) → IfOk r (λ th. th ≡ theorem_on basis s)
  known (Ok th) g = let those : Some th ≡ Some (theorem_on basis s) = sym g ∙ given_theorem in cc
  known (Err x) g = tt

module _ (rule : Rule) (basis : Items) (o : Option Sequent) (s : Sequent) (is : o ≡ Some s) where
  gives : over basis o ≡ Some (theorem_on basis s)
  gives = given_theorem basis o s is

  pub unrefused : (r : Result Theorem KernelError) → Gives in_kernel rule (over basis o) r → IsUnrefused r
  unrefused (Ok th) g = tt
  unrefused (Err (Refused r)) g = let same : Some (theorem_on basis s) ≡ None = sym gives ∙ g.1 in absurd (cc)
  unrefused (Err (Clash n)) g = absurd g
  unrefused (Err Memory) g = tt

  given : (r : Result Theorem KernelError) (th : Theorem) → Gives in_kernel rule (over basis o) r → r ≡ Ok th → th ≡ theorem_on basis s
  given (Ok t) th g e =
      let same : t ≡ th = cc in
      let those : Some t ≡ Some (theorem_on basis s) = sym g ∙ gives in
      let this : t ≡ theorem_on basis s = cc in
      sym same ∙ this
  given (Err x) th g e = absurd (cc)

  pub told : {E : Type 0} (r : Result Theorem KernelError) (q : Result Theorem E) → Gives in_kernel rule (over basis o) r → IfOk q (λ th. r ≡ Ok th) → IfOk q (λ th. th ≡ theorem_on basis s)
  told r (Ok th) g e = given r th g e
  told r (Err x) g e = tt

-- where INST gives a sequent, its pairs are good
given_pairs : (b : Bool) (s t : Sequent) → cond b (Some s) None ≡ Some t → b ≡ true
given_pairs true s t e = refl
given_pairs false s t e = absurd (cc)

pub pairs_over : (basis : Items) (pairs : List (Named × Named)) (a s : Sequent) → inst_of basis pairs a ≡ Some s → are_pairs_over basis pairs ≡ true
pairs_over basis pairs a s e = given_pairs (are_pairs_over basis pairs) (sequent_image (term_subst (nameless_pairs pairs) 0) a) s e
