-- The basis suits the arguments that are written: their terms are well typed over it, and their theorems are on it.
use Rattle.std.specs.Prelude.{◌≡◌, true, IsTrue, List, [], ◌∷◌, Option, Some, None, Result, Ok, Err, IfOk, refl}
use Rattle.std.proofs.Common.{subst, sym}
use Rattle.std.proofs.lemmas.Bool.{and_from}
use Rattle.std.specs.List.{list_all}
use Rattle.hol_terms.specs.Nameless.{Nameless}
use Rattle.hol_kernel.specs.Items.{Items}
use Rattle.hol_kernel.specs.Sequent.{Sequent}
use Rattle.hol_kernel.specs.Theorem.{theorem_on}
use Rattle.hol_kernel.specs.Given.{Given, proved}
use Rattle.hol_kernel.specs.Typing.{is_typed}
use Rattle.hol_kernel.proofs.Subsets.{within_itself}
use Rattle.hol_notation_terms.specs.Text.{QuotationText}
use Rattle.hol_notation_tactics.specs.Text.{ThmText}
use Rattle.hol_goal.specs.Arguments.{TacArgsValue}
use Rattle.hol_goal.specs.Arguments as args
use Rattle.hol_goal.specs.ArgumentsView.{args_value}
use Rattle.hol_goal.specs.declared.tac_args.TacArgs.{TacArgs}
use Rattle.hol_just.specs.Answering.{suits}
use Rattle.hol_just.specs.Justifies.{holds_given}
use Rattle.hol_resolve.specs.declared.refusal.Refusal.{Refusal}
use Rattle.hol_resolve.specs.Readings.{ReadingsValue, term_at}
use Rattle.hol_resolve.specs.Forward.{CitedValue, theorem_written}
use Rattle.hol_resolve.specs.Over.{AreOver}
use Rattle.hol_resolve.specs.Steps.{IsTermOver}
use Rattle.hol_resolve.specs.Written.{result_map, result_both, read_or_wrong, term_given, theorem_given, theorems_given}
use Rattle.hol_resolve.specs.Forms as forms
use Rattle.hol_resolve.specs.Forms.{WrittenArgsValue, arguments_given}
use Rattle.hol_resolve.proofs.Over.{term_over}

-- what is answered, if anything is, has the property
abbrev pub Each : {X : Type 0} → (X → Type 0) → Result X Refusal → Type 0
Each P (Ok x) = P x
Each P (Err r) = Unit {0}

mapped : {X Y : Type 0} (P : X → Type 0) (Q : Y → Type 0) (f : X → Y) → ((x : X) → P x → Q (f x)) → (r : Result X Refusal) → Each P r → Each Q (result_map f r)
mapped P Q f g (Ok x) h = g x h
mapped P Q f g (Err e) h = tt

joined : {X Y Z : Type 0} (P : X → Type 0) (Q : Y → Type 0) (R : Z → Type 0) (f : X → Y → Z) → ((x : X) (y : Y) → P x → Q y → R (f x y)) → (r : Result X Refusal) (s : Result Y Refusal) → Each P r → Each Q s → Each R (result_both f r s)
joined P Q R f g (Ok x) s h k = mapped Q R (f x) (λ y. g x y h) s k
joined P Q R f g (Err e) s h k = tt

module _ (basis : Items) where
  abbrev pub Suits : TacArgsValue → Type 0
  Suits v = suits v basis ≡ true

  abbrev Typed : Nameless → Type 0
  Typed t = is_typed basis t ≡ true

  abbrev OnBasis : Given → Type 0
  OnBasis g = holds_given g basis ≡ true

  abbrev AllOn : List Given → Type 0
  AllOn gs = list_all (λ g. holds_given g basis) gs ≡ true

  on_basis : (s : Sequent) → OnBasis (proved (theorem_on basis s))
  on_basis s = within_itself basis

  read_typed : (o : Option Nameless) → IsTermOver basis o → Each Typed (read_or_wrong o)
  read_typed None h = tt
  read_typed (Some t) h = h

  module _ (readings : ReadingsValue) (over : AreOver basis readings) where
    term_typed : (t : QuotationText) → Each Typed (term_given readings t)
    term_typed t = read_typed (term_at readings t.place) (term_over basis readings t.place over)

    module _ (cited : CitedValue) where
      theorem_on_basis : (th : ThmText) → Each OnBasis (theorem_given basis cited readings th)
      theorem_on_basis th = mapped (λ s. Unit {0}) OnBasis (λ s. proved (theorem_on basis s)) (λ s h. on_basis s) (theorem_written cited readings th) (by (theorem_written cited readings th))
        where
          by : (r : Result Sequent Refusal) → Each (λ s. Unit {0}) r
          by (Ok s) = tt
          by (Err e) = tt

      theorems_on_basis : (ths : List ThmText) → Each AllOn (theorems_given basis cited readings ths)
      theorems_on_basis [] = refl
      theorems_on_basis (th ∷ ths) =
          joined OnBasis AllOn AllOn (λ g gs. g ∷ gs) (λ g gs h k. and_from (holds_given g basis) (list_all (λ g. holds_given g basis) gs) h k)
          (theorem_given basis cited readings th) (theorems_given basis cited readings ths) (theorem_on_basis th) (theorems_on_basis ths)

      pub given_suit : (w : WrittenArgsValue) → Each Suits (arguments_given basis cited readings w)
      given_suit forms.Nothing = refl
      given_suit (forms.Term t) = mapped Typed Suits args.Term (λ x h. h) (term_given readings t) (term_typed t)
      given_suit (forms.Pair s t) = joined Typed Typed Suits args.Pair (λ x y h k. and_from (is_typed basis x) (is_typed basis y) h k) (term_given readings s) (term_given readings t) (term_typed s) (term_typed t)
      given_suit (forms.Theorem th) = mapped OnBasis Suits args.Theorem (λ g h. h) (theorem_given basis cited readings th) (theorem_on_basis th)
      given_suit (forms.TermAndTheorem t th) =
          joined Typed OnBasis Suits args.TermAndTheorem (λ x g h k. and_from (is_typed basis x) (holds_given g basis) h k) (term_given readings t) (theorem_given basis cited readings th) (term_typed t) (theorem_on_basis th)
      given_suit (forms.Theorems ths) = mapped AllOn Suits args.Theorems (λ gs h. h) (theorems_given basis cited readings ths) (theorems_on_basis ths)

      pub forms_suit : (w : WrittenArgsValue) (r : Result TacArgs Refusal) → result_map args_value r ≡ arguments_given basis cited readings w → IfOk r (λ v. IsTrue (suits (args_value v) basis))
      forms_suit w r e = by r (subst (Each Suits) (sym e) (given_suit w))
        where
          by : (r : Result TacArgs Refusal) → Each Suits (result_map args_value r) → IfOk r (λ v. IsTrue (suits (args_value v) basis))
          by (Ok v) h = h
          by (Err x) h = tt
