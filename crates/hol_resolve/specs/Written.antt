-- The arguments of a function on goals, from what is written after its name, over the basis of all that is resolved.
-- Source: this project.
use Rattle.std.specs.Prelude.{List, [], ◌∷◌, Option, Some, None, Result, Ok, Err}
use Rattle.hol_terms.specs.Nameless.{Nameless}
use Rattle.hol_kernel.specs.Items.{Items}
use Rattle.hol_kernel.specs.Theorem.{theorem_on}
use Rattle.hol_kernel.specs.Given.{Given, proved}
use Rattle.hol_notation_terms.specs.Text.{QuotationText}
use Rattle.hol_notation_tactics.specs.Text.{ThmText}
use Rattle.hol_resolve.specs.declared.refusal.Refusal.{Refusal}
use Rattle.hol_resolve.specs.declared.refusal.Refusal.TheVariants as refusal
use Rattle.hol_resolve.specs.Readings.{ReadingsValue, term_at}
use Rattle.hol_resolve.specs.Forward.{CitedValue, theorem_written}

abbrev pub result_map : {X Y : Type 0} → (X → Y) → Result X Refusal → Result Y Refusal
result_map f (Ok x) = Ok (f x)
result_map f (Err r) = Err r

-- two results, of which the first comes first
abbrev pub result_both : {X Y Z : Type 0} → (X → Y → Z) → Result X Refusal → Result Y Refusal → Result Z Refusal
result_both f (Ok x) y = result_map (f x) y
result_both f (Err r) y = Err r

-- arguments of another form are none
abbrev pub WrongForm : Refusal
WrongForm = refusal.WrongArguments

abbrev pub read_or_wrong : Option Nameless → Result Nameless Refusal
read_or_wrong None = Err WrongForm
read_or_wrong (Some t) = Ok t

-- ---- terms

module _ (readings : ReadingsValue) where
  abbrev pub term_given : QuotationText → Result Nameless Refusal
  term_given t = read_or_wrong (term_at readings t.place)

-- ---- theorems, each after those before it

module _ (basis : Items) (cited : CitedValue) (readings : ReadingsValue) where
  abbrev pub theorem_given : ThmText → Result Given Refusal
  theorem_given th = result_map (λ s. proved (theorem_on basis s)) (theorem_written cited readings th)

  abbrev pub theorems_given : List ThmText → Result (List Given) Refusal
  theorems_given [] = Ok []
  theorems_given (th ∷ ths) = result_both (λ g gs. g ∷ gs) (theorem_given th) (theorems_given ths)
