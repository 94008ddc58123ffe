-- What each theorem that is written in an expression rests on by itself: two expressions whose theorems say the same, on other bases, are told apart by this.
-- Source: this project.
use Rattle.std.specs.Prelude.{ℕ, List, [], ◌∷◌, ◌++◌, map, filter, nat_eq, Option, Some, None}
use Rattle.std.specs.List.{list_any}
use Rattle.hol_kernel.specs.Items.{Items}
use Rattle.hol_notation_tactics.specs.Parts.{parts_of_theorem}
use Rattle.hol_notation_tactics.specs.Text.{ThmText, CallText}
use Rattle.hol_notation_tactics.specs.declared.parts.Part.{Part}
use Rattle.hol_notation_tactics.specs.declared.parts.Role.{Role}
use Rattle.hol_goal.specs.declared.tac_code.TacCode.{TacCode}
use Rattle.hol_resolve.specs.declared.quotations.AnyQuotation.{AnyQuotation}
use Rattle.hol_resolve.specs.Quotations.{place_of, quotations_in}
use Rattle.hol_resolve.specs.Readings.{ReadingsValue}
use Rattle.hol_resolve.specs.Forms.{WrittenArgsValue, Nothing, Term, Pair, Theorem, TermAndTheorem, Theorems}
use Rattle.hol_theory.specs.Key.{KeyValue}
use Rattle.hol_exec.specs.Callee.{CalleeValue, Registered, Defined, value_at, called}
use Rattle.hol_exec.specs.Keys.{keys_in}
use Rattle.hol_exec.specs.ReadsValue.{Values}
use Rattle.hol_exec.specs.Resolved.{resolved_basis}

-- these keys, each with what stands under it where it is cited
abbrev pub values_under : Values → List KeyValue → Values
values_under cited keys = map (λ key. (key, value_at key cited)) keys

-- what these quotations read as
abbrev pub readings_of : ReadingsValue → List AnyQuotation → ReadingsValue
readings_of readings quotations = filter (λ r. list_any (λ q. nat_eq r.0 (place_of q)) quotations) readings

module _ (cited : Values) (readings : ReadingsValue) where
  -- the basis of all that is resolved in a theorem, as if nothing else were written
  abbrev pub parts_basis : List Part → Items
  parts_basis parts = resolved_basis (values_under cited (keys_in parts)) (readings_of readings (quotations_in parts))

  abbrev pub own_basis : ThmText → Items
  own_basis th = parts_basis (parts_of_theorem th)

  -- one for each theorem among the arguments
  abbrev pub argument_bases : WrittenArgsValue → List Items
  argument_bases Nothing = []
  argument_bases (Term t) = []
  argument_bases (Pair s t) = []
  argument_bases (Theorem th) = own_basis th ∷ []
  argument_bases (TermAndTheorem t th) = own_basis th ∷ []
  argument_bases (Theorems ths) = map own_basis ths

  -- of an expression that is called, those that are kept with it
  abbrev pub call_bases : Option (CalleeValue × WrittenArgsValue) → List Items
  call_bases None = []
  call_bases (Some (Registered index code, written)) = argument_bases written
  call_bases (Some (Defined e bases, written)) = bases

  -- in text order
  abbrev pub own_bases : List (List ℕ × TacCode) → List (Role × CallText) → List Items
  own_bases table [] = []
  own_bases table ((role, call) ∷ calls) = call_bases (called table role call cited) ++ own_bases table calls
