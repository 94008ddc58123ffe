-- The quotations in what is written, in text order: those of all branches, and of what combinators take.
-- Source: this project.
use Rattle.std.specs.Prelude.{◌≡◌, ℕ, List, [], ◌∷◌}
use Rattle.hol_notation_tactics.specs.declared.parts.Part.{Part}
use Rattle.hol_notation_tactics.specs.declared.parts.Part.TheVariants as part
use Rattle.hol_resolve.specs.declared.quotations.AnyQuotation.{AnyQuotation}
use Rattle.hol_resolve.specs.declared.quotations.AnyQuotation.TheVariants as quoted

-- a quotation of a term or of a type is known by the place where it opens
abbrev pub place_of : AnyQuotation → ℕ
place_of (quoted.Term t) = t.place
place_of (quoted.Type a) = a.place

abbrev pub quotations_in : List Part → List AnyQuotation
quotations_in [] = []
quotations_in (part.Term t ∷ parts) = quoted.Term t ∷ quotations_in parts
quotations_in (part.Type a ∷ parts) = quoted.Type a ∷ quotations_in parts
quotations_in (part.Theorem name ∷ parts) = quotations_in parts
quotations_in (part.Call role call ∷ parts) = quotations_in parts
quotations_in (part.Formula p ∷ parts) = quoted.Term p ∷ quotations_in parts

-- two terms, or two types, that are the same but for where they stand
abbrev pub AreWrittenAlike : AnyQuotation → AnyQuotation → Type 0
AreWrittenAlike (quoted.Term t) (quoted.Term u) = t.term ≡ u.term
AreWrittenAlike (quoted.Term t) (quoted.Type b) = ⊥
AreWrittenAlike (quoted.Type a) (quoted.Term u) = ⊥
AreWrittenAlike (quoted.Type a) (quoted.Type b) = a.ty ≡ b.ty
