-- Reasons as rules on lists of sequents.
use Rattle.std.specs.Prelude.{List, [], ◌∷◌, Option, None}
use Rattle.std.specs.Option.{option_map}
use Rattle.hol_kernel.specs.Sequent.{Sequent}

-- A rule: it takes no sequent, or up to three, and gives one, or nothing where it does not apply.
pub data Inference : Type 0 where
  from_none : Option Sequent → Inference
  from_one : (Sequent → Option Sequent) → Inference
  from_two : (Sequent → Sequent → Option Sequent) → Inference
  from_three : (Sequent → Sequent → Sequent → Option Sequent) → Inference

-- What a rule makes of a list of sequents: it takes the first ones, and puts the one that it gives in their place.
abbrev pub inferred : Inference → List Sequent → Option (List Sequent)
inferred (from_none s) sequents = option_map (λ r. r ∷ sequents) s
inferred (from_one rule) [] = None
inferred (from_one rule) (a ∷ sequents) = option_map (λ r. r ∷ sequents) (rule a)
inferred (from_two rule) [] = None
inferred (from_two rule) (a ∷ []) = None
inferred (from_two rule) (a ∷ b ∷ sequents) = option_map (λ r. r ∷ sequents) (rule a b)
inferred (from_three rule) [] = None
inferred (from_three rule) (a ∷ []) = None
inferred (from_three rule) (a ∷ b ∷ []) = None
inferred (from_three rule) (a ∷ b ∷ c ∷ sequents) = option_map (λ r. r ∷ sequents) (rule a b c)
