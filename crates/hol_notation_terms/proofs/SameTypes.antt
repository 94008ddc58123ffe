-- When two types, and two lists of types, are the same.
use Rattle.std.proofs.Common.{◌≡◌, ◌<◌, ◌≤◌, ◌↔◌, ℕ, zero, suc, IsTrue, false, List, [], ◌∷◌, refl, sym, ap, ◌∙◌, length, get_or, arith, rules}
use Rattle.hol_notation_terms.specs.Text.{TypeText, TypeTexts, no_types, more_types, type_texts, type_nodes, types_nodes}

abbrev types_in : TypeTexts → List TypeText
types_in no_types = []
types_in (more_types t ts) = t ∷ types_in ts

types_in_texts : (ts : List TypeText) → types_in (type_texts ts) ≡ ts
types_in_texts [] = refl
types_in_texts (t ∷ ts) = λ i. t ∷ types_in_texts ts i

pub type_texts_same : (ts us : List TypeText) → type_texts ts ≡ type_texts us → ts ≡ us
type_texts_same ts us p = sym (types_in_texts ts) ∙ ap types_in p ∙ types_in_texts us

-- a type in a list has no more nodes than the list
pub nodes_at : (ts : List TypeText) (i : ℕ) (d : TypeText) → i < length ts → type_nodes (get_or ts i d) ≤ types_nodes (type_texts ts)
nodes_at [] i d h = absurd (omega (arith, h))
nodes_at (t ∷ ts) zero d h = omega arith
nodes_at (t ∷ ts) (suc i) d h = let l : i < length ts = omega (arith, h) in omega (arith, nodes_at ts i d l)

pub other_length : (ts us : List TypeText) → (length ts ≡ length us → ⊥) → IsTrue false ↔ (type_texts ts ≡ type_texts us)
other_length ts us h = (λ p. search rules, λ q. absurd (h (ap length (type_texts_same ts us q))))
