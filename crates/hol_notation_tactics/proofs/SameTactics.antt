-- When two lists of tactic expressions are the same.
use Rattle.std.proofs.Common.{◌≡◌, ◌<◌, ◌≤◌, ◌↔◌, ℕ, zero, suc, IsTrue, false, List, [], ◌∷◌, refl, sym, ap, ◌∙◌, length, get_or, arith, rules}
use Rattle.hol_notation_tactics.specs.Text.{TacText, TacTexts, no_tacs, more_tacs, tac_texts, tac_nodes, tacs_nodes}

abbrev tacs_in : TacTexts → List TacText
tacs_in no_tacs = []
tacs_in (more_tacs t ts) = t ∷ tacs_in ts

tacs_in_texts : (ts : List TacText) → tacs_in (tac_texts ts) ≡ ts
tacs_in_texts [] = refl
tacs_in_texts (t ∷ ts) = λ i. t ∷ tacs_in_texts ts i

pub tac_texts_same : (ts us : List TacText) → tac_texts ts ≡ tac_texts us → ts ≡ us
tac_texts_same ts us p = sym (tacs_in_texts ts) ∙ ap tacs_in p ∙ tacs_in_texts us

-- a tactic expression in a list has no more nodes than the list
pub nodes_at : (ts : List TacText) (i : ℕ) (d : TacText) → i < length ts → tac_nodes (get_or ts i d) ≤ tacs_nodes (tac_texts ts)
nodes_at [] i d h = absurd (omega (arith, h))
nodes_at (t ∷ ts) zero d h = omega arith
nodes_at (t ∷ ts) (suc i) d h = let l : i < length ts = omega (arith, h) in omega (arith, nodes_at ts i d l)

pub other_length : (ts us : List TacText) → (length ts ≡ length us → ⊥) → IsTrue false ↔ (tac_texts ts ≡ tac_texts us)
other_length ts us h = (λ p. search rules, λ q. absurd (h (ap length (tac_texts_same ts us q))))
