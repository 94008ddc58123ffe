-- The walk over the productions of a rule.
use Rattle.std.proofs.Common.{◌≡◌, ◌<◌, ◌-◌, Bool, true, ◌||◌, ℕ, zero, suc, List, refl, ap, ◌∙◌, sym, length, drop, get_or, arith}
use Rattle.std.proofs.lemmas.List.{drop_more}
use Rattle.hol_notation_grammar.specs.declared.sort.Sort.{Sort}
use Rattle.hol_notation_grammar.specs.declared.grammar.Rule.{Rule}
use Rattle.hol_notation_grammar.specs.declared.grammar.Production.{Production}
use Rattle.hol_notation_grammar.specs.Table.{productions, symbols}
use Rattle.hol_notation_grammar.specs.Grammar.{language, leads, some_leads, begins}

less : (d : ℕ) (n : Rule) (k : Sort) → (d ≡ 0 → ⊥) → some_leads (λ m j. begins language (d - 1) m j) (λ p. symbols p) (productions n) k ≡ begins language d n k
less zero n k h = absurd (h refl)
less (suc d) n k h = let e : suc d - 1 ≡ d = omega arith in ap (λ (f : ℕ). some_leads (λ m j. begins language f m j) (λ p. symbols p) (productions n) k) e

left_true : (a b : Bool) → a ≡ true → (a || b) ≡ true
left_true a b e = ap (λ (x : Bool). x || b) e

pub begins_found : (depth : ℕ) (n : Rule) (k : Sort) (ps : List Production) (i : ℕ) (d : Production) → (depth ≡ 0 → ⊥) → ps ≡ productions n
    → some_leads (λ m j. begins language (depth - 1) m j) (λ p. symbols p) (drop i ps) k ≡ some_leads (λ m j. begins language (depth - 1) m j) (λ p. symbols p) ps k
    → i < length ps → leads (λ m j. begins language (depth - 1) m j) (symbols (get_or ps i d)) k ≡ true → begins language depth n k ≡ true
begins_found depth n k ps i d h e v l t =
    sym (less depth n k h) ∙ ap (λ (xs : List Production). some_leads (λ m j. begins language (depth - 1) m j) (λ p. symbols p) xs k) (sym e) ∙ sym v
    ∙ ap (λ (xs : List Production). some_leads (λ m j. begins language (depth - 1) m j) (λ p. symbols p) xs k) (drop_more ps i d l) ∙ left_true _ _ t
