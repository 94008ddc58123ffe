use Rattle.std.proofs.Common.{◌≡◌, ◌||◌, Bool, ℕ, List, [], ◌∷◌, bytes_eq, refl, ap, ◌∙◌, rules, tests}
use Rattle.std.specs.Borrow.{Bor}
use Rattle.std.specs.List.{list_any}
use Rattle.std.proofs.lemmas.Iterator.{YieldsList-from_slice}
use Rattle.std.proofs.lemmas.Iterator.Search.{any_from_yields_List}
use Rattle.hol_notation_tokens.specs.Token.{is_among}
use Rattle.hol_notation_grammar.specs.Step.{name_texts}
use Rattle.hol_notation_grammar.proofs.machine.is_among.Goals as goal

any_text : (text : List ℕ) (names : List (Bor (List ℕ))) → list_any (λ (n : Bor (List ℕ)). bytes_eq text n.now) names ≡ is_among (name_texts names) text
any_text text [] = refl
any_text text (n ∷ names) = ap (λ (b : Bool). bytes_eq text n.now || b) (any_text text names)

pub returns : goal.returns
returns c =
    any_from_yields_List (λ p. bytes_eq c.args.name.now p.now) _ _ c.any.result c.any.ensures.ran (YieldsList-from_slice c.args.names.now cc) (λ x b q k. search (rules, tests)) ∙ any_text c.args.name.now c.args.names.now
