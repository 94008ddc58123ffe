-- The last of a list, where it stands in reverse.
use Rattle.std.proofs.Common.{◌≡◌, ℕ, List, [], ◌∷◌, ◌++◌, refl, ap, ◌∙◌, map, reverse}
use Rattle.std.proofs.lemmas.List.{map-append, reverse-append}
use Rattle.std.specs.Borrow.{Bor}
use Rattle.hol_notation_tokens.specs.declared.token.Kind.{Kind}
use Rattle.hol_notation_terms.specs.Text.{VariableText, TermText}
use Rattle.hol_notation_grammar.specs.Step.{name_texts}
use Rattle.hol_notation_reader.specs.declared.piece.Side.{Side}
use Rattle.hol_notation_reader.specs.declared.piece.ThenStep.{ThenStep}
use Rattle.hol_notation_reader.specs.View.{side_text, side_texts, then_text, then_texts}
use Rattle.hol_notation_reader.specs.Build.{bind, bind_all}

pub last_first : {A : Type 0} (xs ys : List A) (s : A) → xs ≡ ys ++ s ∷ [] → reverse xs ≡ s ∷ reverse ys
last_first xs ys s e = ap reverse e ∙ reverse-append ys (s ∷ [])

pub last_name : (xs ys : List (Bor (List ℕ))) (s : Bor (List ℕ)) → xs ≡ ys ++ s ∷ [] → reverse (name_texts xs) ≡ s.now ∷ reverse (name_texts ys)
last_name xs ys s e = last_first (name_texts xs) (name_texts ys) s.now (ap (λ l. name_texts l) e ∙ map-append (λ (n : Bor (List ℕ)). n.now) ys (s ∷ []))

pub last_side : (xs ys : List Side) (s : Side) → xs ≡ ys ++ s ∷ [] → reverse (side_texts xs) ≡ side_text s ∷ reverse (side_texts ys)
last_side xs ys s e = last_first (side_texts xs) (side_texts ys) (side_text s) (ap (λ l. side_texts l) e ∙ map-append side_text ys (s ∷ []))

pub last_then : (xs ys : List ThenStep) (s : ThenStep) → xs ≡ ys ++ s ∷ [] → reverse (then_texts xs) ≡ then_text s ∷ reverse (then_texts ys)
last_then xs ys s e = last_first (then_texts xs) (then_texts ys) (then_text s) (ap (λ l. then_texts l) e ∙ map-append then_text ys (s ∷ []))

-- the last variable is bound first
pub bind_last : (k : Kind) (vs : List VariableText) (v : VariableText) (b : TermText) → bind_all k (vs ++ v ∷ []) b ≡ bind_all k vs (bind k v b)
bind_last k [] v b = refl
bind_last k (w ∷ vs) v b = ap (bind k w) (bind_last k vs v b)
