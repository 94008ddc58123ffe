-- The parts of a production, on the stack.
use Rattle.std.proofs.Common.{◌≡◌, ℕ, zero, suc, List, [], ◌∷◌, drop, subst, sym}
use Rattle.hol_notation_grammar.specs.declared.grammar.Class.{Class}
use Rattle.hol_notation_grammar.specs.declared.grammar.Class.TheVariants as class
use Rattle.hol_notation_grammar.specs.declared.grammar.Rule.TheVariants as rule
use Rattle.hol_notation_grammar.specs.declared.grammar.Production.TheVariants.{LambdaInside, MakeTypeDefinition}
use Rattle.hol_notation_grammar.specs.declared.grammar.Symbol.{Symbol}
use Rattle.hol_notation_grammar.specs.declared.grammar.Symbol.TheVariants.{Token, Part}
use Rattle.hol_notation_grammar.specs.Table.{symbols}
use Rattle.hol_notation_reader.specs.Piece.{PieceText, AreOf, IsFirst, of_word}

-- those behind the first
parts_after : (s : Symbol) (ss : List Symbol) (v : PieceText) (us vs : List PieceText) → us ≡ v ∷ vs → AreOf (s ∷ ss) us → AreOf ss vs
parts_after (Token c) ss v us vs e a = (subst (AreOf (Token c ∷ ss)) e a).1
parts_after (Part n) ss v us vs e a = (subst (AreOf (Part n ∷ ss)) e a).1

-- those behind some
parts_dropped : (n : ℕ) (ss : List Symbol) (vs : List PieceText) → AreOf ss vs → AreOf (drop n ss) (drop n vs)
parts_dropped zero ss vs a = a
parts_dropped (suc n) [] vs a = tt
parts_dropped (suc n) (s ∷ ss) [] a = absurd a
parts_dropped (suc n) (Token c ∷ ss) (v ∷ vs) a = parts_dropped n ss vs a.1
parts_dropped (suc n) (Part m ∷ ss) (v ∷ vs) a = parts_dropped n ss vs a.1

one_dropped : (ss : List Symbol) (us vs : List PieceText) → vs ≡ drop 1 us → AreOf ss us → AreOf (drop 1 ss) vs
one_dropped ss us vs e a = subst (AreOf (drop 1 ss)) (sym e) (parts_dropped 1 ss us a)

first_word : (c : Class) (ss : List Symbol) (vs : List PieceText) → AreOf (Token c ∷ ss) vs → IsFirst of_word vs
first_word c ss [] a = absurd a
first_word c ss (v ∷ vs) a = a.0

abbrev behind : List Symbol
behind = Part rule.EqualsTail ∷ Part rule.AndTail ∷ Part rule.OrTail ∷ Part rule.ImpliesTail ∷ Part rule.IffTail ∷ Token class.Close ∷ []

-- the parenthesis behind what the binder of a lambda binds, and infixes
pub close_next : (x y : PieceText) (us vs ws ts : List PieceText) → us ≡ x ∷ vs → vs ≡ y ∷ ws → ts ≡ drop 5 ws → AreOf (symbols LambdaInside) us → IsFirst of_word ts
close_next x y us vs ws ts e f g a =
    let b : AreOf (Part rule.Bound ∷ behind) vs = parts_after (Token class.Lambda) (Part rule.Bound ∷ behind) x us vs e a in
    let c : AreOf behind ws = parts_after (Part rule.Bound) behind y vs ws f b in
    subst (IsFirst of_word) (sym g) (first_word class.Close [] (drop 5 ws) (parts_dropped 5 behind ws c))

abbrev some_names : List Symbol → List Symbol
some_names ss = Token class.FreeName ∷ Token class.FreeName ∷ Token class.FreeName ∷ ss

-- the names behind the third of a definition of a type
pub names_next : (x : PieceText) (us vs a b c : List PieceText) → us ≡ x ∷ vs → a ≡ drop 1 vs → b ≡ drop 1 a → c ≡ drop 1 b → AreOf (symbols MakeTypeDefinition) us → AreOf (some_names []) c
names_next x us vs a b c e f g h i =
    let v : AreOf (some_names (some_names [])) vs = parts_after (Token class.NewBasicTypeDefinition) (some_names (some_names [])) x us vs e i in
    let j : AreOf (drop 1 (some_names (some_names []))) a = one_dropped (some_names (some_names [])) vs a f v in
    let k : AreOf (drop 2 (some_names (some_names []))) b = one_dropped (drop 1 (some_names (some_names []))) a b g j in
    one_dropped (drop 2 (some_names (some_names []))) b c h k

pub fourth_name : (c : List PieceText) → AreOf (some_names []) c → IsFirst of_word c
fourth_name c i = first_word class.FreeName (Token class.FreeName ∷ Token class.FreeName ∷ []) c i

pub fifth_name : (c d : List PieceText) → d ≡ drop 1 c → AreOf (some_names []) c → IsFirst of_word d
fifth_name c d e i = first_word class.FreeName (Token class.FreeName ∷ []) d (one_dropped (some_names []) c d e i)

pub sixth_name : (c d e : List PieceText) → d ≡ drop 1 c → e ≡ drop 1 d → AreOf (some_names []) c → IsFirst of_word e
sixth_name c d e f g i = first_word class.FreeName [] e (one_dropped (drop 1 (some_names [])) d e g (one_dropped (some_names []) c d f i))
