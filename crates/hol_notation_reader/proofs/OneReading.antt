-- A text has one list of tokens, and reads as one thing.
use Rattle.std.proofs.Common.{◌≡◌, inl, inr, ℕ, List, [], ◌∷◌, ◌++◌, ap, ◌∙◌, sym, subst, append_assoc, append-nil, length}
use Rattle.std.proofs.lemmas.List.{map-append}
use Rattle.hol_notation_tokens.specs.declared.token.Token.{Token}
use Rattle.hol_notation_tokens.specs.Lexeme.{Lexeme, lexeme_of, lexemes}
use Rattle.hol_notation_commands.specs.Text.{CommandText}
use Rattle.hol_notation_reader.specs.Reading.{IsCommand, IsBeginning, IsBreak, IsCommandText, ReadText, Reads, Breaks, IsRead}
use Rattle.hol_notation_grammar.specs.declared.grammar.Rule.TheVariants as rule
use Rattle.hol_notation_grammar.specs.Grammar.{Tree}
use Rattle.hol_notation_grammar.proofs.Same.{one_tree}
use Rattle.hol_notation_reader.specs.Piece.{the_command}
use Rattle.hol_notation_reader.specs.Value.{value}
use Rattle.hol_notation_tokens.proofs.OneLexing.{GoesOn, compare, nothing_after, one_token_list}

-- what begins with more tokens begins with fewer
fewer : (text : List ℕ) (ts us : List Token) (u : Token) (later : List Token) → us ≡ ts ++ u ∷ later → IsBeginning (lexemes text us) → IsBeginning (lexemes text (ts ++ u ∷ []))
fewer text ts us u later e b = record {
  later = lexemes text later ++ b.later;
  command = b.command;
  is = record {
    written = b.is.written;
    stands = b.is.stands;
    different = b.is.different;
    whole = sym (append_assoc (lexemes text (ts ++ u ∷ [])) (lexemes text later) b.later)
        ∙ ap (λ (xs : List Lexeme). xs ++ b.later)
        (sym (map-append (lexeme_of text) (ts ++ u ∷ []) later) ∙ ap (lexemes text) (append_assoc ts (u ∷ []) later ∙ sym e))
        ∙ b.is.whole;
    says = b.is.says;
  };
}

begins : (words : List Lexeme) (command : CommandText) → IsCommand words command → IsBeginning words
begins words command h = record { later = []; command = command; is = record { written = h.written; whole = append-nil words ∙ h.whole; stands = h.stands; different = h.different; says = h.says } }

one_command : (words : List Lexeme) (a b : CommandText) → IsCommand words a → IsCommand words b → a ≡ b
one_command words a b h k = h.says ∙ ap (λ (t : Tree). the_command (value t)) (one_tree rule.Command h.written k.written h.stands k.stands (sym h.whole ∙ k.whole)) ∙ sym k.says

-- the token at a break is none with which a command goes on
stops_there : (text : List ℕ) (place : ℕ) (us : List Token) (b : IsBreak text place) → GoesOn text [] b.tokens us place → IsBeginning (lexemes text us) → ⊥
stops_there text place us b g h = b.stops g.next g.stands (fewer text b.tokens us g.next g.later g.whole h)

command_or_break : (text : List ℕ) (command : CommandText) (place : ℕ) → IsCommandText text command → IsBreak text place → ⊥
command_or_break text command place c b =
    elim (compare text [] 0 c.tokens b.tokens (length text) place c.lexed b.before) [
      | inl p ↦ b.ends (sym p.1) command (subst (λ (ts : List Token). IsCommand (lexemes text ts) command) p.0 c.is)
      | inr q ↦ elim q [
        | inl g ↦ nothing_after text c.tokens b.tokens g
        | inr g ↦ stops_there text place c.tokens b g (begins (lexemes text c.tokens) command c.is)
      ]
    ]

one_break : (text : List ℕ) (p q : ℕ) → IsBreak text p → IsBreak text q → p ≡ q
one_break text p q a b =
    elim (compare text [] 0 a.tokens b.tokens p q a.before b.before) [
      | inl h ↦ h.1
      | inr h ↦ elim h [
        | inl g ↦ absurd (stops_there text p b.tokens a g b.begins)
        | inr g ↦ absurd (stops_there text q a.tokens b g a.begins)
      ]
    ]

pub one_reading : (text : List ℕ) (a b : ReadText) → IsRead text a → IsRead text b → a ≡ b
one_reading text (Reads c) (Reads d) h k =
    ap Reads (one_command (lexemes text h.tokens) c d h.is (subst (λ (ts : List Token). IsCommand (lexemes text ts) d) (one_token_list text k.tokens h.tokens k.lexed h.lexed) k.is))
one_reading text (Reads c) (Breaks q) h k = absurd (command_or_break text c q h k)
one_reading text (Breaks p) (Reads d) h k = absurd (command_or_break text d p k h)
one_reading text (Breaks p) (Breaks q) h k = ap Breaks (one_break text p q h k)
