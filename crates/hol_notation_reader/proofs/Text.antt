-- From what is known of the words to what is known of the text.
use Rattle.std.proofs.Common.{◌≡◌, ◌<◌, ◌≤◌, ◌+◌, ℕ, List, [], ◌∷◌, ◌++◌, refl, ap, ◌∙◌, sym, subst, append_assoc, append-nil, Err, Some, None, Option, option_map, length, map, arith}
use Rattle.hol_notation_tokens.specs.declared.token.Kind.{Kind}
use Rattle.hol_notation_tokens.specs.declared.token.Token.{Token}
use Rattle.hol_notation_tokens.specs.declared.lexer.Word.{Word}
use Rattle.hol_notation_tokens.specs.declared.error.SyntaxError.{SyntaxError}
use Rattle.hol_notation_tokens.specs.declared.error.SyntaxError.TheVariants.{Memory, Syntax}
use Rattle.hol_notation_tokens.specs.Token.{IsLexed, token_after, skip}
use Rattle.hol_notation_tokens.specs.Lexeme.{Lexeme, lexeme_of, lexemes, seen, token_of, IsScan}
use Rattle.hol_notation_commands.specs.Text.{CommandText}
use Rattle.hol_notation_reader.specs.Reading.{IsCommand, IsBeginning, IsBreak, IsCommandText}
use Rattle.hol_notation_reader.specs.Errors.{IsDead, IsFaultAt, IsAnswer, IsSyntaxError}
use Rattle.std.proofs.lemmas.List.{map-append}
use Rattle.hol_notation_tokens.proofs.Tokens.{none_not_some, some_same}
use Rattle.hol_notation_tokens.proofs.OneLexing.{token_within}
use Rattle.hol_notation_grammar.specs.declared.grammar.Rule.TheVariants as rule
use Rattle.hol_notation_grammar.specs.Grammar.{language}
use Rattle.hol_notation_grammar.specs.Reading.{IsStuck, Stops, Fails, first, place_at}
use Rattle.hol_notation_reader.specs.Piece.{the_command}
use Rattle.hol_notation_reader.specs.Value.{value}

-- dead, from what no text does
dead_from : (front rest : List Lexeme) → Stops language rule.Command front (first rest) → IsDead front rest
dead_from front [] none = λ v h. none h.written [] h.stands h.different tt (append-nil front ∙ h.whole)
dead_from front (x ∷ rest) none = λ h. none h.is.written (x ∷ h.later) h.is.stands h.is.different refl (sym (append_assoc front (x ∷ []) h.later) ∙ h.is.whole)

fault_from_stuck : (end : ℕ) (words : List Lexeme) (place : ℕ) → IsStuck language rule.Command end words place → IsFaultAt end words place
fault_from_stuck end words place s = record {
  front = s.front;
  rest = s.rest;
  whole = s.whole;
  here = s.here;
  viable = record {
    later = s.begins.more;
    command = the_command (value s.begins.written);
    is = record { written = s.begins.written; whole = s.begins.whole; stands = s.begins.stands; different = s.begins.different; says = refl };
  };
  dead = dead_from s.front s.rest s.stops;
}

pub answer_err : (end : ℕ) (words : List Lexeme) (e : SyntaxError) → Fails language rule.Command end words e → IsAnswer end words (Err e)
answer_err end words Memory h = tt
answer_err end words (Syntax place) h = fault_from_stuck end words place h

-- a list that is made of two is mapped from two
abbrev Split : List ℕ → List Token → List Lexeme → List Lexeme → Type 0
Split text tokens front rest = (a : List Token) × (b : List Token) × (tokens ≡ a ++ b) × (lexemes text a ≡ front) × (lexemes text b ≡ rest)

split : (text : List ℕ) (tokens : List Token) (front rest : List Lexeme) → lexemes text tokens ≡ front ++ rest → Split text tokens front rest
split text tokens [] rest e = ([], tokens, refl, refl, e)
split text [] (x ∷ front) rest e = let h : length (lexemes text []) ≡ length (x ∷ front ++ rest) = ap length e in absurd (omega (arith, h))
split text (t ∷ tokens) (x ∷ front) rest e =
    let first : lexeme_of text t ≡ x = cc in
    let s = split text tokens front rest (cc) in
    (t ∷ s.0, s.1, ap (λ (ts : List Token). t ∷ ts) s.2, ap (λ (y : Lexeme). y ∷ lexemes text s.0) first ∙ ap (λ (ys : List Lexeme). x ∷ ys) s.3, s.4)

token_start : (o : Option (Kind × ℕ)) (place : ℕ) (t : Token) → option_map (λ x. record { kind = x.0; start = place; length = x.1 }) o ≡ Some t → t.start ≡ place
token_start None place t e = absurd (none_not_some t e)
token_start (Some x) place t e = ap (λ (u : Token). u.start) (sym (some_same e))

abbrev start_of : ℕ → List Token → ℕ
start_of end [] = end
start_of end (t ∷ tokens) = t.start

-- the tokens go up to the first of the later ones
lexed_front : (text : List ℕ) (before : List Token) (place : ℕ) (a b : List Token) (end : ℕ) → IsLexed text before place (a ++ b) end → IsLexed text before place a (start_of end b)
lexed_front text before place [] [] end e = e
lexed_front text before place [] (t ∷ b) end e = token_start _ (skip text place) t e.0
lexed_front text before place (t ∷ a) b end e = (e.0, lexed_front text (before ++ t ∷ []) (t.start + t.length) a b end e.1)

-- and that one stands there
lexed_next : (text : List ℕ) (before : List Token) (place : ℕ) (a : List Token) (t : Token) (b : List Token) (end : ℕ) → IsLexed text before place (a ++ t ∷ b) end
    → token_after text (before ++ a) t.start ≡ Some t
lexed_next text before place [] t b end e =
    rw (append-nil before) (subst (λ (p : ℕ). token_after text before p ≡ Some t) (sym (token_start _ (skip text place) t e.0)) e.0)
lexed_next text before place (u ∷ a) t b end e =
    subst (λ (ts : List Token). token_after text ts t.start ≡ Some t) (append_assoc before (u ∷ []) a) (lexed_next text (before ++ u ∷ []) (u.start + u.length) a t b end e.1)

break_at : (text : List ℕ) (a b : List Token) (end place : ℕ) → IsLexed text [] 0 (a ++ b) end → token_after text (a ++ b) end ≡ None → end ≤ length text
    → place ≡ place_at end (lexemes text b) → IsBeginning (lexemes text a) → IsDead (lexemes text a) (lexemes text b) → IsBreak text place
break_at text a [] end place lexed stops within here viable dead = record {
  tokens = a;
  before = subst (IsLexed text [] 0 a) (sym here) (lexed_front text [] 0 a [] end lexed);
  within = subst (λ (p : ℕ). p ≤ length text) (sym here) within;
  begins = viable;
  stops = λ t h. let n : None ≡ Some t = sym stops ∙ ap (λ (ts : List Token). token_after text ts end) (append-nil a) ∙ ap (token_after text a) (sym here) ∙ h in absurd (none_not_some t n);
  ends = λ _ command h. dead command h;
}
break_at text a (u ∷ b) end place lexed stops within here viable dead =
    let next : token_after text a place ≡ Some u = subst (λ (p : ℕ). token_after text a p ≡ Some u) (sym here) (lexed_next text [] 0 a u b end lexed) in
    let l = token_within text a place u next in
    record {
      tokens = a;
      before = subst (IsLexed text [] 0 a) (sym here) (lexed_front text [] 0 a (u ∷ b) end lexed);
      within = omega (arith, l);
      begins = viable;
      stops = λ t h i. dead (subst IsBeginning (map-append (lexeme_of text) a (u ∷ [])) (subst (λ (x : Token). IsBeginning (lexemes text (a ++ x ∷ []))) (some_same (sym h ∙ next)) i));
      ends = λ e command h. absurd (omega (arith, l, e));
    }

-- the place of a fault among the words is where the text breaks
fault_breaks : (text : List ℕ) (words : List Word) (end place : ℕ) → IsScan text words end → IsFaultAt end (map seen words) place → IsBreak text place
fault_breaks text words end place scan fault =
    let s = split text (map token_of words) fault.front fault.rest (sym scan.texts ∙ fault.whole) in
    break_at text s.0 s.1 end place (subst (λ (ts : List Token). IsLexed text [] 0 ts end) s.2 scan.lexed) (subst (λ (ts : List Token). token_after text ts end ≡ None) s.2 scan.stops) scan.within
    (fault.here ∙ ap (place_at end) (sym s.4)) (subst IsBeginning (sym s.3) fault.viable)
    (subst (λ (x : List Lexeme). IsDead x (lexemes text s.1)) (sym s.3) (subst (IsDead fault.front) (sym s.4) fault.dead))

pub error_breaks : (text : List ℕ) (words : List Word) (end : ℕ) (e : SyntaxError) → IsScan text words end → IsAnswer end (map seen words) (Err e) → IsSyntaxError text e
error_breaks text words end Memory scan h = tt
error_breaks text words end (Syntax place) scan h = fault_breaks text words end place scan h

-- a command after which the text goes on with what is no token
pub break_after : (text : List ℕ) (words : List Word) (end : ℕ) (command : CommandText) → IsScan text words end → end < length text → IsCommand (map seen words) command → IsBreak text end
break_after text words end command scan l h = record {
  tokens = map token_of words;
  before = scan.lexed;
  within = omega arith;
  begins = record { later = []; command = command; is = record { written = h.written; whole = append-nil (lexemes text (map token_of words)) ∙ sym scan.texts ∙ h.whole; stands = h.stands; different = h.different; says = h.says } };
  stops = λ t n. absurd (none_not_some t (sym scan.stops ∙ n));
  ends = λ e. absurd (omega (arith, l, e));
}

pub whole_command : (text : List ℕ) (words : List Word) (end : ℕ) (command : CommandText) → IsScan text words end → length text ≤ end → IsCommand (map seen words) command → IsCommandText text command
whole_command text words end command scan l h = record {
  tokens = map token_of words;
  lexed = let w = scan.within in let e : end ≡ length text = omega (arith, l, w) in subst (IsLexed text [] 0 (map token_of words)) e scan.lexed;
  is = record { written = h.written; whole = sym scan.texts ∙ h.whole; stands = h.stands; different = h.different; says = h.says };
}
