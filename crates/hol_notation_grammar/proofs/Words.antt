-- From the machine's path to what a text reads as.
use Rattle.std.proofs.Common.{◌≡◌, ◌<◌, ◌≤◌, ◌+◌, Bool, true, false, ℕ, List, [], ◌∷◌, ◌++◌, refl, ap, ◌∙◌, sym, subst, length, take, drop, map, get_or}
use Rattle.std.proofs.lemmas.List.{drop_more, take_more, get_or-map, length-map, take-append-drop, take_all, append-nil}
use Rattle.hol_notation_tokens.specs.declared.token.Kind.TheVariants.{Ident}
use Rattle.hol_notation_tokens.specs.declared.lexer.Word.{Word}
use Rattle.hol_notation_tokens.specs.Lexeme.{Lexeme, seen}
use Rattle.hol_notation_grammar.specs.declared.grammar.Rule.{Rule}
use Rattle.hol_notation_grammar.specs.declared.grammar.Symbol.{Symbol}
use Rattle.hol_notation_grammar.specs.declared.grammar.Symbol.TheVariants.{Part}
use Rattle.hol_notation_grammar.specs.Grammar.{language, StepText, AreNew}
use Rattle.hol_notation_grammar.specs.Reading.{IsText, IsBeginning, IsStuck, Stops, first, place_at}
use Rattle.hol_notation_grammar.specs.Path.{IsReadTo, GoesOn, Closes}
use Rattle.hol_notation_grammar.proofs.Paths.{path_start}
use Rattle.hol_notation_grammar.proofs.Endings.{path_begins}
use Rattle.hol_notation_grammar.proofs.Certain.{certain}

-- the word that indexing answers past the end
abbrev pub no_word : Word
no_word = record { kind = Ident; text = record { ref_ptr = (0, 0); now = [] }; place = 0 }

pub read_start : (n : Rule) (todo : List Symbol) (events : List StepText) (names : List (List ℕ)) → todo ≡ Part n ∷ [] → events ≡ [] → names ≡ [] → IsReadTo language n [] todo events names
read_start n todo events names e f g =
    subst (λ (ss : List Symbol). IsReadTo language n [] ss events names) (sym e)
    (subst (λ (l : List StepText). IsReadTo language n [] (Part n ∷ []) l names) (sym f)
    (subst (λ (l : List (List ℕ)). IsReadTo language n [] (Part n ∷ []) [] l) (sym g) (record { path = path_start language n; same = refl; new = tt })))

seen_length : (words : List Word) (i : ℕ) → i < length words → i < length (map seen words)
seen_length words i l = subst (λ (k : ℕ). i < k) (sym (length-map words seen)) l

word_here : (words : List Word) (i : ℕ) → i < length words → drop i (map seen words) ≡ seen (get_or words i no_word) ∷ drop (i + 1) (map seen words)
word_here words i l =
    drop_more (map seen words) i (seen no_word) (seen_length words i l) ∙ ap (λ (y : Lexeme). y ∷ drop (i + 1) (map seen words)) (get_or-map seen words i no_word (seen no_word) l)

begun : (n : Rule) (front : List Lexeme) (todo : List Symbol) (events : List StepText) (names : List (List ℕ)) → IsReadTo language n front todo events names → IsBeginning language n front
begun n front todo events names r = path_begins language certain n front todo events (subst (AreNew []) r.same r.new) r.path

pub word_refused : (n : Rule) (end : ℕ) (words : List Word) (i : ℕ) (goes : Bool) (todo todo_ : List Symbol) (events events_ : List StepText) (names names_ : List (List ℕ)) → i < length words → goes ≡ false
    → IsReadTo language n (take i (map seen words)) todo events names → GoesOn language (seen (get_or words i no_word)) todo events names goes todo_ events_ names_
    → IsStuck language n end (map seen words) (get_or words i no_word).place
word_refused n end words i goes todo todo_ events events_ names names_ l f r a =
    let stops = subst (λ (b : Bool). GoesOn language (seen (get_or words i no_word)) todo events names b todo_ events_ names_) f a n (take i (map seen words)) r in
    record {
      front = take i (map seen words);
      rest = drop i (map seen words);
      whole = sym (take-append-drop i (map seen words));
      here = sym (ap (place_at end) (word_here words i l));
      begins = begun n (take i (map seen words)) todo events names r;
      stops = subst (Stops language n (take i (map seen words))) (sym (ap first (word_here words i l))) stops;
    }

pub word_taken : (n : Rule) (words : List Word) (i : ℕ) (goes : Bool) (todo todo_ : List Symbol) (events events_ : List StepText) (names names_ : List (List ℕ)) → i < length words → goes ≡ true
    → IsReadTo language n (take i (map seen words)) todo events names → GoesOn language (seen (get_or words i no_word)) todo events names goes todo_ events_ names_
    → IsReadTo language n (take (i + 1) (map seen words)) todo_ events_ names_
word_taken n words i goes todo todo_ events events_ names names_ l f r a =
    subst (λ (ws : List Lexeme). IsReadTo language n ws todo_ events_ names_)
    (sym (take_more (map seen words) i (seen no_word) (seen_length words i l) ∙ ap (λ (y : Lexeme). take i (map seen words) ++ y ∷ []) (get_or-map seen words i no_word (seen no_word) l)))
    (subst (λ (b : Bool). GoesOn language (seen (get_or words i no_word)) todo events names b todo_ events_ names_) f a n (take i (map seen words)) r)

pub end_refused : (n : Rule) (end : ℕ) (words : List Lexeme) (i : ℕ) (ended : Bool) (todo : List Symbol) (events events_ : List StepText) (names : List (List ℕ)) → length words ≤ i → ended ≡ false
    → IsReadTo language n (take i words) todo events names → Closes language todo events ended events_ → IsStuck language n end words end
end_refused n end words i ended todo events events_ names l f r a =
    let p = subst (λ (ws : List Lexeme). IsReadTo language n ws todo events names) (take_all i words l) r in
    record {
      front = words;
      rest = [];
      whole = sym (append-nil words);
      here = refl;
      begins = begun n words todo events names p;
      stops = subst (λ (b : Bool). Closes language todo events b events_) f a n words p.path;
    }

pub text_read : (n : Rule) (words : List Lexeme) (i : ℕ) (ended : Bool) (todo : List Symbol) (events events_ : List StepText) (names : List (List ℕ)) → length words ≤ i → ended ≡ true
    → IsReadTo language n (take i words) todo events names → Closes language todo events ended events_ → IsText language n words events_
text_read n words i ended todo events events_ names l f r a =
    subst (λ (b : Bool). Closes language todo events b events_) f a n words names (subst (λ (ws : List Lexeme). IsReadTo language n ws todo events names) (take_all i words l) r)
