-- What is begun can be ended.
use Rattle.std.proofs.Common.{◌≡◌, ◌+◌, inl, Bool, true, false, ◌&&◌, not, ℕ, zero, suc, List, [], ◌∷◌, ◌++◌, refl, ap, ◌∙◌, sym, subst, Option, Some, None, length, arith, append_assoc}
use Rattle.std.proofs.lemmas.Bool.{false≢true}
use Rattle.hol_notation_grammar.specs.declared.sort.Sort.{Sort}
use Rattle.hol_notation_tokens.specs.Lexeme.{Lexeme}
use Rattle.hol_notation_tokens.proofs.Tokens.{none_not_some}
use Rattle.hol_notation_grammar.specs.declared.grammar.Rule.{Rule}
use Rattle.hol_notation_grammar.specs.declared.grammar.Class.{Class}
use Rattle.hol_notation_grammar.specs.declared.grammar.Production.{Production}
use Rattle.hol_notation_grammar.specs.declared.grammar.Symbol.{Symbol}
use Rattle.hol_notation_grammar.specs.declared.grammar.Symbol.TheVariants.{Token, Part}
use Rattle.hol_notation_grammar.specs.Sort.{sort_of}
use Rattle.hol_notation_grammar.specs.Table.{has, binds}
use Rattle.hol_notation_grammar.specs.Grammar.{Grammar, Tree, node, Trees, done, leaf, tree, then, all_then, Stands, AllStand, IsAmong, WhereEmpty, IsNotNext, StepText, take, steps, all_steps, named, add_if, AreNew}
use Rattle.hol_notation_grammar.specs.Reading.{IsBeginning, first}
use Rattle.hol_notation_grammar.specs.Path.{Path, Any, sort_next}
use Rattle.hol_notation_grammar.specs.Ending.{sample, parts_of_first, head_sort, start_sort, or_else, next_of, is_none, IsShut, IsReady}
use Rattle.std.proofs.lemmas.List.{append-nil}
use Rattle.hol_notation_grammar.proofs.Marks.{mark, mark_sort, mark_length}
use Rattle.hol_notation_grammar.proofs.Names.{Falling, falling_wider, falling_join, total, named_join}
use Rattle.hol_notation_grammar.proofs.Leads.{Certain, all_grown, first_grown, is_grown, is_firm}

and_first : (a b : Bool) → (a && b) ≡ true → a ≡ true
and_first true b e = refl
and_first false b e = absurd (false≢true e)

and_second : (a b : Bool) → (a && b) ≡ true → b ≡ true
and_second true b e = e
and_second false b e = absurd (false≢true e)

-- the shortest of a list of parts, and of others behind it
pub next_join : (G : Grammar) (o : Option Sort) (ss rr : List Symbol) → next_of G o (ss ++ rr) ≡ next_of G (next_of G o rr) ss
next_join G o [] rr = refl
next_join G o (Token c ∷ ss) rr = refl
next_join G o (Part m ∷ ss) rr = ap (or_else (start_sort G 12 m)) (next_join G o ss rr)

pub ready_join : (G : Grammar) (o : Option Sort) (ss rr : List Symbol) → IsReady G (next_of G o rr) ss → IsReady G o rr → IsReady G o (ss ++ rr)
ready_join G o [] rr a b = b
ready_join G o (Token c ∷ ss) rr a b = ready_join G o ss rr a b
ready_join G o (Part m ∷ ss) rr a b = (subst (IsShut G m) (sym (next_join G o ss rr)) a.0, ready_join G o ss rr a.1 b)

-- a bound over the lengths of names that are made before these lexemes
abbrev top : ℕ → List Lexeme → ℕ
top low later = suc (low + length later)

abbrev next : List Lexeme → Option Sort
next words = sort_next (first words)

-- the names of what is made are longer the more is behind them
abbrev Names : ℕ → List Lexeme → List StepText → List Lexeme → Type 0
Names low before events later = (fs : List StepText) → Falling low (top low later) (named fs) → Falling low (top low before) (named (events ++ fs))

pub record SomeTree (G : Grammar) (low : ℕ) (n : Rule) (later : List Lexeme) : Type 0 where
  pub written : Tree
  pub stands : Stands G n written later
  pub begins : next (then written later) ≡ or_else (start_sort G 12 n) (next later)
  pub names : Names low (then written later) (steps written) later

pub record SomeTrees (G : Grammar) (low : ℕ) (ss : List Symbol) (later : List Lexeme) : Type 0 where
  pub written : Trees
  pub stands : AllStand G written ss later
  pub begins : next (all_then written later) ≡ next_of G (next later) ss
  pub names : Names low (all_then written later) (all_steps written) later

head_more : (b d : Rule → Option Sort) (k : Sort) → ((m : Rule) → b m ≡ Some k → d m ≡ Some k) → (ss : List Symbol) → head_sort b ss ≡ Some k → head_sort d ss ≡ Some k
head_more b d k h [] e = absurd (none_not_some k e)
head_more b d k h (Token c ∷ ss) e = e
head_more b d k h (Part m ∷ ss) e = h m e

start_more : (G : Grammar) (f : ℕ) (n : Rule) (k : Sort) → start_sort G f n ≡ Some k → start_sort G (suc f) n ≡ Some k
start_more G zero n k e = absurd (none_not_some k e)
start_more G (suc f) n k e = head_more (λ m. start_sort G f m) (λ m. start_sort G (suc f) m) k (λ m h. start_more G f m k h) (parts_of_first G (G.productions n)) e

-- the shortest of a rule begins as its parts do
start_same : (G : Grammar) (n : Rule) (o : Option Sort) (ss : List Symbol) → parts_of_first G (G.productions n) ≡ ss → is_firm G ss ≡ true → next_of G o ss ≡ or_else (start_sort G 12 n) o
start_same G n o [] e f = sym (ap (λ (ss : List Symbol). or_else (head_sort (λ m. start_sort G 11 m) ss) o) e)
start_same G n o (Token c ∷ ss) e f = sym (ap (λ (rr : List Symbol). or_else (head_sort (λ m. start_sort G 11 m) rr) o) e)
start_same G n o (Part m ∷ ss) e f = go (start_sort G 11 m) refl f ∙ sym (ap (λ (rr : List Symbol). or_else (head_sort (λ r. start_sort G 11 r) rr) o) e)
  where
    go : (s : Option Sort) → start_sort G 11 m ≡ s → not (is_none s) ≡ true → or_else (start_sort G 12 m) (next_of G o ss) ≡ or_else (start_sort G 11 m) o
    go None h f = absurd (false≢true f)
    go (Some k) h f = ap (λ (s : Option Sort). or_else s (next_of G o ss)) (start_more G 11 m k h) ∙ sym (ap (λ (s : Option Sort). or_else s o) h)

not_next : (G : Grammar) (C : Certain G) (n : Rule) (p : Production) (later : List Lexeme) → IsAmong p (G.productions n) → IsShut G n (next later) → (ss : List Symbol) → G.symbols p ≡ ss → WhereEmpty ss (IsNotNext G n later)
not_next G C n p [] a s [] e = tt
not_next G C n p (x ∷ later) a s [] e = C.shut n p (sort_of x) a e s
not_next G C n p later a s (r ∷ rr) e = tt

-- a token is made
made : (low : ℕ) (c : Class) (x : Lexeme) (later : List Lexeme) (fs : List StepText) → (binds c ≡ true → length x.text ≡ suc (low + length later))
    → Falling low (top low later) (named fs) → Falling low (top low (x ∷ later)) (named (take c x ∷ fs))
made low c x later fs h f = go (binds c) h
  where
    go : (b : Bool) → (b ≡ true → length x.text ≡ suc (low + length later)) → Falling low (suc (low + suc (length later))) (add_if b x.text (named fs))
    go true h = let l = h refl in ((omega (arith, l), omega (arith, l)), falling_wider low (suc (low + length later)) (length x.text) (named fs) (omega (arith, l)) f)
    go false h = falling_wider low (suc (low + length later)) (suc (low + suc (length later))) (named fs) (omega arith) f

some_trees : (G : Grammar) (C : Certain G) (low : ℕ) (g : Rule → Bool) → ((m : Rule) (later : List Lexeme) → g m ≡ true → IsShut G m (next later) → SomeTree G low m later)
    → (ss : List Symbol) (later : List Lexeme) → all_grown g ss ≡ true → IsReady G (next later) ss → SomeTrees G low ss later
some_trees G C low g h [] later e r = record { written = done; stands = tt; begins = refl; names = λ fs f. f }
some_trees G C low g h (Token c ∷ ss) later e r =
    let t = some_trees G C low g h ss later e r in
    let n = low + length (all_then t.written later) in
    let s = mark_sort (sample c) n in
    record {
      written = leaf c (mark (sample c) n) t.written;
      stands = ((refl, subst (λ (k : Sort). has c k ≡ true) (sym s) (C.samples c)), t.stands);
      begins = ap (λ (k : Sort). Some k) s;
      names = λ fs f. made low c (mark (sample c) n) (all_then t.written later) (all_steps t.written ++ fs) (λ b. mark_length c n b) (t.names fs f);
    }
some_trees G C low g h (Part m ∷ ss) later e r =
    let t = some_trees G C low g h ss later (and_second (g m) (all_grown g ss) e) r.1 in
    let u = h m (all_then t.written later) (and_first (g m) (all_grown g ss) e) (subst (IsShut G m) (sym t.begins) r.0) in
    record {
      written = tree u.written t.written;
      stands = (u.stands, t.stands);
      begins = u.begins ∙ ap (or_else (start_sort G 12 m)) t.begins;
      names = λ fs f.
          subst (λ (l : List StepText). Falling low (top low (then u.written (all_then t.written later))) (named l)) (sym (append_assoc (steps u.written) (all_steps t.written) fs))
          (u.names (all_steps t.written ++ fs) (t.names fs f));
    }

by_first : (G : Grammar) (C : Certain G) (low : ℕ) (g : Rule → Bool) → ((m : Rule) (later : List Lexeme) → g m ≡ true → IsShut G m (next later) → SomeTree G low m later)
    → (n : Rule) (later : List Lexeme) (ps : List Production) → G.productions n ≡ ps → first_grown G g ps ≡ true → IsShut G n (next later) → SomeTree G low n later
by_first G C low g h n later [] e a s = absurd (false≢true a)
by_first G C low g h n later (p ∷ ps) e a s =
    let among : IsAmong p (G.productions n) = subst (IsAmong p) (sym e) (inl refl) in
    let t = some_trees G C low g h (G.symbols p) later a (C.inner n p (next later) among s) in
    record {
      written = node p t.written;
      stands = (among, (not_next G C n p later among s (G.symbols p) refl, t.stands));
      begins = t.begins ∙ start_same G n (next later) (G.symbols p) (ap (parts_of_first G) e) (subst (λ (qs : List Production). is_firm G (parts_of_first G qs) ≡ true) e (C.firm n));
      names = t.names;
    }

pub some_tree : (G : Grammar) (C : Certain G) (low f : ℕ) (n : Rule) (later : List Lexeme) → is_grown G f n ≡ true → IsShut G n (next later) → SomeTree G low n later
some_tree G C low zero n later g s = absurd (false≢true g)
some_tree G C low (suc f) n later g s = by_first G C low (λ m. is_grown G f m) (λ m l a b. some_tree G C low f m l a b) n later (G.productions n) refl g s

all_grow : (G : Grammar) (C : Certain G) (ss : List Symbol) → all_grown (λ m. is_grown G 12 m) ss ≡ true
all_grow G C [] = refl
all_grow G C (Token c ∷ ss) = all_grow G C ss
all_grow G C (Part m ∷ ss) = ap (λ (b : Bool). b && all_grown (λ r. is_grown G 12 r) ss) (C.grown m) ∙ all_grow G C ss

-- some text begins with what was read
pub path_begins : (G : Grammar) (C : Certain G) (n : Rule) (front : List Lexeme) (todo : List Symbol) (events : List StepText) → AreNew [] (named events) → Path G n front todo events Any
    → IsBeginning G n front
path_begins G C n front todo events new h =
    let low = total (named events) in
    let t = some_trees G C low (λ m. is_grown G 12 m) (λ m l a b. some_tree G C low 12 m l a b) todo [] (all_grow G C todo) h.ready in
    let u = h.up t.written (all_then t.written []) tt t.stands refl in
    let f = subst (λ (l : List StepText). Falling low (top low (all_then t.written [])) (named l)) (append-nil (all_steps t.written)) (t.names [] tt) in
    record {
      written = u.written;
      stands = u.stands;
      different = subst (AreNew []) (sym (named_join events (all_steps t.written)) ∙ ap named (sym u.says)) (falling_join (named events) (named (all_steps t.written)) (top low (all_then t.written [])) new f);
      more = all_then t.written [];
      whole = u.whole;
    }
