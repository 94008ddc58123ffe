-- What makes a grammar certain, and the token with which what is written begins.
use Rattle.std.proofs.Common.{◌≡◌, ◌⊎◌, inl, inr, Bool, true, false, ◌||◌, ℕ, zero, suc, List, [], ◌∷◌, refl, subst, ◌&&◌, not, Option}
use Rattle.std.proofs.lemmas.Bool.{false≢true}
use Rattle.hol_notation_grammar.specs.declared.sort.Sort.{Sort}
use Rattle.hol_notation_tokens.specs.Lexeme.{Lexeme}
use Rattle.hol_notation_grammar.specs.declared.grammar.Rule.{Rule}
use Rattle.hol_notation_grammar.specs.declared.grammar.Production.{Production}
use Rattle.hol_notation_grammar.specs.declared.grammar.Symbol.{Symbol}
use Rattle.hol_notation_grammar.specs.declared.grammar.Symbol.TheVariants.{Token, Part}
use Rattle.hol_notation_grammar.specs.declared.grammar.Class.{Class}
use Rattle.hol_notation_grammar.specs.Sort.{sort_of}
use Rattle.hol_notation_grammar.specs.Table.{has}
use Rattle.hol_notation_grammar.specs.Grammar.{Grammar, Tree, node, Trees, done, leaf, tree, then, all_then, Stands, AllStand, leads, some_leads, begins, opens, IsAmong}
use Rattle.hol_notation_grammar.specs.Ending.{sample, parts_of_first, start_sort, is_none, extends, IsShut, IsReady}

-- the part with which a production begins is never empty
abbrev pub IsSolid : Grammar → List Symbol → Type 0
IsSolid G [] = Unit {0}
IsSolid G (Token c ∷ ss) = Unit {0}
IsSolid G (Part m ∷ ss) = (q : Production) → IsAmong q (G.productions m) → G.symbols q ≡ [] → ⊥

abbrev pub leading : Grammar → Production → Sort → Bool
leading G p k = leads (λ m j. opens G m j) (G.symbols p) k

-- what is written by the first productions alone ends after so many steps
abbrev pub all_grown : (Rule → Bool) → List Symbol → Bool
all_grown b [] = true
all_grown b (Token c ∷ ss) = all_grown b ss
all_grown b (Part m ∷ ss) = b m && all_grown b ss

abbrev pub first_grown : Grammar → (Rule → Bool) → List Production → Bool
first_grown G b [] = false
first_grown G b (p ∷ ps) = all_grown b (G.symbols p)

abbrev pub is_grown : Grammar → ℕ → Rule → Bool
is_grown G zero n = false
is_grown G (suc f) n = first_grown G (λ m. is_grown G f m) (G.productions n)

-- the shortest of the part with which these begin has a token
abbrev pub is_firm : Grammar → List Symbol → Bool
is_firm G [] = true
is_firm G (Token c ∷ ss) = true
is_firm G (Part m ∷ ss) = not (is_none (start_sort G 11 m))

-- No chain of productions to a first token is longer than those that are looked at, each token begins one production of
-- a rule at most, and one at most is empty. What is begun can be ended, by the first productions.
pub record Certain (G : Grammar) : Type 0 where
  pub whole : (n : Rule) (k : Sort) → begins G 13 n k ≡ true → opens G n k ≡ true
  pub one : (n : Rule) (k : Sort) (p q : Production) → IsAmong p (G.productions n) → IsAmong q (G.productions n) → leading G p k ≡ true → leading G q k ≡ true → p ≡ q
  pub solid : (p : Production) → IsSolid G (G.symbols p)
  pub one_empty : (n : Rule) (p q : Production) → IsAmong p (G.productions n) → IsAmong q (G.productions n) → G.symbols p ≡ [] → G.symbols q ≡ [] → p ≡ q
  pub inner : (n : Rule) (p : Production) (o : Option Sort) → IsAmong p (G.productions n) → IsShut G n o → IsReady G o (G.symbols p)
  pub shut : (n : Rule) (p : Production) (k : Sort) → IsAmong p (G.productions n) → G.symbols p ≡ [] → extends G 12 n k ≡ false → opens G n k ≡ false
  pub grown : (n : Rule) → is_grown G 12 n ≡ true
  pub firm : (n : Rule) → is_firm G (parts_of_first G (G.productions n)) ≡ true
  pub samples : (c : Class) → has c (sample c) ≡ true

or_left : (a b : Bool) → a ≡ true → (a || b) ≡ true
or_left true b e = refl
or_left false b e = absurd (false≢true e)

or_right : (a b : Bool) → b ≡ true → (a || b) ≡ true
or_right true b e = refl
or_right false b e = e

or_cases : (a b : Bool) → (a || b) ≡ true → (a ≡ true) ⊎ (b ≡ true)
or_cases true b e = inl refl
or_cases false b e = inr e

pub some_intro : (b : Rule → Sort → Bool) (f : Production → List Symbol) (ps : List Production) (p : Production) (k : Sort)
    → IsAmong p ps → leads b (f p) k ≡ true → some_leads b f ps k ≡ true
some_intro b f [] p k a e = absurd a
some_intro b f (q ∷ ps) p k a e = elim a [
  | inl s ↦ or_left _ _ (subst (λ (r : Production). leads b (f r) k ≡ true) s e)
  | inr c ↦ or_right _ _ (some_intro b f ps p k c e)
]

pub record Leading (b : Rule → Sort → Bool) (f : Production → List Symbol) (ps : List Production) (k : Sort) : Type 0 where
  pub production : Production
  pub among : IsAmong production ps
  pub leads : leads b (f production) k ≡ true

pub some_elim : (b : Rule → Sort → Bool) (f : Production → List Symbol) (ps : List Production) (k : Sort) → some_leads b f ps k ≡ true → Leading b f ps k
some_elim b f [] k e = absurd (false≢true e)
some_elim b f (q ∷ ps) k e = elim (or_cases _ _ e) [
  | inl s ↦ record { production = q; among = inl refl; leads = s }
  | inr s ↦ let r = some_elim b f ps k s in record { production = r.production; among = inr r.among; leads = r.leads }
]

-- what leads by some table leads by a larger one
pub leads_wider : (b d : Rule → Sort → Bool) (ss : List Symbol) (k : Sort) → ((m : Rule) → b m k ≡ true → d m k ≡ true) → leads b ss k ≡ true → leads d ss k ≡ true
leads_wider b d [] k h e = e
leads_wider b d (Token c ∷ ss) k h e = e
leads_wider b d (Part m ∷ ss) k h e = h m e

pub opens_wider : (G : Grammar) (C : Certain G) (depth : ℕ) (n : Rule) (k : Sort) → begins G depth n k ≡ true → opens G n k ≡ true
opens_wider G C zero n k e = absurd (false≢true e)
opens_wider G C (suc depth) n k e =
    let r = some_elim (λ m j. begins G depth m j) G.symbols (G.productions n) k e in
    C.whole n k
    (some_intro (λ m j. opens G m j) G.symbols (G.productions n) r.production k r.among
    (leads_wider (λ m j. begins G depth m j) (λ m j. opens G m j) (G.symbols r.production) k (λ m f. opens_wider G C depth m k f) r.leads))

-- a production that leads makes the rule open
pub opens_by : (G : Grammar) (C : Certain G) (n : Rule) (k : Sort) (p : Production) → IsAmong p (G.productions n) → leading G p k ≡ true → opens G n k ≡ true
opens_by G C n k p a e = C.whole n k (some_intro (λ m j. opens G m j) G.symbols (G.productions n) p k a e)

-- the production that leads through fewer steps is the one that leads
pub leads_less : (G : Grammar) (C : Certain G) (depth : ℕ) (n : Rule) (k : Sort) (p : Production) → begins G (suc depth) n k ≡ true → IsAmong p (G.productions n) → leading G p k ≡ true
    → leads (λ m j. begins G depth m j) (G.symbols p) k ≡ true
leads_less G C depth n k p e a l =
    let r = some_elim (λ m j. begins G depth m j) G.symbols (G.productions n) k e in
    let w = leads_wider (λ m j. begins G depth m j) (λ m j. opens G m j) (G.symbols r.production) k (λ m f. opens_wider G C depth m k f) r.leads in
    subst (λ (q : Production). leads (λ m j. begins G depth m j) (G.symbols q) k ≡ true) (C.one n k r.production p r.among a w l) r.leads

-- the first lexeme of what is written
pub record First (words : List Lexeme) (P : Sort → Type 0) : Type 0 where
  pub lexeme : Lexeme
  pub more : List Lexeme
  pub whole : words ≡ lexeme ∷ more
  pub is : P (sort_of lexeme)

mutual
  pub tree_first : (G : Grammar) (C : Certain G) (n : Rule) (t : Tree) (later : List Lexeme) → Stands G n t later → ((q : Production) → IsAmong q (G.productions n) → G.symbols q ≡ [] → ⊥)
      → First (then t later) (λ k. opens G n k ≡ true)
  tree_first G C n (node p us) later s e =
      let r = trees_first G C (G.symbols p) us later s.1.1 (C.solid p) (e p s.0) in
      record { lexeme = r.lexeme; more = r.more; whole = r.whole; is = opens_by G C n (sort_of r.lexeme) p s.0 r.is }

  pub trees_first : (G : Grammar) (C : Certain G) (ss : List Symbol) (us : Trees) (later : List Lexeme) → AllStand G us ss later → IsSolid G ss → (ss ≡ [] → ⊥)
      → First (all_then us later) (λ k. leads (λ m j. opens G m j) ss k ≡ true)
  trees_first G C [] us later a d e = absurd (e refl)
  trees_first G C (Token c ∷ ss) done later a d e = absurd a
  trees_first G C (Token c ∷ ss) (leaf b x us) later a d e = record { lexeme = x; more = all_then us later; whole = refl; is = a.0.1 }
  trees_first G C (Token c ∷ ss) (tree t us) later a d e = absurd a
  trees_first G C (Part m ∷ ss) done later a d e = absurd a
  trees_first G C (Part m ∷ ss) (leaf b x us) later a d e = absurd a
  trees_first G C (Part m ∷ ss) (tree t us) later a d e =
      let r = tree_first G C m t (all_then us later) a.0 d in
      record { lexeme = r.lexeme; more = r.more; whole = r.whole; is = r.is }
