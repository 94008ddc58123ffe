-- The steps of a tree give what it says.
use Rattle.std.proofs.Common.{◌≡◌, inl, inr, List, [], ◌∷◌, ◌++◌, refl, ap, ◌∙◌, sym, subst, length, drop, append_assoc, suc}
use Rattle.std.proofs.lemmas.List.{take_at, drop_at, append-nil, map-append}
use Rattle.hol_notation_tokens.specs.declared.lexer.Word.{Word}
use Rattle.hol_notation_tokens.specs.Lexeme.{Lexeme, seen}
use Rattle.hol_notation_grammar.specs.declared.grammar.Class.{Class}
use Rattle.hol_notation_grammar.specs.declared.grammar.Rule.{Rule}
use Rattle.hol_notation_grammar.specs.declared.grammar.Rule.TheVariants as rule
use Rattle.hol_notation_grammar.specs.declared.grammar.Production.{Production}
use Rattle.hol_notation_grammar.specs.declared.grammar.Symbol.{Symbol}
use Rattle.hol_notation_grammar.specs.declared.grammar.Symbol.TheVariants.{Token, Part}
use Rattle.hol_notation_grammar.specs.declared.machine.Step.{Step}
use Rattle.hol_notation_grammar.specs.declared.machine.Step.TheVariants.{Choose, Take}
use Rattle.hol_notation_grammar.specs.Step.{step_text, step_texts}
use Rattle.hol_notation_grammar.specs.Table.{productions, symbols}
use Rattle.hol_notation_grammar.specs.Grammar.{language, Tree, node, Trees, done, leaf, tree, all_then, IsAmong, Stands, AllStand, StepText, choose, take as taken, steps, all_steps}
use Rattle.hol_notation_reader.specs.Piece.{PieceText, a_word, Form, form, form_of, AreOf, IsFirst}
use Rattle.hol_notation_reader.specs.Build.{build, reduced}
use Rattle.hol_notation_reader.specs.Value.{value, values}
use Rattle.hol_notation_grammar.specs.Reading.{IsText}
use Rattle.hol_notation_reader.specs.Reading.{Says}
use Rattle.hol_notation_reader.specs.Fold.{evaluate, Fit, IsBuilt}

-- as many pieces as parts
pieces_count : (ts : Trees) (ss : List Symbol) (rest : List Lexeme) → AllStand language ts ss rest → length (values ts) ≡ length ss
pieces_count done [] rest a = refl
pieces_count done (s ∷ ss) rest a = absurd a
pieces_count (leaf c x ts) [] rest a = absurd a
pieces_count (leaf c x ts) (Token d ∷ ss) rest a = ap suc (pieces_count ts ss rest a.1)
pieces_count (leaf c x ts) (Part n ∷ ss) rest a = absurd a
pieces_count (tree t ts) [] rest a = absurd a
pieces_count (tree t ts) (Token c ∷ ss) rest a = absurd a
pieces_count (tree t ts) (Part n ∷ ss) rest a = ap suc (pieces_count ts ss rest a.1)

built : (p : Production) (vs ws us : List PieceText) → length vs ≡ length (symbols p) → us ≡ vs ++ ws → reduced p us ≡ build p vs ∷ ws
built p vs ws us n e =
    ap (reduced p) e
    ∙ ap (λ (xs : List PieceText). build p xs ∷ drop (length (symbols p)) (vs ++ ws)) (take_at vs ws (length (symbols p)) n)
    ∙ ap (λ (xs : List PieceText). build p vs ∷ xs) (drop_at vs ws (length (symbols p)) n)

mutual
  pub tree_value : (n : Rule) (t : Tree) (rest : List Lexeme) → Stands language n t rest → (es : List StepText) (vs : List PieceText) → evaluate (steps t ++ es) vs ≡ value t ∷ evaluate es vs
  tree_value n (node p ts) rest s es vs =
      built p (values ts) (evaluate es vs) (evaluate (all_steps ts ++ es) vs) (pieces_count ts (symbols p) rest s.1.1) (trees_value ts (symbols p) rest s.1.1 es vs)

  pub trees_value : (ts : Trees) (ss : List Symbol) (rest : List Lexeme) → AllStand language ts ss rest → (es : List StepText) (vs : List PieceText) → evaluate (all_steps ts ++ es) vs ≡ values ts ++ evaluate es vs
  trees_value done ss rest a es vs = refl
  trees_value (leaf c x ts) [] rest a es vs = absurd a
  trees_value (leaf c x ts) (Token d ∷ ss) rest a es vs = ap (λ (l : List PieceText). a_word x ∷ l) (trees_value ts ss rest a.1 es vs)
  trees_value (leaf c x ts) (Part n ∷ ss) rest a es vs = absurd a
  trees_value (tree t ts) [] rest a es vs = absurd a
  trees_value (tree t ts) (Token c ∷ ss) rest a es vs = absurd a
  trees_value (tree t ts) (Part n ∷ ss) rest a es vs =
      ap (λ (l : List StepText). evaluate l vs) (append_assoc (steps t) (all_steps ts) es)
      ∙ tree_value n t (all_then ts rest) a.0 (all_steps ts ++ es) vs
      ∙ ap (λ (l : List PieceText). value t ∷ l) (trees_value ts ss rest a.1 es vs)

-- what is built of each rule is of its form
abbrev AllBuilt : Form → List Production → List PieceText → Type 0
AllBuilt f [] vs = Unit {0}
AllBuilt f (p ∷ ps) vs = (form (build p vs) ≡ f) × AllBuilt f ps vs

all_built : (n : Rule) (vs : List PieceText) → AllBuilt (form_of n) (productions n) vs
all_built rule.Command vs = (refl, (refl, (refl, (refl, (refl, (refl, (refl, (refl, (refl, (refl, (refl, (refl, (refl, tt)))))))))))))
all_built rule.Tactic vs = (refl, tt)
all_built rule.Alternative vs = (refl, (refl, tt))
all_built rule.Sequence vs = (refl, tt)
all_built rule.MoreSteps vs = (refl, (refl, (refl, tt)))
all_built rule.Application vs = (refl, (refl, (refl, (refl, (refl, (refl, (refl, (refl, (refl, (refl, (refl, (refl, tt))))))))))))
all_built rule.TacticAtom vs = (refl, (refl, tt))
all_built rule.TacticList vs = (refl, tt)
all_built rule.Tactics vs = (refl, (refl, tt))
all_built rule.MoreTactics vs = (refl, (refl, tt))
all_built rule.TheoremTactic vs = (refl, (refl, tt))
all_built rule.TacticArguments vs = (refl, (refl, tt))
all_built rule.TacticArgument vs = (refl, (refl, (refl, (refl, tt))))
all_built rule.Group vs = (refl, (refl, tt))
all_built rule.Theorems vs = (refl, (refl, tt))
all_built rule.MoreTheorems vs = (refl, (refl, tt))
all_built rule.Theorem vs = (refl, (refl, (refl, (refl, (refl, (refl, (refl, (refl, (refl, tt)))))))))
all_built rule.SimpleTheorem vs = (refl, (refl, tt))
all_built rule.TypePair vs = (refl, tt)
all_built rule.MorePairs vs = (refl, (refl, tt))
all_built rule.TypeQuotation vs = (refl, tt)
all_built rule.Definition vs = (refl, tt)
all_built rule.Parameters vs = (refl, (refl, (refl, tt)))
all_built rule.RightSide vs = (refl, (refl, tt))
all_built rule.Equation vs = (refl, (refl, tt))
all_built rule.Quotation vs = (refl, tt)
all_built rule.Type vs = (refl, tt)
all_built rule.ArrowTail vs = (refl, (refl, tt))
all_built rule.AppliedType vs = (refl, (refl, tt))
all_built rule.TypeList vs = (refl, (refl, tt))
all_built rule.TypeRest vs = (refl, (refl, tt))
all_built rule.Postfix vs = (refl, (refl, tt))
all_built rule.Term vs = (refl, tt)
all_built rule.IffTail vs = (refl, (refl, tt))
all_built rule.Implication vs = (refl, tt)
all_built rule.ImpliesTail vs = (refl, (refl, tt))
all_built rule.Disjunction vs = (refl, tt)
all_built rule.OrTail vs = (refl, (refl, tt))
all_built rule.Conjunction vs = (refl, tt)
all_built rule.AndTail vs = (refl, (refl, tt))
all_built rule.Equality vs = (refl, tt)
all_built rule.EqualsTail vs = (refl, (refl, tt))
all_built rule.Unary vs = (refl, (refl, (refl, tt)))
all_built rule.Typed vs = (refl, tt)
all_built rule.Arguments vs = (refl, (refl, tt))
all_built rule.Annotation vs = (refl, (refl, tt))
all_built rule.Atom vs = (refl, (refl, tt))
all_built rule.Inside vs = (refl, (refl, (refl, (refl, (refl, tt)))))
all_built rule.AfterNot vs = (refl, (refl, tt))
all_built rule.AfterBinder vs = (refl, (refl, tt))
all_built rule.Bound vs = (refl, (refl, tt))
all_built rule.AfterName vs = (refl, (refl, tt))
all_built rule.AfterBound vs = (refl, (refl, tt))

one_built : (f : Form) (ps : List Production) (p : Production) (vs : List PieceText) → IsAmong p ps → AllBuilt f ps vs → form (build p vs) ≡ f
one_built f [] p vs a h = absurd a
one_built f (q ∷ ps) p vs a h = elim a [
  | inl e ↦ ap (λ (r : Production). form (build r vs)) e ∙ h.0
  | inr c ↦ one_built f ps p vs c h.1
]

pub value_form : (n : Rule) (t : Tree) (rest : List Lexeme) → Stands language n t rest → form (value t) ≡ form_of n
value_form n (node p ts) rest s = one_built (form_of n) (productions n) p (values ts) s.0 (all_built n (values ts))

parts_form : (ts : Trees) (ss : List Symbol) (rest : List Lexeme) (vs : List PieceText) → AllStand language ts ss rest → AreOf ss (values ts ++ vs)
parts_form done [] rest vs a = tt
parts_form done (s ∷ ss) rest vs a = absurd a
parts_form (leaf c x ts) [] rest vs a = absurd a
parts_form (leaf c x ts) (Token d ∷ ss) rest vs a = (refl, parts_form ts ss rest vs a.1)
parts_form (leaf c x ts) (Part n ∷ ss) rest vs a = absurd a
parts_form (tree t ts) [] rest vs a = absurd a
parts_form (tree t ts) (Token c ∷ ss) rest vs a = absurd a
parts_form (tree t ts) (Part n ∷ ss) rest vs a = (value_form n t (all_then ts rest) a.0, parts_form ts ss rest vs a.1)

mutual
  pub tree_fits : (n : Rule) (t : Tree) (rest : List Lexeme) → Stands language n t rest → (es : List StepText) (vs : List PieceText) → Fit es vs → Fit (steps t ++ es) vs
  tree_fits n (node p ts) rest s es vs f =
      (subst (AreOf (symbols p)) (sym (trees_value ts (symbols p) rest s.1.1 es vs)) (parts_form ts (symbols p) rest (evaluate es vs) s.1.1), trees_fit ts (symbols p) rest s.1.1 es vs f)

  pub trees_fit : (ts : Trees) (ss : List Symbol) (rest : List Lexeme) → AllStand language ts ss rest → (es : List StepText) (vs : List PieceText) → Fit es vs → Fit (all_steps ts ++ es) vs
  trees_fit done ss rest a es vs f = f
  trees_fit (leaf c x ts) [] rest a es vs f = absurd a
  trees_fit (leaf c x ts) (Token d ∷ ss) rest a es vs f = trees_fit ts ss rest a.1 es vs f
  trees_fit (leaf c x ts) (Part n ∷ ss) rest a es vs f = absurd a
  trees_fit (tree t ts) [] rest a es vs f = absurd a
  trees_fit (tree t ts) (Token c ∷ ss) rest a es vs f = absurd a
  trees_fit (tree t ts) (Part n ∷ ss) rest a es vs f =
      subst (λ (l : List StepText). Fit l vs) (sym (append_assoc (steps t) (all_steps ts) es)) (tree_fits n t (all_then ts rest) a.0 (all_steps ts ++ es) vs (trees_fit ts ss rest a.1 es vs f))

pub whole_value : (n : Rule) (t : Tree) → Stands language n t [] → evaluate (steps t) [] ≡ value t ∷ []
whole_value n t s = ap (λ (l : List StepText). evaluate l []) (sym (append-nil (steps t))) ∙ tree_value n t [] s [] []

pub whole_fits : (n : Rule) (t : Tree) → Stands language n t [] → Fit (steps t) []
whole_fits n t s = subst (λ (l : List StepText). Fit l []) (append-nil (steps t)) (tree_fits n t [] s [] [] tt)

-- the last step
pub last_taken : (es : List StepText) (c : Class) (x : Lexeme) (vs : List PieceText) → evaluate (es ++ taken c x ∷ []) vs ≡ evaluate es (a_word x ∷ vs)
last_taken [] c x vs = refl
last_taken (choose p ∷ es) c x vs = ap (reduced p) (last_taken es c x vs)
last_taken (taken d y ∷ es) c x vs = ap (λ (l : List PieceText). a_word y ∷ l) (last_taken es c x vs)

pub last_chosen : (es : List StepText) (p : Production) (vs : List PieceText) → evaluate (es ++ choose p ∷ []) vs ≡ evaluate es (reduced p vs)
last_chosen [] p vs = refl
last_chosen (choose q ∷ es) p vs = ap (reduced q) (last_chosen es p vs)
last_chosen (taken d y ∷ es) p vs = ap (λ (l : List PieceText). a_word y ∷ l) (last_chosen es p vs)

pub taken_fits : (es : List StepText) (c : Class) (x : Lexeme) (vs : List PieceText) → Fit (es ++ taken c x ∷ []) vs → Fit es (a_word x ∷ vs)
taken_fits [] c x vs f = tt
taken_fits (choose p ∷ es) c x vs f = (subst (AreOf (symbols p)) (last_taken es c x vs) f.0, taken_fits es c x vs f.1)
taken_fits (taken d y ∷ es) c x vs f = taken_fits es c x vs f

pub chosen_fits : (es : List StepText) (p : Production) (vs : List PieceText) → Fit (es ++ choose p ∷ []) vs → Fit es (reduced p vs)
chosen_fits [] p vs f = tt
chosen_fits (choose q ∷ es) p vs f = (subst (AreOf (symbols q)) (last_chosen es p vs) f.0, chosen_fits es p vs f.1)
chosen_fits (taken d y ∷ es) p vs f = chosen_fits es p vs f

pub chosen_parts : (es : List StepText) (p : Production) (vs : List PieceText) → Fit (es ++ choose p ∷ []) vs → AreOf (symbols p) vs
chosen_parts [] p vs f = f.0
chosen_parts (choose q ∷ es) p vs f = chosen_parts es p vs f.1
chosen_parts (taken d y ∷ es) p vs f = chosen_parts es p vs f

-- the steps before the last
before_last : (left more : List Step) (s : Step) (e : StepText) → left ≡ more ++ s ∷ [] → step_text s ≡ e → step_texts left ≡ step_texts more ++ e ∷ []
before_last left more s e w h = ap (λ (l : List Step). step_texts l) w ∙ map-append step_text more (s ∷ []) ∙ ap (λ (x : StepText). step_texts more ++ x ∷ []) h

-- what is left of the fold
abbrev pub Leaves : List StepText → List PieceText → List PieceText → Type 0
Leaves es vs all = (evaluate es vs ≡ all) × Fit es vs

pub after_word : (left more : List Step) (s : Step) (c : Class) (w : Word) (vs us all : List PieceText) → left ≡ more ++ s ∷ [] → s ≡ Take c w → us ≡ a_word (seen w) ∷ vs → Leaves (step_texts left) vs all
    → Leaves (step_texts more) us all
after_word left more s c w vs us all e i j h =
    let l : step_texts left ≡ step_texts more ++ taken c (seen w) ∷ [] = before_last left more s (taken c (seen w)) e (ap step_text i) in (
      ap (evaluate (step_texts more)) j ∙ sym (last_taken (step_texts more) c (seen w) vs) ∙ ap (λ (es : List StepText). evaluate es vs) (sym l) ∙ h.0,
      subst (Fit (step_texts more)) (sym j) (taken_fits (step_texts more) c (seen w) vs (subst (λ (es : List StepText). Fit es vs) l h.1)),
    )

pub after_production : (left more : List Step) (s : Step) (p : Production) (vs us all : List PieceText) → left ≡ more ++ s ∷ [] → s ≡ Choose p → us ≡ reduced p vs → Leaves (step_texts left) vs all
    → Leaves (step_texts more) us all
after_production left more s p vs us all e i j h =
    let l : step_texts left ≡ step_texts more ++ choose p ∷ [] = before_last left more s (choose p) e (ap step_text i) in (
      ap (evaluate (step_texts more)) j ∙ sym (last_chosen (step_texts more) p vs) ∙ ap (λ (es : List StepText). evaluate es vs) (sym l) ∙ h.0,
      subst (Fit (step_texts more)) (sym j) (chosen_fits (step_texts more) p vs (subst (λ (es : List StepText). Fit es vs) l h.1)),
    )

pub parts_there : (left more : List Step) (s : Step) (p : Production) (vs : List PieceText) → left ≡ more ++ s ∷ [] → s ≡ Choose p → Fit (step_texts left) vs → AreOf (symbols p) vs
parts_there left more s p vs e i fit = chosen_parts (step_texts more) p vs (subst (λ (es : List StepText). Fit es vs) (before_last left more s (choose p) e (ap step_text i)) fit)

-- of a text that was read
pub text_fits : (n : Rule) (words : List Lexeme) (es : List StepText) → IsText language n words es → Fit es []
text_fits n words es t = subst (λ (l : List StepText). Fit l []) (sym t.says) (whole_fits n t.written t.stands)

pub text_built : (n : Rule) (words : List Lexeme) (es : List StepText) (vs : List PieceText) → IsText language n words es → vs ≡ evaluate es [] → IsBuilt n words vs
text_built n words es vs t e = record {
  written = t.written;
  whole = t.whole;
  stands = t.stands;
  different = t.different;
  says = e ∙ ap (λ (l : List StepText). evaluate l []) t.says ∙ whole_value n t.written t.stands;
}

pub built_first : (n : Rule) (words : List Lexeme) (vs : List PieceText) → IsBuilt n words vs → IsFirst (form_of n) vs
built_first n words vs b = subst (IsFirst (form_of n)) (sym b.says) (value_form n b.written [] b.stands)

pub built_says : {V : Type 0} (n : Rule) (of : PieceText → V) (words : List Lexeme) (vs rest : List PieceText) (piece : PieceText) (v : V) → IsBuilt n words vs → vs ≡ piece ∷ rest → v ≡ of piece → Says n of words v
built_says n of words vs rest piece v b e f =
    let w : piece ∷ rest ≡ value b.written ∷ [] = sym e ∙ b.says in
    let same : piece ≡ value b.written = cc in
    record { written = b.written; whole = b.whole; stands = b.stands; different = b.different; says = f ∙ ap of same }
