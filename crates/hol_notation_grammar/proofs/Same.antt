-- A text has one tree.
use Rattle.std.proofs.Common.{◌≡◌, true, List, [], ◌∷◌, refl, ◌∙◌, sym, subst}
use Rattle.hol_notation_tokens.specs.Lexeme.{Lexeme}
use Rattle.hol_notation_grammar.specs.declared.grammar.Rule.{Rule}
use Rattle.hol_notation_grammar.specs.declared.grammar.Production.{Production}
use Rattle.hol_notation_grammar.specs.declared.grammar.Symbol.{Symbol}
use Rattle.hol_notation_grammar.specs.declared.grammar.Symbol.TheVariants.{Token, Part}
use Rattle.hol_notation_grammar.specs.Sort.{sort_of}
use Rattle.hol_notation_grammar.specs.Grammar.{Grammar, language, Tree, node, Trees, done, leaf, tree, then, all_then, Stands, AllStand, WhereEmpty, IsNotNext}
use Rattle.hol_notation_grammar.proofs.Leads.{Certain, leading, trees_first, opens_by}
use Rattle.hol_notation_grammar.proofs.Paths.{not_both, not_empty, empty_trees}
use Rattle.hol_notation_grammar.proofs.Certain.{certain}

-- a production of nothing doesn't stand where another of the rule begins
clash : (G : Grammar) (C : Certain G) (n : Rule) (p q : Production) (ts us : Trees) (r s : List Lexeme) (x : Symbol) (ss : List Symbol) → Stands G n (node p ts) r → Stands G n (node q us) s
    → all_then ts r ≡ all_then us s → G.symbols p ≡ [] → G.symbols q ≡ x ∷ ss → ⊥
clash G C n p q ts us r s x ss a b e i j =
    let f = trees_first G C (G.symbols q) us s b.1.1 (C.solid q) (λ z. not_empty x ss (sym j ∙ z)) in
    let w = sym (empty_trees G ts (G.symbols p) r a.1.1 i) ∙ e ∙ f.whole in
    not_both _ (opens_by G C n (sort_of f.lexeme) q b.0 f.is) (subst (IsNotNext G n) w (subst (λ (l : List Symbol). WhereEmpty l (IsNotNext G n r)) i a.1.0))

pick_same : (G : Grammar) (C : Certain G) (n : Rule) (p q : Production) (ts us : Trees) (r s : List Lexeme) → Stands G n (node p ts) r → Stands G n (node q us) s → all_then ts r ≡ all_then us s → p ≡ q
pick_same G C n p q ts us r s a b e = go (G.symbols p) (G.symbols q) refl refl
  where
    go : (pp qq : List Symbol) → G.symbols p ≡ pp → G.symbols q ≡ qq → p ≡ q
    go [] [] i j = C.one_empty n p q a.0 b.0 i j
    go [] (x ∷ qq) i j = absurd (clash G C n p q ts us r s x qq a b e i j)
    go (x ∷ pp) [] i j = absurd (clash G C n q p us ts s r x pp b a (sym e) j i)
    go (x ∷ pp) (y ∷ qq) i j =
        let f = trees_first G C (G.symbols p) ts r a.1.1 (C.solid p) (λ z. not_empty x pp (sym i ∙ z)) in
        let g = trees_first G C (G.symbols q) us s b.1.1 (C.solid q) (λ z. not_empty y qq (sym j ∙ z)) in
        let w : f.lexeme ∷ f.more ≡ g.lexeme ∷ g.more = sym f.whole ∙ e ∙ g.whole in
        let same : f.lexeme ≡ g.lexeme = cc in
        C.one n (sort_of f.lexeme) p q a.0 b.0 f.is (subst (λ (z : Lexeme). leading G q (sort_of z) ≡ true) (sym same) g.is)

mutual
  pub same_tree : (G : Grammar) (C : Certain G) (n : Rule) (t u : Tree) (r s : List Lexeme) → Stands G n t r → Stands G n u s → then t r ≡ then u s → (t ≡ u) × (r ≡ s)
  same_tree G C n (node p ts) (node q us) r s a b e =
      let same : p ≡ q = pick_same G C n p q ts us r s a b e in
      let m = same_trees G C (G.symbols p) ts us r s a.1.1 (subst (λ (x : Production). AllStand G us (G.symbols x) s) (sym same) b.1.1) e in
      (λ i. node (same i) (m.0 i), m.1)

  pub same_trees : (G : Grammar) (C : Certain G) (ss : List Symbol) (ts us : Trees) (r s : List Lexeme) → AllStand G ts ss r → AllStand G us ss s → all_then ts r ≡ all_then us s → (ts ≡ us) × (r ≡ s)
  same_trees G C [] done done r s a b e = (refl, e)
  same_trees G C [] done (leaf d y us) r s a b e = absurd b
  same_trees G C [] done (tree u us) r s a b e = absurd b
  same_trees G C [] (leaf c x ts) us r s a b e = absurd a
  same_trees G C [] (tree t ts) us r s a b e = absurd a
  same_trees G C (Token k ∷ ss) done us r s a b e = absurd a
  same_trees G C (Token k ∷ ss) (tree t ts) us r s a b e = absurd a
  same_trees G C (Token k ∷ ss) (leaf c x ts) done r s a b e = absurd b
  same_trees G C (Token k ∷ ss) (leaf c x ts) (tree u us) r s a b e = absurd b
  same_trees G C (Token k ∷ ss) (leaf c x ts) (leaf d y us) r s a b e =
      let h : x ≡ y = cc in
      let v : all_then ts r ≡ all_then us s = cc in
      let m = same_trees G C ss ts us r s a.1 b.1 v in
      let k : c ≡ d = a.0.0 ∙ sym b.0.0 in
      (λ i. leaf (k i) (h i) (m.0 i), m.1)
  same_trees G C (Part n ∷ ss) done us r s a b e = absurd a
  same_trees G C (Part n ∷ ss) (leaf c x ts) us r s a b e = absurd a
  same_trees G C (Part n ∷ ss) (tree t ts) done r s a b e = absurd b
  same_trees G C (Part n ∷ ss) (tree t ts) (leaf d y us) r s a b e = absurd b
  same_trees G C (Part n ∷ ss) (tree t ts) (tree u us) r s a b e =
      let h = same_tree G C n t u (all_then ts r) (all_then us s) a.0 b.0 e in
      let m = same_trees G C ss ts us r s a.1 b.1 h.1 in
      (λ i. tree (h.0 i) (m.0 i), m.1)

-- of a whole text
pub one_tree : (n : Rule) (t u : Tree) → Stands language n t [] → Stands language n u [] → then t [] ≡ then u [] → t ≡ u
one_tree n t u a b e = (same_tree language certain n t u [] [] a b e).0
