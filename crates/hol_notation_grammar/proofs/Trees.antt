-- Trees of two lists of parts, one after the other.
use Rattle.std.proofs.Common.{◌≡◌, List, [], ◌∷◌, ◌++◌, refl, ap, ◌∙◌, sym, subst, append_assoc}
use Rattle.hol_notation_tokens.specs.Lexeme.{Lexeme}
use Rattle.hol_notation_grammar.specs.declared.grammar.Symbol.{Symbol}
use Rattle.hol_notation_grammar.specs.declared.grammar.Symbol.TheVariants.{Token, Part}
use Rattle.hol_notation_grammar.specs.Grammar.{Grammar, Trees, done, leaf, tree, then, all_then, Stands, AllStand, StepText, take, steps, all_steps}

abbrev pub join : Trees → Trees → Trees
join done vs = vs
join (leaf d x us) vs = leaf d x (join us vs)
join (tree t us) vs = tree t (join us vs)

pub then_join : (us vs : Trees) (rest : List Lexeme) → all_then (join us vs) rest ≡ all_then us (all_then vs rest)
then_join done vs rest = refl
then_join (leaf d x us) vs rest = ap (λ (l : List Lexeme). x ∷ l) (then_join us vs rest)
then_join (tree t us) vs rest = ap (then t) (then_join us vs rest)

pub steps_join : (us vs : Trees) → all_steps (join us vs) ≡ all_steps us ++ all_steps vs
steps_join done vs = refl
steps_join (leaf d x us) vs = ap (λ (l : List StepText). take d x ∷ l) (steps_join us vs)
steps_join (tree t us) vs = ap (λ (l : List StepText). steps t ++ l) (steps_join us vs) ∙ sym (append_assoc (steps t) (all_steps us) (all_steps vs))

pub stand_join : (G : Grammar) (us vs : Trees) (ss rr : List Symbol) (rest : List Lexeme) → AllStand G us ss (all_then vs rest) → AllStand G vs rr rest → AllStand G (join us vs) (ss ++ rr) rest
stand_join G done vs [] rr rest a b = b
stand_join G done vs (s ∷ ss) rr rest a b = absurd a
stand_join G (leaf d x us) vs [] rr rest a b = absurd a
stand_join G (leaf d x us) vs (Token c ∷ ss) rr rest a b = (a.0, stand_join G us vs ss rr rest a.1 b)
stand_join G (leaf d x us) vs (Part n ∷ ss) rr rest a b = absurd a
stand_join G (tree t us) vs [] rr rest a b = absurd a
stand_join G (tree t us) vs (Token c ∷ ss) rr rest a b = absurd a
stand_join G (tree t us) vs (Part n ∷ ss) rr rest a b = (subst (Stands G n t) (sym (then_join us vs rest)) a.0, stand_join G us vs ss rr rest a.1 b)

pub record Split (G : Grammar) (ts : Trees) (ss rr : List Symbol) (rest : List Lexeme) : Type 0 where
  pub front : Trees
  pub back : Trees
  pub same : ts ≡ join front back
  pub left : AllStand G front ss (all_then back rest)
  pub right : AllStand G back rr rest

pub split : (G : Grammar) (ts : Trees) (ss rr : List Symbol) (rest : List Lexeme) → AllStand G ts (ss ++ rr) rest → Split G ts ss rr rest
split G ts [] rr rest a = record { front = done; back = ts; same = refl; left = tt; right = a }
split G done (Token c ∷ ss) rr rest a = absurd a
split G done (Part n ∷ ss) rr rest a = absurd a
split G (leaf d x ts) (Token c ∷ ss) rr rest a =
    let r = split G ts ss rr rest a.1 in
    record { front = leaf d x r.front; back = r.back; same = ap (leaf d x) r.same; left = (a.0, r.left); right = r.right }
split G (leaf d x ts) (Part n ∷ ss) rr rest a = absurd a
split G (tree t ts) (Token c ∷ ss) rr rest a = absurd a
split G (tree t ts) (Part n ∷ ss) rr rest a =
    let r = split G ts ss rr rest a.1 in
    record {
      front = tree t r.front;
      back = r.back;
      same = ap (tree t) r.same;
      left = (subst (Stands G n t) (ap (λ (z : Trees). all_then z rest) r.same ∙ then_join r.front r.back rest) a.0, r.left);
      right = r.right;
    }
