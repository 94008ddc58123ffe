-- The steps of the machine keep the path.
use Rattle.std.proofs.Common.{◌≡◌, Bool, true, false, List, [], ◌∷◌, ◌++◌, refl, ap, ◌∙◌, sym, subst, append_assoc, Option, Some, None}
use Rattle.std.proofs.lemmas.Bool.{false≢true}
use Rattle.std.proofs.lemmas.List.{append-nil}
use Rattle.hol_notation_grammar.specs.declared.sort.Sort.{Sort}
use Rattle.hol_notation_tokens.specs.Lexeme.{Lexeme}
use Rattle.hol_notation_grammar.specs.declared.grammar.Rule.{Rule}
use Rattle.hol_notation_grammar.specs.declared.grammar.Class.{Class}
use Rattle.hol_notation_grammar.specs.declared.grammar.Production.{Production}
use Rattle.hol_notation_grammar.specs.declared.grammar.Symbol.{Symbol}
use Rattle.hol_notation_grammar.specs.declared.grammar.Symbol.TheVariants.{Token, Part}
use Rattle.hol_notation_grammar.specs.Sort.{sort_of}
use Rattle.hol_notation_grammar.specs.Table.{has}
use Rattle.hol_notation_grammar.specs.Grammar.{Grammar, Tree, node, Trees, done, leaf, tree, all_then, Stands, AllStand, StepText, choose, take, steps, all_steps, leads, opens, IsAmong, WhereEmpty, IsNotNext, named, AreNew}
use Rattle.hol_notation_grammar.specs.Reading.{IsNext, IsText}
use Rattle.hol_notation_grammar.specs.Path.{Path, Up, Down, Any, Halts, sort_next, opens_next, IsOmitted, IsNeeded}
use Rattle.hol_notation_grammar.proofs.Trees.{join, then_join, steps_join, stand_join, Split, split}
use Rattle.hol_notation_grammar.specs.Ending.{next_of}
use Rattle.hol_notation_grammar.proofs.Endings.{ready_join}
use Rattle.hol_notation_grammar.proofs.Leads.{Certain, IsSolid, leading, trees_first, opens_by}

next_same : (x y : Lexeme) (more rest : List Lexeme) → more ≡ y ∷ rest → IsNext (Some x) more → x ≡ y
next_same x y more rest e h = subst (λ (l : List Lexeme). IsNext (Some x) l) e h

next_none : (y : Lexeme) (more rest : List Lexeme) → more ≡ y ∷ rest → IsNext None more → ⊥
next_none y more rest e h = subst (λ (l : List Lexeme). IsNext None l) e h

pub not_both : (b : Bool) → b ≡ true → b ≡ false → ⊥
not_both b t f = false≢true (sym f ∙ t)

-- nothing was read
pub path_start : (G : Grammar) (n : Rule) → Path G n [] (Part n ∷ []) [] Any
path_start G n = record { ready = (tt, tt); up = λ ts more m a w. up ts more a w; down = λ t more m s w. record { written = tree t done; stands = (s, tt); whole = w; says = sym (append-nil (steps t)) } }
  where
    up : (ts : Trees) (more : List Lexeme) → AllStand G ts (Part n ∷ []) [] → more ≡ all_then ts [] → Up G n [] more [] ts
    up done more a w = absurd a
    up (leaf d x ts) more a w = absurd a
    up (tree t done) more a w = record { written = t; stands = a.0; whole = w; says = sym (append-nil (steps t)) }
    up (tree t (leaf d x ts)) more a w = absurd a.1
    up (tree t (tree u ts)) more a w = absurd a.1

-- less may come next
pub path_narrow : (G : Grammar) (n : Rule) (front : List Lexeme) (todo : List Symbol) (events : List StepText) (N M : List Lexeme → Type 0) → ((more : List Lexeme) → M more → N more)
    → Path G n front todo events N → Path G n front todo events M
path_narrow G n front todo events N M h p = record { ready = p.ready; up = λ ts more m a w. p.up ts more (h more m) a w; down = λ t more m s w. p.down t more (h more m) s w }

where_at : (G : Grammar) (m : Rule) (ss : List Symbol) (us : Trees) (later more : List Lexeme) → AllStand G us ss later → more ≡ all_then us later → WhereEmpty ss (IsNotNext G m more) → WhereEmpty ss (IsNotNext G m later)
where_at G m [] done later more a w h = subst (IsNotNext G m) w h
where_at G m [] (leaf d x us) later more a w h = absurd a
where_at G m [] (tree t us) later more a w h = absurd a
where_at G m (s ∷ ss) us later more a w h = tt

-- a production is chosen, the only one that may come here
pub path_choose : (G : Grammar) (C : Certain G) (n : Rule) (front : List Lexeme) (m : Rule) (ss : List Symbol) (p : Production) (events : List StepText) (May : List Lexeme → Type 0)
    → IsAmong p (G.productions m) → ((more : List Lexeme) → May more → WhereEmpty (G.symbols p) (IsNotNext G m more))
    → ((q : Production) (us : Trees) (later : List Lexeme) → May (all_then us later) → Stands G m (node q us) later → q ≡ p)
    → Path G n front (Part m ∷ ss) events May → Path G n front (G.symbols p ++ ss) (events ++ choose p ∷ []) May
path_choose G C n front m ss p events May among fits only h = record { ready = ready_join G None (G.symbols p) ss (C.inner m p (next_of G None ss) among h.ready.0) h.ready.1; up = λ ts more may a w. up ts more may (split G ts (G.symbols p) ss [] a) w; down = λ t more may s w. let d = h.down t more may s w in down t more may d.written d.stands d.whole d.says }
  where
    up : (ts : Trees) (more : List Lexeme) → May more → Split G ts (G.symbols p) ss [] → more ≡ all_then ts [] → Up G n front more (events ++ choose p ∷ []) ts
    up ts more may s w =
        let v : more ≡ all_then s.front (all_then s.back []) = w ∙ ap (λ (z : Trees). all_then z []) s.same ∙ then_join s.front s.back [] in
        let u = h.up (tree (node p s.front) s.back) more may ((among, (where_at G m (G.symbols p) s.front (all_then s.back []) more s.left v (fits more may), s.left)), s.right) v in
        record {
          written = u.written;
          stands = u.stands;
          whole = u.whole;
          says = u.says ∙ ap (λ (l : List StepText). events ++ choose p ∷ l) (sym (ap all_steps s.same ∙ steps_join s.front s.back)) ∙ sym (append_assoc events (choose p ∷ []) (all_steps ts));
        }

    down : (t : Tree) (more : List Lexeme) → May more → (ts : Trees) → AllStand G ts (Part m ∷ ss) [] → more ≡ all_then ts [] → steps t ≡ events ++ all_steps ts
        → Down G (G.symbols p ++ ss) more (events ++ choose p ∷ []) t
    down t more may done a w v = absurd a
    down t more may (leaf d x ts) a w v = absurd a
    down t more may (tree (node q us) vs) a w v =
        let e : q ≡ p = only q us (all_then vs []) (subst May w may) a.0 in
        record {
          written = join us vs;
          stands = stand_join G us vs (G.symbols p) ss [] (subst (λ (r : Production). AllStand G us (G.symbols r) (all_then vs [])) e a.0.1.1) a.1;
          whole = w ∙ sym (then_join us vs []);
          says = v ∙ ap (λ (r : Production). events ++ choose r ∷ (all_steps us ++ all_steps vs)) e ∙ ap (λ (l : List StepText). events ++ choose p ∷ l) (sym (steps_join us vs))
              ∙ sym (append_assoc events (choose p ∷ []) (all_steps (join us vs)));
        }

-- a token is taken
pub path_take : (G : Grammar) (n : Rule) (front : List Lexeme) (c : Class) (ss : List Symbol) (events : List StepText) (x : Lexeme) → has c (sort_of x) ≡ true
    → Path G n front (Token c ∷ ss) events (IsNext (Some x)) → Path G n (front ++ x ∷ []) ss (events ++ take c x ∷ []) Any
path_take G n front c ss events x is h = record {
  ready = h.ready;
  up = λ ts more m a w.
      let u = h.up (leaf c x ts) (x ∷ more) refl ((refl, is), a) (ap (λ (l : List Lexeme). x ∷ l) w) in
      record { written = u.written; stands = u.stands; whole = append_assoc front (x ∷ []) more ∙ u.whole; says = u.says ∙ sym (append_assoc events (take c x ∷ []) (all_steps ts)) };
  down = λ t more m s w. let d = h.down t (x ∷ more) refl s (sym (append_assoc front (x ∷ []) more) ∙ w) in down t more d.written d.stands d.whole d.says;
}
  where
    down : (t : Tree) (more : List Lexeme) (ts : Trees) → AllStand G ts (Token c ∷ ss) [] → x ∷ more ≡ all_then ts [] → steps t ≡ events ++ all_steps ts → Down G ss more (events ++ take c x ∷ []) t
    down t more done a w v = absurd a
    down t more (leaf d y ts) a w v =
        let same : x ≡ y = cc in
        record {
          written = ts;
          stands = a.1;
          whole = cc;
          says = v ∙ ap (λ (b : Class). events ++ take b y ∷ all_steps ts) a.0.0 ∙ ap (λ (z : Lexeme). events ++ take c z ∷ all_steps ts) (sym same)
              ∙ sym (append_assoc events (take c x ∷ []) (all_steps ts));
        }
    down t more (tree u ts) a w v = absurd a

solid_at : (G : Grammar) (o : Option Sort) (s : Symbol) (ss : List Symbol) → IsNeeded G o s → ((k : Sort) → o ≡ Some k → leads (λ m j. opens G m j) (s ∷ []) k ≡ false) → IsSolid G (s ∷ ss)
solid_at G o (Token c) ss h f = tt
solid_at G None (Part m) ss h f = h refl
solid_at G (Some k) (Part m) ss h f = h (f k refl)

leads_first : (G : Grammar) (s : Symbol) (ss : List Symbol) (k : Sort) → leads (λ m j. opens G m j) (s ∷ ss) k ≡ true → leads (λ m j. opens G m j) (s ∷ []) k ≡ true
leads_first G (Token c) ss k e = e
leads_first G (Part m) ss k e = e

pub not_empty : (s : Symbol) (ss : List Symbol) → s ∷ ss ≡ [] → ⊥
not_empty s ss e = cc

-- what is to be read next isn't begun by what comes next, nor left out
pub path_stuck : (G : Grammar) (C : Certain G) (n : Rule) (front : List Lexeme) (s : Symbol) (ss : List Symbol) (events : List StepText) (next : Option Lexeme)
    → IsNeeded G (sort_next next) s → ((k : Sort) → sort_next next ≡ Some k → leads (λ m j. opens G m j) (s ∷ []) k ≡ false)
    → Path G n front (s ∷ ss) events (IsNext next) → Halts G n front next
path_stuck G C n front s ss events next needed f h t more st nx w =
    let d = h.down t more nx st w in
    let r = trees_first G C (s ∷ ss) d.written [] d.stands (solid_at G (sort_next next) s ss needed f) (not_empty s ss) in
    go next f nx r.lexeme r.more (d.whole ∙ r.whole) (leads_first G s ss (sort_of r.lexeme) r.is)
  where
    go : (o : Option Lexeme) → ((k : Sort) → sort_next o ≡ Some k → leads (λ m j. opens G m j) (s ∷ []) k ≡ false) → IsNext o more → (y : Lexeme) (rest : List Lexeme) → more ≡ y ∷ rest
        → leads (λ m j. opens G m j) (s ∷ []) (sort_of y) ≡ true → ⊥
    go None f nx y rest e l = next_none y more rest e nx
    go (Some x) f nx y rest e l = not_both _ l (subst (λ (z : Lexeme). leads (λ m j. opens G m j) (s ∷ []) (sort_of z) ≡ false) (next_same x y more rest e nx) (f (sort_of x) refl))

-- nothing more is to be read
pub path_over : (G : Grammar) (n : Rule) (front : List Lexeme) (events : List StepText) (x : Lexeme) → Path G n front [] events (IsNext (Some x)) → Halts G n front (Some x)
path_over G n front events x h t more st nx w = let d = h.down t more nx st w in go d.written d.stands d.whole
  where
    go : (ts : Trees) → AllStand G ts [] [] → more ≡ all_then ts [] → ⊥
    go done a e = subst (λ (l : List Lexeme). IsNext (Some x) l) e nx
    go (leaf d y ts) a e = absurd a
    go (tree u ts) a e = absurd a

pub path_end : (G : Grammar) (n : Rule) (words : List Lexeme) (events : List StepText) → AreNew [] (named events) → Path G n words [] events (IsNext None) → IsText G n words events
path_end G n words events new h =
    let u = h.up done [] tt tt refl in
    let says : events ≡ steps u.written = sym (append-nil events) ∙ sym u.says in
    record {
      written = u.written;
      stands = u.stands;
      different = subst (λ (l : List StepText). AreNew [] (named l)) says new;
      whole = sym (append-nil words) ∙ u.whole;
      says = says;
    }

-- a production of nothing stands for no tokens
pub empty_trees : (G : Grammar) (us : Trees) (ss : List Symbol) (later : List Lexeme) → AllStand G us ss later → ss ≡ [] → all_then us later ≡ later
empty_trees G done ss later a e = refl
empty_trees G (leaf d x us) ss later a e = absurd (subst (λ (rr : List Symbol). AllStand G (leaf d x us) rr later) e a)
empty_trees G (tree t us) ss later a e = absurd (subst (λ (rr : List Symbol). AllStand G (tree t us) rr later) e a)

-- what comes next does not begin the rule, which is left out
pub path_omit : (G : Grammar) (C : Certain G) (n : Rule) (front : List Lexeme) (s : Symbol) (ss : List Symbol) (p : Production) (events : List StepText) (next : Option Lexeme)
    → IsOmitted G (sort_next next) p s → Path G n front (s ∷ ss) events (IsNext next) → Path G n front ss (events ++ choose p ∷ []) (IsNext next)
path_omit G C n front (Token c) ss p events next o h = absurd o
path_omit G C n front (Part m) ss p events next o h =
    subst (λ (rr : List Symbol). Path G n front (rr ++ ss) (events ++ choose p ∷ []) (IsNext next)) o.1.1
    (path_choose G C n front m ss p events (IsNext next) o.1.0 (λ more may. fits (G.symbols p) more (shut next o.0 more may)) (λ q us later may st. only (G.symbols q) refl us later may st) h)
  where
    shut : (r : Option Lexeme) → opens_next G m (sort_next r) ≡ false → (more : List Lexeme) → IsNext r more → IsNotNext G m more
    shut None e [] may = tt
    shut None e (y ∷ rest) may = absurd may
    shut (Some x) e [] may = absurd may
    shut (Some x) e (y ∷ rest) may = subst (λ (z : Lexeme). opens G m (sort_of z) ≡ false) may e

    fits : (rr : List Symbol) (more : List Lexeme) → IsNotNext G m more → WhereEmpty rr (IsNotNext G m more)
    fits [] more h = h
    fits (r ∷ rr) more h = tt

    only : {q : Production} (rr : List Symbol) → G.symbols q ≡ rr → (us : Trees) (later : List Lexeme) → IsNext next (all_then us later) → Stands G m (node q us) later → q ≡ p
    only {q} [] e us later may st = C.one_empty m q p st.0 o.1.0 e o.1.1
    only {q} (r ∷ rr) e us later may st =
        let f = trees_first G C (G.symbols q) us later st.1.1 (C.solid q) (λ z. not_empty r rr (sym e ∙ z)) in
        let i = subst (IsNotNext G m) f.whole (shut next o.0 (all_then us later) may) in
        absurd (not_both _ (opens_by G C m (sort_of f.lexeme) q st.0 f.is) i)

-- a production is chosen that what comes next begins
pub path_descend : (G : Grammar) (C : Certain G) (n : Rule) (front : List Lexeme) (m : Rule) (ss : List Symbol) (p : Production) (events : List StepText) (x : Lexeme)
    → IsAmong p (G.productions m) → leading G p (sort_of x) ≡ true → Path G n front (Part m ∷ ss) events (IsNext (Some x)) → Path G n front (G.symbols p ++ ss) (events ++ choose p ∷ []) (IsNext (Some x))
path_descend G C n front m ss p events x among l h =
    path_choose G C n front m ss p events (IsNext (Some x)) among (λ more may. fits (G.symbols p) more l) (λ q us later may st. only (G.symbols q) refl us later may st) h
  where
    fits : (rr : List Symbol) (more : List Lexeme) → leads (λ r j. opens G r j) rr (sort_of x) ≡ true → WhereEmpty rr (IsNotNext G m more)
    fits [] more e = absurd (false≢true e)
    fits (r ∷ rr) more e = tt

    only : {q : Production} (rr : List Symbol) → G.symbols q ≡ rr → (us : Trees) (later : List Lexeme) → IsNext (Some x) (all_then us later) → Stands G m (node q us) later → q ≡ p
    only {q} [] e us later may st =
        let i : IsNotNext G m later = subst (λ (rr : List Symbol). WhereEmpty rr (IsNotNext G m later)) e st.1.0 in
        absurd (clash later (subst (λ (l : List Lexeme). IsNext (Some x) l) (empty_trees G us (G.symbols q) later st.1.1 e) may) i)
      where
        clash : (later : List Lexeme) → IsNext (Some x) later → IsNotNext G m later → ⊥
        clash [] may i = may
        clash (y ∷ rest) may i = not_both _ (opens_by G C m (sort_of x) p among l) (subst (λ (z : Lexeme). opens G m (sort_of z) ≡ false) (sym may) i)
    only {q} (r ∷ rr) e us later may st =
        let f = trees_first G C (G.symbols q) us later st.1.1 (C.solid q) (λ z. not_empty r rr (sym e ∙ z)) in
        C.one m (sort_of x) q p st.0 among (subst (λ (z : Lexeme). leading G q (sort_of z) ≡ true) (sym (next_same x f.lexeme (all_then us later) f.more f.whole may)) f.is) l
