-- From the code's steps to those of the path.
use Rattle.std.proofs.Common.{◌≡◌, ◌-◌, Bool, true, false, ℕ, zero, suc, List, [], ◌∷◌, ◌++◌, refl, ap, ◌∙◌, sym, subst, reverse, arith, append_assoc, Option, Some, None, Result, Ok, Err, IfOk}
use Rattle.std.proofs.lemmas.Bool.{false≢true}
use Rattle.std.proofs.lemmas.List.{reverse-append}
use Rattle.hol_notation_grammar.specs.declared.sort.Sort.{Sort}
use Rattle.hol_notation_tokens.specs.Lexeme.{Lexeme}
use Rattle.hol_notation_tokens.proofs.Tokens.{some_same, none_not_some}
use Rattle.hol_notation_grammar.specs.declared.grammar.Rule.{Rule}
use Rattle.hol_notation_grammar.specs.declared.grammar.Class.{Class}
use Rattle.hol_notation_grammar.specs.declared.grammar.Production.{Production}
use Rattle.hol_notation_grammar.specs.declared.grammar.Symbol.{Symbol}
use Rattle.hol_notation_grammar.specs.declared.grammar.Symbol.TheVariants.{Token, Part}
use Rattle.hol_notation_grammar.specs.declared.machine.Step.{Step}
use Rattle.hol_notation_grammar.specs.Sort.{sort_of}
use Rattle.hol_notation_grammar.specs.Step.{step_text, step_texts}
use Rattle.hol_notation_grammar.specs.Table.{has, binds, productions, symbols}
use Rattle.hol_notation_grammar.specs.Grammar.{language, leads, some_leads, begins, opens, IsAmong, StepText, choose, take, named, add_if, AreNew, all_steps}
use Rattle.hol_notation_grammar.specs.Reading.{IsNext}
use Rattle.hol_notation_grammar.specs.Path.{Path, Any, IsOmitted, IsNeeded, Keeps, Omits, TakesFirst, Takes, Halts, Accepts, Notes, GoesOn, Closes}
use Rattle.hol_notation_grammar.proofs.Leads.{leading, some_elim, some_intro, leads_wider, opens_wider, leads_less}
use Rattle.hol_notation_grammar.proofs.Certain.{certain}
use Rattle.hol_notation_grammar.proofs.Paths.{path_narrow, path_take, path_stuck, path_over, path_end, path_omit, path_descend}
use Rattle.std.proofs.lemmas.List.{append-nil, map-append}
use Rattle.hol_notation_grammar.proofs.Names.{named_join, new_front, new_back, new_join}

pub ok_map : {A E : Type 0} (P Q : Type 0) (r : Result A E) → (P → Q) → IfOk r (λ _. P) → IfOk r (λ _. Q)
ok_map P Q (Ok x) f h = f h
ok_map P Q (Err e) f h = h

pub ok_each : {A E : Type 0} (P Q : A → Type 0) (r : Result A E) → ((x : A) → P x → Q x) → IfOk r P → IfOk r Q
ok_each P Q (Ok x) f h = f x h
ok_each P Q (Err e) f h = h

-- the list with its last element on top
pub popped : (xs ys : List Symbol) (s : Symbol) → xs ≡ ys ++ s ∷ [] → reverse xs ≡ s ∷ reverse ys
popped xs ys s e = ap (λ (l : List Symbol). reverse l) e ∙ reverse-append ys (s ∷ [])

-- something leads where a rule is begun
some_of : (depth : ℕ) (n : Rule) (k : Sort) → begins language depth n k ≡ true → some_leads (λ m j. opens language m j) (λ p. symbols p) (productions n) k ≡ true
some_of zero n k e = absurd (false≢true e)
some_of (suc depth) n k e =
    let r = some_elim (λ m j. begins language depth m j) (λ p. symbols p) (productions n) k e in
    some_intro (λ m j. opens language m j) (λ p. symbols p) (productions n) r.production k r.among
    (leads_wider (λ m j. begins language depth m j) (λ m j. opens language m j) (symbols r.production) k (λ m f. opens_wider language certain depth m k f) r.leads)

pub part_begun : (depth : ℕ) (top : Symbol) (n : Rule) (k : Sort) → top ≡ Part n → leads (λ m j. begins language depth m j) (top ∷ []) k ≡ true → begins language depth n k ≡ true
part_begun depth top n k e h = subst (λ (s : Symbol). leads (λ m j. begins language depth m j) (s ∷ []) k ≡ true) e h

pub none_leads : (depth : ℕ) (top : Symbol) (n : Rule) (k : Sort) (ps : List Production) → top ≡ Part n → leads (λ m j. begins language depth m j) (top ∷ []) k ≡ true → ps ≡ productions n
    → some_leads (λ m j. opens language m j) (λ p. symbols p) ps k ≡ false → ⊥
none_leads depth top n k ps e h w f =
    false≢true (sym f ∙ ap (λ (l : List Production). some_leads (λ m j. opens language m j) (λ p. symbols p) l k) w ∙ some_of depth n k (part_begun depth top n k e h))

leads_top : (b : Rule → Sort → Bool) (ss rest below : List Symbol) (first : Symbol) (k : Sort) → ss ++ rest ≡ first ∷ below → leads b ss k ≡ true → leads b (first ∷ []) k ≡ true
leads_top b [] rest below first k e h = absurd (false≢true h)
leads_top b (s ∷ ss) rest below first k e h = let same : s ≡ first = cc in subst (λ (z : Symbol). leads b (z ∷ []) k ≡ true) same (one s h)
  where
    one : (s : Symbol) → leads b (s ∷ ss) k ≡ true → leads b (s ∷ []) k ≡ true
    one (Token c) h = h
    one (Part m) h = h

pub depth_left : (depth : ℕ) (n : Rule) (k : Sort) → begins language depth n k ≡ true → suc (depth - 1) ≡ depth
depth_left zero n k e = absurd (false≢true e)
depth_left (suc depth) n k e = omega arith

pub next_leads : (depth : ℕ) (top : Symbol) (n : Rule) (k : Sort) (p : Production) (ps : List Production) (first : Symbol) (rest below : List Symbol)
    → top ≡ Part n → leads (λ m j. begins language depth m j) (top ∷ []) k ≡ true → ps ≡ productions n → IsAmong p ps → leads (λ m j. opens language m j) (symbols p) k ≡ true
    → symbols p ++ rest ≡ first ∷ below → leads (λ m j. begins language (depth - 1) m j) (first ∷ []) k ≡ true
next_leads depth top n k p ps first rest below e h w a l s =
    let b = part_begun depth top n k e h in
    let c : begins language (suc (depth - 1)) n k ≡ true = subst (λ (d : ℕ). begins language d n k ≡ true) (sym (depth_left depth n k b)) b in
    leads_top (λ m j. begins language (depth - 1) m j) (symbols p) rest below first k s (leads_less language certain (depth - 1) n k p c (subst (IsAmong p) w a) l)

pub none_below : (top : Symbol) (ss rest : List Symbol) (k : Sort) → leads (λ m j. opens language m j) ss k ≡ true → ss ++ rest ≡ [] → ⊥
none_below top [] rest k l e = false≢true l
none_below top (s ∷ ss) rest k l e = cc

-- one step more
pub said_more : (xs ys : List Step) (s : Step) → ys ≡ xs ++ s ∷ [] → step_texts ys ≡ step_texts xs ++ step_text s ∷ []
said_more xs ys s e = ap (λ (l : List Step). step_texts l) e ∙ map-append step_text xs (s ∷ [])

-- choosing a production adds no name
chosen : (events events_ : List StepText) (p : Production) → events_ ≡ events ++ choose p ∷ [] → named events_ ≡ named events
chosen events events_ p e = ap named e ∙ named_join events (choose p ∷ []) ∙ append-nil (named events)

pub takes_token : (depth : ℕ) (top : Symbol) (c : Class) (k : Sort) (x : Lexeme) (rest : List Symbol) (events events_ : List StepText) → top ≡ Token c → k ≡ sort_of x
    → leads (λ m j. begins language depth m j) (top ∷ []) k ≡ true → events_ ≡ events ++ take c x ∷ [] → TakesFirst language x c (top ∷ rest) events rest events_
takes_token depth top c k x rest events events_ e same h w =
    let is : has c (sort_of x) ≡ true = subst (λ (j : Sort). has c j ≡ true) same (subst (λ (s : Symbol). leads (λ m j. begins language depth m j) (s ∷ []) k ≡ true) e h) in (
      ap named w ∙ named_join events (take c x ∷ []),
      λ n front path.
          subst (λ (l : List StepText). Path language n (front ++ x ∷ []) rest l Any) (sym w)
          (path_take language n front c rest events x is (subst (λ (s : Symbol). Path language n front (s ∷ rest) events (IsNext (Some x))) e path)),
    )

pub takes_part : (top : Symbol) (m : Rule) (k : Sort) (x : Lexeme) (c : Class) (p : Production) (ps : List Production) (first : Symbol) (rest below todo_ : List Symbol) (events middle events_ : List StepText)
    → top ≡ Part m → k ≡ sort_of x → ps ≡ productions m → IsAmong p ps → leads (λ r j. opens language r j) (symbols p) k ≡ true → middle ≡ events ++ choose p ∷ [] → symbols p ++ rest ≡ first ∷ below
    → TakesFirst language x c (first ∷ below) middle todo_ events_ → TakesFirst language x c (top ∷ rest) events todo_ events_
takes_part top m k x c p ps first rest below todo_ events middle events_ e same w a l v s t = (
  t.0 ∙ ap (λ (names : List (List ℕ)). names ++ add_if (binds c) x.text []) (chosen events middle p v),
  λ n front path.
      let q = path_descend language certain n front m rest p events x (subst (IsAmong p) w a) (subst (λ (j : Sort). leading language p j ≡ true) same l)
      (subst (λ (z : Symbol). Path language n front (z ∷ rest) events (IsNext (Some x))) e path) in
      t.1 n front
      (subst (λ (ss : List Symbol). Path language n front ss middle (IsNext (Some x))) s (subst (λ (l : List StepText). Path language n front (symbols p ++ rest) l (IsNext (Some x))) (sym v) q)),
)

-- leaving out
pub keeps_omitted : (k : Option Sort) (todo rest : List Symbol) (s : Symbol) (start : List Symbol) (begun events events_ : List StepText) (p : Production) → todo ≡ s ∷ rest → IsOmitted language k p s
    → events_ ≡ events ++ choose p ∷ [] → Keeps language k start begun todo events → Keeps language k start begun rest events_
keeps_omitted k todo rest s start begun events events_ p e o w h = (
  chosen events events_ p w ∙ h.0,
  λ n front next same path.
      subst (λ (l : List StepText). Path language n front rest l (IsNext next)) (sym w)
      (path_omit language certain n front s rest p events next (subst (λ (j : Option Sort). IsOmitted language j p s) (sym same) o)
      (subst (λ (ss : List Symbol). Path language n front ss events (IsNext next)) e (h.1 n front next same path))),
)

pub keeps_same : (k : Option Sort) (start todo todo_ : List Symbol) (begun events : List StepText) → todo ≡ todo_ → Keeps language k start begun todo events → Keeps language k start begun todo_ events
keeps_same k start todo todo_ begun events e h = (h.0, λ n front next same path. subst (λ (ss : List Symbol). Path language n front ss events (IsNext next)) e (h.1 n front next same path))

pub keeps_start : (k : Option Sort) (todo : List Symbol) (events : List StepText) → Keeps language k todo events todo events
keeps_start k todo events = (refl, λ n front next same path. path)

-- what comes next is taken, or no tree goes on with it
pub accepts_taken : (x : Lexeme) (c : Class) (k : Sort) (todo middle todo_ : List Symbol) (events between events_ : List StepText) → k ≡ sort_of x → Keeps language (Some k) todo events middle between
    → TakesFirst language x c middle between todo_ events_ → Takes language x c Any todo events todo_ events_
accepts_taken x c k todo middle todo_ events between events_ same h t = (
  t.0 ∙ ap (λ (names : List (List ℕ)). names ++ add_if (binds c) x.text []) h.0,
  λ n front path. t.1 n front (h.1 n front (Some x) (ap (λ (j : Sort). Some j) (sym same)) (path_narrow language n front todo events Any (IsNext (Some x)) (λ more m. tt) path)),
)

pub accepts_none : (x : Lexeme) (k : Sort) (todo rest todo_ : List Symbol) (events between events_ : List StepText) (s : Symbol) → k ≡ sort_of x → IsNeeded language (Some k) s
    → Keeps language (Some k) todo events (s ∷ rest) between → leads (λ m j. begins language 12 m j) (s ∷ []) k ≡ false → Accepts language x todo events None todo_ events_
accepts_none x k todo rest todo_ events between events_ s same needed h f n front path =
    path_stuck language certain n front s rest between (Some x) (subst (λ (j : Sort). IsNeeded language (Some j) s) same needed)
    (λ j e. let i : k ≡ j = same ∙ some_same e in subst (λ (z : Sort). leads (λ m j. opens language m j) (s ∷ []) z ≡ false) i f)
    (h.1 n front (Some x) (ap (λ (j : Sort). Some j) (sym same)) (path_narrow language n front todo events Any (IsNext (Some x)) (λ more m. tt) path))

pub accepts_over : (x : Lexeme) (k : Sort) (todo todo_ : List Symbol) (events between events_ : List StepText) → k ≡ sort_of x → Keeps language (Some k) todo events [] between
    → Accepts language x todo events None todo_ events_
accepts_over x k todo todo_ events between events_ same h n front path =
    path_over language n front between x (h.1 n front (Some x) (ap (λ (j : Sort). Some j) (sym same)) (path_narrow language n front todo events Any (IsNext (Some x)) (λ more m. tt) path))

-- names
pub goes_on : (x : Lexeme) (c : Class) (todo todo_ : List Symbol) (events events_ : List StepText) (names names_ : List (List ℕ)) → Takes language x c Any todo events todo_ events_
    → Notes names c x true names_ → GoesOn language x todo events names true todo_ events_ names_
goes_on x c todo todo_ events events_ names names_ t h n front r = record {
  path = t.1 n front r.path;
  same = h.1 ∙ ap (λ (l : List (List ℕ)). l ++ add_if (binds c) x.text []) r.same ∙ sym t.0;
  new = subst (AreNew []) (sym h.1) (new_join [] names (add_if (binds c) x.text []) r.new h.0);
}

pub not_new : (x : Lexeme) (c : Class) (todo todo_ todo__ : List Symbol) (events events_ events__ : List StepText) (names names_ names__ : List (List ℕ)) → Takes language x c Any todo events todo_ events_
    → Notes names c x false names_ → GoesOn language x todo events names false todo__ events__ names__
not_new x c todo todo_ todo__ events events_ events__ names names_ names__ t h n front r written [] s new nx w = absurd nx
not_new x c todo todo_ todo__ events events_ events__ names names_ names__ t h n front r written (y ∷ more) s new nx w =
    let whole = append_assoc front (x ∷ []) more ∙ ap (λ (z : Lexeme). front ++ z ∷ more) nx ∙ w in
    let d = (t.1 n front r.path).down written more tt s whole in
    let e = ap named d.says ∙ named_join events_ (all_steps d.written) ∙ ap (λ (l : List (List ℕ)). l ++ named (all_steps d.written)) (t.0 ∙ ap (λ (l : List (List ℕ)). l ++ add_if (binds c) x.text []) (sym r.same)) in
    h (new_back [] names (add_if (binds c) x.text []) (new_front [] (names ++ add_if (binds c) x.text []) (named (all_steps d.written)) (subst (AreNew []) e new)))

-- by whether it is new
pub goes_or_not : (x : Lexeme) (c : Class) (todo todo_ : List Symbol) (events events_ : List StepText) (names names_ : List (List ℕ)) (new : Bool) → Takes language x c Any todo events todo_ events_
    → Notes names c x new names_ → GoesOn language x todo events names new todo_ events_ names_
goes_or_not x c todo todo_ events events_ names names_ true t h = goes_on x c todo todo_ events events_ names names_ t h
goes_or_not x c todo todo_ events events_ names names_ false t h = not_new x c todo todo_ todo_ events events_ events_ names names_ names_ t h

pub no_text : (x : Lexeme) (todo todo_ : List Symbol) (events events_ : List StepText) (names names_ : List (List ℕ)) → ((n : Rule) (front : List Lexeme) → Path language n front todo events Any → Halts language n front (Some x))
    → GoesOn language x todo events names false todo_ events_ names_
no_text x todo todo_ events events_ names names_ h n front r written more s new nx w = h n front r.path written more s nx w

-- the end
pub ends_there : (todo : List Symbol) (events events_ : List StepText) → Keeps language None todo events [] events_ → Closes language todo events true events_
ends_there todo events events_ h n words names r =
    path_end language n words events_ (subst (AreNew []) (r.same ∙ sym h.0) r.new) (h.1 n words None refl (path_narrow language n words todo events Any (IsNext None) (λ more m. tt) r.path))

pub ends_not : (todo rest : List Symbol) (events between events_ : List StepText) (s : Symbol) → IsNeeded language None s → Keeps language None todo events (s ∷ rest) between → Closes language todo events false events_
ends_not todo rest events between events_ s needed h n words path written more st new nx w =
    path_stuck language certain n words s rest between None needed (λ k e. absurd (none_not_some k e))
    (h.1 n words None refl (path_narrow language n words todo events Any (IsNext None) (λ more m. tt) path)) written more st nx w

pub omits_some : (k : Option Sort) (todo todo_ : List Symbol) (events events_ : List StepText) (o : Option Symbol) (s : Symbol) → o ≡ Some s → Omits language k todo events o todo_ events_
    → IsNeeded language k s × Keeps language k todo events (s ∷ todo_) events_
omits_some k todo todo_ events events_ o s e h = subst (λ (p : Option Symbol). Omits language k todo events p todo_ events_) e h

pub omits_none : (k : Option Sort) (todo todo_ : List Symbol) (events events_ : List StepText) (o : Option Symbol) → o ≡ None → Omits language k todo events o todo_ events_ → Keeps language k todo events [] events_
omits_none k todo todo_ events events_ o e h = subst (λ (p : Option Symbol). Omits language k todo events p todo_ events_) e h

pub accepted : (x : Lexeme) (todo todo_ : List Symbol) (events events_ : List StepText) (o : Option Class) (c : Class) → o ≡ Some c → Accepts language x todo events o todo_ events_
    → Takes language x c Any todo events todo_ events_
accepted x todo todo_ events events_ o c e h = subst (λ (p : Option Class). Accepts language x todo events p todo_ events_) e h

pub not_accepted : (x : Lexeme) (todo todo_ : List Symbol) (events events_ : List StepText) (names names_ : List (List ℕ)) (o : Option Class) → o ≡ None → Accepts language x todo events o todo_ events_
    → GoesOn language x todo events names false todo_ events_ names_
not_accepted x todo todo_ events events_ names names_ o e h = no_text x todo todo_ events events_ names names_ (subst (λ (p : Option Class). Accepts language x todo events p todo_ events_) e h)
