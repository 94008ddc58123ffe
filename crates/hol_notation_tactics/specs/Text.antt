-- Theorem and tactic expressions as they are written, before names are resolved. Names are lists of bytes.
-- Source: this project, after the HOL Light Reference Manual's rules (ASSUME, REFL, SPEC, SYM, CONJUNCT1, CONJUNCT2, MP,
-- INST_TYPE) and tacticals (THEN, THENL, ORELSE, REPEAT, TRY, CHANGED_TAC, EVERY, FIRST, REPLICATE_TAC, DISCH_THEN,
-- POP_ASSUM, FIRST_ASSUM, SUBGOAL_THEN).
use Rattle.std.specs.Prelude.{ℕ, ◌+◌, List, [], ◌∷◌}
use Rattle.hol_notation_terms.specs.Text.{QuotationText, TypeQuotationText}

-- a type, and the type variable that it is put for
pub record TypePairText : Type 0 where
  pub new_type : TypeQuotationText
  pub old_type : TypeQuotationText

-- a cited theorem, or a rule applied to what it takes
pub data ThmText : Type 0 where
  Cited : List ℕ → ThmText
  Assume : QuotationText → ThmText
  Refl : QuotationText → ThmText
  Spec : QuotationText → ThmText → ThmText
  Sym : ThmText → ThmText
  Conjunct1 : ThmText → ThmText
  Conjunct2 : ThmText → ThmText
  Mp : ThmText → ThmText → ThmText
  InstType : List TypePairText → ThmText → ThmText

-- an argument of a TAC: a term, a theorem, two terms, or theorems
pub data ArgumentText : Type 0 where
  Term : QuotationText → ArgumentText
  Theorem : ThmText → ArgumentText
  Pair : QuotationText → QuotationText → ArgumentText
  Theorems : List ThmText → ArgumentText

-- a TAC by its name, with its arguments
pub record CallText : Type 0 where
  pub name : List ℕ
  pub arguments : List ArgumentText

mutual
  -- a call, or a tactical applied to what it takes; in the place of a theorem tactic a call without its last argument
  pub data TacText : Type 0 where
    Call : CallText → TacText
    Then : TacText → TacText → TacText
    ThenL : TacText → TacTexts → TacText
    OrElse : TacText → TacText → TacText
    Repeat : TacText → TacText
    Try : TacText → TacText
    Changed : TacText → TacText
    Every : TacTexts → TacText
    First : TacTexts → TacText
    Replicate : ℕ → TacText → TacText
    DischThen : CallText → TacText
    PopAssum : CallText → TacText
    FirstAssum : CallText → TacText
    SubgoalThen : QuotationText → CallText → TacText

  pub data TacTexts : Type 0 where
    no_tacs : TacTexts
    more_tacs : TacText → TacTexts → TacTexts

-- tactic expressions from a list
abbrev pub tac_texts : List TacText → TacTexts
tac_texts [] = no_tacs
tac_texts (t ∷ ts) = more_tacs t (tac_texts ts)

-- the number of nodes
abbrev pub thm_nodes : ThmText → ℕ
thm_nodes (Cited name) = 1
thm_nodes (Assume p) = 1
thm_nodes (Refl t) = 1
thm_nodes (Spec t th) = 1 + thm_nodes th
thm_nodes (Sym th) = 1 + thm_nodes th
thm_nodes (Conjunct1 th) = 1 + thm_nodes th
thm_nodes (Conjunct2 th) = 1 + thm_nodes th
thm_nodes (Mp a b) = 1 + thm_nodes a + thm_nodes b
thm_nodes (InstType ps th) = 1 + thm_nodes th

abbrev mutual
  pub tac_nodes : TacText → ℕ
  tac_nodes (Call c) = 1
  tac_nodes (Then t u) = 1 + tac_nodes t + tac_nodes u
  tac_nodes (ThenL t us) = 1 + tac_nodes t + tacs_nodes us
  tac_nodes (OrElse t u) = 1 + tac_nodes t + tac_nodes u
  tac_nodes (Repeat t) = 1 + tac_nodes t
  tac_nodes (Try t) = 1 + tac_nodes t
  tac_nodes (Changed t) = 1 + tac_nodes t
  tac_nodes (Every ts) = 1 + tacs_nodes ts
  tac_nodes (First ts) = 1 + tacs_nodes ts
  tac_nodes (Replicate n t) = 1 + tac_nodes t
  tac_nodes (DischThen c) = 1
  tac_nodes (PopAssum c) = 1
  tac_nodes (FirstAssum c) = 1
  tac_nodes (SubgoalThen p c) = 1

  pub tacs_nodes : TacTexts → ℕ
  tacs_nodes no_tacs = 0
  tacs_nodes (more_tacs t ts) = tac_nodes t + tacs_nodes ts
