-- The documents over which the program begins, from its words.
use Rattle.std.specs.Prelude.{◌≡◌, ℕ, List, [], ◌∷◌, codes}
use Rattle.clap.specs.Words.{Text}
use Rattle.hol_goal.specs.declared.tac_code.TacCode.{TacCode}
use Rattle.hol_goal.specs.declared.tac_code.TacCode.TheVariants.{AllTac, NoTac, ReflTac, AcceptTac, ConjTac, Disj1Tac, Disj2Tac, EqTac, DischTac, GenTac, XGenTac, ExistsTac, SpecTac, MpTac, AssumeTac, ContrTac, ChooseTac, XChooseTac, DisjCasesTac, Subst1Tac, ApTermTac, ApThmTac, MkCombTac, UndischTac, StripTac, StripAssumeTac, BetaTac, MatchMpTac, RewriteTac, OnceRewriteTac, AsmRewriteTac, OnceAsmRewriteTac, PureRewriteTac}
use Rattle.hol_session.specs.Machine.{Counted}
use Rattle.hol_serve.specs.Settings.{AreTaken, IsTurns, IsCache}

-- the functions on goals that the program knows, by name and code
abbrev pub tacs : List (List ℕ × TacCode)
tacs =
    (codes "ALL_TAC", AllTac) ∷ (codes "NO_TAC", NoTac) ∷ (codes "REFL_TAC", ReflTac) ∷ (codes "ACCEPT_TAC", AcceptTac) ∷ (codes "CONJ_TAC", ConjTac)
    ∷ (codes "DISJ1_TAC", Disj1Tac) ∷ (codes "DISJ2_TAC", Disj2Tac) ∷ (codes "EQ_TAC", EqTac) ∷ (codes "DISCH_TAC", DischTac) ∷ (codes "GEN_TAC", GenTac)
    ∷ (codes "X_GEN_TAC", XGenTac) ∷ (codes "EXISTS_TAC", ExistsTac) ∷ (codes "SPEC_TAC", SpecTac) ∷ (codes "MP_TAC", MpTac) ∷ (codes "ASSUME_TAC", AssumeTac)
    ∷ (codes "CONTR_TAC", ContrTac) ∷ (codes "CHOOSE_TAC", ChooseTac) ∷ (codes "X_CHOOSE_TAC", XChooseTac) ∷ (codes "DISJ_CASES_TAC", DisjCasesTac) ∷ (codes "SUBST1_TAC", Subst1Tac)
    ∷ (codes "AP_TERM_TAC", ApTermTac) ∷ (codes "AP_THM_TAC", ApThmTac) ∷ (codes "MK_COMB_TAC", MkCombTac) ∷ (codes "UNDISCH_TAC", UndischTac)
    ∷ (codes "STRIP_TAC", StripTac) ∷ (codes "STRIP_ASSUME_TAC", StripAssumeTac) ∷ (codes "BETA_TAC", BetaTac) ∷ (codes "MATCH_MP_TAC", MatchMpTac)
    ∷ (codes "REWRITE_TAC", RewriteTac) ∷ (codes "ONCE_REWRITE_TAC", OnceRewriteTac) ∷ (codes "ASM_REWRITE_TAC", AsmRewriteTac) ∷ (codes "ONCE_ASM_REWRITE_TAC", OnceAsmRewriteTac)
    ∷ (codes "PURE_REWRITE_TAC", PureRewriteTac) ∷ []

-- no theories stand; they are run by a table of functions and a number of turns, and keep a number of outcomes; and nothing was run
abbrev pub begun_by : List (List ℕ × TacCode) → ℕ → ℕ → Counted
begun_by table turns cache = record { documents = record { theories = []; setup = record { table = table; turns = turns }; cache = cache }; ran = 0 }

-- clap takes the words; the documents are run by the table above and the number of turns that the words name, or 10,000, and keep the number of outcomes that the words
-- name, or 256
abbrev pub IsBegun : List Text → Counted → Type 0
IsBegun words docs = AreTaken words × (turns : ℕ) × (cache : ℕ) × IsTurns words turns × IsCache words cache × (docs ≡ begun_by tacs turns cache)

-- this holds of documents that the program begins with, as the words say, and of those that it ends with
abbrev pub Begins : List Text → (Counted → Counted → Type 0) → Type 0
Begins words P = (old : Counted) × (new : Counted) × IsBegun words old × P old new
