-- How the logic stores set-ups: the codes of functions on goals by their numbers.
use Rattle.std.specs.Prelude.{◌≡◌, ◌==◌, ℕ, List, if◌then◌else◌, refl}
use Rattle.std.specs.Coded.{Coded, code_by, coded×, coded_ℕ, coded_list}
use Rattle.hol_types.specs.Code.{coded_name}
use Rattle.hol_goal.specs.declared.tac_code.TacCode.{TacCode}
use Rattle.hol_goal.specs.declared.tac_code.TacCode.TheVariants.{AllTac, NoTac, ReflTac, AcceptTac, ConjTac, Disj1Tac, Disj2Tac, EqTac, DischTac, GenTac, XGenTac, ExistsTac, SpecTac, MpTac, AssumeTac, ContrTac, ChooseTac, XChooseTac, DisjCasesTac, Subst1Tac, ApTermTac, ApThmTac, MkCombTac, UndischTac, StripAssumeTac, StripTac, MatchMpTac, BetaTac, RewriteTac, OnceRewriteTac, AsmRewriteTac, OnceAsmRewriteTac, PureRewriteTac}
use Rattle.hol_exec.specs.Setup.{SetupValue}

abbrev tac_number : TacCode → ℕ
tac_number AllTac = 0
tac_number NoTac = 1
tac_number ReflTac = 2
tac_number AcceptTac = 3
tac_number ConjTac = 4
tac_number Disj1Tac = 5
tac_number Disj2Tac = 6
tac_number EqTac = 7
tac_number DischTac = 8
tac_number GenTac = 9
tac_number XGenTac = 10
tac_number ExistsTac = 11
tac_number SpecTac = 12
tac_number MpTac = 13
tac_number AssumeTac = 14
tac_number ContrTac = 15
tac_number ChooseTac = 16
tac_number XChooseTac = 17
tac_number DisjCasesTac = 18
tac_number Subst1Tac = 19
tac_number ApTermTac = 20
tac_number ApThmTac = 21
tac_number MkCombTac = 22
tac_number UndischTac = 23
tac_number StripAssumeTac = 24
tac_number StripTac = 25
tac_number MatchMpTac = 26
tac_number BetaTac = 27
tac_number RewriteTac = 28
tac_number OnceRewriteTac = 29
tac_number AsmRewriteTac = 30
tac_number OnceAsmRewriteTac = 31
tac_number PureRewriteTac = 32

abbrev tac_at : ℕ → TacCode
tac_at n =
    if n == 0 then AllTac else if n == 1 then NoTac else if n == 2 then ReflTac else if n == 3 then AcceptTac else if n == 4 then ConjTac else
    if n == 5 then Disj1Tac else if n == 6 then Disj2Tac else if n == 7 then EqTac else if n == 8 then DischTac else if n == 9 then GenTac else
    if n == 10 then XGenTac else if n == 11 then ExistsTac else if n == 12 then SpecTac else if n == 13 then MpTac else
    if n == 14 then AssumeTac else if n == 15 then ContrTac else if n == 16 then ChooseTac else if n == 17 then XChooseTac else
    if n == 18 then DisjCasesTac else if n == 19 then Subst1Tac else if n == 20 then ApTermTac else if n == 21 then ApThmTac else
    if n == 22 then MkCombTac else if n == 23 then UndischTac else if n == 24 then StripAssumeTac else if n == 25 then StripTac else
    if n == 26 then MatchMpTac else if n == 27 then BetaTac else if n == 28 then RewriteTac else if n == 29 then OnceRewriteTac else
    if n == 30 then AsmRewriteTac else if n == 31 then OnceAsmRewriteTac else PureRewriteTac

pub tac_back : (code : TacCode) → tac_at (tac_number code) ≡ code
tac_back AllTac = refl
tac_back NoTac = refl
tac_back ReflTac = refl
tac_back AcceptTac = refl
tac_back ConjTac = refl
tac_back Disj1Tac = refl
tac_back Disj2Tac = refl
tac_back EqTac = refl
tac_back DischTac = refl
tac_back GenTac = refl
tac_back XGenTac = refl
tac_back ExistsTac = refl
tac_back SpecTac = refl
tac_back MpTac = refl
tac_back AssumeTac = refl
tac_back ContrTac = refl
tac_back ChooseTac = refl
tac_back XChooseTac = refl
tac_back DisjCasesTac = refl
tac_back Subst1Tac = refl
tac_back ApTermTac = refl
tac_back ApThmTac = refl
tac_back MkCombTac = refl
tac_back UndischTac = refl
tac_back StripAssumeTac = refl
tac_back StripTac = refl
tac_back MatchMpTac = refl
tac_back BetaTac = refl
tac_back RewriteTac = refl
tac_back OnceRewriteTac = refl
tac_back AsmRewriteTac = refl
tac_back OnceAsmRewriteTac = refl
tac_back PureRewriteTac = refl

abbrev pub coded_setup : Coded SetupValue
coded_setup =
    code_by (List (List ℕ × TacCode) × ℕ)
    (coded× (coded_list (coded× coded_name (code_by ℕ coded_ℕ tac_number tac_at tac_back))) coded_ℕ)
    (λ s. (s.table, s.turns))
    (λ p. record { table = p.0; turns = p.1 })
    (λ _. refl)
