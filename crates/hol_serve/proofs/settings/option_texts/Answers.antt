use Rattle.std.proofs.Common.{rules, ap, ap₂, refl, codes, true, map, ◌≡◌, ◌∙◌, sym, subst, inl, inr}
use Rattle.std.proofs.lemmas.Bool.{true≢false, false_from_ne_true}
use Rattle.clap.specs.Words.{App, Kinds, IsAmong, app_of, first_of, is_simple, is_simple_and_free, found_of, rows_of, matches_of, rule_of, with_rule, takes, fault_of, kind_of}
use Rattle.clap.specs.declared.error.ErrorKind.TheVariants.{OutOfMemory}
use Rattle.clap.proofs.OnLiterals.{clap_on_literals}
use Rattle.clap.proofs.WalkLemmas.{first_value-rows}
use Rattle.hol_serve.specs.Settings.{options, option_text, faults_of, is_taken, turns_rule, cache_rule}
use Rattle.hol_serve.proofs.settings.option_texts.Goals as goal

simple : is_simple options ≡ true
unfolding clap_on_literals
simple = refl

free : is_simple_and_free options ≡ true
unfolding clap_on_literals
free = refl

pub returns-in-Ok-clause-turns : goal.returns-in-Ok-clause-turns
unfolding option_text
returns-in-Ok-clause-turns c =
    let turns_is : rule_of c.long-turns.result ≡ turns_rule = search rules in
    let cache_is : rule_of c.long-cache.result ≡ cache_rule = search rules in
    let app_is : app_of c.in_ok-command.command ≡ options = c.in_ok-command.ensures.shape (search rules)
    ∙ ap₂ with_rule (c.in_ok-arg.ensures.shape (search rules) ∙ ap₂ with_rule c.new-3.ensures.app turns_is) cache_is in
    let rows : rows_of (found_of c.in-Ok.matches) ≡ matches_of options (map (λ w. w.now) c.args.words.now) =
    (c.in-Ok.ensures.matches (ap is_simple app_is ∙ simple)).0 ∙ ap (λ (a : App). matches_of a (map (λ w. w.now) c.args.words.now)) app_is in
    c.get_str.ensures ∙ first_value-rows (found_of c.in-Ok.matches) (codes "turns") ∙ ap (first_of (codes "turns")) rows

pub returns-in-Ok-clause-cache : goal.returns-in-Ok-clause-cache
unfolding option_text
returns-in-Ok-clause-cache c =
    let turns_is : rule_of c.long-turns.result ≡ turns_rule = search rules in
    let cache_is : rule_of c.long-cache.result ≡ cache_rule = search rules in
    let app_is : app_of c.in_ok-command.command ≡ options = c.in_ok-command.ensures.shape (search rules)
    ∙ ap₂ with_rule (c.in_ok-arg.ensures.shape (search rules) ∙ ap₂ with_rule c.new-3.ensures.app turns_is) cache_is in
    let rows : rows_of (found_of c.in-Ok.matches) ≡ matches_of options (map (λ w. w.now) c.args.words.now) =
    (c.in-Ok.ensures.matches (ap is_simple app_is ∙ simple)).0 ∙ ap (λ (a : App). matches_of a (map (λ w. w.now) c.args.words.now)) app_is in
    c.get_str-in-Ok.ensures ∙ first_value-rows (found_of c.in-Ok.matches) (codes "cache") ∙ ap (first_of (codes "cache")) rows

pub returns-in-Ok-clause-taken : goal.returns-in-Ok-clause-taken
unfolding faults_of
returns-in-Ok-clause-taken c =
    let turns_is : rule_of c.long-turns.result ≡ turns_rule = search rules in
    let cache_is : rule_of c.long-cache.result ≡ cache_rule = search rules in
    let app_is : app_of c.in_ok-command.command ≡ options = c.in_ok-command.ensures.shape (search rules)
    ∙ ap₂ with_rule (c.in_ok-arg.ensures.shape (search rules) ∙ ap₂ with_rule c.new-3.ensures.app turns_is) cache_is in
    ap (λ (a : App). fault_of a (map (λ w. w.now) c.args.words.now)) (sym app_is) ∙ c.in-Ok.ensures.kinds (ap is_simple_and_free app_is ∙ free)

pub returns-clause-bad : goal.returns-clause-bad
unfolding faults_of is_taken
returns-clause-bad c e =
    let turns_is : rule_of c.long-turns.result ≡ turns_rule = search rules in
    let cache_is : rule_of c.long-cache.result ≡ cache_rule = search rules in
    let app_is : app_of c.in_ok-command.command ≡ options = c.in_ok-command.ensures.shape (search rules)
    ∙ ap₂ with_rule (c.in_ok-arg.ensures.shape (search rules) ∙ ap₂ with_rule c.new-3.ensures.app turns_is) cache_is in
    let not_memory : kind_of c.in-Err.error ≡ OutOfMemory → ⊥ = λ none.
    let same : c.eq.result ≡ true = rw (c.kind.ensures ∙ none) at c.eq.ensures in
    true≢false (sym same ∙ c.if-eq.false) in (
      false_from_ne_true (takes options (map (λ w. w.now) c.args.words.now)) (λ taken.
          not_memory (c.in-Err.ensures.passes (ap (λ (a : App). takes a (map (λ w. w.now) c.args.words.now)) app_is ∙ taken))),
      λ none. elim (c.in-Err.ensures.kinds (ap is_simple_and_free app_is ∙ free)) [
        | inl memory ↦ not_memory memory
        | inr among ↦ subst (λ (kinds : Kinds). IsAmong (kind_of c.in-Err.error) kinds) (ap (λ (a : App). fault_of a (map (λ w. w.now) c.args.words.now)) app_is ∙ none) among
      ],
    )
