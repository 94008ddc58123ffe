use Rattle.std.proofs.Common.{[], ◌≡◌, map, Some, None, rules}
use Rattle.hol_terms.specs.Nameless.{nameless}
use Rattle.hol_kernel.specs.Gives.{in_kernel}
use Rattle.hol_kernel.specs.Theorem.{over}
use Rattle.hol_kernel.specs.Rules.{inst_type_of, inst_of}
use Rattle.hol_kernel.specs.declared.error.Rule.TheVariants as rule
use Rattle.hol_match.specs.Fixed.{stays_of}
use Rattle.hol_match.specs.Instance.{both}
use Rattle.hol_match.specs.Matches.{IsMostGeneral}
use Rattle.hol_match.specs.Matching.{matched}
use Rattle.hol_just.proofs.Applied.{gave, made_or_short}
use Rattle.hol_just.proofs.Expanding.{ok_after}
use Rattle.hol_just.specs.Matching.{instance_like}
use Rattle.hol_just.proofs.MatchApplied.{apart_there, found_there, inst_type_applies, inst_applies, inst_gives}
use Rattle.hol_just.proofs.matching_steps.instance_like.Goals as goal

pub term_match-requires : goal.term_match-requires
term_match-requires c = record {
  apart = apart_there c.args.th.now (nameless [] c.args.t.now) (nameless [] c.concl.result.now) c.hyps.result.now c.hyps.ensures.set c.concl.ensures.concl c.requires;
}

pub unreachable-requires : goal.unreachable-requires
unreachable-requires c =
    let t = nameless [] c.args.t.now in
    let concl = nameless [] c.concl.result.now in
    let ps = c.hyps.result.now in
    let none : matched 0 concl (stays_of (map (nameless []) ps)) t ≡ None = search rules in
    found_there c.args.th.now t concl ps c.hyps.ensures.set c.concl.ensures.concl c.requires none

pub made_in_kernel-requires : goal.made_in_kernel-requires
made_in_kernel-requires c =
    let th = c.args.th.now in
    let t = nameless [] c.args.t.now in
    let concl = nameless [] c.concl.result.now in
    let ps = c.hyps.result.now in
    let f = c.in-Some.found in
    let found : matched 0 concl (stays_of (map (nameless []) ps)) t ≡ Some (both (stays_of (map (nameless []) ps)) f) = search rules in
    let general : IsMostGeneral (stays_of (map (nameless []) ps)) concl t f = search rules in
    made_or_short in_kernel rule.InstType (over th.basis (inst_type_of th.basis c.types.result.now th.sequent)) c.inst_type.result
    (inst_type_applies th t concl ps c.hyps.ensures.set c.concl.ensures.concl c.requires f found general c.types.result.now c.types.ensures) c.inst_type.ensures.sequent

pub made_in_kernel-made-requires : goal.made_in_kernel-made-requires
made_in_kernel-made-requires c =
    let th = c.args.th.now in
    let t = nameless [] c.args.t.now in
    let concl = nameless [] c.concl.result.now in
    let ps = c.hyps.result.now in
    let f = c.in-Some.found in
    let r = c.in_ok-typed.typed in
    let found : matched 0 concl (stays_of (map (nameless []) ps)) t ≡ Some (both (stays_of (map (nameless []) ps)) f) = search rules in
    let general : IsMostGeneral (stays_of (map (nameless []) ps)) concl t f = search rules in
    made_or_short in_kernel rule.Inst (over r.basis (inst_of r.basis c.terms.result.now r.sequent)) c.inst.result
    (inst_applies th t concl ps c.hyps.ensures.set c.concl.ensures.concl c.requires f found general c.types.result.now c.types.ensures c.terms.result.now c.terms.ensures.terms c.terms.ensures.good r
    (gave in_kernel rule.InstType (over th.basis (inst_type_of th.basis c.types.result.now th.sequent)) c.inst_type.result r c.inst_type.ensures.sequent c.in_ok-typed.ensures)) c.inst.ensures.sequent

pub returns : goal.returns
returns c =
    let th = c.args.th.now in
    let t = nameless [] c.args.t.now in
    let concl = nameless [] c.concl.result.now in
    let ps = c.hyps.result.now in
    let f = c.in-Some.found in
    let r = c.in_ok-typed.typed in
    let found : matched 0 concl (stays_of (map (nameless []) ps)) t ≡ Some (both (stays_of (map (nameless []) ps)) f) = search rules in
    let general : IsMostGeneral (stays_of (map (nameless []) ps)) concl t f = search rules in
    ok_after c.made_in_kernel-made.result c.inst.result (λ new. over th.basis (instance_like th.basis t th.sequent) ≡ Some new)
    (λ new made.
    inst_gives th t concl ps c.hyps.ensures.set c.concl.ensures.concl c.requires f found general c.types.result.now c.types.ensures c.terms.result.now c.terms.ensures.terms c.terms.ensures.good r
    (gave in_kernel rule.InstType (over th.basis (inst_type_of th.basis c.types.result.now th.sequent)) c.inst_type.result r c.inst_type.ensures.sequent c.in_ok-typed.ensures) new
    (gave in_kernel rule.Inst (over r.basis (inst_of r.basis c.terms.result.now r.sequent)) c.inst.result new c.inst.ensures.sequent made))
    c.made_in_kernel-made.ensures
