use Rattle.std.proofs.Common.{◌≡◌, ◌++◌, ◌∷◌, [], map, ◌∙◌, rules}
use Rattle.std.specs.List.{zip}
use Rattle.std.proofs.lemmas.List.{nil_from_length}
use Rattle.hol_terms.specs.Nameless.{nameless}
use Rattle.hol_steps.specs.Matching.{kept_of}
use Rattle.hol_steps.proofs.KeptVariables.{kept_next, kept_last, kept_short}
use Rattle.hol_steps.proofs.keeping.kept.Goals as goal

pub own-preserved : goal.own-preserved
own-preserved c =
    let inv = c.own.invariant in
    let s = nameless [] c.args.s.now in
    let t = nameless [] c.args.t.now in
    let is : c.own.own.now ≡ c.in-Some.v.now ∷ c.in-Some.vs.now = search rules in
    let are : c.own.apart.now ≡ c.in-Some-split_first.u.now ∷ c.in-Some-split_first.us.now = search rules in
    record {
      types = c.in_ok-keep.ensures.types ∙ inv.types;
      terms =
          kept_next s t c.args.found.types (c.args.found.terms ++ kept_of s t c.args.found.types (map (nameless []) c.args.avoid.items) (zip c.args.own.now c.args.apart.now)) c.own.own.now c.in-Some.vs.now c.own.apart.now
          c.in-Some-split_first.us.now c.in-Some.v.now c.in-Some-split_first.u.now (map (nameless []) c.own.avoid.items) (map (nameless []) c.keep.new.avoid.items) c.own.whole c.keep.new.whole is are inv.types c.in_ok-keep.ensures inv.terms;
    }

pub returns : goal.returns
returns c =
    let all = c.args.found.terms ++ kept_of (nameless [] c.args.s.now) (nameless [] c.args.t.now) c.args.found.types (map (nameless []) c.args.avoid.items) (zip c.args.own.now c.args.apart.now) in
    kept_last (nameless [] c.args.s.now) (nameless [] c.args.t.now) c.args.found.types all c.own.own.now c.own.apart.now (map (nameless []) c.own.avoid.items) c.own.whole (nil_from_length c.own.own.now c.in_default.ensures.cases)
    c.own.invariant.types c.own.invariant.terms

pub returns-in_default-split_first : goal.returns-in_default-split_first
returns-in_default-split_first c =
    let all = c.args.found.terms ++ kept_of (nameless [] c.args.s.now) (nameless [] c.args.t.now) c.args.found.types (map (nameless []) c.args.avoid.items) (zip c.args.own.now c.args.apart.now) in
    kept_short (nameless [] c.args.s.now) (nameless [] c.args.t.now) c.args.found.types all c.own.own.now c.own.apart.now (map (nameless []) c.own.avoid.items) c.own.whole
    (nil_from_length c.own.apart.now c.in_default-split_first.ensures.cases) c.own.invariant.types c.own.invariant.terms
