use Rattle.std.proofs.Common.{◌≡◌, arith, ap, sym, ◌∙◌, not, true≢false}
use Rattle.std.proofs.lemmas.Grind.{common_steps}
use lib.Bits.{bit_and}
use Rattle.hol_terms.specs.Filter.{filter_of, constant_filter_of}
use Rattle.hol_subst.proofs.names.lacks_all.Goals as goal

pub returns-then-not-meets : goal.returns-then-not-meets
returns-then-not-meets c h =
    let free : bit_and (filter_of c.args.term.now) c.args.names.bits ≡ 0 = grind (arith, common_steps) in
    let constants : bit_and (constant_filter_of c.args.term.now) c.args.names.bits ≡ 0 = grind (arith, common_steps) in
    record { free = free; constants = constants }

pub returns-else-not-meets : goal.returns-else-not-meets
returns-else-not-meets c h = absurd (true≢false (sym h ∙ ap not c.if-not-meets.false))
