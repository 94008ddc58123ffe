use Rattle.std.proofs.Common.{◌≡◌, ◌<◌, ◌+◌, ◌++◌, length, get_or, take, drop, false, ◌||◌, bytes_eq, ap, sym, ◌∙◌, arith}
use Rattle.hol_types.specs.Names.{is_among}
use Rattle.hol_terms.specs.Primes.{with_primes}
use Rattle.hol_print.proofs.Primes.{table_next, written}
use Rattle.hol_print.proofs.names.taken_primes.Goals as goal

pub loop-name-preserved : goal.loop-name-preserved
loop-name-preserved c =
    let len : c.loop-name.taken.len ≡ length c.loop-name.taken.items = omega (arith, c.loop-name.taken.ok.0) in
    let kept : length c.mark.new.taken ≡ length c.loop-name.taken.items = omega arith in
    let all : take c.loop-name.taken.len (c.mark.new.taken ++ drop (length c.mark.new.taken) c.loop-name.taken.items) ≡ c.mark.new.taken = written _ _ _ len kept in
    record {
      long = ap length all ∙ kept ∙ c.loop-name.invariant.long;
      says = λ k h. (
          let l : k < length c.deref_mut.result.now = omega arith in
          let says : get_or c.mark.new.taken k false ≡ (get_or c.loop-name.taken.items k false || bytes_eq (with_primes k c.args.base.now) c.name-item.result) =
          c.mark.ensures.says k l ∙ ap (λ ts. get_or ts k false || bytes_eq (with_primes k c.args.base.now) c.name-item.result) c.deref_mut.ensures.value in
          table_next c.args.names.now c.loop-name.name-index c.name-item.result (with_primes k c.args.base.now) _ _ _ c.loop-name-test.true c.name-item.is (c.loop-name.invariant.says k h) says
          ∙ ap (λ ts. get_or ts k false || is_among (drop (c.loop-name.name-index + 1) c.args.names.now) (with_primes k c.args.base.now)) (sym all)
          );
    }
