use Rattle.std.proofs.Common.{◌≡◌, ◌<◌, length, sym, refl, rules}
use Rattle.hol_kernel.specs.Signature.{has_key}
use Rattle.hol_kernel.specs.Clashing.{key_at}
use Rattle.hol_kernel.proofs.Finding.{front_sorted, back_sorted, front_shorter, back_shorter, found_front, found_back}
use Rattle.hol_kernel.proofs.find.+find_named.Goals as goal

pub find_named-requires : goal.find_named-requires
find_named-requires n c =
    let shorter : length c.split_at.result.0.now < length c.args.items.now = front_shorter (length c.args.items.now) (length c.split_at.result.0.now) (search rules) c.split_at.ensures.front_len in (
      search rules,
      front_sorted c.args.items.now c.split_at.result.0.now c.split_at.result.1.now c.split_at.ensures.by_index.0 c.requires,
    )

pub find_named-requires-in-None : goal.find_named-requires-in-None
find_named-requires-in-None n c =
    let shorter : length c.split_at.result.1.now < length c.args.items.now = back_shorter (length c.args.items.now) (length c.split_at.result.1.now) (search rules) c.split_at.ensures.back_len in (
      search rules,
      back_sorted c.args.items.now c.split_at.result.0.now c.split_at.result.1.now c.split_at.ensures.by_index.0 c.requires,
    )

pub returns-in-Some : goal.returns-in-Some
returns-in-Some n c =
    found_front (λ x. has_key x (key_at c.args.kind c.args.name.now)) c.args.items.now c.split_at.result.0.now c.split_at.result.1.now c.in-Some.item.now c.split_at.ensures.by_index.0 c.in-Some.ensures

pub returns-in-None : goal.returns-in-None
returns-in-None n c =
    found_back (λ x. has_key x (key_at c.args.kind c.args.name.now)) c.args.items.now c.split_at.result.0.now c.split_at.result.1.now _ c.split_at.ensures.by_index.0 c.in-None.ensures c.find_named-in-None.ensures
