use Rattle.std.proofs.Common.{length}
use Rattle.hol_conv.proofs.place.+rise.Given as goal

abbrev pub decreases-rise : goal.decreases-rise
decreases-rise l = length l.frames.now.items
