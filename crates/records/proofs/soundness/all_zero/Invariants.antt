-- All words are zero exactly where those before w are, as `zero` says, and those from w on.
use Rattle.std.proofs.Common.{◌≡◌, ◌&&◌, drop}
use Rattle.records.specs.Soundness.{all_zero}
use Rattle.records.proofs.soundness.all_zero.Given as goal

abbrev pub invariant-loop-w : goal.invariant-loop-w
invariant-loop-w l = all_zero l.words ≡ l.zero && all_zero (drop l.w-index l.words)
