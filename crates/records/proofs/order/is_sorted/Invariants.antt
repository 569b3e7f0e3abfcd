-- The records are in order exactly where those up to the one before i are, as `sorted` says, and those from that one on.
use Rattle.std.proofs.Common.{◌≡◌, ◌&&◌, ◌≤◌, ◌-◌, ◌/◌, length}
use Rattle.records.specs.Records.{record_words, all_records}
use Rattle.records.specs.Order.{is_sorted}
use Rattle.records.proofs.RecordsTurnLaws.{left}
use Rattle.records.proofs.order.is_sorted.Given as goal

abbrev pub invariant-loop-i : goal.invariant-loop-i
invariant-loop-i l = record {
  from : 1 ≤ l.i;
  so_far : is_sorted (all_records l.words) ≡ l.sorted && is_sorted (left (length l.words / record_words) (l.i - 1) l.words);
}
