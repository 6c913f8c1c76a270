use Rattle.std.proofs.Common.{◌≤◌, ◌-◌, length, drop}
use Rattle.host_tape.specs.Reading.{Counted}
use Rattle.host_tape.proofs.reading.count_records.Given as goal

abbrev pub invariant-loop-at : goal.invariant-loop-at
invariant-loop-at l = record {
  low : 13 ≤ l.at;
  high : l.at ≤ length l.text;
  few : l.count ≤ l.at;
  reads : Counted (drop 13 l.text) l.count (drop l.at l.text);
}

abbrev pub decreases-loop-at : goal.decreases-loop-at
decreases-loop-at l = length l.text - l.at
