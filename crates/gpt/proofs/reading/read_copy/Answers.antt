use Rattle.std.proofs.Common.{ap, sym, length, ◌∙◌, arith}
use Rattle.gpt.proofs.EntryLaws.{entries_of-length}
use Rattle.gpt.proofs.Kept.{keeps_header}
use Rattle.gpt.proofs.reading.read_copy.Goals as goal

pub array_bytes-array-requires-clause-low : goal.array_bytes-array-requires-clause-low
array_bytes-array-requires-clause-low c =
    let k = keeps_header c.args.side.now c.header_bytes-front.result.now (sym c.in_default.ensures) in
    let side = c.requires.side in
    rw c.header_of-header.ensures (omega (arith, k.place.low, side.low))

pub array_bytes-array-requires-clause-high : goal.array_bytes-array-requires-clause-high
array_bytes-array-requires-clause-high c =
    let k = keeps_header c.args.side.now c.header_bytes-front.result.now (sym c.in_default.ensures) in
    rw c.header_of-header.ensures k.place.high

pub entries_fault-requires : goal.entries_fault-requires
entries_fault-requires c =
    let k = keeps_header c.args.side.now c.header_bytes-front.result.now (sym c.in_default.ensures) in
    let few = k.few in
    let count = ap (λ h. h.count) c.header_of-header.ensures in
    let len = ap length (c.as_slice.ensures.value ∙ c.in_ok-entries.ensures) ∙ entries_of-length _ _ in
    omega (arith, few, count, len)
