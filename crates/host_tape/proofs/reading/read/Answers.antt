use Rattle.std.proofs.Common.{◌≡◌, take, drop}
use Rattle.host_tape.specs.Tape.{header}
use Rattle.host_tape.specs.Reading.{items_in}
use Rattle.host_tape.proofs.Steps.{equal_text, found_reads}
use Rattle.host_tape.proofs.Grammar.{new_found}
use Rattle.host_tape.proofs.reading.read.Goals as goal

pub returns : goal.returns
returns c =
    let text = c.args.bytes.items in
    let head : take 13 text ≡ header = rw (c.as_slice-text.ensures.value, c.as_slice.ensures) at (equal_text (take 13 c.as_slice-text.result.now) c.as_slice.result.now c.if-ne.ensures) in
    let count = c.in_ok-count.count in
    let finds = rw c.as_slice-text.ensures.value at (c.in_ok-count.ensures) in
    new_found text (items_in count (drop 13 text)) c.new.result head (found_reads text count finds) c.new.ensures.ok c.new.ensures.err
