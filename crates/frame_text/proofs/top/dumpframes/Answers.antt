use Rattle.std.proofs.Common.{◌≡◌, ◌∙◌, refl, rules, length}
use Rattle.frame_text.specs.Programs.{Ends, Faults}
use Rattle.frame_text.proofs.Programs.{dumped_bad}
use Rattle.frame_text.proofs.top.dumpframes.Goals as goal

pub returns-in-Err-At : goal.returns-in-Err-At
returns-in-Err-At g c =
    let old : Ends = record { input = g.S.Source.left c.args.input.now; out = g.K.Sink.holds c.args.out.now; log = g.L.Sink.holds c.args.log.now } in
    let new : Ends = record { input = g.S.Source.left c.read_all.new.source; out = g.K.Sink.holds c.args.out.now; log = g.L.Sink.holds c.write-in-Err-At.new.sink } in
    let before : Faults = record { input = g.S.Source.faults c.args.input.now; out = g.K.Sink.faults c.args.out.now; log = g.L.Sink.faults c.args.log.now } in
    let after : Faults = record { input = g.S.Source.faults c.read_all.new.source; out = g.K.Sink.faults c.args.out.now; log = g.L.Sink.faults c.write-in-Err-At.new.sink } in
    let none : length c.args.words.now ≡ 0 = search rules in
    dumped_bad (length c.args.words.now) old new before after c.write-in-Err-At.result c.in-Ok.bytes.items c.bytes.result.now c.in-Err-At.byte c.in-Err-At.kind none c.in-Ok.ensures.all
    (rw c.deref.ensures.value at (rw c.in-Err-At.field-0-is at c.in-Err-At.ensures.fault)) refl (c.bytes.ensures ∙ c.frame_fault.ensures) c.write-in-Err-At.ensures
