use Rattle.std.proofs.Common.{◌++◌, arith}
use Rattle.std.specs.List.{AllByRecursion}
use Rattle.gpt.specs.Entries.{IsEntry, array_text}
use Rattle.gpt.proofs.Written.{placed_more, placed_done}
use Rattle.gpt.specs.Image.{placed}
use Rattle.gpt.proofs.ImageLaws.{taken-drop, part_more, parts_done}
use Rattle.gpt.proofs.writing.put_parts.Goals as goal

pub entry_for-requires-clause-room : goal.entry_for-requires-clause-room
entry_for-requires-clause-room c =
    let e = taken-drop c.args.parts.now c.loop-part.part-index (omega arith) in
    omega (arith, e, c.loop-part.invariant.left, c.requires.few)

pub overflow_add-first : goal.overflow_add-first
overflow_add-first c =
    let e = taken-drop c.args.parts.now c.loop-part.part-index (omega arith) in
    omega (arith, e, c.loop-part.invariant.left, c.requires.few)

pub loop-part-preserved : goal.loop-part-preserved
loop-part-preserved c =
    let e = taken-drop c.args.parts.now c.loop-part.part-index (omega arith) in
    let all = c.args.out.now.items ++ array_text (placed 40 c.args.parts.now) in
    record {
      text = part_more c.loop-part.out.items c.put_entry.new.out.items all c.loop-part.first c.loop-part.part-index c.args.parts.now c.entry_for.result (omega arith) c.entry_for.ensures c.in_ok-put_entry.ensures.text c.loop-part.invariant.text;
      fit = placed_more (AllByRecursion IsEntry (placed 40 c.args.parts.now)) c.loop-part.first c.loop-part.part-index c.args.parts.now c.entry_for.result (omega arith) c.entry_for.ensures c.in_ok-put_entry.ensures.fits c.loop-part.invariant.fit;
      left = omega (arith, e, c.loop-part.invariant.left);
    }

pub returns-clause-text : goal.returns-clause-text
returns-clause-text c =
    let all = c.args.out.now.items ++ array_text (placed 40 c.args.parts.now) in
    parts_done c.loop-part.out.items all c.loop-part.first c.loop-part.part-index c.args.parts.now (omega arith) c.loop-part.invariant.text

pub returns-clause-fit : goal.returns-clause-fit
returns-clause-fit c =
    placed_done (AllByRecursion IsEntry (placed 40 c.args.parts.now)) c.loop-part.first c.loop-part.part-index c.args.parts.now (omega arith) c.loop-part.invariant.fit
