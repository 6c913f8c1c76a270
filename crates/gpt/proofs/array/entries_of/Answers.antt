use Rattle.std.proofs.Common.{arith}
use Rattle.gpt.specs.Entries.{entries_of}
use Rattle.gpt.proofs.EntryLaws.{entry_more, entries_done}
use Rattle.gpt.proofs.array.entries_of.Goals as goal

pub loop-index-preserved : goal.loop-index-preserved
loop-index-preserved c =
    entry_more c.loop-index.entries.items c.push.new.self.items (entries_of c.args.count c.args.array.now) c.entry_of.result c.args.count c.loop-index.index _ _ c.args.array.now
    (omega arith) (omega arith) (omega arith) c.entry_of.ensures c.in_ok-push.ensures.items c.loop-index.invariant

pub returns : goal.returns
returns c = entries_done c.loop-index.entries.items (entries_of c.args.count c.args.array.now) c.args.count c.loop-index.index c.args.array.now (omega arith) c.loop-index.invariant
