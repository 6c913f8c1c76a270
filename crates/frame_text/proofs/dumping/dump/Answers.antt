use Rattle.std.proofs.Common.{arith}
use Rattle.frame_text.proofs.Streams.{dumped_next, smaller, wrong_start}
use Rattle.frame_text.proofs.dumping.dump.Goals as goal

pub loop-channel-preserved-in-Frame : goal.loop-channel-preserved-in-Frame
loop-channel-preserved-in-Frame c =
    let f = c.in-Frame.ensures in
    dumped_next c.args.bytes.now c.loop-channel.rest.now c.loop-channel.out.items c.put_line.new.out.items c.in-Frame.payload.now f.0 c.in-Frame.channel c.loop-channel.splitter c.done.new.self
    c.loop-channel.invariant f.1 (λ i. omega (arith, c.type_inv.bytes i)) c.in-Ok-put_line.ensures
    (c.done.ensures c.in-Frame.channel c.in-Frame.payload.now f.0 f.1)

pub returns-in-Bad-clause-fault : goal.returns-in-Bad-clause-fault
returns-in-Bad-clause-fault c = rw c.bad.ensures (wrong_start c.args.bytes.now c.loop-channel.rest.now c.loop-channel.out.items c.loop-channel.splitter c.loop-channel.invariant c.in-Bad.ensures)

pub loop-channel-smaller-in-Frame : goal.loop-channel-smaller-in-Frame
loop-channel-smaller-in-Frame c =
    let f = c.in-Frame.ensures in
    smaller c.loop-channel.rest.now c.in-Frame.payload.now f.0 c.in-Frame.channel c.loop-channel.splitter c.done.new.self f.1 (c.done.ensures c.in-Frame.channel c.in-Frame.payload.now f.0 f.1)
