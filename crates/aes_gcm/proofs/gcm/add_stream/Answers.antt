use Rattle.std.proofs.Common.{◌≡◌, ◌+◌, ◌*◌, length, min, arith}
use Rattle.aes_gcm.proofs.Streams.{IsUnder-more, stream_all}
use Rattle.aes_gcm.proofs.gcm.add_stream.Goals as goal
use Rattle.aes_gcm.proofs.gcm.add_stream.Goals.{then-i-len, else-i-len}

pub loop-i-preserved : goal.loop-i-preserved
loop-i-preserved c =
    let i = c.loop-i.i in
    let xs = c.args.text.now in
    let end : c.if-i-len.end ≡ min (16 * i + 16) (length xs) = elim c.if-i-len.branch [ then-i-len w ↦ omega arith | else-i-len w ↦ omega arith ] in
    let long : length c.of_stream-block.result ≡ 16 = omega arith in
    IsUnder-more c.args.aes.now c.args.nonce.now xs c.loop-i.text c.xor_in.new.part c.of_stream-block.result i c.if-i-len.end
    c.loop-i.invariant long (omega arith) end c.of_stream-block.ensures c.xor_in.ensures

pub returns : goal.returns
returns c = stream_all c.args.aes.now c.args.nonce.now c.args.text.now c.loop-i.text c.loop-i.i (omega (arith, c.loop-i.auto.i-end)) c.loop-i.invariant.1
