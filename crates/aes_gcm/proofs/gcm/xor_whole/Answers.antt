use Rattle.std.proofs.Common.{◌≡◌, ◌∙◌, ℕ, List, ap, bit_xor, length, take, sym, arith}
use Rattle.std.proofs.lemmas.List.{take_all}
use Rattle.std.proofs.lemmas.Simd.{length-zip2, put_chunk_whole}
use lib.Lanes.{put_chunk, zip2}
use Rattle.aes_core.proofs.Mixing.{zip2_is}
use Rattle.aes_gcm.proofs.gcm.xor_whole.Goals as goal

pub returns : goal.returns
returns c =
    let part = c.args.part.now in
    let block = c.args.block.now in
    let long : length block ≡ 16 = omega arith in
    let whole : take 16 part ≡ part = take_all 16 part (omega arith) in
    let same : length part ≡ length block = omega arith in
    ap (λ (l : List ℕ). put_chunk 0 part (zip2 bit_xor l block)) whole
    ∙ put_chunk_whole part (zip2 bit_xor part block) (sym (length-zip2 bit_xor part block same))
    ∙ zip2_is part block
