use Rattle.std.proofs.Common.{◌≡◌, ◌∙◌, ◌++◌, ◌+◌, length, drop, ap, arith}
use Rattle.std.proofs.lemmas.List.{length-append, length-drop}
use Rattle.mem_files.specs.Files.{bytes_in}
use Rattle.mem_files.proofs.Kept.{bytes_in-length, bytes_in-more}
use Rattle.mem_files.proofs.Parts.{filled_more}
use Rattle.mem_files.proofs.page_map.fill.Goals as goal

pub put-requires : goal.put-requires
put-requires c =
    let pages = c.args.pages.now.entries in
    let done = c.pieces.done in
    let piece : length c.piece_of.result.now ≡ c.min-len.result = ap length c.piece_of.ensures ∙ bytes_in-length pages (c.args.at + done) c.min-len.result in
    let size : length c.pieces.out ≡ length c.args.out.now = ap length c.pieces.invariant.filled
    ∙ omega (arith, c.pieces.invariant.few, length-append (bytes_in pages c.args.at done) (drop done c.args.out.now), bytes_in-length pages c.args.at done, length-drop done c.args.out.now) in
    omega (arith, piece, size, c.min-len.ensures, c.pieces.invariant.few)

pub pieces-preserved : goal.pieces-preserved
pieces-preserved c =
    let pages = c.args.pages.now.entries in
    let done = c.pieces.done in
    let n = c.min-len.result in
    let before = bytes_in pages c.args.at done in
    let piece : length c.piece_of.result.now ≡ n = ap length c.piece_of.ensures ∙ bytes_in-length pages (c.args.at + done) n in
    record {
      few = omega (arith, c.min-len.ensures, c.pieces.invariant.few);
      filled = c.put.ensures ∙ filled_more before c.piece_of.result.now c.args.out.now c.pieces.out done n (bytes_in-length pages c.args.at done) piece c.pieces.invariant.filled
          ∙ ap (λ z. z ++ drop (done + n) c.args.out.now) (ap (λ z. before ++ z) c.piece_of.ensures ∙ bytes_in-more pages c.args.at done n);
    }
