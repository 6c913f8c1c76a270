use Rattle.std.proofs.Common.{◌≡◌, ◌∙◌, ◌+◌, ◌-◌, ◌*◌, ◌/◌, ◌%◌, take, drop, ap, arith}
use Rattle.mem_files.specs.Files.{bytes_in}
use Rattle.mem_files.proofs.Kept.{piece_of}
use Rattle.mem_files.proofs.page_map.piece_of.Goals as goal

pub returns : goal.returns
returns c =
    let at = c.args.at in
    let count = c.args.count in
    let pages = c.args.pages.now.entries in
    let bytes = c.page_of-bytes.result.now in
    let here : 4096 * (at / 4096) + at % 4096 ≡ at = omega arith in
    let size : (at % 4096 + count) - at % 4096 ≡ count = omega arith in
    let piece = piece_of pages (at / 4096) (at % 4096) count bytes c.requires c.page_of-bytes.ensures.len c.page_of-bytes.ensures.bytes in
    ap (λ n. take n (drop (at % 4096) bytes)) size ∙ piece ∙ ap (λ z. bytes_in pages z count) here
