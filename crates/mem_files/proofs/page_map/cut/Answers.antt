use Rattle.std.proofs.Common.{◌≤◌, ◌<◌, ◌+◌, ◌*◌, arith}
use Rattle.mem_files.proofs.Kept.{cut_at}
use Rattle.mem_files.proofs.page_map.cut.Goals as goal
use Rattle.mem_files.proofs.page_map.cut.Goals.{then-from-eq0, else-from-eq0}

pub returns : goal.returns
returns c =
    let size = c.args.size in
    let limit = c.if-from-eq0.limit in
    let low : size ≤ 4096 * limit = elim c.if-from-eq0.branch [ then-from-eq0 w ↦ omega arith | else-from-eq0 w ↦ omega arith ] in
    let high : 4096 * limit < size + 4096 = elim c.if-from-eq0.branch [ then-from-eq0 w ↦ omega arith | else-from-eq0 w ↦ omega arith ] in
    cut_at c.args.pages.now.entries c.drop_from.new.pages.entries c.clear_rest.new.pages.entries size limit low high c.drop_from.ensures c.clear_rest.ensures
