use Rattle.std.proofs.Common.{◌≡◌, ◌∙◌, ◌+◌, ◌-◌, ◌*◌, ℕ, take, drop, ap, arith}
use Rattle.host_traits.specs.Held.{tree_with}
use Rattle.mem_files.specs.Files.{page_in, stored_page}
use Rattle.mem_files.proofs.Trees.{level_more}
use Rattle.mem_files.proofs.verity.put_level.Goals as goal

pub pages-preserved : goal.pages-preserved
pages-preserved c = λ l i.
    let stored = c.args.stored.now in
    let at = 4096 * c.place.result in
    let len : (at + 4096) - at ≡ 4096 = omega arith in
    let piece : take ((at + 4096) - at) (drop at stored) ≡ stored_page c.args.geometry.now stored c.args.level c.pages.index =
    ap (λ (n : ℕ). take n (drop at stored)) len ∙ ap (λ (n : ℕ). take 4096 (drop (4096 * n) stored)) c.place.ensures.value in
    level_more c.args.level c.pages.index (page_in c.put.new.self) (page_in c.pages.tree) (page_in c.args.tree.now) (stored_page c.args.geometry.now stored)
    (λ m j. c.in_ok-put.ensures.ok m j ∙ ap (λ p. tree_with (page_in c.pages.tree) c.args.level c.pages.index p m j) piece) c.pages.invariant l i
