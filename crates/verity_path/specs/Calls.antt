-- What the host is asked for a page.
use Rattle.std.specs.Prelude.{◌≡◌, ℕ, ◌+◌, ◌-◌, ◌*◌, ◌/◌, ◌%◌, ◌^◌, ◌<◌, ◌≤◌, List, take, drop, min, ◌==◌, if◌then◌else◌}
use Rattle.host_traits.specs.declared.calls.Call.{Call}
use Rattle.host_traits.specs.declared.calls.Call.TheVariants.{BlockRead, FileRead, TreeRead}
use Rattle.sha_tree.specs.declared.measure.Measure.{Measure}
use Rattle.sha_tree.specs.Tree.{padded, place, tree_pages, block_count, ancestor, top}
use Rattle.verity_path.specs.declared.walk.Layout.{Layout}
use Rattle.verity_path.specs.declared.walk.Layout.TheVariants.{File, Parts}

-- of a file: the bytes that it has in a block, or a page of its tree
abbrev pub file_call : ℕ → ℕ → ℕ → ℕ → Call
file_call file size level i =
    if level == 0 then FileRead file (4096 * i) (min (size - 4096 * i) 4096) else TreeRead file level i

-- where a page of the tree begins on the disk
abbrev pub tree_byte : ℕ → ℕ → ℕ → ℕ → ℕ
tree_byte tree count level i = tree + 4096 * place count level i

-- of a disk: the 8 sectors of a block, or the 8 or 9 sectors that hold a page of the tree
abbrev pub parts_call : ℕ → ℕ → ℕ → ℕ → ℕ → ℕ → Call
parts_call disk first tree count level i =
    if level == 0 then BlockRead disk (first + 8 * i) 8
    else BlockRead disk (tree_byte tree count level i / 512) (if tree_byte tree count level i % 512 == 0 then 8 else 9)

-- the page in those sectors
abbrev pub parts_piece : ℕ → ℕ → ℕ → ℕ → List ℕ → List ℕ
parts_piece tree count level i bytes =
    take 4096 (drop (if level == 0 then 0 else tree_byte tree count level i % 512) bytes)

-- the one call for page i of a level, over so many blocks
abbrev pub call_for : Layout → ℕ → ℕ → ℕ → Call
call_for (File file size) count level i = file_call file size level i
call_for (Parts disk first tree) count level i = parts_call disk first tree count level i

-- how many bytes that call asks for
abbrev pub file_asked : ℕ → ℕ → ℕ → ℕ
file_asked size level i = if level == 0 then min (size - 4096 * i) 4096 else 4096

abbrev pub parts_asked : ℕ → ℕ → ℕ → ℕ → ℕ
parts_asked tree count level i =
    if level == 0 then 4096 else 512 * (if tree_byte tree count level i % 512 == 0 then 8 else 9)

abbrev pub asked_for : Layout → ℕ → ℕ → ℕ → ℕ
asked_for (File file size) count level i = file_asked size level i
asked_for (Parts disk first tree) count level i = parts_asked tree count level i

-- the piece at that page's place in the answer
abbrev pub piece_for : Layout → ℕ → ℕ → ℕ → List ℕ → List ℕ
piece_for (File file size) count level i bytes = padded bytes
piece_for (Parts disk first tree) count level i bytes = parts_piece tree count level i bytes

-- a file of exactly so many blocks, the last one perhaps partial; or places on a disk whose ends u64 holds
abbrev pub Suits : Layout → ℕ → Type 0
Suits (File file size) blocks = block_count size ≡ blocks
Suits (Parts disk first tree) blocks = (first + 8 * blocks < 2 ^ 64) × (tree + 4096 * tree_pages blocks < 2 ^ 64)

-- a call for a block, or for a page above it
pub record IsOnPath (layout : Layout) (m : Measure) (block : ℕ) (call : Call) : Type 0 where
  pub level : ℕ
  pub level_in : level ≤ top m.blocks
  pub call_is : call ≡ call_for layout m.blocks level (ancestor block level)
