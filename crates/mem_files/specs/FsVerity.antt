-- The file that fs-verity makes of some bytes.
use Rattle.std.specs.Prelude.{ℕ, Bool, nat_le, nat_lt, ◌&&◌, if◌then◌else◌, List, length, replicate}
use Rattle.sha_tree.specs.Tree.{block_count, pages_at, top, page, root}
use Rattle.verity_descriptor.specs.Spelling.{descriptor_bytes}
use Rattle.host_traits.specs.Held.{File}

-- is there a page of this level and index above so many blocks?
abbrev pub is_tree_page : ℕ → ℕ → ℕ → Bool
is_tree_page count level i = nat_lt 0 level && nat_le level (top count) && nat_lt i (pages_at count level)

-- The file of these bytes, with the pages of their hash tree and the descriptor of their length, root and salt
-- (fs-verity, "Merkle tree" and "fs-verity descriptor"). Where the tree has no page, it reads as zeros.
unfoldable pub verity_file : List ℕ → List ℕ → File
verity_file bytes salt = record {
  bytes = bytes;
  descriptor = descriptor_bytes (record { size = length bytes; root = record { 0 = root bytes salt }; salt = salt });
  tree = λ level i. if is_tree_page (block_count (length bytes)) level i then page bytes salt level i else replicate 4096 0;
}
