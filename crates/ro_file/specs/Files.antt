-- What contracts see of a file that is only read.
use Rattle.std.specs.Prelude.{◌≡◌, ℕ, ◌^◌, ◌≤◌}
use Rattle.mg_base.specs.declared.values.Digest.{Digest}
use Rattle.sha_tree.specs.declared.measure.Measure.{Measure}
use Rattle.sha_tree.specs.Tree.{block_count}
use Rattle.verity_path.specs.declared.walk.Layout.{Layout}
use Rattle.verity_path.specs.declared.walk.Layout.TheVariants.{File}
use Rattle.verity_descriptor.specs.declared.Descriptor.{Descriptor}

-- its number at the host, the digest that it was opened by, its size in bytes, and the measure of its tree
pub record MeasuredFile : Type 0 where
  pub file : ℕ
  pub digest : Digest
  pub size : ℕ
  pub measure : Measure

-- it has at most 2 ^ 32 bytes, in exactly the measure's number of blocks, the last one perhaps partial
pub record IsReadable (f : MeasuredFile) : Type 0 where
  pub few : f.size ≤ 2 ^ 32
  pub blocks : block_count f.size ≡ f.measure.blocks

-- where its bytes and its tree stand at the host
abbrev pub layout_of : MeasuredFile → Layout
layout_of f = File f.file f.size

-- the file that a descriptor describes, where these are its number and the descriptor's digest
abbrev pub file_of : ℕ → Digest → Descriptor → MeasuredFile
file_of number digest d = record { file = number; digest = digest; size = d.size; measure = record { blocks = block_count d.size; salt = d.salt; root = d.root } }
