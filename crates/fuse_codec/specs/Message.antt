-- What a message of FUSE asks, apart from where it lies in memory: the operations of `linux/fuse.h`, with the fields
-- that are looked at.
use Rattle.std.specs.Prelude.{Bool, ℕ, List, ◌==◌, ◌||◌}

pub data Asked : Type 0 where
  init : (major minor max_readahead flags : ℕ) → Asked
  lookup : (name : List ℕ) → Asked
  forget : (nlookup : ℕ) → Asked
  batch_forget : (pairs : List (ℕ × ℕ)) → Asked
  interrupt : Asked
  getattr : Asked
  setattr : (valid size : ℕ) → Asked
  opening : (flags : ℕ) → Asked
  opendir : Asked
  read : (fh offset size : ℕ) → Asked
  write : (fh offset : ℕ) (bytes : List ℕ) → Asked
  flush : (fh : ℕ) → Asked
  fsync : (fh : ℕ) → Asked
  release : (fh : ℕ) → Asked
  releasedir : (fh : ℕ) → Asked
  readdir : (fh offset size : ℕ) → Asked
  create : (name : List ℕ) → Asked
  mkdir : (name : List ℕ) → Asked
  unlink : (name : List ℕ) → Asked
  rmdir : (name : List ℕ) → Asked
  statfs : Asked
  destroy : Asked

-- a message: its number, its node, and what it asks
pub record Message : Type 0 where
  pub unique : ℕ
  pub node : ℕ
  pub asked : Asked

-- a message that isn't in its grammar, with its number; one that never has a reply has none
pub data Bad : Type 0 where
  quiet : Bad
  bad_length : (unique : ℕ) → Bad
  bad_opcode : (unique found : ℕ) → Bad
  bad_sizes : (unique : ℕ) → Bad

-- the opcodes that never have a reply
abbrev pub is_quiet : ℕ → Bool
is_quiet n = (n == 2) || (n == 36) || (n == 42)
