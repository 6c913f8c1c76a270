-- The bytes of an idsig file (APK Signature Scheme v4, version 2 of the file's format): the fields joined in order. Numbers and
-- sizes are int32, little-endian, and a size stands before its bytes.
use Rattle.std.specs.Prelude.{◌≡◌, ℕ, ◌+◌, ◌<◌, ◌≤◌, ◌^◌, List, ◌∷◌, ◌++◌, length}
use Rattle.std.specs.Int.{w32, to_le_bytes}
use Rattle.mg_base.specs.declared.values.Digest.{Digest}
use Rattle.idsig_v4.specs.declared.head.Head.{Head}

-- a number, and bytes behind their size
unfoldable pub int32 : ℕ → List ℕ
int32 n = to_le_bytes w32 n

abbrev pub sized : List ℕ → List ℕ
sized bytes = int32 (length bytes) ++ bytes

-- the hashing info: SHA-256, pages of 2^12 bytes, the salt and the root
unfoldable pub info_bytes : List ℕ → List ℕ → List ℕ
info_bytes salt root = int32 1 ++ (12 ∷ (sized salt ++ sized root))

-- all that stands before the tree: the version, the hashing info, the signing info, and the size of the tree
unfoldable pub front_bytes : List ℕ → List ℕ → List ℕ → ℕ → List ℕ
front_bytes salt root signing tree_len = int32 2 ++ (sized (info_bytes salt root) ++ (sized signing ++ int32 tree_len))

-- the whole file
abbrev pub idsig_bytes : List ℕ → List ℕ → List ℕ → List ℕ → List ℕ
idsig_bytes salt root signing tree = front_bytes salt root signing (length tree) ++ tree

-- what a head can say, where the signing info has so many bytes
pub record IsHead (h : Head) (signing_len : ℕ) : Type 0 where
  pub salt : length h.salt ≤ 32
  pub root : length h.root.0 ≡ 32
  pub signing : signing_len ≤ 65536
  pub some : 0 < h.tree_len
  pub size : h.tree_len < 2 ^ 31
  pub place : h.tree_at ≡ 61 + length h.salt + signing_len

-- The first bytes of a file of so many bytes are those of an idsig with this head. The signing info is free, and so is what
-- follows the size of the tree; the file has room for the tree.
pub record IsFront (bytes : List ℕ) (total : ℕ) (h : Head) : Type 0 where
  pub signing : List ℕ
  pub fits : IsHead h (length signing)
  pub rest : List ℕ
  pub joined : bytes ≡ front_bytes h.salt h.root.0 signing h.tree_len ++ rest
  pub room : h.tree_at + h.tree_len ≤ total

-- A whole file is an idsig with this head. The signing info, the tree and what follows it are free.
pub record IsIdsig (file : List ℕ) (h : Head) : Type 0 where
  pub signing : List ℕ
  pub fits : IsHead h (length signing)
  pub tree : List ℕ
  pub tree_len : length tree ≡ h.tree_len
  pub after : List ℕ
  pub joined : file ≡ idsig_bytes h.salt h.root.0 signing tree ++ after

-- the head of the file of these parts
abbrev pub head_for : List ℕ → Digest → List ℕ → List ℕ → Head
head_for salt root signing tree = record { salt = salt; root = root; tree_at = 61 + length salt + length signing; tree_len = length tree }
