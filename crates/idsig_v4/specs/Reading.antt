-- Reading an idsig file's front from left to right, with the first rule that it breaks.
use Rattle.std.specs.Prelude.{◌≡◌, ℕ, ◌+◌, ◌*◌, List, length, take, drop, slice_index, Result, Ok, Err, ◌==◌, nat_lt, if◌then◌else◌, ℤ, pos, negsuc}
use Rattle.std.specs.Int.{w32, from_le_bytes, cast_signed}
use Rattle.sha_tree.specs.Tree.{tree_pages}
use Rattle.idsig_v4.specs.declared.head.IdsigFault.{IdsigFault}
use Rattle.idsig_v4.specs.declared.head.IdsigFault.TheVariants.{Truncated, Version, InfoLength, Algorithm, BlockSize, SaltLength, RootLength, SigningLength, NoTree, TreeLength}
use Rattle.idsig_v4.specs.declared.head.Head.{Head}
use Rattle.idsig_v4.specs.Grammar.{IsIdsig}

infixl 10 ◌>>=◌
abbrev pub ◌>>=◌ : {A B : Type 0} → Result A IdsigFault → (A → Result B IdsigFault) → Result B IdsigFault
(Ok x) >>= f = f x
(Err fault) >>= f = Err fault

-- n bytes at a place of a file of `total` bytes
unfoldable pub bytes_at : List ℕ → ℕ → ℕ → ℕ → Result (List ℕ) IdsigFault
bytes_at bytes total at n = if nat_lt total (at + n) then Err (Truncated at) else Ok (take n (drop at bytes))

-- the signed number of four bytes at a place
unfoldable pub i32_at : List ℕ → ℕ → ℕ → Result ℤ IdsigFault
i32_at bytes total at = do
  b ← bytes_at bytes total at 4
  Ok (cast_signed w32 (from_le_bytes w32 b))

-- a number from 0 to `most`; else this fault
abbrev pub at_most : ℕ → IdsigFault → ℤ → Result ℕ IdsigFault
at_most most fault (pos n) = if nat_lt most n then Err fault else Ok n
at_most most fault (negsuc n) = Err fault

-- the number that is wanted; else this fault
abbrev pub exactly : ℕ → IdsigFault → ℤ → Result ℕ IdsigFault
exactly wanted fault (pos n) = if n == wanted then Ok n else Err fault
exactly wanted fault (negsuc n) = Err fault

-- a number that is not negative; else this fault
abbrev pub not_negative : IdsigFault → ℤ → Result ℕ IdsigFault
not_negative fault (pos n) = Ok n
not_negative fault (negsuc n) = Err fault

-- the one byte that is wanted
abbrev pub block_size : List ℕ → Result ℕ IdsigFault
block_size b = if slice_index b 0 == 12 then Ok 12 else Err (BlockSize (slice_index b 0))

-- the size of the tree: it may be absent where the file ends
unfoldable pub tree_size : List ℕ → ℕ → ℕ → Result ℕ IdsigFault
tree_size bytes total at =
    if total == at then Err NoTree
    else (do
      z ← i32_at bytes total at
      n ← not_negative (Truncated at) z
      if n == 0 then Err NoTree else Ok n)

-- the version, and the hashing info: the salt and the root
unfoldable pub info_of : List ℕ → ℕ → Result (List ℕ × List ℕ) IdsigFault
info_of bytes total = do
  version ← i32_at bytes total 0
  two ← exactly 2 (Version version) version
  info ← i32_at bytes total 4
  size ← not_negative (InfoLength info) info
  algorithm ← i32_at bytes total 8
  one ← exactly 1 (Algorithm algorithm) algorithm
  block ← bytes_at bytes total 12 1
  log ← block_size block
  salt_size ← i32_at bytes total 13
  s ← at_most 32 (SaltLength salt_size) salt_size
  salt ← bytes_at bytes total 17 s
  root_size ← i32_at bytes total (17 + s)
  r ← exactly 32 (RootLength root_size) root_size
  root ← bytes_at bytes total (21 + s) 32
  whole ← exactly (45 + s) (InfoLength info) info
  Ok (salt, root)

-- the tree's bytes are in the file; they are not looked at
abbrev pub room_for : ℕ → ℕ → ℕ → Result (Unit {0}) IdsigFault
room_for total at n = if nat_lt total (at + n) then Err (Truncated at) else Ok tt

-- the head of a file of `total` bytes, of which these are the first, or the first rule that it breaks
unfoldable pub head_of : List ℕ → ℕ → Result Head IdsigFault
head_of bytes total = do
  info ← info_of bytes total
  let at = 53 + length info.0
  signing_size ← i32_at bytes total at
  g ← at_most 65536 (SigningLength signing_size) signing_size
  signing ← bytes_at bytes total (at + 4) g
  t ← tree_size bytes total (at + 4 + g)
  tree ← room_for total (at + 4 + g + 4) t
  Ok (record { salt = info.0; root = record { 0 = info.1 }; tree_at = at + 4 + g + 4; tree_len = t })

-- the tree has the pages that stand over so many blocks, and no more
abbrev pub tree_fits : Head → ℕ → Result (Unit {0}) IdsigFault
tree_fits h blocks =
    if h.tree_len == 4096 * tree_pages blocks then Ok tt else Err (TreeLength (4096 * tree_pages blocks) h.tree_len)

-- what a call returned, seen by `view`, is what reading gives
abbrev pub Gives : {X Y : Type 0} → (X → Y) → Result X IdsigFault → Result Y IdsigFault → Type 0
Gives view (Ok x) read = read ≡ Ok (view x)
Gives view (Err fault) read = read ≡ Err fault

-- Each file that is an idsig is read as its head, from its first bytes.
abbrev pub IdsigsAreRead : Type 0
IdsigsAreRead = (file : List ℕ) (h : Head) → IsIdsig file h → head_of (take 69632 file) (length file) ≡ Ok h
