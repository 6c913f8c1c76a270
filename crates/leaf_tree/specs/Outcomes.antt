-- What a call on a tree makes of the lists that the tree stands for.
use Rattle.std.specs.Prelude.{◌≡◌, ◌≢◌, ◌⊎◌, ℕ, ◌≤◌, min, max, List, [], length, Option, Some, Result, Ok, Err}
use Rattle.mg_base.specs.declared.values.Digest.{Digest}
use Rattle.host_traits.specs.declared.calls.Call.{Call}
use Rattle.host_traits.specs.declared.calls.Call.TheVariants.{TreeRead, TreeWrite}
use Rattle.host_traits.specs.declared.calls.Said.TheVariants.{Bytes}
use Rattle.host_traits.specs.Held.{Held, File}
use Rattle.host_traits.specs.Told.{Exchanges}
use Rattle.host_traits.specs.Did.{Trace, IsFailed}
use Rattle.sha_tree.specs.Tree.{padded, page_hash}
use Rattle.sha_tree.specs.Path.{NoClash}
use Rattle.leaf_tree.specs.Leaves.{leaf, digest_at, IsPlace, IsTreeHashed}
use Rattle.verity_path.specs.Order.{IsLast, IsLastShort}
use Rattle.verity_path.specs.declared.states.Mismatch.{Mismatch}
use Rattle.verity_path.specs.declared.walk.WalkFault.{WalkFault}
use Rattle.verity_path.specs.declared.walk.WalkFault.TheVariants as fault

-- The lists that a tree stands for; and, of a list and what a host tells that it holds, whether the host has each page of the
-- list's tree that the tree would ask it for.
pub record Standing : Type 1 where
  pub stands : List Digest → Type 0
  pub backed : Option Held → List Digest → Type 0

abbrev pub standing : (List Digest → Type 0) → (Option Held → List Digest → Type 0) → Standing
standing stands backed = record { stands = stands; backed = backed }

-- a host that tells what it holds has these pages as the tree of a file
pub record HasTree (held : Option Held) (file : ℕ) (tree : ℕ → ℕ → List ℕ) : Type 0 where
  pub all : Held
  pub told : held ≡ Some all
  pub found : File
  pub file_is : all.file file ≡ Some found
  pub pages : (level i : ℕ) → found.tree level i ≡ tree level i

-- a host that had a tree for the file has it still
abbrev pub SameTree : ℕ → Option Held → Option Held → Type 0
SameTree file x y = (tree : ℕ → ℕ → List ℕ) → HasTree x file tree → HasTree y file tree

-- each list that the tree stood for becomes one that it stands for
abbrev pub Keeps : (List Digest → Type 0) → (List Digest → Type 0) → (List Digest → List Digest) → Type 0
Keeps before after made = (ds : List Digest) → before ds → after (made ds)

-- the same, and whatever a host backed of the list it backs of the one that it becomes
abbrev pub KeepsBacked : (List Digest → Type 0) → (ℕ → Option Held → List Digest → Type 0) → (ℕ → Option Held → List Digest → Type 0) →
    (List Digest → List Digest) → Type 0
KeepsBacked before backed backed2 made =
    (ds : List Digest) → before ds → (file : ℕ) (held : Option Held) → backed file held ds → backed2 file held (made ds)

-- What becomes of a list: the tree stands for it; and the host backs it, where it backed the list before.
pub record IsBecome (after : Standing) (x y : Option Held) (BackedBefore : Type 0) (made : List Digest) : Type 0 where
  pub now : after.stands made
  pub backed : BackedBefore → after.backed y made

-- Each list that the tree stood for becomes one that it stands for, where no two different ones of what was hashed share a
-- digest; and so with what the host backed.
abbrev pub Becomes : Standing → Standing → Option Held → Option Held → (List Digest → List Digest) → Exchanges → Type 0
Becomes before after x y made own =
    (ds : List Digest) → before.stands ds → NoClash (IsTreeHashed ds own) → IsBecome after x y (before.backed x ds) (made ds)

-- a call for a page of the tree of a file whose number of blocks lies between these two; none where the tree is local
pub record IsTreeCall (is_local : Type 0) (file a b : ℕ) (call : Call) : Type 0 where
  pub far : is_local → ⊥
  pub blocks : ℕ
  pub least : min a b ≤ blocks
  pub most : blocks ≤ max a b
  pub level : ℕ
  pub index : ℕ
  pub place : IsPlace blocks level index
  pub call_is : (call ≡ TreeRead file level index) ⊎ (call ≡ TreeWrite file level index)

-- The page that was heard last has another digest than the tree has at its place, and no call failed.
pub record IsTreeMismatch (file : ℕ) (before : List Digest → Type 0) (t : Trace) (x : Mismatch) : Type 0 where
  pub failed : t.failed ≡ 0
  pub differ : x.expected.0 ≢ x.found.0
  pub bytes : List ℕ
  pub own : IsLast (TreeRead file x.level x.index) (Bytes bytes) t.own
  pub found : x.found.0 ≡ page_hash [] (padded bytes)
  pub place : (ds : List Digest) → before ds → IsPlace (length ds) x.level x.index
  pub expected : (ds : List Digest) → before ds → NoClash (IsTreeHashed ds t.own) → x.expected.0 ≡ digest_at (leaf ds) (length ds) x.level x.index

-- a host that backed a list for which the tree stood gives no such answer
abbrev pub Unbacked : Standing → Option Held → Exchanges → Type 0
Unbacked before x own = (ds : List Digest) → before.stands ds → NoClash (IsTreeHashed ds own) → before.backed x ds → ⊥

-- why a call on a tree, whose calls are such, was not done
abbrev pub IsTreeBlame : ℕ → (Call → Type 0) → Standing → Option Held → Trace → WalkFault → Type 0
IsTreeBlame file IsFor before x t (fault.Mismatch m) = IsTreeMismatch file before.stands t m × Unbacked before x t.own
IsTreeBlame file IsFor before x t (fault.Short asked got) = IsLastShort t asked got × Unbacked before x t.own
IsTreeBlame file IsFor before x t (fault.Failed faults) = IsFailed IsFor t faults
IsTreeBlame file IsFor before x t fault.Memory = t.failed ≡ 0

-- What comes of a call that changes the lists so. After a fault they are as before. No call of one that comes to its end failed.
abbrev pub TreeOutcome : ℕ → (Call → Type 0) → Standing → Standing → Option Held → Option Held → (List Digest → List Digest) →
    Result (Unit {0}) WalkFault → Trace → Type 0
TreeOutcome file IsFor before after x y made (Ok _) t = (t.failed ≡ 0) × Becomes before after x y made t.own
TreeOutcome file IsFor before after x y made (Err e) t = Becomes before after x y (λ ds. ds) t.own × IsTreeBlame file IsFor before x t e
