-- Why a request on a writable file was not done, in the host's answers to it.
use Rattle.std.specs.Prelude.{true, ◌≡◌, ◌≢◌, ℕ, List, [], Option}
use Rattle.host_traits.specs.declared.calls.Call.{Call}
use Rattle.host_traits.specs.declared.calls.Said.TheVariants.{Bytes}
use Rattle.host_traits.specs.Held.{Held}
use Rattle.host_traits.specs.Told.{Exchanges}
use Rattle.host_traits.specs.Did.{Trace, IsFailed}
use Rattle.sha_tree.specs.Tree.{padded, page_hash}
use Rattle.sha_tree.specs.Path.{NoClash}
use Rattle.verity_path.specs.Order.{IsLast, IsLastShort}
use Rattle.verity_path.specs.declared.states.Mismatch.{Mismatch}
use Rattle.verity_path.specs.declared.walk.WalkFault.{WalkFault}
use Rattle.verity_path.specs.declared.walk.WalkFault.TheVariants as walk
use Rattle.rw_file.specs.Contents.{Meaning, IsAtHost, IsFileHashed, IsDigestOf}
use Rattle.rw_file.specs.Calls.{IsPageCall}

-- For every content that the file stood for, where no two different ones of what was hashed share a digest, this is so of
-- the content.
abbrev pub Each : Meaning → (List ℕ → List ℕ → Type 0) → Exchanges → (List ℕ → Type 0) → Type 0
Each before IsVersion own P = (content : List ℕ) → before.is content → NoClash (IsFileHashed (IsVersion content) own) → P content

-- A block or a page of the tree, the last that was heard, has another digest than it must have: that of the page of the bytes that
-- the file stands for afterwards. No call failed.
pub record IsFileMismatch (file : ℕ) (before : Meaning) (IsVersion : List ℕ → List ℕ → Type 0) (made : List ℕ → List ℕ) (t : Trace)
    (x : Mismatch) : Type 0 where
  pub failed : t.failed ≡ 0
  pub differ : x.expected.0 ≢ x.found.0
  pub bytes : List ℕ
  pub call : Call
  pub page : IsPageCall file x.level x.index call
  pub own : IsLast call (Bytes bytes) t.own
  pub found : x.found.0 ≡ page_hash [] (padded bytes)
  pub expected : Each before IsVersion t.own (λ content. IsDigestOf (made content) x.level x.index x.expected.0)

-- A host that held the bytes of a content of the file, and the pages of its tree that the file's tree would ask for, didn't give such
-- an answer.
abbrev pub Lied : Option Held → ℕ → Meaning → (List ℕ → List ℕ → Type 0) → Exchanges → Type 0
Lied held file before IsVersion own = Each before IsVersion own (λ content. IsAtHost held file content → before.backed held content → ⊥)

-- the cause of what was not done
abbrev pub IsFileBlame : Type 0 → Option Held → ℕ → (Call → Type 0) → Meaning → (List ℕ → List ℕ → Type 0) → (List ℕ → List ℕ) → Trace → WalkFault →
    Type 0
IsFileBlame is_local held file IsFor before IsVersion made t (walk.Mismatch x) =
    IsFileMismatch file before IsVersion made t x × Lied held file before IsVersion t.own
IsFileBlame is_local held file IsFor before IsVersion made t (walk.Short asked got) = IsLastShort t asked got × Lied held file before IsVersion t.own
IsFileBlame is_local held file IsFor before IsVersion made t (walk.Failed faults) = IsFailed IsFor t faults
IsFileBlame is_local held file IsFor before IsVersion made t walk.Memory = (t.failed ≡ 0) × (is_local → t.scarce ≡ true)
