-- Requests on a file, over a host that held its bytes and the pages of its tree that the file's tree would ask for, where no call is
-- to blame.
use Rattle.std.specs.Prelude.{true, ◌≡◌, ◌≢◌, ◌⊎◌, ℕ, ◌+◌, ◌<◌, List, [], ◌∷◌, length, Option, Some, None, Result, Ok, Err}
use Rattle.host_traits.specs.Told.{Told, Talked, Made, Calm, heard_of}
use Rattle.host_traits.specs.declared.calls.Call.{Call}
use Rattle.host_traits.specs.declared.calls.Call.TheVariants.{FileWrite, Resize}
use Rattle.host_traits.specs.declared.calls.Said.{Said}
use Rattle.host_traits.specs.Held.{Held, over, resized}
use Rattle.host_traits.specs.Did.{Each}
use Rattle.leaf_tree.specs.Worked.{Worked, HandsPage}
use Rattle.sha_tree.specs.Path.{NoClash}
use Rattle.verity_path.specs.Range.{touched}
use Rattle.rw_file.specs.declared.faults.RwFault.{RwFault}
use Rattle.rw_file.specs.declared.faults.RwFault.TheVariants as fault
use Rattle.rw_file.specs.declared.faults.Written.{Written}
use Rattle.rw_file.specs.Contents.{Meaning, IsAtHost, IsFileHashed, IsVersion, Only}
use Rattle.rw_file.specs.Calls.{IsForFileRead, IsForFileWrite, IsForCut, IsForSync, most_read, most_write, most_cut, Hands}
use Rattle.rw_file.specs.Rows.{ReadOutcome, WriteOutcome, CutOutcome, SyncOutcome}

-- a read that isn't done wanted memory, and the host may
abbrev pub ReadsAreServed : Type 0 → ℕ → ℕ → Meaning → Meaning → Type 0
ReadsAreServed is_local file size before after = (at len : ℕ) (x y : Told) (bytes : List ℕ) (e : RwFault)
    (d : Worked HandsPage 0 (IsForFileRead is_local file size at len) (most_read size at len) x y (ReadOutcome is_local file size at len before after x.held y.held bytes (Err e))) (c : List ℕ) →
    before.is c → NoClash (IsFileHashed (Only c) (heard_of d.own)) → IsAtHost x.held file c → before.backed x.held c → Calm x y → (e ≡ fault.Memory) × (is_local → y.scarce ≡ true)

-- an answer to a write: all is in place, or memory was wanted, or the file would be too large
abbrev pub IsDone : ℕ → ℕ → Result Written RwFault → Type 0
IsDone at len (Ok w) = (w.why ≡ None) ⊎ (w.why ≡ Some fault.Memory)
IsDone at len (Err e) = (e ≡ fault.Memory) ⊎ (4294967296 < at + len)

abbrev pub WritesAreDone : Type 0 → ℕ → ℕ → Meaning → Meaning → Type 0
WritesAreDone is_local file size before after = (at : ℕ) (bytes : List ℕ) (x y : Told) (r : Result Written RwFault)
    (d : Worked (Hands at bytes) (touched at (at + length bytes)) (IsForFileWrite is_local file size at (length bytes)) (most_write size at (length bytes)) x y (WriteOutcome is_local file size at bytes before after x.held y.held r)) (c : List ℕ) →
    before.is c → NoClash (IsFileHashed (IsVersion c at bytes (length bytes)) (heard_of d.own)) → IsAtHost x.held file c → before.backed x.held c → Calm x y → IsDone at (length bytes) r

-- a new size that isn't set wanted memory, or is too large
abbrev pub CutsAreDone : Type 0 → ℕ → ℕ → Meaning → Meaning → Type 0
CutsAreDone is_local file size before after = (to : ℕ) (x y : Told) (e : RwFault)
    (d : Worked HandsPage 1 (IsForCut is_local file size to) (most_cut size to) x y (CutOutcome is_local file size to before after x.held y.held (Err e))) (c : List ℕ) →
    before.is c → NoClash (IsFileHashed (Only c) (heard_of d.own)) → IsAtHost x.held file c → before.backed x.held c → Calm x y → (e ≡ fault.Memory) ⊎ (4294967296 < to)

-- a sync that isn't done wanted memory, and the host may
abbrev pub SyncsAreDone : Type 0 → ℕ → ℕ → Meaning → Meaning → Type 0
SyncsAreDone is_local file size before after = (x y : Told) (e : RwFault)
    (d : Worked HandsPage 0 (IsForSync is_local file size) 0 x y (SyncOutcome is_local file size (IsForSync is_local file size) before after x.held y.held (Err e))) (c : List ℕ) →
    before.is c → NoClash (IsFileHashed (Only c) (heard_of d.own)) → IsAtHost x.held file c → before.backed x.held c → Calm x y → (e ≡ fault.Memory) × (is_local → y.scarce ≡ true)

-- ---- what calls make of the bytes of a file, over any host that answers by what it holds

-- a write puts what it hands over over the bytes at its place, and a resize cuts them or adds zeros; one that fails changes nothing
abbrev pub after_said : List ℕ → Call → List ℕ → List ℕ
after_said c (FileWrite file at count) given = over c at given
after_said c (Resize file size) given = resized c size
after_said c call given = c

abbrev pub after_one : List ℕ → Call → List ℕ → Option Said → List ℕ
after_one c call given None = c
after_one c call given (Some said) = after_said c call given

abbrev pub after_calls : List ℕ → List Made → List ℕ
after_calls c [] = c
after_calls c (m ∷ own) = after_calls (after_one c m.call m.given m.came) own

abbrev pub WritesAreHeld : Type 0 → Type 0
WritesAreHeld is_local = (file size at len : ℕ) (x y : Told) (own : List Made) (c : List ℕ) → Talked x y own → Each (λ call given. IsForFileWrite is_local file size at len call) own →
    IsAtHost x.held file c → IsAtHost y.held file (after_calls c own)

abbrev pub CutsAreHeld : Type 0 → Type 0
CutsAreHeld is_local = (file size to : ℕ) (x y : Told) (own : List Made) (c : List ℕ) → Talked x y own → Each (λ call given. IsForCut is_local file size to call) own →
    IsAtHost x.held file c → IsAtHost y.held file (after_calls c own)

-- the calls of a request leave the bytes of the file
abbrev pub BytesStay : ℕ → (Call → Type 0) → Type 0
BytesStay file IsFor = (x y : Told) (own : List Made) (c : List ℕ) → Talked x y own → Each (λ call given. IsFor call) own → IsAtHost x.held file c → IsAtHost y.held file c

-- ---- and of all else that the host holds

pub record IsSameBut (file : ℕ) (h k : Held) : Type 0 where
  pub files : (n : ℕ) → n ≢ file → k.file n ≡ h.file n
  pub disks : (n : ℕ) → k.disk n ≡ h.disk n
  pub dirs : (n : ℕ) → k.dir n ≡ h.dir n

-- they leave every other file, every disk and every directory
abbrev pub OthersStay : ℕ → (Call → Type 0) → Type 0
OthersStay file IsFor = (x y : Told) (own : List Made) (h : Held) → Talked x y own → Each (λ call given. IsFor call) own → x.held ≡ Some h → (k : Held) × (y.held ≡ Some k) × IsSameBut file h k
