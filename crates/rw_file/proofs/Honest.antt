-- A host that held the bytes of a file and backed its tree, and didn't fail or is honest, is blamed for nothing.
use Rattle.std.proofs.Common.{◌≡◌, ℕ, ◌≤◌, ◌⊎◌, List, length, Option, Some, None, Ok, Err, refl, inl, inr, arith, ⊎_elim}
use Rattle.host_traits.specs.Told.{Told, Made, Exchanges, Rose, heard_of, failures_of}
use Rattle.host_traits.specs.Did.{trace_of}
use Rattle.sha_tree.specs.Path.{NoClash}
use Rattle.rw_file.specs.declared.faults.RwFault.{RwFault}
use Rattle.rw_file.specs.declared.faults.RwFault.TheVariants as fault
use Rattle.rw_file.specs.Contents.{Meaning, IsAtHost, IsFileHashed, IsVersion}
use Rattle.rw_file.specs.Rows.{WrittenSays}
use Rattle.rw_file.specs.Faithful.{ReadsAreServed, WritesAreDone, CutsAreDone, SyncsAreDone}
use Rattle.rw_file.specs.Calls.{IsForFileRead, IsForFileWrite, IsForCut, IsForSync}
use Rattle.rw_file.proofs.Failing.{stays, tree_on, read_on, write_on, cut_on}
use Rattle.rw_file.proofs.Hashed.{apart_fewer, file_hashed}

no_versions : (c : List ℕ) (at : ℕ) (bytes : List ℕ) (n : ℕ) (own : Exchanges) → n ≤ length bytes →
    NoClash (IsFileHashed (IsVersion c at bytes (length bytes)) own) → NoClash (IsFileHashed (IsVersion c at bytes n) own)
no_versions c at bytes n own le = apart_fewer (IsFileHashed (IsVersion c at bytes n) own) (IsFileHashed (IsVersion c at bytes (length bytes)) own)
    (file_hashed (IsVersion c at bytes n) (IsVersion c at bytes (length bytes)) own own (λ v i. record { n = i.n; most = omega (arith, i.most, le); border = i.border; is = i.is }) (λ p q. q))

pub read_served : (is_local : Type 0) (file size : ℕ) (before after : Meaning) → ReadsAreServed is_local file size before after
read_served is_local file size before after at len x y bytes (fault.Mismatch m) d c is n h bk calm = absurd (d.outcome.blame.1 c is n h bk)
read_served is_local file size before after at len x y bytes (fault.Short asked got) d c is n h bk calm = absurd (d.outcome.blame.1 c is n h bk)
read_served is_local file size before after at len x y bytes (fault.Failed faults) d c is n h bk calm =
    absurd (stays (IsForFileRead is_local file size at len) file d.own x y c (read_on is_local file size at len) h d.talked d.calls calm d.outcome.blame.failed d.outcome.blame.rose)
read_served is_local file size before after at len x y bytes fault.Memory d c is n h bk calm =
    ⊎_elim (λ none. absurd none) (λ k. (refl, k.blame.1)) d.outcome
read_served is_local file size before after at len x y bytes (fault.TooLarge end) d c is n h bk calm = absurd d.outcome

pub cut_done : (is_local : Type 0) (file size : ℕ) (before after : Meaning) → CutsAreDone is_local file size before after
cut_done is_local file size before after to x y (fault.Mismatch m) d c is n h bk calm = absurd (d.outcome.blame.1 c is n h bk)
cut_done is_local file size before after to x y (fault.Short asked got) d c is n h bk calm = absurd (d.outcome.blame.1 c is n h bk)
cut_done is_local file size before after to x y (fault.Failed faults) d c is n h bk calm =
    absurd (stays (IsForCut is_local file size to) file d.own x y c (cut_on is_local file size to) h d.talked d.calls calm d.outcome.blame.failed d.outcome.blame.rose)
cut_done is_local file size before after to x y fault.Memory d c is n h bk calm = inl refl
cut_done is_local file size before after to x y (fault.TooLarge end) d c is n h bk calm = inr d.outcome.1.large

pub write_done : (is_local : Type 0) (file size : ℕ) (before after : Meaning) → WritesAreDone is_local file size before after
write_done is_local file size before after at bytes x y (Err (fault.Mismatch m)) d c is n h bk calm =
    absurd (d.outcome.blame.1 c is (no_versions c at bytes 0 (heard_of d.own) (omega arith) n) h bk)
write_done is_local file size before after at bytes x y (Err (fault.Short asked got)) d c is n h bk calm =
    absurd (d.outcome.blame.1 c is (no_versions c at bytes 0 (heard_of d.own) (omega arith) n) h bk)
write_done is_local file size before after at bytes x y (Err (fault.Failed faults)) d c is n h bk calm =
    absurd (stays (IsForFileWrite is_local file size at (length bytes)) file d.own x y c (write_on is_local file size at (length bytes)) h d.talked d.calls calm d.outcome.blame.failed d.outcome.blame.rose)
write_done is_local file size before after at bytes x y (Err fault.Memory) d c is n h bk calm = inl refl
write_done is_local file size before after at bytes x y (Err (fault.TooLarge end)) d c is n h bk calm = inr d.outcome.1.large
write_done is_local file size before after at bytes x y (Ok w) d c is n h bk calm =
    said is_local file size before after at bytes x y d.own w.count w.why c is h bk (stays (IsForFileWrite is_local file size at (length bytes)) file d.own x y c (write_on is_local file size at (length bytes)) h d.talked d.calls calm)
    (heard_of d.own) n d.outcome where
      said : (is_local : Type 0) (file size : ℕ) (before after : Meaning) (at : ℕ) (bytes : List ℕ) (x y : Told) (made : List Made) (count : ℕ) (why : Option RwFault) (c : List ℕ) →
          before.is c → IsAtHost x.held file c → before.backed x.held c → (failures_of made ≡ 1 → Rose x.faults y.faults → ⊥) →
          (own : Exchanges) → NoClash (IsFileHashed (IsVersion c at bytes (length bytes)) own) → WrittenSays is_local file size at bytes before after x.held y.held count why (trace_of own (failures_of made) x y) → (why ≡ None) ⊎ (why ≡ Some fault.Memory)
      said is_local file size before after at bytes x y made count None c is h bk calm own n o = inl refl
      said is_local file size before after at bytes x y made count (Some (fault.Mismatch m)) c is h bk calm own n o =
          absurd (o.stopped.blame.1 c is (no_versions c at bytes count own (omega (arith, o.few)) n) h bk)
      said is_local file size before after at bytes x y made count (Some (fault.Short asked got)) c is h bk calm own n o =
          absurd (o.stopped.blame.1 c is (no_versions c at bytes count own (omega (arith, o.few)) n) h bk)
      said is_local file size before after at bytes x y made count (Some (fault.Failed faults)) c is h bk calm own n o =
          absurd (calm o.stopped.blame.failed o.stopped.blame.rose)
      said is_local file size before after at bytes x y made count (Some fault.Memory) c is h bk calm own n o = inr refl
      said is_local file size before after at bytes x y made count (Some (fault.TooLarge end)) c is h bk calm own n o = absurd o.stopped

pub sync_done : (is_local : Type 0) (file size : ℕ) (before after : Meaning) → SyncsAreDone is_local file size before after
sync_done is_local file size before after x y (fault.Mismatch m) d c is n h bk calm = absurd (d.outcome.blame.1 c is n h bk)
sync_done is_local file size before after x y (fault.Short asked got) d c is n h bk calm = absurd (d.outcome.blame.1 c is n h bk)
sync_done is_local file size before after x y (fault.Failed faults) d c is n h bk calm =
    absurd (stays (IsForSync is_local file size) file d.own x y c (tree_on is_local file _ _) h d.talked d.calls calm d.outcome.blame.failed d.outcome.blame.rose)
sync_done is_local file size before after x y fault.Memory d c is n h bk calm = ⊎_elim (λ none. absurd none) (λ k. (refl, k.blame.1)) d.outcome
sync_done is_local file size before after x y (fault.TooLarge end) d c is n h bk calm = absurd d.outcome
