-- What comes of a read of a file, as a row.
use Rattle.std.proofs.Common.{◌≡◌, ◌⊎◌, ℕ, List, take, drop, Result, Ok, Err, refl, ap, inl, inr, arith}
use Rattle.mg_base.specs.declared.errno.Errno.TheVariants.{Enomem}
use Rattle.host_traits.specs.Told.{Told}
use Rattle.host_traits.specs.Did.{Trace, Did}
use Rattle.host_traits.proofs.Doing.{did_so}
use Rattle.verity_path.specs.Range.{RangeOutcome, most_answers}
use Rattle.verity_path.specs.Holding.{WhereHeld, OrMemory}
use Rattle.verity_path.specs.declared.device.Cause.TheVariants as cause
use Rattle.verity_path.specs.declared.walk.WalkFault.{WalkFault}
use Rattle.verity_path.specs.declared.walk.WalkFault.TheVariants as fault
use Rattle.ro_file.specs.Files.{MeasuredFile, layout_of}
use Rattle.ro_file.specs.Holding.{FileReadIsRight}
use Rattle.fuse_codec.specs.Reply.{refused, bytes_out}
use Rattle.fuse_server.specs.Answers.{read_answer}
use Rattle.fuse_server.specs.Rows.{IsFileRead, ReadRow, read_bytes, read_blamed, read_no_room, answer_by}

module _ (f : MeasuredFile) (offset size unique : ℕ) (bytes : List ℕ) where
  row_of : (t : Trace) (r : Result (Unit {0}) WalkFault) → RangeOutcome (layout_of f) f.measure f.size offset size bytes r t
      → ReadRow f offset size t (answer_by (read_answer unique r).reply bytes) (read_answer unique r).cause
  row_of t (Ok u) w = read_bytes bytes w.0 w.1 w.2 w.3
  row_of t (Err (fault.Mismatch x)) w = read_blamed (cause.Mismatch x) w.0 w.1 w.2
  row_of t (Err (fault.Short asked got)) w = read_blamed (cause.Short asked got) w.0 w.1 w.2
  row_of t (Err (fault.Failed faults)) w = read_blamed (cause.Failed faults) w.0 w.1 w.2
  row_of t (Err fault.Memory) w = read_no_room w.0 w.1 w.2

  pub read_row : (a b : Told) (r : Result (Unit {0}) WalkFault)
      → Did (IsFileRead f offset size) (most_answers f.measure f.size offset size) a b (RangeOutcome (layout_of f) f.measure f.size offset size bytes r)
      → Did (IsFileRead f offset size) (most_answers f.measure f.size offset size) a b (λ t. ReadRow f offset size t (answer_by (read_answer unique r).reply bytes) (read_answer unique r).cause)
  read_row a b r d = did_so _ _ _ _ a b _ _ d (λ call p. p) (omega arith) (λ t w. row_of t r w)

  right_by : (content : List ℕ) (r : Result (Unit {0}) WalkFault) → OrMemory r (λ _. bytes ≡ take size (drop offset content))
      → (answer_by (read_answer unique r).reply bytes ≡ bytes_out (take size (drop offset content))) ⊎ (answer_by (read_answer unique r).reply bytes ≡ refused Enomem)
  right_by content (Ok u) w = inl (ap bytes_out w)
  right_by content (Err (fault.Mismatch x)) w = absurd cc
  right_by content (Err (fault.Short asked got)) w = absurd cc
  right_by content (Err (fault.Failed faults)) w = absurd cc
  right_by content (Err fault.Memory) w = inr refl

  pub read_right : (a b : Told) (r : Result (Unit {0}) WalkFault) → FileReadIsRight f offset size a b bytes r
      → WhereHeld (layout_of f) f.measure a b (λ content. (answer_by (read_answer unique r).reply bytes ≡ bytes_out (take size (drop offset content))) ⊎ (answer_by (read_answer unique r).reply bytes ≡ refused Enomem))
  read_right a b r w = record {
    right = λ h content calm held at tree few. let x = w.right h content calm held at tree few in (x.0, right_by content r x.1);
  }
