-- Runs that end at the first bad line or frame.
use Rattle.std.proofs.Common.{◌≡◌, ℕ, List, subst, inl, inr}
use Rattle.std.specs.Prelude.{◌⊎◌}
use Rattle.std.specs.Io.KnownBytes.{Appends}
use Rattle.text_lines.specs.declared.kinds.PlanKind.{PlanKind}
use Rattle.frame_text.specs.declared.faults.FrameKind.{FrameKind}
use Rattle.frame_text.specs.declared.status.Status.{Status}
use Rattle.frame_text.specs.declared.status.Status.TheVariants as statuses
use Rattle.frame_text.specs.Reading.{IsBadLine, IsBadFrame}
use Rattle.frame_text.specs.Programs.{Ends, Faults, IsAll, Makes, Dumps, WroteSome, bad_line, bad_frame}

-- these bytes were written to the log, and this is the status; or their writing failed
abbrev pub Logs : Ends → Ends → Faults → Faults → Status → Status → List ℕ → Type 0
Logs old new before after status full bytes = ((status ≡ full) × Appends old.log new.log bytes) ⊎ ((status ≡ statuses.Write) × WroteSome old.log new.log before.log after.log bytes)

module _ (words : ℕ) (old new : Ends) (before after : Faults) (status : Status) where
  pub made_bad : (text bytes : List ℕ) (line : ℕ) (kind : PlanKind) → words ≡ 0 → IsAll old.input new.input text → IsBadLine text line kind → new.out ≡ old.out → bytes ≡ bad_line line kind
      → Logs old new before after status statuses.Bad bytes → Makes words old new before after status
  made_bad text bytes line kind none all bad same is (inl w) = rw w.0 (none, text, line, kind, all, bad, same, subst (Appends old.log new.log) is w.1)
  made_bad text bytes line kind none all bad same is (inr w) =
      rw w.0 (inr (inl (none, text, line, kind, all, bad, same, subst (WroteSome old.log new.log before.log after.log) is w.1)))

  pub dumped_bad : (input bytes : List ℕ) (byte : ℕ) (kind : FrameKind) → words ≡ 0 → IsAll old.input new.input input → IsBadFrame input byte kind → new.out ≡ old.out → bytes ≡ bad_frame byte kind
      → Logs old new before after status statuses.Bad bytes → Dumps words old new before after status
  dumped_bad input bytes byte kind none all bad same is (inl w) = rw w.0 (none, input, byte, kind, all, bad, same, subst (Appends old.log new.log) is w.1)
  dumped_bad input bytes byte kind none all bad same is (inr w) =
      rw w.0 (inr (inl (none, input, byte, kind, all, bad, same, subst (WroteSome old.log new.log before.log after.log) is w.1)))
