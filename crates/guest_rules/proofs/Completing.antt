-- Requests on a writable file over a host that holds its bytes, where no call failed or it is honest.
use Rattle.std.proofs.Common.{◌≡◌, ℕ, ◌+◌, ◌≤◌, true, List, length, take, drop, refl, ap, sym, subst, ◌∙◌, Option, Some, None, Result, Ok, Err, arith, inr, ⊎_elim}
use Rattle.std.specs.Prelude.{◌⊎◌}
use Rattle.mg_base.specs.declared.errno.Errno.{Errno}
use Rattle.host_traits.specs.declared.calls.Call.{Call}
use Rattle.host_traits.specs.Told.{Told, Made, Talked, heard_of, failures_of}
use Rattle.host_traits.specs.Did.{Trace, Each, IsFailed, trace_of}
use Rattle.host_traits.proofs.Doing.{each_so}
use Rattle.sha_tree.specs.Path.{NoClash}
use Rattle.verity_path.specs.declared.device.Cause.{Cause}
use Rattle.verity_path.specs.declared.walk.WalkFault.{WalkFault}
use Rattle.verity_path.specs.declared.walk.WalkFault.TheVariants as walk
use Rattle.rw_file.specs.declared.faults.RwFault.{RwFault}
use Rattle.rw_file.specs.declared.faults.RwFault.TheVariants as fault
use Rattle.rw_file.specs.declared.faults.Written.{Written}
use Rattle.rw_file.specs.Blame.{IsFileBlame}
use Rattle.rw_file.specs.Calls.{IsForFileRead, IsForFileWrite, IsForCut}
use Rattle.rw_file.specs.Contents.{IsVersion, Only, IsFileHashed, IsAtHost, version}
use Rattle.rw_file.specs.Rows.{ReadOutcome, WriteOutcome, WrittenSays, CutOutcome, SyncOutcome}
use Rattle.rw_file.proofs.Failing.{OnFile, stays, read_on, write_on, cut_on}
use Rattle.fuse_codec.specs.Reply.{Answer, bytes_out, attributes, empty}
use Rattle.fuse_server.specs.State.{State as Fuse, WritableFile, attr_of_size}
use Rattle.fuse_server.specs.Aims.{Aim, says, makes, reads, loads, writes, cuts, syncs, aim_of, number_of}
use Rattle.fuse_server.specs.FileRows.{IsLocal, meaning_of, answer_if, cause_if, written_answer, written_cause, short_cause}
use Rattle.fuse_server.specs.Rows.{FuseRow, IsForFuse}
use Rattle.fuse_server.proofs.Keeping.{OfFiles, all_of}
use Rattle.fuse_codec.specs.Reply as reply
use Rattle.guest_rules.specs.Machine.{Request}
use Rattle.guest_rules.specs.MessageRow.{around_message}
use Rattle.guest_rules.specs.Step.{IsFor, heard_around, heard_in}
use Rattle.guest_rules.specs.Written.{FileBytes, StandFor, count_of, answer_in, IsClearBy, IsRequestClear, IsHeldBy, IsWriteDefined, loaded, wrote, ended_early, cut, synced, no_memory, no_room, no_cut_room, WritesAreServed}
use Rattle.guest_rules.proofs.Serving.{message_row}
use Rattle.guest_rules.proofs.Writing.{answer_is}

module _ (x y : Told) (own : List Made) (talked : Talked x y own) (calm : (failures_of own ≡ 0) ⊎ (x.honest ≡ true)) where
  abbrev t : Trace
  t = trace_of (heard_of own) (failures_of own) x y

  -- a fault is want of memory
  abbrev OnlyScarce : WalkFault → Type 0
  OnlyScarce (walk.Mismatch m) = ⊥
  OnlyScarce (walk.Short asked got) = ⊥
  OnlyScarce (walk.Failed faults) = ⊥
  OnlyScarce walk.Memory = y.scarce ≡ true

  module _ (f : WritableFile) (c : List ℕ) (is : (meaning_of f).is c) (held : IsAtHost x.held f.file c) where
    module _ (F : Call → Type 0) (on : (call : Call) → F call → OnFile f.file call) (each : Each (λ call given. F call) own) where
      not_failed : (faults : ℕ) → IsFailed F t faults → ⊥
      not_failed faults b = ⊎_elim (λ none. let one = b.failed in absurd (omega (arith, none, one))) (λ honest. stays F f.file own x y c on held talked each (inr honest) b.failed b.rose) calm

      blamed : (V : List ℕ → List ℕ → Type 0) (made : List ℕ → List ℕ) (why : WalkFault) → NoClash (IsFileHashed (V c) (heard_of own)) → IsFileBlame IsLocal x.held f.file F (meaning_of f) V made t why → OnlyScarce why
      blamed V made (walk.Mismatch m) clear b = b.1 c is clear held tt
      blamed V made (walk.Short asked got) clear b = b.1 c is clear held tt
      blamed V made (walk.Failed faults) clear b = not_failed faults b
      blamed V made walk.Memory clear b = b.1 tt

    load_blamed : (offset size : ℕ) → Each (λ call given. IsForFileRead IsLocal f.file f.size offset size call) own → NoClash (IsFileHashed (Only c) (heard_of own)) → (why : WalkFault)
        → IsFileBlame IsLocal x.held f.file (IsForFileRead IsLocal f.file f.size offset size) (meaning_of f) Only (λ c. c) t why → OnlyScarce why
    load_blamed offset size each clear why b = blamed _ (read_on IsLocal f.file f.size offset size) each Only (λ c. c) why clear b

    write_blamed : (at : ℕ) (b : List ℕ) (count : ℕ) → Each (λ call given. IsForFileWrite IsLocal f.file f.size at (length b) call) own → NoClash (IsFileHashed (IsVersion c at b count) (heard_of own)) → (why : WalkFault)
        → IsFileBlame IsLocal x.held f.file (IsForFileWrite IsLocal f.file f.size at (length b)) (meaning_of f) (λ c. IsVersion c at b count) (λ c. version c at b count) t why → OnlyScarce why
    write_blamed at b count each clear why e = blamed _ (write_on IsLocal f.file f.size at (length b)) each (λ c. IsVersion c at b count) (λ c. version c at b count) why clear e

    cut_blamed : (size : ℕ) → Each (λ call given. IsForCut IsLocal f.file f.size size call) own → NoClash (IsFileHashed (Only c) (heard_of own)) → (why : WalkFault)
        → IsFileBlame IsLocal x.held f.file (IsForCut IsLocal f.file f.size size) (meaning_of f) Only (λ c. c) t why → OnlyScarce why
    cut_blamed size each clear why b = blamed _ (cut_on IsLocal f.file f.size size) each Only (λ c. c) why clear b

    sync_blamed : (F : Call → Type 0) → ((call : Call) → F call → ⊥) → Each (λ call given. F call) own → NoClash (IsFileHashed (Only c) (heard_of own)) → (why : WalkFault)
        → IsFileBlame IsLocal x.held f.file F (meaning_of f) Only (λ c. c) t why → OnlyScarce why
    sync_blamed F none each clear why b = blamed F (λ call w. absurd (none call w)) each Only (λ c. c) why clear b

    module _ (n : ℕ) (bytes : FileBytes) (here : bytes n ≡ c) (new : WritableFile) where
      load_done : (offset size : ℕ) (b : List ℕ) (result : Result (Unit {0}) RwFault) → Each (λ call given. IsForFileRead IsLocal f.file f.size offset size call) own → NoClash (IsFileHashed (Only c) (heard_of own))
          → ReadOutcome IsLocal f.file f.size offset size (meaning_of f) (meaning_of new) x.held y.held b result t
          → IsWriteDefined bytes y.scarce (Ok (loads n f offset size)) (answer_if (bytes_out b) result) (cause_if result)
      load_done offset size b (Ok u) each clear o =
          let same : take size (drop offset (bytes n)) ≡ b = ap (λ (z : List ℕ). take size (drop offset z)) here ∙ sym (o.content c is clear).1 in
          subst (λ (z : List ℕ). IsWriteDefined bytes y.scarce (Ok (loads n f offset size)) (bytes_out z) None) same (loaded n f offset size)
      load_done offset size b (Err (fault.Mismatch m)) each clear o = absurd (load_blamed offset size each clear (walk.Mismatch m) o.blame)
      load_done offset size b (Err (fault.Short asked got)) each clear o = absurd (load_blamed offset size each clear (walk.Short asked got) o.blame)
      load_done offset size b (Err (fault.Failed faults)) each clear o = absurd (load_blamed offset size each clear (walk.Failed faults) o.blame)
      load_done offset size b (Err fault.Memory) each clear o = ⊎_elim (λ none. absurd none)
          (λ k. no_memory _ (load_blamed offset size each clear walk.Memory k.blame)) o
      load_done offset size b (Err (fault.TooLarge end)) each clear o = absurd o

      why_done : (at : ℕ) (b : List ℕ) (count : ℕ) (why : Option RwFault) → Each (λ call given. IsForFileWrite IsLocal f.file f.size at (length b) call) own → NoClash (IsFileHashed (IsVersion c at b count) (heard_of own))
          → WrittenSays IsLocal f.file f.size at b (meaning_of f) (meaning_of new) x.held y.held count why t
          → IsWriteDefined bytes y.scarce (Ok (writes n f at b)) (reply.written count) (short_cause why)
      why_done at b count None each clear o = subst (λ (k : ℕ). IsWriteDefined bytes y.scarce (Ok (writes n f at b)) (reply.written k) None) (sym o.0) (wrote n f at b)
      why_done at b count (Some (fault.Mismatch m)) each clear o = absurd (write_blamed at b count each clear (walk.Mismatch m) o.stopped.blame)
      why_done at b count (Some (fault.Short asked got)) each clear o = absurd (write_blamed at b count each clear (walk.Short asked got) o.stopped.blame)
      why_done at b count (Some (fault.Failed faults)) each clear o = absurd (write_blamed at b count each clear (walk.Failed faults) o.stopped.blame)
      why_done at b count (Some fault.Memory) each clear o = ⊎_elim (λ none. absurd none)
          (λ k. ended_early n f at b count o.some o.few o.border (write_blamed at b count each clear walk.Memory k.blame)) o.stopped
      why_done at b count (Some (fault.TooLarge end)) each clear o = absurd o.stopped

      write_done : (at : ℕ) (b : List ℕ) (result : Result Written RwFault) → at + length b ≤ 4294967296 → Each (λ call given. IsForFileWrite IsLocal f.file f.size at (length b) call) own
          → NoClash (IsFileHashed (IsVersion c at b (count_of (written_answer result))) (heard_of own))
          → WriteOutcome IsLocal f.file f.size at b (meaning_of f) (meaning_of new) x.held y.held result t
          → IsWriteDefined bytes y.scarce (Ok (writes n f at b)) (written_answer result) (written_cause result)
      write_done at b (Ok w) few each clear o = why_done at b w.count w.why each clear o
      write_done at b (Err (fault.Mismatch m)) few each clear o = absurd (write_blamed at b 0 each clear (walk.Mismatch m) o.blame)
      write_done at b (Err (fault.Short asked got)) few each clear o = absurd (write_blamed at b 0 each clear (walk.Short asked got) o.blame)
      write_done at b (Err (fault.Failed faults)) few each clear o = absurd (write_blamed at b 0 each clear (walk.Failed faults) o.blame)
      write_done at b (Err fault.Memory) few each clear o = ⊎_elim (λ r. no_room n f at b)
          (λ k. no_memory _ (write_blamed at b 0 each clear walk.Memory k.blame)) o
      write_done at b (Err (fault.TooLarge end)) few each clear o = let large = o.1.large in absurd (omega (arith, few, large))

      cut_done : (node size : ℕ) (result : Result (Unit {0}) RwFault) → size ≤ 4294967296 → Each (λ call given. IsForCut IsLocal f.file f.size size call) own → NoClash (IsFileHashed (Only c) (heard_of own))
          → CutOutcome IsLocal f.file f.size size (meaning_of f) (meaning_of new) x.held y.held result t
          → IsWriteDefined bytes y.scarce (Ok (cuts n f node size)) (answer_if (attributes (attr_of_size node size)) result) (cause_if result)
      cut_done node size (Ok u) few each clear o = cut n f node size
      cut_done node size (Err (fault.Mismatch m)) few each clear o = absurd (cut_blamed size each clear (walk.Mismatch m) o.blame)
      cut_done node size (Err (fault.Short asked got)) few each clear o = absurd (cut_blamed size each clear (walk.Short asked got) o.blame)
      cut_done node size (Err (fault.Failed faults)) few each clear o = absurd (cut_blamed size each clear (walk.Failed faults) o.blame)
      cut_done node size (Err fault.Memory) few each clear o = ⊎_elim (λ r. no_cut_room n f node size)
          (λ k. no_memory _ (cut_blamed size each clear walk.Memory k.blame)) o
      cut_done node size (Err (fault.TooLarge end)) few each clear o = let large = o.1.large in absurd (omega (arith, few, large))

      sync_done : (F : Call → Type 0) (result : Result (Unit {0}) RwFault) → ((call : Call) → F call → ⊥) → Each (λ call given. F call) own → NoClash (IsFileHashed (Only c) (heard_of own))
          → SyncOutcome IsLocal f.file f.size F (meaning_of f) (meaning_of new) x.held y.held result t
          → IsWriteDefined bytes y.scarce (Ok (syncs n f)) (answer_if empty result) (cause_if result)
      sync_done F (Ok u) none each clear o = synced n f
      sync_done F (Err (fault.Mismatch m)) none each clear o = absurd (sync_blamed F none each clear (walk.Mismatch m) o.blame)
      sync_done F (Err (fault.Short asked got)) none each clear o = absurd (sync_blamed F none each clear (walk.Short asked got) o.blame)
      sync_done F (Err (fault.Failed faults)) none each clear o = absurd (sync_blamed F none each clear (walk.Failed faults) o.blame)
      sync_done F (Err fault.Memory) none each clear o = ⊎_elim (λ e. absurd e)
          (λ k. no_memory _ (sync_blamed F none each clear walk.Memory k.blame)) o
      sync_done F (Err (fault.TooLarge end)) none each clear o = absurd o

  module _ (s new : Fuse) (bytes : FileBytes) (stand : StandFor s.writables bytes) where
    abbrev Done : Result Aim Errno → Answer → Option Cause → Type 0
    Done aim answer cause = IsWriteDefined bytes y.scarce aim answer cause

    by_row : (aim : Result Aim Errno) (answer expected : Answer) (cause why : Option Cause) → answer ≡ expected → cause ≡ why → Done aim expected why → Done aim answer cause
    by_row aim answer expected cause why a c done = subst (λ (z : Answer). Done aim z cause) (sym a) (subst (λ (z : Option Cause). Done aim expected z) (sym c) done)

    aim_done : (aim : Result Aim Errno) (answer : Answer) (cause : Option Cause) → OfFiles s aim → IsHeldBy aim x.held bytes → IsClearBy aim answer bytes (heard_of own) → Each (IsForFuse aim) own
        → FuseRow aim (around_message (heard_around t x y) s new) answer cause → Done aim answer cause
    aim_done (Err e) answer cause of held clear each row = absurd held
    aim_done (Ok (says a)) answer cause of held clear each row = absurd held
    aim_done (Ok (makes a)) answer cause of held clear each row = absurd held
    aim_done (Ok (reads f offset size)) answer cause of held clear each row = absurd held
    aim_done (Ok (loads n f offset size)) answer cause of held clear each row =
        by_row _ answer _ cause _ row.answer_is row.cause_is (load_done f (bytes n) (stand n f of) held n bytes refl row.new offset size row.bytes row.result
        (each_so (IsForFuse (Ok (loads n f offset size))) (λ call given. IsForFileRead IsLocal f.file f.size offset size call) own (λ call given p. p.0) each) clear row.outcome)
    aim_done (Ok (writes n f at b)) answer cause of held clear each row =
        by_row _ answer _ cause _ row.answer_is row.cause_is (write_done f (bytes n) (stand n f of.0) held n bytes refl row.new at b row.result of.1
        (each_so (IsForFuse (Ok (writes n f at b))) (λ call given. IsForFileWrite IsLocal f.file f.size at (length b) call) own (λ call given p. p.0) each)
        (subst (λ (a : Answer). NoClash (IsFileHashed (IsVersion (bytes n) at b (count_of a)) (heard_of own))) row.answer_is clear) row.outcome)
    aim_done (Ok (cuts n f node size)) answer cause of held clear each row =
        by_row _ answer _ cause _ row.answer_is row.cause_is (cut_done f (bytes n) (stand n f of.0) held n bytes refl row.new node size row.result of.1
        (each_so (IsForFuse (Ok (cuts n f node size))) (λ call given. IsForCut IsLocal f.file f.size size call) own (λ call given p. p.0) each) clear row.outcome)
    aim_done (Ok (syncs n f)) answer cause of held clear each row =
        by_row _ answer _ cause _ row.answer_is row.cause_is (sync_done f (bytes n) (stand n f of) held n bytes refl row.new _ row.result (λ call p. p.far tt)
        (each_so (IsForFuse (Ok (syncs n f))) _ own (λ call given p. p.0) each) clear row.outcome)

pub writes_served : WritesAreServed
writes_served g world old turn new bytes m step request held stand clear calm =
    let row = message_row g world old.sealings (heard_in old turn new) _ old.state new.state turn.sent turn.cause m request step.row in
    let each = subst (λ (q : Request). Each (IsFor g old.state q) turn.own) request step.calls in
    let clear_message = subst (λ (q : Request). IsRequestClear old.state.fuse q turn.sent bytes (heard_of turn.own)) request clear in
    let same : answer_in turn.sent ≡ row.answer = ap answer_in row.sent_is ∙ answer_is (number_of m) row.answer in
    let clear_by = subst (λ (a : Answer). IsClearBy (aim_of old.state.fuse m) a bytes (heard_of turn.own)) same clear_message in (
      row.answer,
      row.sent_is,
      aim_done old.told new.told turn.own step.talked calm old.state.fuse new.state.fuse bytes stand (aim_of old.state.fuse m) row.answer turn.cause (all_of old.state.fuse m) held clear_by each row.row,
    )
