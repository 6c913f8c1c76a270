-- The rows of a request, from the work that was done for it.
use Rattle.std.proofs.Common.{◌≡◌, ℕ, ◌<◌, ◌≤◌, List, [], length, take, drop, refl, ap, sym, subst, ◌∙◌, Ok, Err, Option, Some, None, Result, true, false, arith, inl, inr}
use Rattle.std.specs.Prelude.{slice_get, IfSome, ◌⊎◌}
use Rattle.std.proofs.lemmas.Option.{slice_get_within}
use Rattle.mg_base.specs.declared.errno.Errno.{Errno}
use Rattle.mg_base.specs.declared.errno.Errno.TheVariants.{Enomem}
use Rattle.host_traits.specs.Told.{Told, failures_of, heard_of}
use Rattle.host_traits.specs.Did.{Did, DidBy, Trace, reads, trace_of}
use Rattle.host_traits.proofs.Doing.{did_none}
use Rattle.session_frames.specs.Replies.{Sent, sent_if, sent_code, message_sent}
use Rattle.session_frames.proofs.Replies.{message_is}
use Rattle.verity_path.specs.declared.device.Cause.{Cause}
use Rattle.verity_path.specs.declared.device.Cause.TheVariants as cause
use Rattle.verity_path.specs.declared.device.Device.{Device}
use Rattle.verity_path.specs.declared.walk.WalkFault.{WalkFault}
use Rattle.verity_path.specs.declared.walk.WalkFault.TheVariants as fault
use Rattle.verity_path.specs.Holding.{WhereHeld, OrMemory, RangeIsRight}
use Rattle.verity_path.specs.Range.{most_answers, RangeOutcome}
use Rattle.ro_file.specs.Files.{MeasuredFile}
use Rattle.fuse_codec.specs.declared.reply.FuseReply.{FuseReply}
use Rattle.fuse_codec.specs.Message.{Message, Bad}
use Rattle.fuse_codec.specs.Reading.{decoded}
use Rattle.fuse_codec.specs.Reply.{Answer, bytes_out, refused}
use Rattle.fuse_codec.specs.Sent.{unique_of}
use Rattle.fuse_server.specs.State.{State as Fuse}
use Rattle.fuse_server.specs.Aims.{Aim, says, makes, reads as reads_file, loads, writes, cuts, syncs, aim_of, number_of}
use Rattle.fuse_server.specs.Effects.{Next}
use Rattle.fuse_server.specs.FileRows.{Around, around}
use Rattle.fuse_server.specs.Rows.{FuseRow, ReadRow, read_bytes, read_blamed, read_no_room, IsForFuse, most_for_fuse, FuseIsRight, answer_by}
use Rattle.instance_image.specs.declared.values.Part.{Part}
use Rattle.guest_rules.specs.Machine.{Setting, State, nowhere, item_read, size_of, message_of, request_of}
use Rattle.guest_rules.specs.ItemRow.{IsForItem, no_item, too_large, served, blamed, no_memory}
use Rattle.guest_rules.specs.MessageRow.{IsOfFile}
use Rattle.guest_rules.specs.Step.{Stepped, answers_of, most_for}
use Rattle.guest_rules.specs.Faithful.{IsDefined, over_limit, whole, no_room, IsReadDefined, slice, no_memory as short_of_memory, ItemIsServed, MessageIsServed}
use Rattle.guest_rules.proofs.Runs.{stepped}
use Rattle.guest_cli.specs.Turns.{framed}
use Rattle.guest_cli.specs.Works.{answer_to_read, message_frame}

-- ---- reads of items

pub absent_step : (g : Setting) (state : State) (a : Told) (payload : List ℕ) → length g.items ≤ (item_read payload).item → Stepped g state state a a (framed 1 payload) (sent_code 1 2) None
absent_step g state a payload absent = stepped g state state a a _ _ _ (reads (λ call. ⊥)) 0 (λ t. (t.failed ≡ 0) × (t.own ≡ [])) (did_none _ 0 a _ (refl, refl)) (λ call given none. absurd none.0) (omega arith)
    (λ run own failed none. (refl, no_item absent none.0 none.1))

pub absent_served : (g : Setting) (a : Told) (payload : List ℕ) (sent : Sent) (c : Option Cause) → length g.items ≤ (item_read payload).item → ItemIsServed g a a (item_read payload) sent c
absent_served g a payload sent c absent it at = absurd (omega (arith, absent, slice_get_within g.items (item_read payload).item it at))

pub large_step : (g : Setting) (state : State) (a : Told) (payload : List ℕ) → (item_read payload).item < length g.items → 131072 < (item_read payload).size → Stepped g state state a a (framed 1 payload) (sent_code 1 22) None
large_step g state a payload there large = stepped g state state a a _ _ _ (reads (λ call. ⊥)) 0 (λ t. (t.failed ≡ 0) × (t.own ≡ [])) (did_none _ 0 a _ (refl, refl)) (λ call given none. absurd none.0) (omega arith)
    (λ run own failed none. (refl, too_large there large none.0 none.1))

pub large_served : (g : Setting) (a : Told) (payload : List ℕ) → 131072 < (item_read payload).size → ItemIsServed g a a (item_read payload) (sent_code 1 22) None
large_served g a payload large it at = record { right = λ h content calm held holds tree limit. (held, λ size. over_limit large) }

same_item : (a b : Device) → Some a ≡ Some b → a ≡ b
same_item a b e = cc

module _ (g : Setting) (a b : Told) (payload : List ℕ) (it : Device) (there : (item_read payload).item < length g.items) (at : slice_get g.items (item_read payload).item ≡ Some it) (fits : (item_read payload).size ≤ 131072) where
  few : (state : State) → most_answers it.measure (size_of it) (item_read payload).offset (item_read payload).size ≤ most_for g state (request_of (framed 1 payload))
  few state = let same : answers_of (slice_get g.items (item_read payload).item) (item_read payload) ≡ most_answers it.measure (size_of it) (item_read payload).offset (item_read payload).size = ap (λ o. answers_of o (item_read payload)) at in omega (arith, same)

  abbrev pub Work : List ℕ → Result (Unit {0}) WalkFault → Type 0
  Work bytes r = Did (IsForItem it (item_read payload)) (most_answers it.measure (size_of it) (item_read payload).offset (item_read payload).size) a b (RangeOutcome it.layout it.measure (size_of it) (item_read payload).offset (item_read payload).size bytes r)

  pub read_step : (state : State) (bytes : List ℕ) (r : Result (Unit {0}) WalkFault) → Work bytes r → Stepped g state state a b (framed 1 payload) (sent_if (answer_to_read r).reply bytes) (answer_to_read r).cause
  read_step state bytes (Ok u) d = stepped g state state a b (framed 1 payload) _ _ _ _ _ d (λ call given for. (it, at, for)) (few state)
      (λ run own failed cut. (refl, served it bytes at fits cut.0 cut.2 cut.3 cut.1))
  read_step state bytes (Err (fault.Mismatch x)) d = stepped g state state a b (framed 1 payload) _ _ _ _ _ d (λ call given for. (it, at, for)) (few state)
      (λ run own failed blame. (refl, blamed it (cause.Mismatch x) at fits blame.0 blame.1 blame.2))
  read_step state bytes (Err (fault.Short asked got)) d = stepped g state state a b (framed 1 payload) _ _ _ _ _ d (λ call given for. (it, at, for)) (few state)
      (λ run own failed blame. (refl, blamed it (cause.Short asked got) at fits blame.0 blame.1 blame.2))
  read_step state bytes (Err (fault.Failed faults)) d = stepped g state state a b (framed 1 payload) _ _ _ _ _ d (λ call given for. (it, at, for)) (few state)
      (λ run own failed blame. (refl, blamed it (cause.Failed faults) at fits blame.0 blame.1 blame.2))
  read_step state bytes (Err fault.Memory) d = stepped g state state a b (framed 1 payload) _ _ _ _ _ d (λ call given for. (it, at, for)) (few state)
      (λ run own failed none. (refl, no_memory it at fits none.0 none.1 none.2))

  -- what a read that ended so is answered, where its bytes are the content's or there was no memory
  defined : (bytes content : List ℕ) (r : Result (Unit {0}) WalkFault) → (r ≡ Err fault.Memory → b.scarce ≡ true)
      → OrMemory r (λ _. bytes ≡ take (item_read payload).size (drop (item_read payload).offset content))
      → IsDefined (item_read payload) content b.scarce (sent_if (answer_to_read r).reply bytes) (answer_to_read r).cause
  defined bytes content (Ok u) scarce is = rw is (whole fits)
  defined bytes content (Err (fault.Mismatch x)) scarce is = absurd cc
  defined bytes content (Err (fault.Short asked got)) scarce is = absurd cc
  defined bytes content (Err (fault.Failed faults)) scarce is = absurd cc
  defined bytes content (Err fault.Memory) scarce is = no_room fits (scarce refl)

  scarce_by : (bytes : List ℕ) (r : Result (Unit {0}) WalkFault) → Work bytes r → r ≡ Err fault.Memory → b.scarce ≡ true
  scarce_by bytes (Ok u) d e = absurd cc
  scarce_by bytes (Err (fault.Mismatch x)) d e = absurd cc
  scarce_by bytes (Err (fault.Short asked got)) d e = absurd cc
  scarce_by bytes (Err (fault.Failed faults)) d e = absurd cc
  scarce_by bytes (Err fault.Memory) d e = d.outcome.0.scarce

  pub read_served : (bytes : List ℕ) (r : Result (Unit {0}) WalkFault) → Work bytes r → RangeIsRight it.layout it.measure (size_of it) (item_read payload).offset (item_read payload).size a b bytes r
      → ItemIsServed g a b (item_read payload) (sent_if (answer_to_read r).reply bytes) (answer_to_read r).cause
  read_served bytes r d right other is =
      let same : it ≡ other = same_item it other (sym at ∙ is) in
      subst (λ (z : Device). WhereHeld z.layout z.measure a b (λ content. size_of z ≡ length content → IsDefined (item_read payload) content b.scarce (sent_if (answer_to_read r).reply bytes) (answer_to_read r).cause)) same (record {
        right = λ h content calm held holds tree limit.
            let w = right.right h content calm held holds tree limit in
            (w.0, λ size. defined bytes content r (scarce_by bytes r d) (w.1 size));
      })

-- ---- messages

-- the reply that is sent, by the message's number
pub message_sent_is : (m : Result Message Bad) (reply : Option FuseReply) (bytes : List ℕ) → IfSome reply (λ r. unique_of r ≡ number_of m)
    → sent_if (message_frame reply) bytes ≡ message_sent (number_of m) (answer_by reply bytes)
message_sent_is m None bytes number = refl
message_sent_is m (Some r) bytes number = message_is r bytes (number_of m) number

-- without contents nothing is said of a file's bytes
of_none : (aim : Result Aim Errno) (answer : Answer) → IsOfFile nowhere aim answer
of_none (Err e) answer = tt
of_none (Ok (says x)) answer = tt
of_none (Ok (makes x)) answer = tt
of_none (Ok (reads_file f offset size)) answer = tt
of_none (Ok (loads number f offset size)) answer = tt
of_none (Ok (writes number f offset new)) answer = tt
of_none (Ok (cuts number f node size)) answer = tt
of_none (Ok (syncs number f)) answer = tt

module _ (s new : Fuse) (a b : Told) (payload : List ℕ) (reply : Option FuseReply) (bytes : List ℕ) (c : Option Cause) (number : IfSome reply (λ r. unique_of r ≡ number_of (decoded payload)))
    (did : DidBy (IsForFuse (aim_of s (decoded payload))) (most_for_fuse (aim_of s (decoded payload))) a b (λ t. FuseRow (aim_of s (decoded payload)) (around s.writables new.writables a b t) (answer_by reply bytes) c)) where
  pub message_step : (g : Setting) (entropy : List ℕ) (parts : List Part) → Next s (decoded payload) (answer_by reply bytes) new
      → Stepped g (record { fuse = s; entropy = entropy; parts = parts }) (record { fuse = new; entropy = entropy; parts = parts }) a b (framed 0 payload) (sent_if (message_frame reply) bytes) c
  message_step g entropy parts next = stepped g _ _ a b (framed 0 payload) _ _ _ _ _ did (λ call given for. for) (omega arith)
      (λ run own failed row. (refl, refl, record { answer = answer_by reply bytes; sent_is = message_sent_is (decoded payload) reply bytes number; row = row; slice = of_none (aim_of s (decoded payload)) (answer_by reply bytes); next = next }))

  read_defined : (f : MeasuredFile) (offset size : ℕ) (t : Trace) (content : List ℕ) (answer : Answer) (why : Option Cause) (unique : ℕ) → ReadRow f offset size t answer why
      → (answer ≡ bytes_out (take size (drop offset content))) ⊎ (answer ≡ refused Enomem) → IsReadDefined unique offset size content t.scarce (message_sent unique answer) why
  read_defined f offset size t content answer why unique (read_bytes x none cut all right) (inl e) = let same : x ≡ take size (drop offset content) = cc in rw same slice
  read_defined f offset size t content answer why unique (read_bytes x none cut all right) (inr e) = absurd cc
  read_defined f offset size t content answer why unique (read_blamed x blame order right) (inl e) = absurd cc
  read_defined f offset size t content answer why unique (read_blamed x blame order right) (inr e) = absurd cc
  read_defined f offset size t content answer why unique (read_no_room scarce order right) (inl e) = absurd cc
  read_defined f offset size t content answer why unique (read_no_room scarce order right) (inr e) = short_of_memory scarce.scarce

  by_aim : (aim : Result Aim Errno) → FuseRow aim (around s.writables new.writables a b (trace_of (heard_of did.own) (failures_of did.own) a b)) (answer_by reply bytes) c → FuseIsRight aim a b (answer_by reply bytes)
      → MessageIsServed aim (number_of (decoded payload)) a b (message_sent (number_of (decoded payload)) (answer_by reply bytes)) c
  by_aim (Err e) row right = tt
  by_aim (Ok (says x)) row right = tt
  by_aim (Ok (makes x)) row right = tt
  by_aim (Ok (reads_file f offset size)) row right = record {
    right = λ h content calm held holds tree limit.
        let w = right.right h content calm held holds tree limit in
        (w.0, read_defined f offset size (trace_of (heard_of did.own) (failures_of did.own) a b) content (answer_by reply bytes) c (number_of (decoded payload)) row.1 w.1);
  }
  by_aim (Ok (loads n f offset size)) row right = tt
  by_aim (Ok (writes n f offset x)) row right = tt
  by_aim (Ok (cuts n f node size)) row right = tt
  by_aim (Ok (syncs n f)) row right = tt

  pub message_served : Next s (decoded payload) (answer_by reply bytes) new → FuseIsRight (aim_of s (decoded payload)) a b (answer_by reply bytes)
      → MessageIsServed (aim_of s (decoded payload)) (number_of (decoded payload)) a b (sent_if (message_frame reply) bytes) c
  message_served next right =
      subst (λ (z : Sent). MessageIsServed (aim_of s (decoded payload)) (number_of (decoded payload)) a b z c) (sym (message_sent_is (decoded payload) reply bytes number))
      (by_aim (aim_of s (decoded payload)) did.outcome right)
