-- What is answered without a call, and the work that a message aims at.
use Rattle.std.proofs.Common.{◌≡◌, ℕ, List, [], Option, Some, None, Result, Ok, Err, refl, inl, inr, arith}
use Rattle.mg_base.specs.declared.errno.Errno.{Errno}
use Rattle.mg_base.specs.declared.errno.Errno.TheVariants.{Einval, Enomem, Enosys}
use Rattle.host_traits.specs.Told.{Told}
use Rattle.host_traits.specs.Did.{Did, trace_of}
use Rattle.host_traits.proofs.Talking.{talked_not}
use Rattle.fuse_codec.specs.Reply as reply
use Rattle.fuse_codec.specs.Reply.{Answer, refused}
use Rattle.fuse_codec.specs.Message.{Message, Bad}
use Rattle.fuse_codec.specs.Said.{bad_of}
use Rattle.fuse_codec.specs.declared.request.BadMessage.{BadMessage}
use Rattle.fuse_codec.specs.declared.request.BadMessage.TheVariants as bads
use Rattle.fuse_server.specs.Answers.{Answered, bad_answer}
use Rattle.fuse_server.specs.State.{State, Writables}
use Rattle.fuse_server.specs.Aims.{Aim, says, makes, reads, loads, writes, cuts, syncs, aim_of}
use Rattle.fuse_server.specs.FileRows.{around}
use Rattle.fuse_server.specs.declared.deed.Deed.{Deed}
use Rattle.fuse_server.specs.declared.deed.Deed.TheVariants as deed
use Rattle.fuse_server.specs.declared.deed.Reading.{Reading}
use Rattle.fuse_server.specs.Deeds.{IsDeed, NoCall, Refuses, answer_to}
use Rattle.verity_path.specs.declared.device.Cause.{Cause}
use Rattle.verity_path.specs.Range.{most_answers}
use Rattle.fuse_server.specs.Rows.{IsPlain, IsFileRead, ReadRow, FuseRow, answer_by}

-- ---- rows without a call

plain_row : (a : Answer) (x : Told) → IsPlain (trace_of [] 0 x x) a a None
plain_row a x = record { own = refl; failed = refl; answer_is = refl; no_cause = refl }

-- nothing was asked
plain_none : (aim : Result Aim Errno) (files : Writables) (x : Told) (a : Answer) (c : Option Cause) → FuseRow aim (around files files x x (trace_of [] 0 x x)) a c → Answered aim files files x x a c
plain_none aim files x a c row = record { own = []; talked = talked_not x; calls = tt; few = omega arith; stops = tt; outcome = row }

module _ (files : Writables) (x : Told) where
  abbrev Row : Result Aim Errno → Answer → Type 0
  Row aim a = FuseRow aim (around files files x x (trace_of [] 0 x x)) a None

  refused_row : (aim : Result Aim Errno) (e : Errno) → Refuses aim e → Row aim (refused e)
  refused_row (Err f) e w = (refl, rw w (plain_row (refused f) x))
  refused_row (Ok (says a)) e w = absurd w
  refused_row (Ok (makes a)) e w = (refl, inr (rw w (plain_row (refused Enomem) x)))
  refused_row (Ok (reads f offset size)) e w = absurd w
  refused_row (Ok (loads number f offset size)) e w = absurd w
  refused_row (Ok (writes number f offset bytes)) e w = absurd w
  refused_row (Ok (cuts number f node size)) e w = absurd w
  refused_row (Ok (syncs number f)) e w = absurd w

  said_row : (aim : Result Aim Errno) (a : Answer) → aim ≡ Ok (says a) → Row aim a
  said_row aim a e = rw e (refl, plain_row a x)

  made_row : (aim : Result Aim Errno) (a : Answer) → aim ≡ Ok (makes a) → Row aim a
  made_row aim a e = rw e (refl, inl (plain_row a x))

  row_of : (aim : Result Aim Errno) (d : Result Deed Errno) → NoCall d → IsDeed files aim d → Row aim (answer_to d)
  row_of aim (Err e) done w = refused_row aim e w
  row_of aim (Ok deed.Silent) done w = said_row aim _ w
  row_of aim (Ok deed.Empty) done w = said_row aim _ w
  row_of aim (Ok (deed.Entry y)) done w = said_row aim _ w
  row_of aim (Ok (deed.Attr y)) done w = said_row aim _ w
  row_of aim (Ok (deed.Opened handle)) done w = made_row aim _ w
  row_of aim (Ok deed.Statfs) done w = said_row aim _ w
  row_of aim (Ok (deed.Init y)) done w = said_row aim _ w
  row_of aim (Ok (deed.Names listing)) done w = made_row aim _ w
  row_of aim (Ok deed.NoneWritten) done w = said_row aim _ w
  row_of aim (Ok (deed.Read r)) done w = absurd done
  row_of aim (Ok (deed.Load r)) done w = absurd done
  row_of aim (Ok (deed.Store r)) done w = absurd done
  row_of aim (Ok (deed.Cut r)) done w = absurd done
  row_of aim (Ok (deed.Sync number)) done w = absurd done

pub plain_at : (files : Writables) (aim : Result Aim Errno) (d e : Result Deed Errno) (x : Told) (answer : Answer) (c : Option Cause) → d ≡ e → NoCall e → answer ≡ answer_to e → c ≡ None → IsDeed files aim d
    → Answered aim files files x x answer c
plain_at files aim d e x answer c same done is none w = rw none (rw is (plain_none aim files x (answer_to e) None (row_of files x aim e done (rw same at w))))

-- ---- the work that a message aims at

pub read_did : (files : Writables) (aim : Result Aim Errno) (d : Result Deed Errno) (r : Reading) (a b : Told) (answer : Answer) (c : Option Cause) → d ≡ Ok (deed.Read r) → IsDeed files aim d
    → Did (IsFileRead r.file r.offset r.size) (most_answers r.file.measure r.file.size r.offset r.size) a b (λ t. ReadRow r.file r.offset r.size t answer c)
    → Answered aim files files a b answer c
read_did files aim d r a b answer c e w did = aimed aim (rw e at w) where
  aimed : (aim : Result Aim Errno) → aim ≡ Ok (reads r.file r.offset r.size) → Answered aim files files a b answer c
  aimed aim e = rw e (record { own = did.own; talked = did.talked; calls = did.calls; few = did.few; stops = did.stops; outcome = (refl, did.outcome) })

bad_row : (s : State) (bad : BadMessage) (x : Told) (bytes : List ℕ) → Answered (aim_of s (Err (bad_of bad))) s.writables s.writables x x (answer_by (bad_answer bad).reply bytes) (bad_answer bad).cause
bad_row s bads.Quiet x bytes = plain_none (aim_of s (Err (bad_of bads.Quiet))) s.writables x reply.silent None (refl, plain_row reply.silent x)
bad_row s (bads.Length unique) x bytes = plain_none (aim_of s (Err (bad_of (bads.Length unique)))) s.writables x (refused Einval) None (refl, plain_row (refused Einval) x)
bad_row s (bads.Opcode unique found) x bytes = plain_none (aim_of s (Err (bad_of (bads.Opcode unique found)))) s.writables x (refused Enosys) None (refl, plain_row (refused Enosys) x)
bad_row s (bads.Sizes unique) x bytes = plain_none (aim_of s (Err (bad_of (bads.Sizes unique)))) s.writables x (refused Einval) None (refl, plain_row (refused Einval) x)

-- a message that breaks a rule
pub bad_did : (s : State) (bad : BadMessage) (x : Told) (r : Result Message Bad) (bytes : List ℕ) → r ≡ Err (bad_of bad)
    → Answered (aim_of s r) s.writables s.writables x x (answer_by (bad_answer bad).reply bytes) (bad_answer bad).cause
bad_did s bad x r bytes e = rw e (bad_row s bad x bytes)
