-- By what is asked: how much is read, and what the answer makes of the state.
use Rattle.std.proofs.Common.{◌≡◌, ℕ, List, Result, Ok, Err, ap}
use Rattle.mg_base.specs.declared.errno.Errno.{Errno}
use Rattle.fuse_codec.specs.Message.{Asked, init, lookup, forget, batch_forget, interrupt, getattr, setattr, opening, opendir, read, write, flush, fsync, release, releasedir, readdir, create, mkdir, unlink, rmdir, statfs, destroy, Message}
use Rattle.fuse_codec.specs.Reply.{Answer}
use Rattle.fuse_codec.specs.Spelling.{IsBody, Spells}
use Rattle.fuse_server.specs.declared.deed.Deed.{Deed}
use Rattle.fuse_server.specs.declared.deed.Deed.TheVariants as deed
use Rattle.fuse_server.specs.Deeds.{IsFew, NoCall, AreFew, CallsBy, Answers, StaysBy, answer_to}
use Rattle.fuse_server.specs.Effects.{Becomes, with_writables}
use Rattle.fuse_server.specs.State.{State, Writables}

few_body : (asked : Asked) (body : List ℕ) → IsBody asked body → IsFew asked
few_body (init a b c e) body w = tt
few_body (lookup name) body w = tt
few_body (forget n) body w = tt
few_body (batch_forget pairs) body w = tt
few_body interrupt body w = tt
few_body getattr body w = tt
few_body (setattr valid size) body w = tt
few_body (opening flags) body w = tt
few_body opendir body w = tt
few_body (read fh offset size) body w = w.2.few
few_body (write fh offset bytes) body w = w.4.few
few_body (flush fh) body w = tt
few_body (fsync fh) body w = tt
few_body (release fh) body w = tt
few_body (releasedir fh) body w = tt
few_body (readdir fh offset size) body w = w.2.few
few_body (create name) body w = tt
few_body (mkdir name) body w = tt
few_body (unlink name) body w = tt
few_body (rmdir name) body w = tt
few_body statfs body w = tt
few_body destroy body w = tt

-- a message that is spelled asks for at most 131,072 bytes
pub few_spelled : (bytes : List ℕ) (m : Message) → Spells bytes m → IsFew m.asked
few_spelled bytes m w = few_body m.asked w.body w.asked

few_none : (d : Result Deed Errno) → NoCall d → AreFew d
few_none (Err e) w = tt
few_none (Ok deed.Silent) w = tt
few_none (Ok deed.Empty) w = tt
few_none (Ok (deed.Entry x)) w = tt
few_none (Ok (deed.Attr x)) w = tt
few_none (Ok (deed.Opened handle)) w = tt
few_none (Ok deed.Statfs) w = tt
few_none (Ok (deed.Init x)) w = tt
few_none (Ok (deed.Names listing)) w = tt
few_none (Ok deed.NoneWritten) w = tt
few_none (Ok (deed.Read r)) w = absurd w
few_none (Ok (deed.Load r)) w = absurd w
few_none (Ok (deed.Store r)) w = absurd w
few_none (Ok (deed.Cut r)) w = absurd w
few_none (Ok (deed.Sync number)) w = absurd w

pub few_by : (asked : Asked) (d : Result Deed Errno) → CallsBy asked d → AreFew d
few_by (init a b c e) d w = few_none d w
few_by (lookup name) d w = few_none d w
few_by (forget n) d w = few_none d w
few_by (batch_forget pairs) d w = few_none d w
few_by interrupt d w = few_none d w
few_by getattr d w = few_none d w
few_by (setattr valid size) d w = w
few_by (opening flags) d w = few_none d w
few_by opendir d w = few_none d w
few_by (read fh offset size) d w = w
few_by (write fh offset bytes) d w = w
few_by (flush fh) d w = few_none d w
few_by (fsync fh) d w = w
few_by (release fh) d w = few_none d w
few_by (releasedir fh) d w = few_none d w
few_by (readdir fh offset size) d w = few_none d w
few_by (create name) d w = few_none d w
few_by (mkdir name) d w = few_none d w
few_by (unlink name) d w = few_none d w
few_by (rmdir name) d w = few_none d w
few_by statfs d w = few_none d w
few_by destroy d w = few_none d w

answers_none : (d : Result Deed Errno) (a : Answer) → NoCall d → Answers d a → a ≡ answer_to d
answers_none (Err e) a w same = same
answers_none (Ok deed.Silent) a w same = same
answers_none (Ok deed.Empty) a w same = same
answers_none (Ok (deed.Entry x)) a w same = same
answers_none (Ok (deed.Attr x)) a w same = same
answers_none (Ok (deed.Opened handle)) a w same = same
answers_none (Ok deed.Statfs) a w same = same
answers_none (Ok (deed.Init x)) a w same = same
answers_none (Ok (deed.Names listing)) a w same = same
answers_none (Ok deed.NoneWritten) a w same = same
answers_none (Ok (deed.Read r)) a w same = absurd w
answers_none (Ok (deed.Load r)) a w same = absurd w
answers_none (Ok (deed.Store r)) a w same = absurd w
answers_none (Ok (deed.Cut r)) a w same = absurd w
answers_none (Ok (deed.Sync number)) a w same = absurd w

stays_none : (d : Result Deed Errno) (old new : Writables) → NoCall d → StaysBy d old new → new ≡ old
stays_none (Err e) old new w same = same
stays_none (Ok deed.Silent) old new w same = same
stays_none (Ok deed.Empty) old new w same = same
stays_none (Ok (deed.Entry x)) old new w same = same
stays_none (Ok (deed.Attr x)) old new w same = same
stays_none (Ok (deed.Opened handle)) old new w same = same
stays_none (Ok deed.Statfs) old new w same = same
stays_none (Ok (deed.Init x)) old new w same = same
stays_none (Ok (deed.Names listing)) old new w same = same
stays_none (Ok deed.NoneWritten) old new w same = same
stays_none (Ok (deed.Read r)) old new w same = absurd w
stays_none (Ok (deed.Load r)) old new w same = absurd w
stays_none (Ok (deed.Store r)) old new w same = absurd w
stays_none (Ok (deed.Cut r)) old new w same = absurd w
stays_none (Ok (deed.Sync number)) old new w same = absurd w

module _ (s : State) (node : ℕ) (d : Result Deed Errno) (a : Answer) (between : State) (files : Writables) where
  other_by : (asked : Asked) → NoCall d → Answers d a → StaysBy d between.writables files → Becomes s node asked (answer_to d) between → Becomes s node asked a (with_writables between files)
  other_by asked none says stays w = rw (stays_none d between.writables files none stays) (rw (answers_none d a none says) w)

  -- the state after the answer
  pub next_by : (asked : Asked) → CallsBy asked d → Answers d a → StaysBy d between.writables files → Becomes s node asked (answer_to d) between → Becomes s node asked a (with_writables between files)
  next_by (init i j k l) calls says stays w = other_by (init i j k l) calls says stays w
  next_by (lookup name) calls says stays w = other_by (lookup name) calls says stays w
  next_by (forget n) calls says stays w = other_by (forget n) calls says stays w
  next_by (batch_forget pairs) calls says stays w = other_by (batch_forget pairs) calls says stays w
  next_by interrupt calls says stays w = other_by interrupt calls says stays w
  next_by getattr calls says stays w = other_by getattr calls says stays w
  next_by (setattr valid size) calls says stays w = ap (λ t. with_writables t files) w
  next_by (opening flags) calls says stays w = other_by (opening flags) calls says stays w
  next_by opendir calls says stays w = other_by opendir calls says stays w
  next_by (read fh offset size) calls says stays w = ap (λ t. with_writables t files) w
  next_by (write fh offset bytes) calls says stays w = ap (λ t. with_writables t files) w
  next_by (flush fh) calls says stays w = other_by (flush fh) calls says stays w
  next_by (fsync fh) calls says stays w = ap (λ t. with_writables t files) w
  next_by (release fh) calls says stays w = other_by (release fh) calls says stays w
  next_by (releasedir fh) calls says stays w = other_by (releasedir fh) calls says stays w
  next_by (readdir fh offset size) calls says stays w = other_by (readdir fh offset size) calls says stays w
  next_by (create name) calls says stays w = other_by (create name) calls says stays w
  next_by (mkdir name) calls says stays w = other_by (mkdir name) calls says stays w
  next_by (unlink name) calls says stays w = other_by (unlink name) calls says stays w
  next_by (rmdir name) calls says stays w = other_by (rmdir name) calls says stays w
  next_by statfs calls says stays w = other_by statfs calls says stays w
  next_by destroy calls says stays w = other_by destroy calls says stays w
