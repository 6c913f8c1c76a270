-- What a request makes of the bytes of the writable files, and what is read of them.
use Rattle.std.proofs.Common.{◌≡◌, ◌≢◌, ℕ, ◌+◌, Bool, true, false, List, [], ◌∷◌, ◌++◌, length, refl, ap, sym, subst, ◌∙◌, Option, Some, None, Result, Ok, Err, arith, inl, inr, ⊎_elim}
use Rattle.std.specs.Prelude.{◌⊎◌, nat_eq, cond, IsSome}
use Rattle.std.specs.Ordering.{nat_cmp, is_eq, eq_by_cmp}
use Rattle.std.specs.BTreeMap.{is_at}
use Rattle.std.proofs.lemmas.Cmp.{nat_cmp_total, eq_by_cmp_equiv}
use Rattle.std.proofs.lemmas.Map.{lookup-set_value}
use Rattle.std.proofs.lemmas.Grind.{common_steps}
use Rattle.std.proofs.lemmas.Bool.Decides.{nat_tests}
use Rattle.mg_base.specs.declared.errno.Errno.{Errno}
use Rattle.host_traits.specs.Held.{Held, resized}
use Rattle.host_traits.specs.declared.calls.Call.{Call}
use Rattle.host_traits.specs.declared.calls.Said.{Said}
use Rattle.host_traits.specs.Told.{Told, Made, Talked, HeldAfter, ServesAll, heard_of, exchange_of, failures_of, one_failure}
use Rattle.host_traits.specs.Did.{Trace}
use Rattle.sha_tree.specs.Path.{NoClash}
use Rattle.session_frames.specs.Replies.{Sent, message_sent}
use Rattle.verity_path.specs.declared.device.Cause.{Cause}
use Rattle.verity_path.specs.declared.walk.WalkFault.{WalkFault}
use Rattle.verity_path.specs.declared.walk.WalkFault.TheVariants as walk
use Rattle.rw_file.specs.declared.faults.RwFault.{RwFault}
use Rattle.rw_file.specs.declared.faults.RwFault.TheVariants as fault
use Rattle.rw_file.specs.declared.faults.Written.{Written}
use Rattle.rw_file.specs.Contents.{IsVersion, Only, IsFileHashed, IsAtHost, IsSame, version}
use Rattle.rw_file.specs.Rows.{IsNow, IsNowOr, IsUncounted, IsStopped, ReadOutcome, WriteOutcome, WrittenSays, CutOutcome, SyncOutcome}
use Rattle.fuse_codec.specs.Reply as reply
use Rattle.fuse_codec.specs.Reply.{Answer, bytes_out, attributes, empty, refused}
use Rattle.fuse_server.specs.State.{State as Fuse, WritableFile, Writables, writable_at, replaced, attr_of_size}
use Rattle.fuse_server.specs.Aims.{Aim, says, makes, reads, loads, writes, cuts, syncs, aim_of, number_of}
use Rattle.fuse_server.specs.FileRows.{IsLocal, meaning_of, IsReplaced, LoadRow, WriteRow, CutRow, SyncRow, answer_if, written_answer}
use Rattle.fuse_server.specs.Rows.{FuseRow}
use Rattle.fuse_server.proofs.Keeping.{OfFiles, all_of}
use Rattle.instance_image.specs.Sealings.{Sealing}
use Rattle.guest_rules.specs.Machine.{Setting, World, State, Moment, Turn, Request, message_of, read_of, get_of, put_of, request_of}
use Rattle.guest_rules.specs.MessageRow.{Heard, IsCutFrom, around_message}
use Rattle.guest_rules.specs.Step.{Step, Row, heard_in}
use Rattle.guest_rules.specs.Written.{FileBytes, StandFor, put_at, count_of, cut_to, bytes_by, answer_in, request_bytes, bytes_after, IsClearBy, IsRequestClear, IsClear, IsSliceBy, IsRequestRead, IsRead, WritesAreRead}
use Rattle.guest_rules.proofs.Standing.{put_keeps}

-- ---- another file at a number

pub eq_of : (a b : ℕ) → nat_eq a b ≡ true → a ≡ b
eq_of a b e = grind (arith, nat_tests)

key_is : (n k : ℕ) → is_eq (nat_cmp n k) ≡ nat_eq k n
key_is n k = grind (arith, common_steps)

same_key : (n x y : ℕ) → is_eq (nat_cmp n x) ≡ true → is_eq (nat_cmp n y) ≡ is_eq (nat_cmp x y)
same_key n x y e = let same : x ≡ n = eq_of x n (sym (key_is n x) ∙ e) in ap (λ (k : ℕ). is_eq (nat_cmp k y)) (sym same)

pub some_is : {A : Type 0} (x y : A) → Some x ≡ Some y → x ≡ y
some_is x y e = cc

is_some : {A : Type 0} (o : Option A) (x : A) → o ≡ Some x → IsSome o
is_some o x e = rw e refl

-- what is found then: the new one at its number, and elsewhere what was there
pub found_then : (files : Writables) (n m : ℕ) (f new : WritableFile) → writable_at files n ≡ Some f → writable_at (replaced n new files) m ≡ cond (nat_eq m n) (Some new) (writable_at files m)
found_then files n m f new there =
    lookup-set_value {eq = eq_by_cmp nat_cmp} (eq_by_cmp_equiv nat_cmp_total) (is_at (nat_cmp n)) (same_key n) m new files (is_some (writable_at files n) f there)
    ∙ ap (λ (b : Bool). cond b (Some new) (writable_at files m)) (key_is n m)

-- so a file that is there is the new one, or the one that was there
pub replaced_at : (files : Writables) (n m : ℕ) (f new g : WritableFile) → writable_at files n ≡ Some f → writable_at (replaced n new files) m ≡ Some g → (Q : WritableFile → Type 0)
    → (m ≡ n → nat_eq m n ≡ true → Q new) → (nat_eq m n ≡ false → writable_at files m ≡ Some g → Q g) → Q g
replaced_at files n m f new g there at Q here other = by_key (nat_eq m n) refl (sym (found_then files n m f new there) ∙ at) where
  by_key : (b : Bool) → nat_eq m n ≡ b → cond b (Some new) (writable_at files m) ≡ Some g → Q g
  by_key true e l = subst Q (some_is new g l) (here (eq_of m n e) e)
  by_key false e l = other e l

-- ---- what a request on a writable file leaves

-- the file stands for this content afterwards, and a host that held the bytes before it holds these
pub record IsLeft (x y : Option Held) (f new : WritableFile) (c made : List ℕ) : Type 0 where
  pub now : (meaning_of new).is made
  pub agree : IsAtHost x f.file c → IsAtHost y f.file made

module _ (x y : Option Held) (t : Trace) (f new : WritableFile) (c : List ℕ) (is : (meaning_of f).is c) (still : t.own ≡ [] → t.failed ≡ 0 → y ≡ x) where
  by_now : (made : List ℕ) → IsNow (meaning_of f) (meaning_of new) f.file x y c made → IsLeft x y f new c made
  by_now made n = record { now = n.now; agree = n.agree }

  -- nothing is uncounted: the tree is local
  by_now_or : (IsTree : Call → Type 0) (call : Call) (why : WalkFault) (made next : List ℕ) → IsNowOr (IsUncounted IsLocal f.file IsTree call t why) (meaning_of f) (meaning_of new) f.file x y c made next
      → IsLeft x y f new c made
  by_now_or IsTree call why made next n = record { now = n.now; agree = λ h. ⊎_elim (λ a. a) (λ u. absurd (u.0.far tt)) (n.agree h) }

  by_same : t.own ≡ [] → t.failed ≡ 0 → IsSame (meaning_of f) (meaning_of new) → IsLeft x y f new c c
  by_same own failed same = record { now = (same c is).0; agree = λ h. subst (λ (z : Option Held). IsAtHost z f.file c) (sym (still own failed)) h }

  pub load_by : (offset size : ℕ) (b : List ℕ) (result : Result (Unit {0}) RwFault) → NoClash (IsFileHashed (Only c) t.own)
      → ReadOutcome IsLocal f.file f.size offset size (meaning_of f) (meaning_of new) x y b result t
      → IsLeft x y f new c c × IsCutFrom c offset size (answer_if (bytes_out b) result)
  load_by offset size b (Ok u) clear o = let so = o.content c is clear in (by_now c so.0, so.1)
  load_by offset size b (Err (fault.Mismatch m)) clear o = (by_now c (o.kept c is clear), tt)
  load_by offset size b (Err (fault.Short asked got)) clear o = (by_now c (o.kept c is clear), tt)
  load_by offset size b (Err (fault.Failed faults)) clear o = (by_now c (o.kept c is clear), tt)
  load_by offset size b (Err fault.Memory) clear o = ⊎_elim (λ none. absurd none) (λ k. (by_now c (k.kept c is clear), tt)) o
  load_by offset size b (Err (fault.TooLarge end)) clear o = absurd o

  -- a write that ended early, or was refused
  stopped_by : (at : ℕ) (b : List ℕ) (count : ℕ) (why : WalkFault) → NoClash (IsFileHashed (IsVersion c at b count) t.own)
      → IsStopped IsLocal f.file f.size at b count (meaning_of f) (meaning_of new) x y t why → IsLeft x y f new c (version c at b count)
  stopped_by at b count why clear o = by_now_or _ _ why (version c at b count) _ (o.content c is clear)

  why_by : (at : ℕ) (b : List ℕ) (count : ℕ) (why : Option RwFault) → NoClash (IsFileHashed (IsVersion c at b count) t.own)
      → WrittenSays IsLocal f.file f.size at b (meaning_of f) (meaning_of new) x y count why t → IsLeft x y f new c (version c at b count)
  why_by at b count None clear o = subst (λ (k : ℕ). IsLeft x y f new c (version c at b k)) (sym o.0)
      (by_now _ (o.1.content c is (subst (λ (k : ℕ). NoClash (IsFileHashed (IsVersion c at b k) t.own)) o.0 clear)))
  why_by at b count (Some (fault.Mismatch m)) clear o = stopped_by at b count (walk.Mismatch m) clear o.stopped
  why_by at b count (Some (fault.Short asked got)) clear o = stopped_by at b count (walk.Short asked got) clear o.stopped
  why_by at b count (Some (fault.Failed faults)) clear o = stopped_by at b count (walk.Failed faults) clear o.stopped
  why_by at b count (Some fault.Memory) clear o = ⊎_elim (λ none. absurd none) (stopped_by at b count walk.Memory clear) o.stopped
  why_by at b count (Some (fault.TooLarge end)) clear o = absurd o.stopped

  pub write_by : (at : ℕ) (b : List ℕ) (result : Result Written RwFault) → NoClash (IsFileHashed (IsVersion c at b (count_of (written_answer result))) t.own)
      → WriteOutcome IsLocal f.file f.size at b (meaning_of f) (meaning_of new) x y result t → IsLeft x y f new c (version c at b (count_of (written_answer result)))
  write_by at b (Ok w) clear o = why_by at b w.count w.why clear o
  write_by at b (Err (fault.Mismatch m)) clear o = stopped_by at b 0 (walk.Mismatch m) clear o
  write_by at b (Err (fault.Short asked got)) clear o = stopped_by at b 0 (walk.Short asked got) clear o
  write_by at b (Err (fault.Failed faults)) clear o = stopped_by at b 0 (walk.Failed faults) clear o
  write_by at b (Err fault.Memory) clear o = ⊎_elim (λ r. by_same r.none r.failed r.kept) (stopped_by at b 0 walk.Memory clear) o
  write_by at b (Err (fault.TooLarge end)) clear o = by_same o.1.none o.1.failed o.1.kept

  -- the bytes after another size
  abbrev pub cut_bytes : ℕ → Result (Unit {0}) RwFault → List ℕ
  cut_bytes size (Ok u) = resized c size
  cut_bytes size (Err e) = c

  pub cut_by : (size : ℕ) (result : Result (Unit {0}) RwFault) → NoClash (IsFileHashed (Only c) t.own)
      → CutOutcome IsLocal f.file f.size size (meaning_of f) (meaning_of new) x y result t → IsLeft x y f new c (cut_bytes size result)
  cut_by size (Ok u) clear o = by_now _ (o.content c is clear)
  cut_by size (Err (fault.Mismatch m)) clear o = by_now_or _ _ (walk.Mismatch m) c _ (o.content c is clear)
  cut_by size (Err (fault.Short asked got)) clear o = by_now_or _ _ (walk.Short asked got) c _ (o.content c is clear)
  cut_by size (Err (fault.Failed faults)) clear o = by_now_or _ _ (walk.Failed faults) c _ (o.content c is clear)
  cut_by size (Err fault.Memory) clear o = ⊎_elim (λ r. by_same r.none r.failed r.kept) (λ k. by_now_or _ _ walk.Memory c _ (k.content c is clear)) o
  cut_by size (Err (fault.TooLarge end)) clear o = by_same o.1.none o.1.failed o.1.kept

  pub sync_by : (IsTree : Call → Type 0) (result : Result (Unit {0}) RwFault) → NoClash (IsFileHashed (Only c) t.own)
      → SyncOutcome IsLocal f.file f.size IsTree (meaning_of f) (meaning_of new) x y result t → IsLeft x y f new c c
  sync_by IsTree (Ok u) clear o = by_now c (o.1 c is clear)
  sync_by IsTree (Err (fault.Mismatch m)) clear o = by_now c (o.kept c is clear)
  sync_by IsTree (Err (fault.Short asked got)) clear o = by_now c (o.kept c is clear)
  sync_by IsTree (Err (fault.Failed faults)) clear o = by_now c (o.kept c is clear)
  sync_by IsTree (Err fault.Memory) clear o = ⊎_elim (λ none. absurd none) (λ k. by_now c (k.kept c is clear)) o
  sync_by IsTree (Err (fault.TooLarge end)) clear o = absurd o

-- ---- all files

nat_same : (n : ℕ) → nat_eq n n ≡ true
nat_same n = grind (arith, nat_tests)

-- another file than that of the request; where it is on none, any
abbrev pub IsOther : ℕ → Result Aim Errno → Type 0
IsOther file (Ok (loads number f offset size)) = f.file ≢ file
IsOther file (Ok (writes number f offset bytes)) = f.file ≢ file
IsOther file (Ok (cuts number f node size)) = f.file ≢ file
IsOther file (Ok (syncs number f)) = f.file ≢ file
IsOther file (Ok (says x)) = Unit {0}
IsOther file (Ok (makes x)) = Unit {0}
IsOther file (Ok (reads f offset size)) = Unit {0}
IsOther file (Err e) = Unit {0}

abbrev pub IsOtherFile : ℕ → Fuse → Request → Type 0
IsOtherFile file s (message_of m) = IsOther file (aim_of s m)
IsOtherFile file s (read_of r) = Unit {0}
IsOtherFile file s (get_of uuid) = Unit {0}
IsOtherFile file s (put_of uuid text) = Unit {0}

-- What is left of the files: in the place of the one at a number, another of the same number at the host, which is left so; and the
-- bytes at the other numbers. The host's files of other numbers are such.
pub record AreLeft (s new : Fuse) (h : Heard) (Other : ℕ → Type 0) (bytes after : FileBytes) : Type 0 where
  pub number : ℕ
  pub file : WritableFile
  pub other : WritableFile
  pub there : writable_at s.writables number ≡ Some file
  pub files : new.writables ≡ replaced number other s.writables
  pub file_is : other.file ≡ file.file
  pub left : IsLeft h.before h.after file other (bytes number) (after number)
  pub same : (m : ℕ) → nat_eq m number ≡ false → after m ≡ bytes m
  pub others : (k : ℕ) → file.file ≢ k → Other k

-- no file is another, and no bytes are
pub record AreSame (s new : Fuse) (Other : ℕ → Type 0) (bytes after : FileBytes) : Type 0 where
  pub files : new.writables ≡ s.writables
  pub bytes_are : after ≡ bytes
  pub others : (k : ℕ) → Other k

module _ (s new : Fuse) (h : Heard) (bytes : FileBytes) (stand : StandFor s.writables bytes) (still : h.trace.own ≡ [] → h.trace.failed ≡ 0 → h.after ≡ h.before) where
  -- what becomes of the files, and what was read of them
  abbrev pub Leaves : Result Aim Errno → Answer → Type 0
  Leaves aim answer = (AreSame s new (λ k. IsOther k aim) bytes (bytes_by aim answer bytes) ⊎ AreLeft s new h (λ k. IsOther k aim) bytes (bytes_by aim answer bytes)) × IsSliceBy aim answer bytes

  module _ (n : ℕ) (f other : WritableFile) (size : ℕ) (there : writable_at s.writables n ≡ Some f) (r : IsReplaced n f other size (around_message h s new)) where
    abbrev Left : FileBytes → Type 0
    Left after = AreLeft s new h (λ k. f.file ≢ k) bytes after

    left_as : (after : FileBytes) → IsLeft h.before h.after f other (bytes n) (after n) → ((m : ℕ) → nat_eq m n ≡ false → after m ≡ bytes m) → Left after
    left_as after left same = record { number = n; file = f; other = other; there = there; files = r.files; file_is = r.file_is; left = left; same = same; others = λ k apart. apart }

    left_kept : IsLeft h.before h.after f other (bytes n) (bytes n) → Left bytes
    left_kept left = left_as bytes left (λ m e. refl)

    left_put : (b : List ℕ) → IsLeft h.before h.after f other (bytes n) b → Left (put_at bytes n b)
    left_put b left = left_as (put_at bytes n b) (rw (nat_same n) left) (λ m e. rw e refl)

    left_cut : (size node : ℕ) (result : Result (Unit {0}) RwFault)
        → IsLeft h.before h.after f other (bytes n) (cut_bytes h.before h.after h.trace f other (bytes n) (stand n f there) still size result)
        → Left (cut_to bytes n size (answer_if (attributes (attr_of_size node size)) result))
    left_cut size node (Ok u) left = left_put _ left
    left_cut size node (Err e) left = left_kept left

  load_is : (n : ℕ) (f : WritableFile) (offset size : ℕ) (answer : Answer) (cause : Option Cause) → writable_at s.writables n ≡ Some f → NoClash (IsFileHashed (Only (bytes n)) h.trace.own)
      → LoadRow n f offset size (around_message h s new) answer cause → Leaves (Ok (loads n f offset size)) answer
  load_is n f offset size answer cause there clear row =
      let so = load_by h.before h.after h.trace f row.new (bytes n) (stand n f there) still offset size row.bytes row.result clear row.outcome in
      (inr (left_kept n f row.new _ there row.replaced so.0), subst (λ (a : Answer). IsCutFrom (bytes n) offset size a) (sym row.answer_is) so.1)

  write_is : (n : ℕ) (f : WritableFile) (offset : ℕ) (b : List ℕ) (answer : Answer) (cause : Option Cause) → writable_at s.writables n ≡ Some f
      → NoClash (IsFileHashed (IsVersion (bytes n) offset b (count_of answer)) h.trace.own)
      → WriteRow n f offset b (around_message h s new) answer cause → Leaves (Ok (writes n f offset b)) answer
  write_is n f offset b answer cause there clear row =
      let clear_by = subst (λ (a : Answer). NoClash (IsFileHashed (IsVersion (bytes n) offset b (count_of a)) h.trace.own)) row.answer_is clear in
      let so = write_by h.before h.after h.trace f row.new (bytes n) (stand n f there) still offset b row.result clear_by row.outcome in
      (inr (subst (λ (a : Answer). AreLeft s new h (λ k. f.file ≢ k) bytes (put_at bytes n (version (bytes n) offset b (count_of a)))) (sym row.answer_is) (left_put n f row.new _ there row.replaced _ so)), tt)

  cut_is : (n : ℕ) (f : WritableFile) (node size : ℕ) (answer : Answer) (cause : Option Cause) → writable_at s.writables n ≡ Some f → NoClash (IsFileHashed (Only (bytes n)) h.trace.own)
      → CutRow n f node size (around_message h s new) answer cause → Leaves (Ok (cuts n f node size)) answer
  cut_is n f node size answer cause there clear row =
      let so = cut_by h.before h.after h.trace f row.new (bytes n) (stand n f there) still size row.result clear row.outcome in
      (inr (subst (λ (a : Answer). AreLeft s new h (λ k. f.file ≢ k) bytes (cut_to bytes n size a)) (sym row.answer_is) (left_cut n f row.new _ there row.replaced size node row.result so)), tt)

  sync_is : (n : ℕ) (f : WritableFile) (answer : Answer) (cause : Option Cause) → writable_at s.writables n ≡ Some f → NoClash (IsFileHashed (Only (bytes n)) h.trace.own)
      → SyncRow n f (around_message h s new) answer cause → Leaves (Ok (syncs n f)) answer
  sync_is n f answer cause there clear row =
      (inr (left_kept n f row.new _ there row.replaced (sync_by h.before h.after h.trace f row.new (bytes n) (stand n f there) still _ row.result clear row.outcome)), tt)

  same_as : new.writables ≡ s.writables → AreSame s new (λ k. Unit {0}) bytes bytes
  same_as e = record { files = e; bytes_are = refl; others = λ k. tt }

  pub aim_is : (aim : Result Aim Errno) (answer : Answer) (cause : Option Cause) → OfFiles s aim → IsClearBy aim answer bytes h.trace.own
      → FuseRow aim (around_message h s new) answer cause → Leaves aim answer
  aim_is (Err e) answer cause of clear row = (inl (same_as row.0), tt)
  aim_is (Ok (says x)) answer cause of clear row = (inl (same_as row.0), tt)
  aim_is (Ok (makes x)) answer cause of clear row = (inl (same_as row.0), tt)
  aim_is (Ok (reads f offset size)) answer cause of clear row = (inl (same_as row.0), tt)
  aim_is (Ok (loads n f offset size)) answer cause of clear row = load_is n f offset size answer cause of clear row
  aim_is (Ok (writes n f offset b)) answer cause of clear row = write_is n f offset b answer cause of.0 clear row
  aim_is (Ok (cuts n f node size)) answer cause of clear row = cut_is n f node size answer cause of.0 clear row
  aim_is (Ok (syncs n f)) answer cause of clear row = sync_is n f answer cause of clear row

-- so the files stand for the bytes
left_stand : (s new : Fuse) (h : Heard) (Other : ℕ → Type 0) (bytes after : FileBytes) → StandFor s.writables bytes → AreLeft s new h Other bytes after → StandFor new.writables after
left_stand s new h Other bytes after stand l = subst (λ z. StandFor z after) (sym l.files) (λ m g at.
    replaced_at s.writables l.number m l.file l.other g l.there at (λ f. (meaning_of f).is (after m))
    (λ e here. subst (λ (k : ℕ). (meaning_of l.other).is (after k)) (sym e) l.left.now)
    (λ other was. subst (λ (c : List ℕ). (meaning_of g).is c) (sym (l.same m other)) (stand m g was)))

pub now_stand : (s new : Fuse) (h : Heard) (Other : ℕ → Type 0) (bytes after : FileBytes) → StandFor s.writables bytes → AreSame s new Other bytes after ⊎ AreLeft s new h Other bytes after
    → StandFor new.writables after
now_stand s new h Other bytes after stand (inl l) = subst (λ z. StandFor z after) (sym l.files) (subst (λ (b : FileBytes). StandFor s.writables b) (sym l.bytes_are) stand)
now_stand s new h Other bytes after stand (inr l) = left_stand s new h Other bytes after stand l

-- ---- a turn

pub answer_is : (unique : ℕ) (a : Answer) → answer_in (message_sent unique a) ≡ a
answer_is unique reply.silent = refl
answer_is unique (reply.refused e) = refl
answer_is unique reply.empty = refl
answer_is unique (reply.entry out) = refl
answer_is unique (reply.attributes attr) = refl
answer_is unique (reply.opened handle) = refl
answer_is unique (reply.created out handle) = refl
answer_is unique (reply.written count) = refl
answer_is unique reply.statfs_out = refl
answer_is unique (reply.inited out) = refl
answer_is unique (reply.bytes_out b) = refl

module _ (g : Setting) (world : World) (run : List Sealing) (h : Heard) (old new : State) (sent : Sent) (cause : Option Cause) (bytes : FileBytes) (stand : StandFor old.fuse.writables bytes)
    (still : h.trace.own ≡ [] → h.trace.failed ≡ 0 → h.after ≡ h.before) where
  -- what becomes of the files by a request, and what was read of them
  abbrev pub RequestLeaves : Request → Type 0
  RequestLeaves request =
      (AreSame old.fuse new.fuse (λ k. IsOtherFile k old.fuse request) bytes (request_bytes old.fuse request sent bytes)
      ⊎ AreLeft old.fuse new.fuse h (λ k. IsOtherFile k old.fuse request) bytes (request_bytes old.fuse request sent bytes)) × IsRequestRead old.fuse request sent bytes

  same_fuse : new.fuse ≡ old.fuse → AreSame old.fuse new.fuse (λ k. Unit {0}) bytes bytes
  same_fuse e = record { files = ap (λ (f : Fuse). f.writables) e; bytes_are = refl; others = λ k. tt }

  pub request_is : (request : Request) → Row g world run h request old new sent cause → IsRequestClear old.fuse request sent bytes h.trace.own → RequestLeaves request
  request_is (message_of m) row clear =
      let message = row.2 in
      let same : answer_in sent ≡ message.answer = ap answer_in message.sent_is ∙ answer_is (number_of m) message.answer in
      let clear_by = subst (λ (a : Answer). IsClearBy (aim_of old.fuse m) a bytes h.trace.own) same clear in
      subst (λ (a : Answer). Leaves old.fuse new.fuse h bytes stand still (aim_of old.fuse m) a) (sym same)
      (aim_is old.fuse new.fuse h bytes stand still (aim_of old.fuse m) message.answer cause (all_of old.fuse m) clear_by message.row)
  request_is (read_of r) row clear = (inl (same_fuse (ap (λ (s : State). s.fuse) row.0)), tt)
  request_is (get_of uuid) row clear = (inl (same_fuse (ap (λ (s : State). s.fuse) row.0)), tt)
  request_is (put_of uuid text) row clear = (inl (same_fuse (put_keeps g.image h.trace uuid text old new sent cause row)), tt)

-- where no call was made, what is held stays
no_calls : (own : List Made) → heard_of own ≡ [] → failures_of own ≡ 0 → own ≡ []
no_calls [] none calm = refl
no_calls (m ∷ own) none calm = by_came m.came none calm where
  by_came : (came : Option Said) → exchange_of m.call came ++ heard_of own ≡ [] → one_failure came + failures_of own ≡ 0 → m ∷ own ≡ []
  by_came None none calm = absurd (omega (arith, calm))
  by_came (Some said) none calm = absurd (omega (arith, ap length none))

held_still : (honest : Bool) (x y : Option Held) (own : List Made) → own ≡ [] → HeldAfter honest x own y → y ≡ x
held_still honest None y own none after = after
held_still honest (Some h) y own none after = after.1 ∙ ap (λ (k : Held). Some k) (subst (λ (z : List Made). ServesAll honest h z after.0) none after.2)

pub stays_held : (x y : Told) (own : List Made) → Talked x y own → heard_of own ≡ [] → failures_of own ≡ 0 → y.held ≡ x.held
stays_held x y own talked none calm = held_still x.honest x.held y.held own (no_calls own none calm) talked.held

-- what becomes of the files by a turn, and what was read of them
abbrev pub TurnLeaves : Moment → Turn → Moment → FileBytes → Type 0
TurnLeaves old turn new bytes =
    (AreSame old.state.fuse new.state.fuse (λ k. IsOtherFile k old.state.fuse (request_of turn.frame)) bytes (bytes_after old.state turn bytes)
    ⊎ AreLeft old.state.fuse new.state.fuse (heard_in old turn new) (λ k. IsOtherFile k old.state.fuse (request_of turn.frame)) bytes (bytes_after old.state turn bytes)) × IsRead old.state turn bytes

pub turn_is : (g : Setting) (world : World) (old : Moment) (turn : Turn) (new : Moment) (bytes : FileBytes) → Step g world old turn new → StandFor old.state.fuse.writables bytes
    → IsClear old.state turn bytes → TurnLeaves old turn new bytes
turn_is g world old turn new bytes step stand clear =
    request_is g world old.sealings (heard_in old turn new) old.state new.state turn.sent turn.cause bytes stand (stays_held old.told new.told turn.own step.talked) (request_of turn.frame) step.row clear

pub all_read : WritesAreRead
all_read g world old [] new run bytes stand clear = subst (λ (m : Moment). StandFor m.state.fuse.writables bytes) run stand
all_read g world old (turn ∷ turns) new run bytes stand clear =
    let one = turn_is g world old turn run.0 bytes run.2 stand clear.0 in
    let next = now_stand old.state.fuse run.0.state.fuse (heard_in old turn run.0) (λ k. IsOtherFile k old.state.fuse (request_of turn.frame)) bytes (bytes_after old.state turn bytes) stand one.0 in
    (one.1, all_read g world run.0 turns new run.3 (bytes_after old.state turn bytes) next clear.1)
