-- What a host that holds the bytes of the writable files holds after a request.
use Rattle.std.proofs.Common.{◌≡◌, ◌≢◌, ℕ, Bool, true, false, List, [], ◌∷◌, refl, ap, sym, subst, ◌∙◌, Option, Some, None, Result, Ok, Err, arith, inl, inr, ⊎_elim}
use Rattle.std.specs.Prelude.{◌⊎◌, nat_eq, cond}
use Rattle.std.proofs.lemmas.Map.{update_other}
use Rattle.std.proofs.lemmas.Bool.Decides.{nat_tests}
use Rattle.mg_base.specs.declared.errno.Errno.{Errno}
use Rattle.host_traits.specs.declared.calls.Call.{Call}
use Rattle.host_traits.specs.declared.calls.Call.TheVariants.{BlockWrite, FileRead, FileWrite, Resize}
use Rattle.host_traits.specs.declared.calls.Said.{Said}
use Rattle.host_traits.specs.declared.calls.Said.TheVariants.{Done}
use Rattle.host_traits.specs.Held.{Held, File, serve, found, when, with_file, over, resized}
use Rattle.host_traits.specs.Told.{Told, Made, Talked, HeldAfter, Serves, ServesAll}
use Rattle.host_traits.specs.Did.{Each}
use Rattle.host_traits.proofs.Doing.{each_so}
use Rattle.sha_tree.specs.Tree.{ancestor}
use Rattle.verity_path.specs.Range.{IsForRead}
use Rattle.verity_path.specs.declared.walk.Layout.{Layout}
use Rattle.sha_tree.specs.declared.measure.Measure.{Measure}
use Rattle.rw_file.specs.Contents.{IsAtHost}
use Rattle.fuse_server.specs.State.{State as Fuse, WritableFile, writable_at, replaced}
use Rattle.fuse_server.specs.Aims.{Aim, says, makes, reads, loads, writes, cuts, syncs, aim_of}
use Rattle.fuse_server.specs.Rows.{IsForFuse}
use Rattle.fuse_server.specs.Serving.{AreNumbered}
use Rattle.guest_rules.specs.Machine.{Setting, State, Moment, Request, message_of, read_of, get_of, put_of, request_of, Instance}
use Rattle.instance_image.specs.declared.values.Part.{Part}
use Rattle.guest_rules.specs.RecordRow.{IsForGet, IsForPut}
use Rattle.guest_rules.specs.MessageRow.{Heard}
use Rattle.guest_rules.specs.Step.{IsFor, heard_in}
use Rattle.guest_rules.specs.Written.{FileBytes, bytes_after, Agrees, HostsAgree, RunsAgree}
use Rattle.guest_rules.proofs.Devices.{page_reads}
use Rattle.guest_rules.proofs.Holding.{IsReading, of_blocks, of_file, pair_is, reading_keeps}
use Rattle.guest_rules.proofs.Writing.{IsOther, IsOtherFile, AreSame, AreLeft, eq_of, some_is, found_then, replaced_at, now_stand, turn_is}

-- a call that leaves the bytes of a file: it reads, or writes sectors, or another file
pub data IsLeaving (file : ℕ) : Call → Type 0 where
  reading : (call : Call) → IsReading call → IsLeaving file call
  on_disk : (disk sector count : ℕ) → IsLeaving file (BlockWrite disk sector count)
  on_file : (other at count : ℕ) → other ≢ file → IsLeaving file (FileWrite other at count)
  on_size : (other size : ℕ) → other ≢ file → IsLeaving file (Resize other size)

-- ---- what is held after such calls

found_file : {A : Type 0} (o : Option A) (make : A → Option (Said × Held)) (h k : Held) (said : Said) (file : ℕ) → ((a : A) → make a ≡ Some (said, k) → k.file file ≡ h.file file)
    → found o make ≡ Some (said, k) → k.file file ≡ h.file file
found_file None make h k said file all e = cc
found_file (Some a) make h k said file all e = all a e

when_file : (b : Bool) (answer : Said) (h next k : Held) (said : Said) (file : ℕ) → next.file file ≡ h.file file → when {A = Said × Held} b (answer, next) ≡ Some (said, k) → k.file file ≡ h.file file
when_file true answer h next k said file same e = ap (λ (z : Held). z.file file) (sym (pair_is (answer, next) (said, k) e).1) ∙ same
when_file false answer h next k said file same e = cc

not_same : (file other : ℕ) → other ≢ file → nat_eq other file ≡ false
not_same file other apart = grind (arith, nat_tests)

other_file : (h : Held) (file other : ℕ) (g : File) → other ≢ file → (with_file h other g).file file ≡ h.file file
other_file h file other g apart = update_other nat_eq h.file other (Some g) file (not_same file other apart)

leaving_keeps : (h k : Held) (file : ℕ) (call : Call) (given : List ℕ) (said : Said) → IsLeaving file call → serve h call given ≡ Some (said, k) → k.file file ≡ h.file file
unfolding serve
leaving_keeps h k file call given said (reading c r) e = ap (λ (z : Held). z.file file) (reading_keeps h k c given said r e)
leaving_keeps h k file call given said (on_disk disk sector count) e = found_file (h.disk disk) _ h k said file (λ d is. when_file _ Done h _ k said file refl is) e
leaving_keeps h k file call given said (on_file other at count apart) e = found_file (h.file other) _ h k said file (λ f is.
    ap (λ (z : Held). z.file file) (sym (pair_is (Done, with_file h other (record f { bytes = over f.bytes at given })) (said, k) is).1) ∙ other_file h file other _ apart) e
leaving_keeps h k file call given said (on_size other size apart) e = found_file (h.file other) _ h k said file (λ f is.
    ap (λ (z : Held). z.file file) (sym (pair_is (Done, with_file h other (record f { bytes = resized f.bytes size })) (said, k) is).1) ∙ other_file h file other _ apart) e

one_keeps : (honest : Bool) (h k : Held) (file : ℕ) (call : Call) (given : List ℕ) (came : Option Said) → IsLeaving file call → Serves honest h call given came k → k.file file ≡ h.file file
one_keeps honest h k file call given None leaves s = ap (λ (z : Held). z.file file) s.0
one_keeps honest h k file call given (Some said) leaves s = leaving_keeps h k file call given said leaves s

all_keep : (honest : Bool) (own : List Made) (h k : Held) (file : ℕ) → Each (λ call given. IsLeaving file call) own → ServesAll honest h own k → k.file file ≡ h.file file
all_keep honest [] h k file each s = ap (λ (z : Held). z.file file) s
all_keep honest (m ∷ own) h k file each s = all_keep honest own s.0 k file each.1 s.2 ∙ one_keeps honest h s.0 file m.call m.given m.came each.0 s.1

-- so a host that held the bytes holds them
pub leaves_held : (x y : Told) (own : List Made) (file : ℕ) (c : List ℕ) → Talked x y own → Each (λ call given. IsLeaving file call) own → IsAtHost x.held file c → IsAtHost y.held file c
leaves_held x y own file c talked each held =
    let after : (k : Held) × (y.held ≡ Some k) × ServesAll x.honest held.all own k = subst (λ z. HeldAfter x.honest z own y.held) held.told talked.held in
    record { all = after.0; told = after.1; found = held.found; file_is = all_keep x.honest own held.all after.0 file each after.2 ∙ held.file_is; bytes = held.bytes }

-- ---- which calls are such

read_leaves : (file : ℕ) (layout : Layout) (m : Measure) (size offset len : ℕ) (call : Call) → IsForRead layout m size offset len call → IsLeaving file call
read_leaves file layout m size offset len call f = reading call (subst IsReading (sym f.path.call_is) (page_reads layout m.blocks f.path.level (ancestor f.block f.path.level)))

file_reads : (file other at want : ℕ) (call : Call) → call ≡ FileRead other at want → IsLeaving file call
file_reads file other at want call e = reading call (subst IsReading (sym e) (of_file other at want))

aim_leaves : (file : ℕ) (aim : Result Aim Errno) → IsOther file aim → (call : Call) (given : List ℕ) → IsForFuse aim call given → IsLeaving file call
aim_leaves file (Err e) other call given for = absurd for
aim_leaves file (Ok (says x)) other call given for = absurd for
aim_leaves file (Ok (makes x)) other call given for = absurd for
aim_leaves file (Ok (reads f offset size)) other call given for = read_leaves file _ _ _ _ _ call for.0
aim_leaves file (Ok (loads number f offset size)) other call given for = ⊎_elim (λ r. file_reads file _ _ _ call r.call_is) (λ t. absurd (t.far tt)) for.0.1
aim_leaves file (Ok (writes number f offset bytes)) other call given for = ⊎_elim
    (λ r. file_reads file _ _ _ call r.call_is)
    (⊎_elim (λ w. subst (IsLeaving file) (sym w.call_is) (on_file f.file _ _ other)) (λ t. absurd (t.far tt)))
    for.0.1
aim_leaves file (Ok (cuts number f node size)) other call given for = ⊎_elim
    (λ r. file_reads file _ _ _ call r.2)
    (⊎_elim (λ s. subst (IsLeaving file) (sym s) (on_size f.file size other)) (λ t. absurd (t.far tt)))
    for.0.1
aim_leaves file (Ok (syncs number f)) other call given for = absurd (for.0.far tt)

get_leaves : (file : ℕ) (image : Option Instance) (parts : List Part) (uuid : List ℕ) (call : Call) (given : List ℕ) → IsForGet image parts uuid call given → IsLeaving file call
get_leaves file None parts uuid call given for = absurd for
get_leaves file (Some i) parts uuid call given for = reading call (subst IsReading (sym for.0.call_is) (of_blocks _ _ _))

put_leaves : (file : ℕ) (image : Option Instance) (s : State) (uuid text : List ℕ) (call : Call) (given : List ℕ) → IsForPut image s uuid text call given → IsLeaving file call
put_leaves file None s uuid text call given for = absurd for
put_leaves file (Some i) s uuid text call given for = subst (IsLeaving file) (sym for.call_is) (on_disk _ _ _)

for_leaves : (g : Setting) (s : State) (file : ℕ) (request : Request) → IsOtherFile file s.fuse request → (call : Call) (given : List ℕ) → IsFor g s request call given → IsLeaving file call
for_leaves g s file (message_of m) other call given for = aim_leaves file (aim_of s.fuse m) other call given for
for_leaves g s file (read_of r) other call given for = read_leaves file _ _ _ _ _ call for.2.0
for_leaves g s file (get_of uuid) other call given for = get_leaves file g.image s.parts uuid call given for
for_leaves g s file (put_of uuid text) other call given for = put_leaves file g.image s uuid text call given for

-- ---- the law

-- each file but one has the bytes that it had
module _ (g : Setting) (s : State) (request : Request) (x y : Told) (own : List Made) (talked : Talked x y own) (each : Each (IsFor g s request) own) where
  others_held : (file : ℕ) (c : List ℕ) → IsOtherFile file s.fuse request → IsAtHost x.held file c → IsAtHost y.held file c
  others_held file c other held = leaves_held x y own file c talked (each_so (IsFor g s request) (λ call given. IsLeaving file call) own (for_leaves g s file request other) each) held

apart_of : (m n a b : ℕ) → nat_eq m n ≡ false → a ≡ m → b ≡ n → b ≢ a
apart_of m n a b e is_a is_b = grind (arith, nat_tests)

-- the files stand at their numbers
now_numbered : (s new : Fuse) (h : Heard) (Other : ℕ → Type 0) (bytes after : FileBytes) → AreNumbered s.writables → AreSame s new Other bytes after ⊎ AreLeft s new h Other bytes after → AreNumbered new.writables
now_numbered s new h Other bytes after numbered (inl l) = subst AreNumbered (sym l.files) numbered
now_numbered s new h Other bytes after numbered (inr l) = subst AreNumbered (sym l.files) (λ m f at.
    replaced_at s.writables l.number m l.file l.other f l.there at (λ z. z.file ≡ m) (λ e here. l.file_is ∙ numbered l.number l.file l.there ∙ sym e) (λ other was. numbered m f was))

-- where the host held the bytes of one, it holds them
now_held : (s new : Fuse) (h : Heard) (Other : ℕ → Type 0) (bytes after : FileBytes) (number : ℕ) → AreNumbered s.writables
    → ((file : ℕ) (c : List ℕ) → Other file → IsAtHost h.before file c → IsAtHost h.after file c)
    → Agrees h.before s.writables bytes number → AreSame s new Other bytes after ⊎ AreLeft s new h Other bytes after → Agrees h.after new.writables after number
now_held s new h Other bytes after number numbered stays (f, at, held) (inl l) =
    (f, subst (λ z. writable_at z number ≡ Some f) (sym l.files) at, subst (λ (b : FileBytes). IsAtHost h.after f.file (b number)) (sym l.bytes_are) (stays f.file (bytes number) (l.others f.file) held))
now_held s new h Other bytes after number numbered stays (f, at, held) (inr l) = subst (λ z. Agrees h.after z after number) (sym l.files) (by_key (nat_eq number l.number) refl) where
  found_by : (b : Bool) → nat_eq number l.number ≡ b → writable_at (replaced l.number l.other s.writables) number ≡ cond b (Some l.other) (writable_at s.writables number)
  found_by b e = found_then s.writables l.number number l.file l.other l.there ∙ ap (λ (v : Bool). cond v (Some l.other) (writable_at s.writables number)) e

  by_key : (b : Bool) → nat_eq number l.number ≡ b → Agrees h.after (replaced l.number l.other s.writables) after number
  by_key true e =
      let same : number ≡ l.number = eq_of number l.number e in
      let own : f ≡ l.file = some_is f l.file (sym at ∙ ap (λ (k : ℕ). writable_at s.writables k) same ∙ l.there) in
      let before : IsAtHost h.before l.file.file (bytes l.number) = subst (λ (k : ℕ). IsAtHost h.before l.file.file (bytes k)) same (subst (λ (z : WritableFile). IsAtHost h.before z.file (bytes number)) own held) in
      let now : IsAtHost h.after l.other.file (after l.number) = subst (λ (k : ℕ). IsAtHost h.after k (after l.number)) (sym l.file_is) (l.left.agree before) in
      (l.other, found_by true e, subst (λ (k : ℕ). IsAtHost h.after l.other.file (after k)) (sym same) now)
  by_key false e =
      let apart = apart_of number l.number f.file l.file.file e (numbered number f at) (numbered l.number l.file l.there) in
      (f, found_by false e ∙ at, subst (λ (c : List ℕ). IsAtHost h.after f.file c) (sym (l.same number e)) (stays f.file (bytes number) (l.others f.file apart) held))

pub hosts_agree : HostsAgree
hosts_agree g world old turn new bytes number step numbered stand clear agree =
    now_held old.state.fuse new.state.fuse (heard_in old turn new) (λ k. IsOtherFile k old.state.fuse (request_of turn.frame)) bytes (bytes_after old.state turn bytes) number numbered
    (others_held g old.state (request_of turn.frame) old.told new.told turn.own step.talked step.calls) agree (turn_is g world old turn new bytes step stand clear).0

pub runs_agree : RunsAgree
runs_agree g world old [] new run bytes number numbered stand clear agree = subst (λ (m : Moment). Agrees m.told.held m.state.fuse.writables bytes number) run agree
runs_agree g world old (turn ∷ turns) new run bytes number numbered stand clear agree =
    let Other = λ (k : ℕ). IsOtherFile k old.state.fuse (request_of turn.frame) in
    let one = (turn_is g world old turn run.0 bytes run.2 stand clear.0).0 in
    runs_agree g world run.0 turns new run.3 (bytes_after old.state turn bytes) number
    (now_numbered old.state.fuse run.0.state.fuse (heard_in old turn run.0) Other bytes (bytes_after old.state turn bytes) numbered one)
    (now_stand old.state.fuse run.0.state.fuse (heard_in old turn run.0) Other bytes (bytes_after old.state turn bytes) stand one) clear.1
    (hosts_agree g world old turn run.0 bytes number run.2 numbered stand clear.0 agree)
