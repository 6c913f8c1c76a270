-- A run in the world without contents is one in each world that meets the premises.
use Rattle.std.proofs.Common.{◌≡◌, ℕ, ◌≤◌, List, [], ◌∷◌, ◌++◌, take, drop, refl, ap, sym, subst, ◌∙◌, inl, inr, append_assoc, append-nil, Option, Some, None, Result, Ok, Err, arith}
use Rattle.std.specs.Prelude.{slice_get}
use Rattle.mg_base.specs.declared.errno.Errno.{Errno}
use Rattle.host_traits.specs.Told.{Exchanges, heard_of}
use Rattle.host_traits.specs.Did.{Trace}
use Rattle.host_traits.proofs.Doing.{in_left, in_right}
use Rattle.session_frames.specs.Replies.{Sent}
use Rattle.sha_tree.specs.declared.measure.Measure.{Measure}
use Rattle.sha_tree.specs.Tree.{block_count}
use Rattle.sha_tree.specs.Measured.{IsMeasured}
use Rattle.sha_tree.specs.Path.{NoClash}
use Rattle.sha_tree.proofs.Sound.{measured_tree}
use Rattle.verity_path.specs.Pieces.{IsHashed, IsSeen}
use Rattle.verity_path.specs.Range.{IsCut, IsSlice, end_of}
use Rattle.verity_path.proofs.Pieces.{piece_left, piece_right}
use Rattle.verity_path.proofs.Ranges.{cut_content}
use Rattle.verity_path.specs.declared.device.Cause.{Cause}
use Rattle.verity_path.specs.declared.device.Device.{Device}
use Rattle.ro_file.specs.Files.{MeasuredFile}
use Rattle.ro_file.specs.Opening.{WasOpened}
use Rattle.ro_file.specs.Contents.{IsContentOf, IsHeardDescriptor, IsFileHashed as IsHashedOfFile}
use Rattle.ro_file.proofs.Standing.{are_measured, opened_left}
use Rattle.fuse_codec.specs.Reply.{Answer, refused, bytes_out}
use Rattle.fuse_server.specs.Aims.{Aim, says, makes, reads, loads, writes, cuts, syncs, aim_of}
use Rattle.fuse_server.specs.FileRows.{Around}
use Rattle.fuse_server.specs.Rows.{FuseRow, ReadRow, read_bytes, read_blamed, read_no_room}
use Rattle.fuse_server.proofs.Keeping.{files_stay, aim_file}
use Rattle.fuse_server.specs.State.{State as Fuse, file_at}
use Rattle.instance_image.specs.declared.faults.GetFault.{GetFault}
use Rattle.instance_image.specs.declared.values.Part.{Part}
use Rattle.instance_image.specs.Sealings.{Sealing}
use Rattle.instance_image.specs.Access.{GetOutcome}
use Rattle.instance_image.proofs.Promises.{was_sealed}
use Rattle.guest_rules.specs.Machine.{Instance, Setting, State, World, Salted, nowhere, Moment, Turn, ItemRead, Request, message_of, read_of, get_of, put_of, request_of, size_of, image_with}
use Rattle.guest_rules.specs.ItemRow.{ItemRow, no_item, too_large, served, blamed, no_memory}
use Rattle.guest_rules.specs.MessageRow.{Heard, IsSliceOf, IsOfFile}
use Rattle.guest_rules.specs.RecordRow.{GetRow, PutRow, no_image, got, refused as put_refused, no_entropy, put, IsKnownText}
use Rattle.guest_rules.specs.Step.{Step, Row, heard_in}
use Rattle.guest_rules.specs.Run.{Run, IsRunHashed, IsFile, IsWorld, AreOpened, HeardOnlySealed, AreSealed, RunsStand}

-- ---- what is known of contents, where this was heard

-- items are measured, files are the contents', and no two different ones of what is hashed share a digest
pub record Known (g : Setting) (s : State) (world : World) (heard : Exchanges) : Type 0 where
  pub items : (k : ℕ) (it : Device) (content : List ℕ) → slice_get g.items k ≡ Some it → world.item k ≡ Some content → IsMeasured it.measure content
  pub files : (n : ℕ) (f : MeasuredFile) (c : Salted) → IsFile s n f → world.file f.file ≡ Some c → IsContentOf f c.content c.salt
  pub no_clash : NoClash (IsRunHashed g s world heard)

seen_left : (xs ys : Exchanges) (salt x : List ℕ) → IsSeen xs salt x → IsSeen (xs ++ ys) salt x
seen_left xs ys salt x seen = record { p = seen.p; piece = piece_left xs ys seen.p seen.piece; is = seen.is }

seen_right : (xs ys : Exchanges) (salt x : List ℕ) → IsSeen ys salt x → IsSeen (xs ++ ys) salt x
seen_right xs ys salt x seen = record { p = seen.p; piece = piece_right xs ys seen.p seen.piece; is = seen.is }

-- what is hashed where less was heard is hashed where more was
hashed_so : (g : Setting) (s : State) (world : World) (xs ys : Exchanges) → ((salt x : List ℕ) → IsSeen xs salt x → IsSeen ys salt x)
    → ((x : List ℕ) → IsHeardDescriptor xs x → IsHeardDescriptor ys x) → (x : List ℕ) → IsRunHashed g s world xs x → IsRunHashed g s world ys x
hashed_so g s world xs ys seen told x (inl (inl a)) = inl (inl (a.0, a.1, a.2, seen _ x a.3))
hashed_so g s world xs ys seen told x (inl (inr b)) = inl (inr b)
hashed_so g s world xs ys seen told x (inr (inl a)) = inr (inl (a.0, a.1, a.2, seen _ x a.3))
hashed_so g s world xs ys seen told x (inr (inr (inl d))) = inr (inr (inl (told x d)))
hashed_so g s world xs ys seen told x (inr (inr (inr c))) = inr (inr (inr c))

hashed_left : (g : Setting) (s : State) (world : World) (xs ys : Exchanges) (x : List ℕ) → IsRunHashed g s world xs x → IsRunHashed g s world (xs ++ ys) x
hashed_left g s world xs ys = hashed_so g s world xs (xs ++ ys) (seen_left xs ys) (λ x d. record { file = d.file; was_heard = in_left _ _ xs ys d.was_heard; whole = d.whole })

hashed_right : (g : Setting) (s : State) (world : World) (xs ys : Exchanges) (x : List ℕ) → IsRunHashed g s world ys x → IsRunHashed g s world (xs ++ ys) x
hashed_right g s world xs ys = hashed_so g s world ys (xs ++ ys) (seen_right xs ys) (λ x d. record { file = d.file; was_heard = in_right _ _ xs ys d.was_heard; whole = d.whole })

-- the world of what was heard last
pub world_last : (g : Setting) (s : State) (world : World) (xs ys : Exchanges) → IsWorld g s world (xs ++ ys) → IsWorld g s world ys
world_last g s world xs ys w = record {
  items = w.items;
  files = w.files;
  no_clash = λ x y hx hy. w.no_clash x y (hashed_right g s world xs ys x hx) (hashed_right g s world xs ys y hy);
}

-- and what was heard first
pub world_first : (g : Setting) (s : State) (world : World) (xs ys : Exchanges) → IsWorld g s world (xs ++ ys) → IsWorld g s world xs
world_first g s world xs ys w = record {
  items = w.items;
  files = w.files;
  no_clash = λ x y hx hy. w.no_clash x y (hashed_left g s world xs ys x hx) (hashed_left g s world xs ys y hy);
}

known_first : (g : Setting) (s : State) (world : World) (xs ys : Exchanges) → Known g s world (xs ++ ys) → Known g s world xs
known_first g s world xs ys w = record {
  items = w.items;
  files = w.files;
  no_clash = λ x y hx hy. w.no_clash x y (hashed_left g s world xs ys x hx) (hashed_left g s world xs ys y hy);
}

pub known_last : (g : Setting) (s : State) (world : World) (xs ys : Exchanges) → Known g s world (xs ++ ys) → Known g s world ys
known_last g s world xs ys w = record {
  items = w.items;
  files = w.files;
  no_clash = λ x y hx hy. w.no_clash x y (hashed_right g s world xs ys x hx) (hashed_right g s world xs ys y hy);
}

-- what is hashed for one item is hashed in the run
item_hashed : (g : Setting) (s : State) (world : World) (heard : Exchanges) (k : ℕ) (it : Device) (content : List ℕ) → slice_get g.items k ≡ Some it → world.item k ≡ Some content
    → (x : List ℕ) → IsHashed heard content it.measure.salt x → IsRunHashed g s world heard x
item_hashed g s world heard k it content at is x (inl seen) = inl (inl (k, it, at, seen))
item_hashed g s world heard k it content at is x (inr input) = inl (inr (k, it, content, at, is, input))

pub item_apart : (g : Setting) (s : State) (world : World) (heard : Exchanges) (k : ℕ) (it : Device) (content : List ℕ) → slice_get g.items k ≡ Some it → world.item k ≡ Some content
    → IsWorld g s world heard → NoClash (IsHashed heard content it.measure.salt)
item_apart g s world heard k it content at is w x y hx hy = w.no_clash x y (item_hashed g s world heard k it content at is x hx) (item_hashed g s world heard k it content at is y hy)

-- what is hashed for one file is
file_hashed : (g : Setting) (s : State) (world : World) (heard : Exchanges) (n : ℕ) (f : MeasuredFile) (c : Salted) → IsFile s n f → world.file f.file ≡ Some c
    → (x : List ℕ) → IsHashedOfFile heard f.measure.salt c.content c.salt x → IsRunHashed g s world heard x
file_hashed g s world heard n f c there is x (inl seen) = inr (inl (n, f, there, seen))
file_hashed g s world heard n f c there is x (inr (inl d)) = inr (inr (inl d))
file_hashed g s world heard n f c there is x (inr (inr own)) = inr (inr (inr (n, f, c, there, is, own)))

pub file_apart : (g : Setting) (s : State) (world : World) (heard : Exchanges) (n : ℕ) (f : MeasuredFile) (c : Salted) → IsFile s n f → world.file f.file ≡ Some c
    → Known g s world heard → NoClash (IsHashed heard c.content f.measure.salt)
file_apart g s world heard n f c there is w x y hx hy = w.no_clash x y (hashed x hx) (hashed y hy) where
  salt_is : f.measure.salt ≡ c.salt
  salt_is = (w.files n f c there is).salt_is

  hashed : (x : List ℕ) → IsHashed heard c.content f.measure.salt x → IsRunHashed g s world heard x
  hashed x (inl seen) = file_hashed g s world heard n f c there is x (inl seen)
  hashed x (inr input) = file_hashed g s world heard n f c there is x (inr (inr (inl (rw salt_is at input))))

-- opened files are the contents'
pub content_is : (g : Setting) (s : State) (world : World) (heard : Exchanges) (n : ℕ) (f : MeasuredFile) (c : Salted) → IsFile s n f → world.file f.file ≡ Some c
    → AreOpened s heard → IsWorld g s world heard → IsContentOf f c.content c.salt
content_is g s world heard n f c there is opened w = are_measured f.file f.digest heard f c.content c.salt (opened n f there) (record {
  measured = w.files n f c there is;
  no_clash = λ x y hx hy. w.no_clash x y (file_hashed g s world heard n f c there is x hx) (file_hashed g s world heard n f c there is y hy);
})

pub opened_more : (s : State) (xs ys : Exchanges) → AreOpened s xs → AreOpened s (xs ++ ys)
opened_more s xs ys opened n f there = opened_left f.file f.digest xs ys f (opened n f there)

-- what is known where the files were opened before
pub known_by : (g : Setting) (s : State) (world : World) (before heard own : Exchanges) → heard ≡ before ++ own → AreOpened s before → IsWorld g s world heard → Known g s world heard
known_by g s world before heard own is opened w =
    let all : AreOpened s heard = subst (λ (x : Exchanges). AreOpened s x) (sym is) (opened_more s before own opened) in
    record {
      items = w.items;
      files = λ n f c there known. content_is g s world heard n f c there known all w;
      no_clash = w.no_clash;
    }

-- a file that was opened has at most 2 ^ 20 blocks
pub record IsShortFile (f : MeasuredFile) : Type 0 where
  pub blocks : block_count f.size ≡ f.measure.blocks
  pub limit : f.measure.blocks ≤ 1048576

short_file : (f : MeasuredFile) (file : ℕ) (heard : Exchanges) → WasOpened file f.digest heard f → IsShortFile f
short_file f file heard w =
    let d = w.describes.descriptor in
    let is = w.describes.file_is in
    let size : f.size ≡ d.size = ap (λ (x : MeasuredFile). x.size) is in
    let count : f.measure.blocks ≡ block_count d.size = ap (λ (x : MeasuredFile). x.measure.blocks) is in
    let few = w.describes.size in
    record { blocks = ap block_count size ∙ sym count; limit = omega (arith, count, few) }

pub readable : (s : State) (heard : Exchanges) → AreOpened s heard → (n : ℕ) (f : MeasuredFile) → IsFile s n f → IsShortFile f
readable s heard opened n f there = short_file f f.file heard (opened n f there)

-- ---- rows

by_content : (o : Option (List ℕ)) (heard : Exchanges) (m : Measure) (size offset len : ℕ) (bytes : List ℕ) → IsCut heard m offset (end_of size offset len) bytes
    → ((content : List ℕ) → o ≡ Some content → bytes ≡ take len (drop offset content)) → IsSlice o heard m size offset len bytes
by_content None heard m size offset len bytes shown is = shown
by_content (Some content) heard m size offset len bytes shown is = is content refl

by_file : (o : Option Salted) (offset size : ℕ) (bytes : List ℕ) → ((c : Salted) → o ≡ Some c → bytes ≡ take size (drop offset c.content)) → IsSliceOf o offset size (bytes_out bytes)
by_file None offset size bytes is = tt
by_file (Some c) offset size bytes is = is c refl

not_bytes : (o : Option Salted) (offset size : ℕ) (e : Errno) → IsSliceOf o offset size (refused e)
not_bytes None offset size e = tt
not_bytes (Some c) offset size e = tt

-- a text that was got where no sealed form was heard but those that are known
text_known : (o : Option (List Sealing)) (run : List Sealing) (i : Instance) (parts : List Part) (uuid : List ℕ) (result : Result (List ℕ) GetFault) (t : Trace)
    → HeardOnlySealed (Some i) o run t.own → GetOutcome (image_with i parts) i.secret uuid result t → IsKnownText o run i uuid result t
text_known None run i parts uuid result t sealed outcome = tt
text_known (Some earlier) run i parts uuid (Ok text) t sealed outcome = was_sealed (image_with i parts) i.secret uuid text t (earlier ++ run) outcome sealed
text_known (Some earlier) run i parts uuid (Err why) t sealed outcome = tt

module _ (g : Setting) (world : World) where
  pub item_in : (t : Trace) (r : ItemRead) (sent : Sent) (cause : Option Cause)
      → ((k : ℕ) (it : Device) (content : List ℕ) → slice_get g.items k ≡ Some it → world.item k ≡ Some content → IsMeasured it.measure content)
      → ((k : ℕ) (it : Device) (content : List ℕ) → slice_get g.items k ≡ Some it → world.item k ≡ Some content → NoClash (IsHashed t.heard content it.measure.salt))
      → ItemRow g.items nowhere t r sent cause → ItemRow g.items world t r sent cause
  item_in t r sent cause measured apart (no_item absent none own) = no_item absent none own
  item_in t r sent cause measured apart (too_large there large none own) = too_large there large none own
  item_in t r sent cause measured apart (served it bytes at fits none all right shown) =
      served it bytes at fits none all right (by_content (world.item r.item) t.heard it.measure (size_of it) r.offset r.size bytes shown (λ content is.
      let whole = measured r.item it content at is in
      cut_content it.measure t.heard content (size_of it) r.offset r.size bytes (measured_tree it.measure content whole) (apart r.item it content at is) (sym whole.size) shown))
  item_in t r sent cause measured apart (blamed it c at fits blame order right) = blamed it c at fits blame order right
  item_in t r sent cause measured apart (no_memory it at fits scarce order right) = no_memory it at fits scarce order right

  module _ (s : State) where
    known_item_apart : (t : Trace) → Known g s world t.heard → (k : ℕ) (it : Device) (content : List ℕ) → slice_get g.items k ≡ Some it → world.item k ≡ Some content
        → NoClash (IsHashed t.heard content it.measure.salt)
    known_item_apart t w k it content at is x y hx hy = w.no_clash x y (item_hashed g s world t.heard k it content at is x hx) (item_hashed g s world t.heard k it content at is y hy)

    read_in : (t : Trace) (n : ℕ) (f : MeasuredFile) (offset size : ℕ) (answer : Answer) (cause : Option Cause) → t.heard ≡ t.own → IsFile s n f → Known g s world t.heard
        → ReadRow f offset size t answer cause → IsSliceOf (world.file f.file) offset size answer
    read_in t n f offset size answer cause same there w (read_bytes bytes none cut all right) =
        by_file (world.file f.file) offset size bytes (λ c is.
        let content = w.files n f c there is in
        cut_content f.measure t.own c.content f.size offset size bytes content.tree
        (subst (λ (x : Exchanges). NoClash (IsHashed x c.content f.measure.salt)) same (file_apart g s world t.heard n f c there is w)) content.size cut)
    read_in t n f offset size answer cause same there w (read_blamed c blame order right) = not_bytes (world.file f.file) offset size _
    read_in t n f offset size answer cause same there w (read_no_room scarce order right) = not_bytes (world.file f.file) offset size _

    aim_in : (a : Around) (aim : Result Aim Errno) (answer : Answer) (cause : Option Cause) → a.trace.heard ≡ a.trace.own
        → ((f : MeasuredFile) (offset size : ℕ) → aim ≡ Ok (reads f offset size) → (n : ℕ) × IsFile s n f) → Known g s world a.trace.heard
        → FuseRow aim a answer cause → IsOfFile world aim answer
    aim_in a (Err e) answer cause same there w row = tt
    aim_in a (Ok (says x)) answer cause same there w row = tt
    aim_in a (Ok (makes x)) answer cause same there w row = tt
    aim_in a (Ok (loads number f offset size)) answer cause same there w row = tt
    aim_in a (Ok (writes number f offset bytes)) answer cause same there w row = tt
    aim_in a (Ok (cuts number f node size)) answer cause same there w row = tt
    aim_in a (Ok (syncs number f)) answer cause same there w row = tt
    aim_in a (Ok (reads f offset size)) answer cause same there w row =
        let at = there f offset size refl in
        read_in a.trace at.0 f offset size answer cause same at.1 w row.1

    get_in : (run : List Sealing) (t : Trace) (uuid : List ℕ) (sent : Sent) (cause : Option Cause) → HeardOnlySealed g.image world.sealed run t.own
        → GetRow g.image s.parts nowhere run t uuid sent cause → GetRow g.image s.parts world run t uuid sent cause
    get_in run t uuid sent cause sealed (no_image none quiet) = no_image none quiet
    get_in run t uuid sent cause sealed (got i result there outcome known) =
        got i result there outcome (text_known world.sealed run i s.parts uuid result t (subst (λ (o : Option Instance). HeardOnlySealed o world.sealed run t.own) there sealed) outcome)

    row_in : (run : List Sealing) (h : Heard) (request : Request) (new : State) (sent : Sent) (cause : Option Cause) → h.trace.heard ≡ h.trace.own
        → Known g s world h.trace.heard → HeardOnlySealed g.image world.sealed run h.trace.own → Row g nowhere run h request s new sent cause
        → Row g world run h request s new sent cause
    row_in run h (message_of m) new sent cause same w sealed row = (
      row.0,
      row.1,
      record {
        answer = row.2.answer;
        sent_is = row.2.sent_is;
        row = row.2.row;
        slice = aim_in _ (aim_of s.fuse m) row.2.answer cause same (λ f offset size is. aim_file s.fuse m f offset size is) w row.2.row;
        next = row.2.next;
      },
    )
    row_in run h (read_of r) new sent cause same w sealed row = (row.0, item_in h.trace r sent cause w.items (known_item_apart h.trace w) row.1)
    row_in run h (get_of uuid) new sent cause same w sealed row = (row.0, get_in run h.trace uuid sent cause sealed row.1)
    row_in run h (put_of uuid text) new sent cause same w sealed row = row

-- a put changes no name, no handle and no file
pub put_keeps : (image : Option Instance) (t : Trace) (uuid text : List ℕ) (old new : State) (sent : Sent) (cause : Option Cause) → PutRow image t uuid text old new sent cause
    → new.fuse ≡ old.fuse
put_keeps image t uuid text old new sent cause (no_image none quiet same) = ap (λ (s : State). s.fuse) same
put_keeps image t uuid text old new sent cause (put_refused i why there fits quiet same) = ap (λ (s : State). s.fuse) same
put_keeps image t uuid text old new sent cause (no_entropy i part there fits few quiet same) = ap (λ (s : State). s.fuse) same
put_keeps image t uuid text old new sent cause (put i part result there fits some outcome is) = ap (λ (s : State). s.fuse) is

-- no request changes the read-only files
pub files_kept : (g : Setting) (world : World) (run : List Sealing) (h : Heard) (request : Request) (old new : State) (sent : Sent) (cause : Option Cause)
    → Row g world run h request old new sent cause → new.fuse.files ≡ old.fuse.files
files_kept g world run h (message_of m) old new sent cause row = files_stay old.fuse m row.2.answer new.fuse row.2.next
files_kept g world run h (read_of r) old new sent cause row = ap (λ (s : State). s.fuse.files) row.0
files_kept g world run h (get_of uuid) old new sent cause row = ap (λ (s : State). s.fuse.files) row.0
files_kept g world run h (put_of uuid text) old new sent cause row = ap (λ (f : Fuse). f.files) (put_keeps g.image h.trace uuid text old new sent cause row)

-- what is hashed in one state is hashed in another of the same files
back : (g : Setting) (s t : State) (world : World) (heard : Exchanges) → t.fuse.files ≡ s.fuse.files → (x : List ℕ) → IsRunHashed g t world heard x → IsRunHashed g s world heard x
back g s t world heard same x (inl items) = inl items
back g s t world heard same x (inr (inl a)) = inr (inl (a.0, a.1, ap (λ files. file_at files a.0) (sym same) ∙ a.2, a.3))
back g s t world heard same x (inr (inr (inl d))) = inr (inr (inl d))
back g s t world heard same x (inr (inr (inr c))) = inr (inr (inr (c.0, c.1, c.2, ap (λ files. file_at files c.0) (sym same) ∙ c.3, c.4, c.5)))

pub world_at : (g : Setting) (s t : State) (world : World) (heard : Exchanges) → t.fuse.files ≡ s.fuse.files → IsWorld g s world heard → IsWorld g t world heard
world_at g s t world heard same w = record {
  items = w.items;
  files = λ n f c there is. w.files n f c (ap (λ files. file_at files n) (sym same) ∙ there) is;
  no_clash = λ x y hx hy. w.no_clash x y (back g s t world heard same x hx) (back g s t world heard same y hy);
}

pub opened_at : (s t : State) (before heard own : Exchanges) → t.fuse.files ≡ s.fuse.files → heard ≡ before ++ own → AreOpened s before → AreOpened t heard
opened_at s t before heard own same is opened n f there =
    subst (λ (x : Exchanges). WasOpened f.file f.digest x f) (sym is) (opened_left f.file f.digest before own f (opened n f (ap (λ files. file_at files n) (sym same) ∙ there)))

-- what is known in one state is known in another of the same files
known_at : (g : Setting) (s t : State) (world : World) (heard : Exchanges) → t.fuse.files ≡ s.fuse.files → Known g s world heard → Known g t world heard
known_at g s t world heard same w = record {
  items = w.items;
  files = λ n f c there is. w.files n f c (ap (λ files. file_at files n) (sym same) ∙ there) is;
  no_clash = λ x y hx hy. w.no_clash x y (back g s t world heard same x hx) (back g s t world heard same y hy);
}

module _ (g : Setting) (world : World) where
  pub run_heard : (old : Moment) (turns : List Turn) (new : Moment) → Run g world old turns new → (more : Exchanges) × (new.heard ≡ old.heard ++ more)
  run_heard old [] new e = ([], ap (λ m. m.heard) (sym e) ∙ sym (append-nil old.heard))
  run_heard old (t ∷ turns) new r =
      let rest = run_heard r.0 turns new r.3 in
      (heard_of t.own ++ rest.0, rest.1 ∙ ap (λ h. h ++ rest.0) r.2.heard ∙ append_assoc old.heard (heard_of t.own) rest.0)

module _ (g : Setting) (world : World) where
  -- a step by itself
  one_in : (old : Moment) (t : Turn) (new : Moment) → Known g old.state world (heard_of t.own) → HeardOnlySealed g.image world.sealed old.sealings (heard_of t.own)
      → Step g nowhere old t new → Step g world old t new
  one_in old t new w sealed r = record {
    talked = r.talked;
    heard = r.heard;
    sealings = r.sealings;
    calls = r.calls;
    few = r.few;
    stops = r.stops;
    row = row_in g world old.state old.sealings (heard_in old t new) (request_of t.frame) new.state t.sent t.cause refl w sealed r.row;
  }

  run_in : (old : Moment) (turns : List Turn) (new : Moment) → Known g old.state world new.heard → (run : Run g nowhere old turns new) → AreSealed g world old turns new run
      → Run g world old turns new
  run_in old [] new w e sealed = e
  run_in old (t ∷ turns) new w r sealed =
      let rest = run_heard g nowhere r.0 turns new r.3 in
      let w_mid : Known g old.state world r.0.heard = known_first g old.state world r.0.heard rest.0 (rw rest.1 at w) in
      let w_own : Known g old.state world (heard_of t.own) = known_last g old.state world old.heard (heard_of t.own) (subst (λ (h : Exchanges). Known g old.state world h) r.2.heard w_mid) in (
        r.0,
        r.1,
        one_in old t r.0 w_own sealed.0 r.2,
        run_in r.0 turns new (known_at g old.state r.0.state world new.heard (files_kept g nowhere old.sealings _ (request_of t.frame) old.state r.0.state t.sent t.cause r.2.row) w) r.3 sealed.1,
      )

pub runs_stand : RunsStand
runs_stand g world old turns new opened w r sealed =
    let more = run_heard g nowhere old turns new r in
    run_in g world old turns new (known_by g old.state world old.heard new.heard more.0 more.1 opened w) r sealed
