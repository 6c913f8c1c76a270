-- A run over frames, the worlds in which it stands, and what it writes.
use Rattle.std.specs.Prelude.{◌≡◌, ◌^◌, ◌<◌, ◌+◌, ℕ, List, [], ◌∷◌, ◌++◌, flat_map, map, slice_get, length, Option, Some, None, ◌⊎◌, codes}
use Rattle.std.specs.Fmt.{decimal}
use Rattle.std.specs.Io.KnownBytes.{Appends}
use Rattle.hex.specs.Hex.{encode_lower}
use Rattle.host_traits.specs.Told.{Told, Exchanges, Made, Talked, heard_of, heard_size}
use Rattle.session_frames.specs.Frames.{Framed, frame}
use Rattle.fuse_codec.specs.Reply.{written}
use Rattle.session_frames.specs.Replies.{Sent, sent_answer, reply_frame}
use Rattle.sha_tree.specs.Measured.{IsMeasured}
use Rattle.sha_tree.specs.Path.{IsInput, NoClash}
use Rattle.verity_path.specs.Pieces.{IsSeen}
use Rattle.verity_path.specs.declared.device.Cause.{Cause}
use Rattle.verity_path.specs.declared.device.Cause.TheVariants.{Mismatch, Short, Failed, Tag, Changed, Memory}
use Rattle.verity_path.specs.declared.device.Device.{Device}
use Rattle.verity_descriptor.specs.Spelling.{descriptor_bytes}
use Rattle.ro_file.specs.Files.{MeasuredFile}
use Rattle.ro_file.specs.Opening.{WasOpened}
use Rattle.ro_file.specs.Contents.{descriptor_of, IsFileMeasured, IsHeardDescriptor}
use Rattle.fuse_server.specs.State.{file_at}
use Rattle.instance_image.specs.Sealings.{Sealing, OnlySealed}
use Rattle.guest_rules.specs.Machine.{Instance, Setting, State, World, nowhere, Salted, moment, Moment, Turn}
use Rattle.guest_rules.specs.Step.{Step}

-- fewer than 2 ^ 30 bytes were heard, where that is told
abbrev pub IsEarly : Option Exchanges → Type 0
IsEarly None = Unit {0}
IsEarly (Some heard) = heard_size heard < 2 ^ 30

-- one request after another; each begins before 2 ^ 30 bytes were heard
abbrev pub Run : Setting → World → Moment → List Turn → Moment → Type 0
Run g world old [] new = old ≡ new
Run g world old (turn ∷ turns) new = (mid : Moment) × IsEarly old.told.heard × Step g world old turn mid × Run g world mid turns new

-- ---- worlds

-- the read-only file of a number, in this state; no request changes it
abbrev pub IsFile : State → ℕ → MeasuredFile → Type 0
IsFile s n f = file_at s.fuse.files n ≡ Some f

-- What is hashed for the items: pieces that were heard, under the salt of each, and the pages of the contents.
abbrev pub IsItemHashed : Setting → World → Exchanges → List ℕ → Type 0
IsItemHashed g world heard x =
    ((k : ℕ) × (it : Device) × (slice_get g.items k ≡ Some it) × IsSeen heard it.measure.salt x)
    ⊎ ((k : ℕ) × (it : Device) × (content : List ℕ) × (slice_get g.items k ≡ Some it) × (world.item k ≡ Some content) × IsInput content it.measure.salt x)

-- What is hashed for the read-only files: pieces that were heard, under the salt of each, and descriptors; the pages of the
-- contents, and the contents' descriptors.
abbrev pub IsFileHashed : State → World → Exchanges → List ℕ → Type 0
IsFileHashed s world heard x =
    ((n : ℕ) × (f : MeasuredFile) × IsFile s n f × IsSeen heard f.measure.salt x)
    ⊎ IsHeardDescriptor heard x
    ⊎ ((n : ℕ) × (f : MeasuredFile) × (c : Salted) × IsFile s n f × (world.file f.file ≡ Some c)
    × (IsInput c.content c.salt x ⊎ (x ≡ descriptor_bytes (descriptor_of c.content c.salt))))

-- what is hashed in a run
abbrev pub IsRunHashed : Setting → State → World → Exchanges → List ℕ → Type 0
IsRunHashed g s world heard x = IsItemHashed g world heard x ⊎ IsFileHashed s world heard x

-- The premises on a world, where this was heard: contents of items are measured, contents of files have the digests by which the
-- files were opened, and no two different ones of what is hashed share a digest.
pub record IsWorld (g : Setting) (s : State) (world : World) (heard : Exchanges) : Type 0 where
  pub items : (k : ℕ) (it : Device) (content : List ℕ) → slice_get g.items k ≡ Some it → world.item k ≡ Some content → IsMeasured it.measure content
  pub files : (n : ℕ) (f : MeasuredFile) (c : Salted) → IsFile s n f → world.file f.file ≡ Some c → IsFileMeasured f.digest c.content c.salt
  pub no_clash : NoClash (IsRunHashed g s world heard)

-- each read-only file was opened by an answer among what was heard, which has its digest
abbrev pub AreOpened : State → Exchanges → Type 0
AreOpened s heard = (n : ℕ) (f : MeasuredFile) → IsFile s n f → WasOpened f.file f.digest heard f

-- Where all that was sealed before the run is known, no sealed form was heard for a request but those of these sealings and of
-- those that the run had made before.
abbrev pub HeardOnlySealed : Option Instance → Option (List Sealing) → List Sealing → Exchanges → Type 0
HeardOnlySealed None sealed run own = Unit {0}
HeardOnlySealed (Some i) None run own = Unit {0}
HeardOnlySealed (Some i) (Some earlier) run own = OnlySealed i.salt i.secret (earlier ++ run) own

-- The premise on seals: it is so of each turn. That nobody forges a sealed form is what the cipher is for.
abbrev pub AreSealed : (g : Setting) (world : World) (old : Moment) (turns : List Turn) (new : Moment) → Run g nowhere old turns new → Type 0
AreSealed g world old [] new run = Unit {0}
AreSealed g world old (turn ∷ turns) new run = HeardOnlySealed g.image world.sealed old.sealings (heard_of turn.own) × AreSealed g world run.0 turns new run.3

-- A run in the world without contents is a run in each world that meets the premises, where the files were opened before it.
abbrev pub RunsStand : Type 0
RunsStand = (g : Setting) (world : World) (old : Moment) (turns : List Turn) (new : Moment)
    → AreOpened old.state old.heard → IsWorld g old.state world new.heard → (run : Run g nowhere old turns new) → AreSealed g world old turns new run
    → Run g world old turns new

-- ---- texts

-- the frames of the turns
abbrev pub frames_of : List Turn → List Framed
frames_of turns = map (λ t. t.frame) turns

-- the frames of the replies
abbrev pub out_bytes : List Turn → List ℕ
out_bytes turns = flat_map (λ t. reply_frame t.sent) turns

abbrev pub space : List ℕ
space = 32 ∷ []

abbrev pub line_feed : List ℕ
line_feed = 10 ∷ []

-- why a request was not answered, in words
abbrev pub cause_words : Cause → List ℕ
cause_words (Mismatch x) = codes " mismatch " ++ decimal x.level ++ space ++ decimal x.index ++ space ++ encode_lower x.expected.0 ++ space ++ encode_lower x.found.0
cause_words (Short asked got) = codes " short " ++ decimal asked ++ space ++ decimal got
cause_words (Failed faults) = codes " failed " ++ decimal faults
cause_words (Tag found) = codes " tag " ++ encode_lower found
cause_words (Changed sector) = codes " changed " ++ decimal sector
cause_words Memory = codes " memory"

-- how the line of a reply with a cause begins, for a frame that begins at this offset of the stream: that of a WRITE which ended early
-- has the count of its bytes
abbrev pub log_head : ℕ → Sent → List ℕ
log_head at (sent_answer unique (written count)) = codes "short " ++ decimal at ++ space ++ decimal count
log_head at sent = codes "eio " ++ decimal at

-- the line of a frame: one where its reply has a cause, else none
abbrev pub log_line : ℕ → Sent → Option Cause → List ℕ
log_line at sent None = []
log_line at sent (Some cause) = log_head at sent ++ cause_words cause ++ line_feed

abbrev pub frame_size : Framed → ℕ
frame_size f = length (frame f.channel f.payload)

-- the lines of frames of which the first begins at this offset
abbrev pub log_bytes : ℕ → List Turn → List ℕ
log_bytes at [] = []
log_bytes at (t ∷ turns) = log_line at t.sent t.cause ++ log_bytes (at + frame_size t.frame) turns

-- all calls of some turns
abbrev pub calls_of : List Turn → List Made
calls_of turns = flat_map (λ t. t.own) turns

-- frames were answered in these turns: the turns are a run, in which these texts were sealed, and their calls are those that were
-- made, and no other was
pub record Runs (g : Setting) (old_state new_state : State) (old new : Told) (turns : List Turn) : Type 0 where
  pub talked : Talked old new (calls_of turns)
  pub sealed : List Sealing
  pub run : (heard : Exchanges) (run : List Sealing)
      → Run g nowhere (moment old_state old heard run) turns (moment new_state new (heard ++ heard_of (calls_of turns)) (run ++ sealed))

-- the same from an offset on, and the replies and the lines of the log were written and nothing else
pub record Ran (g : Setting) (old_state new_state : State) (old new : Told) (at : ℕ) (out_old out_new log_old log_new : Option (List ℕ)) (turns : List Turn) : Type 0 where
  pub runs : Runs g old_state new_state old new turns
  pub written : Appends out_old out_new (out_bytes turns)
  pub logged : Appends log_old log_new (log_bytes at turns)
