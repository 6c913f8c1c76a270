-- Opening an APK device: the one call, and what comes of each answer.
use Rattle.std.specs.Prelude.{◌≡◌, ℕ, ◌+◌, ◌*◌, ◌/◌, ◌≤◌, min, List, [], ◌∷◌, length, take, Option, Some, None, Result, Ok, Err, nat_lt, not, if◌then◌else◌}
use Rattle.std.specs.Str.{bytes_eq}
use Rattle.mg_base.specs.declared.values.Span.{Span}
use Rattle.host_traits.specs.declared.calls.Call.{Call}
use Rattle.host_traits.specs.declared.calls.Call.TheVariants.{BlockRead}
use Rattle.host_traits.specs.declared.calls.Said.TheVariants.{Bytes}
use Rattle.host_traits.specs.Did.{Trace, IsShort, IsFailed, IsScarce}
use Rattle.sha_tree.specs.declared.measure.Measure.{Measure}
use Rattle.sha_tree.specs.Tree.{tree_pages}
use Rattle.verity_path.specs.declared.device.Device.{Device}
use Rattle.verity_path.specs.declared.walk.Layout.{Layout}
use Rattle.verity_path.specs.declared.walk.Layout.TheVariants.{File, Parts}
use Rattle.idsig_v4.specs.declared.head.Head.{Head}
use Rattle.idsig_v4.specs.declared.head.IdsigFault.{IdsigFault}
use Rattle.idsig_v4.specs.Grammar.{IsIdsig}
use Rattle.idsig_v4.specs.Reading.{head_of, tree_fits}
use Rattle.apk_verity.specs.declared.ApkFault.{ApkFault}
use Rattle.apk_verity.specs.declared.ApkFault.TheVariants.{Failed, Short, Idsig, SaltMismatch, RootMismatch, TooFewBlocks, TooManyBlocks, SpanShort, Memory}

-- what a device is opened by: its disk, the sectors of the APK and of its idsig, and the measure that it has to have, if any
pub record Opening : Type 0 where
  pub disk : ℕ
  pub apk : Span
  pub idsig : Span
  pub measure : Option Measure

abbrev pub opening : ℕ → Span → Span → Option Measure → Opening
opening disk apk idsig measure = record { disk = disk; apk = apk; idsig = idsig; measure = measure }

-- how many sectors of the idsig are read: 136, or all
abbrev pub count_of : Opening → ℕ
count_of o = min o.idsig.sectors 136

-- the one call
abbrev pub idsig_call : Opening → Call
idsig_call o = BlockRead o.disk o.idsig.first (count_of o)

pub record IsIdsigCall (o : Opening) (call : Call) : Type 0 where
  pub call_is : call ≡ idsig_call o

-- ---- what an answer makes, with the first rule that it breaks

infixl 10 ◌>>=◌
abbrev pub ◌>>=◌ : {A B : Type 0} → Result A ApkFault → (A → Result B ApkFault) → Result B ApkFault
(Ok x) >>= f = f x
(Err fault) >>= f = Err fault

-- what reading an idsig gives
abbrev pub of_idsig : {A : Type 0} → Result A IdsigFault → Result A ApkFault
of_idsig (Ok x) = Ok x
of_idsig (Err fault) = Err (Idsig fault)

-- the answer is as long as was asked
abbrev pub enough : ℕ → ℕ → Result (Unit {0}) ApkFault
enough asked got = if nat_lt got asked then Err (Short asked got) else Ok tt

-- where no measure has to be met, the host's own: the whole blocks of the APK's sectors, and the idsig's salt and root
abbrev pub first_measure : Span → Head → Result Measure ApkFault
first_measure apk h =
    if nat_lt (apk.sectors / 8) 2 then Err (TooFewBlocks (apk.sectors / 8))
    else (if nat_lt 1048576 (apk.sectors / 8) then Err (TooManyBlocks (apk.sectors / 8))
    else Ok (record { blocks = apk.sectors / 8; salt = h.salt; root = h.root }))

-- else the one that has to be met: the idsig has its salt and its root, and the APK's sectors hold its blocks
abbrev pub kept_measure : Span → Measure → Head → Result Measure ApkFault
kept_measure apk m h =
    if not (bytes_eq m.salt h.salt) then Err SaltMismatch
    else (if not (bytes_eq m.root.0 h.root.0) then Err (RootMismatch m.root h.root)
    else (if nat_lt apk.sectors (8 * m.blocks) then Err (SpanShort m.blocks apk.sectors)
    else Ok m))

abbrev pub measure_of : Span → Option Measure → Head → Result Measure ApkFault
measure_of apk None h = first_measure apk h
measure_of apk (Some m) h = kept_measure apk m h

-- the device that an answer makes, or why it makes none
unfoldable pub opened : Opening → List ℕ → Result Device ApkFault
opened o bytes = do
  whole ← enough (512 * count_of o) (length bytes)
  head ← of_idsig (head_of bytes (512 * o.idsig.sectors))
  m ← measure_of o.apk o.measure head
  fits ← of_idsig (tree_fits head m.blocks)
  Ok (record { measure = m; layout = Parts o.disk o.apk.first (512 * o.idsig.first + head.tree_at) })

-- a device lies in its two parts: the blocks in the APK's sectors, and the tree over them in the idsig's
pub record LiesInParts (o : Opening) (blocks disk first tree : ℕ) : Type 0 where
  pub disk_is : disk ≡ o.disk
  pub first_is : first ≡ o.apk.first
  pub blocks_in : 8 * blocks ≤ o.apk.sectors
  pub tree_from : 512 * o.idsig.first ≤ tree
  pub tree_to : tree + 4096 * tree_pages blocks ≤ 512 * (o.idsig.first + o.idsig.sectors)

abbrev pub LiesIn : Opening → ℕ → Layout → Type 0
LiesIn o blocks (Parts disk first tree) = LiesInParts o blocks disk first tree
LiesIn o blocks (File file size) = ⊥

-- A part that begins with an idsig of a measure, and of the tree over its blocks, makes the device of that measure.
abbrev pub DevicesOpen : Type 0
DevicesOpen = (o : Opening) (part : List ℕ) (h : Head) (m : Measure) → length part ≡ 512 * o.idsig.sectors → IsIdsig part h →
    measure_of o.apk o.measure h ≡ Ok m → h.tree_len ≡ 4096 * tree_pages m.blocks →
    opened o (take (512 * count_of o) part) ≡ Ok (record { measure = m; layout = Parts o.disk o.apk.first (512 * o.idsig.first + h.tree_at) })

-- ---- what came of the call

-- it was answered, no call failed, and this is what the answer makes
pub record IsOpened (o : Opening) (result : Result Device ApkFault) (t : Trace) : Type 0 where
  pub failed : t.failed ≡ 0
  pub bytes : List ℕ
  pub own : t.own ≡ (idsig_call o, Bytes bytes) ∷ []
  pub few : length bytes ≤ 512 * count_of o
  pub is : result ≡ opened o bytes

-- it was answered, or it failed, or the host had no memory
abbrev pub OpenOutcome : Opening → Result Device ApkFault → Trace → Type 0
OpenOutcome o (Err (Failed faults)) t = (t.own ≡ []) × IsFailed (IsIdsigCall o) t faults
OpenOutcome o (Err (Short asked got)) t = IsOpened o (Err (Short asked got)) t × IsShort t asked got
OpenOutcome o (Err Memory) t = (t.own ≡ []) × IsScarce t
OpenOutcome o result t = IsOpened o result t
