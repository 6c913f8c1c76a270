-- What comes of a request on a writable file, as a row.
use Rattle.std.proofs.Common.{◌≡◌, ◌≢◌, ◌∙◌, ◌⊎◌, inl, inr, ℕ, ◌+◌, ◌/◌, ◌%◌, ◌≤◌, ◌<◌, List, [], ◌∷◌, length, Option, Some, Result, Ok, Err, OnOk, OnErr, arith}
use Rattle.host_traits.specs.declared.calls.Call.{Call}
use Rattle.host_traits.specs.declared.calls.Call.TheVariants.{Resize}
use Rattle.host_traits.specs.Told.{Told, Made, kind_of}
use Rattle.host_traits.specs.Did.{Trace, Each, DidBy}
use Rattle.verity_path.specs.declared.device.Cause.{Cause}
use Rattle.verity_path.specs.Range.{touched, end_of}
use Rattle.sha_tree.specs.Tree.{block_count}
use Rattle.leaf_tree.specs.Outcomes.{IsTreeCall}
use Rattle.leaf_tree.specs.Worked.{Worked, HandsPage, one_ask, asks_of, one_put, puts_of}
use Rattle.rw_file.specs.declared.faults.RwFault.{RwFault}
use Rattle.rw_file.specs.declared.faults.Written.{Written}
use Rattle.rw_file.specs.Calls.{block_read, IsBlockRead, IsBareRead, IsBlockWrite, IsForFileRead, IsForFileWrite, IsForCut, Hands, most_read, most_write, most_cut}
use Rattle.rw_file.specs.Rows.{ReadOutcome, WriteOutcome, CutOutcome, SyncOutcome, size_after}
use Rattle.fuse_codec.specs.Reply.{Answer, bytes_out, empty, attributes}
use Rattle.fuse_server.specs.State.{WritableFile, Writables, writable_at, replaced, attr_of_size}
use Rattle.fuse_server.specs.Aims.{loads, writes, cuts, syncs}
use Rattle.fuse_server.specs.FileRows.{IsLocal, meaning_of, answer_if, cause_if, written_answer, written_cause, size_if}
use Rattle.fuse_server.specs.Answers.{Answered}

-- ---- each call of a tree in memory asks for bytes, or changes those of a file

abbrev Counts : Call → Type 0
Counts call = 1 ≤ one_ask (kind_of call) + one_put call

counted : (F : Call → Type 0) (own : List Made) → ((call : Call) → F call → Counts call) → Each (λ call given. F call) own → length own ≤ asks_of own + puts_of own
counted F [] one calls = omega arith
counted F (m ∷ own) one calls = let first = one m.call calls.0 in let rest = counted F own one calls.1 in omega arith

both : (F : Call → Type 0) (H : Call → List ℕ → Type 0) (own : List Made) → Each (λ call given. F call) own → Each H own → Each (λ call given. F call × H call given) own
both F H [] calls hands = tt
both F H (m ∷ own) calls hands = ((calls.0, hands.0), both F H own calls.1 hands.1)

worked_by : (H : Call → List ℕ → Type 0) (p : ℕ) (F : Call → Type 0) (m n : ℕ) (a b : Told) (P Q : Trace → Type 0) → ((call : Call) → F call → Counts call) → m + p ≤ n → ((t : Trace) → P t → Q t)
    → Worked H p F m a b P → DidBy (λ call given. F call × H call given) n a b Q
worked_by H p F m n a b P Q one le so d = record {
  own = d.own;
  talked = d.talked;
  calls = both F H d.own d.calls d.hands;
  few = let all = counted F d.own one d.calls in let puts = d.few_puts in let asks = d.few in omega arith;
  stops = d.stops;
  outcome = so _ d.outcome;
}

no_tree : (file a b : ℕ) (call : Call) → IsTreeCall IsLocal file a b call → Counts call
no_tree file a b call w = absurd (w.far tt)

read_one : (file size offset len : ℕ) (call : Call) → IsForFileRead IsLocal file size offset len call → Counts call
read_one file size offset len call w = by w.1 where
  by : IsBlockRead file size offset (end_of size offset len) call ⊎ IsTreeCall IsLocal file (block_count size) (block_count size) call → Counts call
  by (inl b) = rw b.call_is (omega arith)
  by (inr t) = no_tree _ _ _ call t

write_one : (file size at len : ℕ) (call : Call) → IsForFileWrite IsLocal file size at len call → Counts call
write_one file size at len call w = by w.1 where
  put : (n : ℕ) → IsBlockWrite file at (at + len) call ⊎ IsTreeCall IsLocal file (block_count size) n call → Counts call
  put n (inl b) = rw b.call_is (omega arith)
  put n (inr t) = no_tree _ _ _ call t

  by : {n : ℕ} → IsBareRead file size at (at + len) call ⊎ (IsBlockWrite file at (at + len) call ⊎ IsTreeCall IsLocal file (block_count size) n call) → Counts call
  by (inl b) = rw b.call_is (omega arith)
  by {n} (inr rest) = put n rest

cut_one : (file size to : ℕ) (call : Call) → IsForCut IsLocal file size to call → Counts call
cut_one file size to call w = by w.1 where
  by : ((to < size) × (to % 4096 ≢ 0) × (call ≡ block_read file size (to / 4096))) ⊎ ((call ≡ Resize file to) ⊎ IsTreeCall IsLocal file (block_count size) (block_count to) call) → Counts call
  by (inl b) = rw b.2 (omega arith)
  by (inr (inl e)) = rw e (omega arith)
  by (inr (inr t)) = no_tree _ _ _ call t

-- ---- rows

-- the file that stands there
pub same_file : (files : Writables) (number : ℕ) (g f : WritableFile) → Some g ≡ writable_at files number → writable_at files number ≡ Some f → f ≡ g
same_file files number g f value there = by (value ∙ there) where
  by : ◌≡◌ {A = Option WritableFile} (Some g) (Some f) → f ≡ g
  by e = cc

pub size_by : (old size new : ℕ) (r : Result (Unit {0}) RwFault) → OnOk r (new ≡ size) → OnErr r (new ≡ old) → new ≡ size_if old size r
size_by old size new (Ok u) ok err = ok
size_by old size new (Err e) ok err = err

module _ (number : ℕ) (f new : WritableFile) (old news : Writables) (x y : Told) (put : news ≡ replaced number new old) (file_is : new.file ≡ f.file) (answer : Answer) (c : Option Cause) where
  pub loaded : (offset size : ℕ) (bytes : List ℕ) (r : Result (Unit {0}) RwFault) → new.size ≡ f.size → answer ≡ answer_if (bytes_out bytes) r → c ≡ cause_if r
      → Worked HandsPage 0 (IsForFileRead IsLocal f.file f.size offset size) (most_read f.size offset size) x y (ReadOutcome IsLocal f.file f.size offset size (meaning_of f) (meaning_of new) x.held y.held bytes r)
      → Answered (Ok (loads number f offset size)) old news x y answer c
  loaded offset size bytes r size_is answer_is cause_is d = worked_by HandsPage 0 (IsForFileRead IsLocal f.file f.size offset size) (most_read f.size offset size) _ x y _ _ (read_one f.file f.size offset size) (omega arith)
      (λ t w. record { new = new; replaced = record { files = put; file_is = file_is; size_is = size_is }; bytes = bytes; result = r; outcome = w; answer_is = answer_is; cause_is = cause_is }) d

  pub stored : (offset : ℕ) (bytes : List ℕ) (r : Result Written RwFault) → new.size ≡ size_after f.size offset r → answer ≡ written_answer r → c ≡ written_cause r
      → Worked (Hands offset bytes) (touched offset (offset + length bytes)) (IsForFileWrite IsLocal f.file f.size offset (length bytes)) (most_write f.size offset (length bytes)) x y
      (WriteOutcome IsLocal f.file f.size offset bytes (meaning_of f) (meaning_of new) x.held y.held r)
      → Answered (Ok (writes number f offset bytes)) old news x y answer c
  stored offset bytes r size_is answer_is cause_is d =
      worked_by (Hands offset bytes) (touched offset (offset + length bytes)) (IsForFileWrite IsLocal f.file f.size offset (length bytes)) (most_write f.size offset (length bytes)) _ x y _ _ (write_one f.file f.size offset (length bytes)) (omega arith)
      (λ t w. record { new = new; result = r; replaced = record { files = put; file_is = file_is; size_is = size_is }; outcome = w; answer_is = answer_is; cause_is = cause_is }) d

  pub resized : (node size : ℕ) (r : Result (Unit {0}) RwFault) → new.size ≡ size_if f.size size r → answer ≡ answer_if (attributes (attr_of_size node size)) r → c ≡ cause_if r
      → Worked HandsPage 1 (IsForCut IsLocal f.file f.size size) (most_cut f.size size) x y (CutOutcome IsLocal f.file f.size size (meaning_of f) (meaning_of new) x.held y.held r)
      → Answered (Ok (cuts number f node size)) old news x y answer c
  resized node size r size_is answer_is cause_is d = worked_by HandsPage 1 (IsForCut IsLocal f.file f.size size) (most_cut f.size size) _ x y _ _ (cut_one f.file f.size size) (omega arith)
      (λ t w. record { new = new; result = r; replaced = record { files = put; file_is = file_is; size_is = size_is }; outcome = w; answer_is = answer_is; cause_is = cause_is }) d

  pub synced : (r : Result (Unit {0}) RwFault) → new.size ≡ f.size → answer ≡ answer_if empty r → c ≡ cause_if r
      → Worked HandsPage 0 (IsTreeCall IsLocal f.file (block_count f.size) (block_count f.size)) 0 x y
      (SyncOutcome IsLocal f.file f.size (IsTreeCall IsLocal f.file (block_count f.size) (block_count f.size)) (meaning_of f) (meaning_of new) x.held y.held r)
      → Answered (Ok (syncs number f)) old news x y answer c
  synced r size_is answer_is cause_is d = worked_by HandsPage 0 (IsTreeCall IsLocal f.file (block_count f.size) (block_count f.size)) 0 _ x y _ _ (no_tree f.file (block_count f.size) (block_count f.size)) (omega arith)
      (λ t w. record { new = new; result = r; replaced = record { files = put; file_is = file_is; size_is = size_is }; outcome = w; answer_is = answer_is; cause_is = cause_is }) d
