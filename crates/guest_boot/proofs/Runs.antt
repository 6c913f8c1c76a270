-- One line after another.
use Rattle.std.proofs.Common.{◌≡◌, ℕ, zero, suc, ◌+◌, ◌<◌, ◌≤◌, ◌∙◌, List, [], ◌∷◌, ◌++◌, length, take, drop, get_or, Option, Some, None, Ok, Err, refl, ap, sym, subst, inl, inr, arith, append_assoc, append-nil, add-one}
use Rattle.std.specs.Prelude.{slice_get, IsSome, ◌⊎◌}
use Rattle.std.proofs.lemmas.Option.{slice_get_read}
use Rattle.std.proofs.lemmas.List.{length-take}
use Rattle.std.proofs.Math.Seq.{take-suc}
use Rattle.mg_base.specs.declared.values.Digest.{Digest}
use Rattle.host_traits.specs.declared.calls.Call.{Call}
use Rattle.host_traits.specs.Told.{Told, Exchanges}
use Rattle.host_traits.specs.Did.{Did, Trace, trace_of}
use Rattle.host_traits.proofs.Doing.{did_by_then, failed_later, scarce_later}
use Rattle.apk_verity.specs.declared.ApkFault.{ApkFault}
use Rattle.apk_verity.specs.declared.ApkFault.TheVariants as apks
use Rattle.apk_verity.specs.Opening.{opening}
use Rattle.ro_file.specs.declared.files.RoFault.{RoFault}
use Rattle.ro_file.specs.declared.files.RoFault.TheVariants as files
use Rattle.ro_file.specs.Opening.{IsDescriptorCall, IsRefused}
use Rattle.mg_base.specs.declared.values.Span.{Span}
use Rattle.sha_tree.specs.declared.measure.Measure.{Measure}
use Rattle.guest_plan.specs.declared.plan.How.{How}
use Rattle.guest_plan.specs.declared.plan.How.TheVariants as measures
use Rattle.guest_plan.specs.declared.plan.PlanLine.{PlanLine}
use Rattle.guest_plan.specs.declared.plan.PlanLine.TheVariants as line
use Rattle.guest_boot.specs.declared.faults.BootCause.{BootCause}
use Rattle.guest_boot.specs.declared.faults.BootCause.TheVariants.{Gpt, NoPart, Apk, File, Image, Get, Put, NoEntropy, MeasureText, Failed, Short, Memory}
use Rattle.instance_image.specs.Records.{Kept}
use Rattle.guest_boot.specs.declared.faults.BootFault.{BootFault}
use Rattle.guest_boot.specs.declared.lines.Boot.{Boot}
use Rattle.guest_boot.specs.Finding.{TableNext, TableOn, FindFails, both_parts}
use Rattle.guest_boot.specs.Recording.{Writing, ReadsOrWrites, DidWriting, MeasureFails}
use Rattle.guest_boot.specs.Booting.{Booted, Boots, LineBoots, LineFails, ApkFails, ApkFailsBy, ApkIsRefused, FileFails, WriteFails, IsResize, FoundFails, OpeningFails, KeepingFails, RecordedFails, LineDone, FoundBoots, MeasureIsIn, disk_of, instance_disk, InstanceBoots, InstanceLine, instance_from, instance_in, Means, BootsFrom, IsForLine, IsForLines, most_of, most_in_place, most_of_instance, measure_in, state_of, before_lines, InstanceOutcome, BootOutcome}
use Rattle.guest_boot.proofs.Makes.{open_later}
use Rattle.guest_boot.proofs.Recording.{did_as, did_reading, written_left, written_right, device_later, keep_later, measure_later}

-- ---- lists

-- the element at a place, and those on both sides
pub split_at : {A : Type 0} (xs : List A) (i : ℕ) (x : A) → i < length xs → x ≡ get_or xs i x → xs ≡ take i xs ++ x ∷ drop (suc i) xs
split_at [] i x lt is = absurd (omega (arith, lt))
split_at (y ∷ xs) zero x lt is = ap (λ z. z ∷ xs) (sym is)
split_at (y ∷ xs) (suc i) x lt is = ap (λ z. y ∷ z) (split_at xs i x (omega (arith, lt)) is)

pub take_next : {A : Type 0} (xs : List A) (i : ℕ) (x : A) → i < length xs → x ≡ get_or xs i x → take (i + 1) xs ≡ take i xs ++ x ∷ []
take_next xs i x lt is = subst (λ n. take n xs ≡ take i xs ++ x ∷ []) (sym (add-one i)) (take-suc xs i x lt ∙ ap (λ z. take i xs ++ z ∷ []) (sym is))

-- how many calls lines make at most, each in its place
abbrev pub most_placed : List PlanLine → ℕ
most_placed [] = 0
most_placed (l ∷ lines) = most_in_place l + most_placed lines

placed_append : (xs ys : List PlanLine) → most_placed (xs ++ ys) ≡ most_placed xs + most_placed ys
placed_append [] ys = omega arith
placed_append (l ∷ xs) ys = let h = placed_append xs ys in omega (arith, h)

placed_next : (xs : List PlanLine) (l : PlanLine) → most_placed (xs ++ l ∷ []) ≡ most_placed xs + most_in_place l
placed_next xs l = omega (arith, placed_append xs (l ∷ []))

placed_within : (xs ys : List PlanLine) (l : PlanLine) → most_placed xs + most_in_place l ≤ most_placed (xs ++ l ∷ ys)
placed_within xs ys l = omega (arith, placed_append xs (l ∷ ys))

placed_most : (lines : List PlanLine) → most_placed lines ≤ most_of lines
unfolding most_of
placed_most [] = omega arith
placed_most (l ∷ lines) = omega (arith, placed_most lines)

-- those of the instance line before them, and then those of all lines
most_from : (n : ℕ) (lines : List PlanLine) → most_of_instance (instance_from n lines) + most_placed lines ≤ most_of lines
unfolding most_of instance_from
most_from n [] = omega arith
most_from n (line.Instance disk part ∷ lines) = omega (arith, placed_most lines)
most_from n (line.Blob file m ∷ lines) = omega (arith, most_from (n + 1) lines)
most_from n (line.Apk disk apk idsig how ∷ lines) = omega (arith, most_from (n + 1) lines)
most_from n (line.File name file digest ∷ lines) = omega (arith, most_from (n + 1) lines)
most_from n (line.Write name file ∷ lines) = omega (arith, most_from (n + 1) lines)
most_from n (line.WriteDir name file ∷ lines) = omega (arith, most_from (n + 1) lines)

-- ---- one line more

boots_on : (s mid new : Booted) (xs : List PlanLine) (l : PlanLine) (x y : Exchanges) → Boots s xs x mid → LineBoots mid l y new → Boots s (xs ++ l ∷ []) (x ++ y) new
boots_on s mid new [] l x y h b =
    (y, [], new, ap (λ (z : Exchanges). z ++ y) h.0 ∙ sym (append-nil y), subst (λ (z : Booted). LineBoots z l y new) h.1 b, (refl, refl))
boots_on s mid new (k ∷ xs) l x y h b =
    (h.0, h.1 ++ y, h.2, ap (λ (z : Exchanges). z ++ y) h.3 ∙ append_assoc h.0 h.1 y, h.4, boots_on h.2 mid new xs l h.1 y h.5 b)

-- ---- no line moves the image to another disk

abbrev same_disk : Booted → Booted → Type 0
same_disk s new = disk_of new.image ≡ disk_of s.image

same_as : (s new like : Booted) → new ≡ like → same_disk s like → same_disk s new
same_as s new like e h = ap (λ (z : Booted). disk_of z.image) e ∙ h

measure_disk : (s : Booted) (image : Kept) (secret uuid : List ℕ) (measure : Option Measure) (m : Measure) (own : Exchanges) (new : Booted) → s.image ≡ Some image
    → MeasureIsIn s image secret uuid measure m own new → same_disk s new
measure_disk s image secret uuid (Some kept) m own new is h = same_as s new _ h.1 refl
measure_disk s image secret uuid None m own new is h = same_as s new _ h.new_is (ap (λ (k : Kept). disk_of (Some k)) h.keeps.1.now_is ∙ sym (ap disk_of is))

found_disk : (s : Booted) (disk : ℕ) (parts : Span × Span) (uuid : List ℕ) (own : Exchanges) (new : Booted) → FoundBoots s disk parts uuid own new → same_disk s new
found_disk s disk parts uuid own new b = measure_disk (record s { items = b.items }) b.image b.secret uuid b.measure b.boots.device.measure b.put new b.image_is b.kept

line_disk : (s : Booted) (l : PlanLine) (own : Exchanges) (new : Booted) → LineBoots s l own new → same_disk s new
line_disk s (line.Instance disk part) own new b = same_as s new _ b.1 refl
line_disk s (line.Blob file m) own new b = same_as s new _ b.1 refl
line_disk s (line.Apk disk apk idsig (measures.Fixed m)) own new b = same_as s new _ b.new_is refl
line_disk s (line.Apk disk apk idsig measures.First) own new b = same_as s new _ b.new_is refl
line_disk s (line.Apk disk apk idsig (measures.Kept uuid)) own new b = found_disk (record s { tables = b.tables }) disk b.parts uuid.0 b.rest new b.behind
line_disk s (line.File name file digest) own new b = same_as s new _ b.new_is refl
line_disk s (line.Write name file) own new b = same_as s new _ b.1 refl
line_disk s (line.WriteDir name file) own new b = same_as s new _ b.1 refl

boots_disk : (s new : Booted) (lines : List PlanLine) (own : Exchanges) → Boots s lines own new → same_disk s new
boots_disk s new [] own b = same_as s new _ b.1 refl
boots_disk s new (l ∷ lines) own b = boots_disk b.2 new lines b.1 b.5 ∙ line_disk s l b.0 b.2 b.4

instance_on : (i : Option InstanceLine) (salt : Option (List ℕ)) (own : Exchanges) (tables : List TableOn) (image : Option Kept) → InstanceBoots i salt own tables image → disk_of image ≡ instance_disk i
instance_on None salt own tables image b = ap disk_of b.2
instance_on (Some i) None own tables image b = absurd b
instance_on (Some i) (Some salt) own tables image b = ap disk_of b.1 ∙ ap (λ (k : Kept). disk_of (Some k)) b.2.opened.is

-- so it is on that of the instance line
pub image_on : (i : Option InstanceLine) (means : Means) (lines : List PlanLine) (own : Exchanges) (new : Booted) → BootsFrom i means lines own new → disk_of new.image ≡ instance_disk i
image_on i means lines own new b = boots_disk _ new lines b.rest b.others ∙ instance_on i means.salt b.first b.tables b.image b.before

on_disk : (image : Option Kept) (disk : ℕ) → disk_of image ≡ Some disk → IsSome image
on_disk None disk e = absurd cc
on_disk (Some k) disk e = refl

-- and it is there, where that is
pub image_there : (i : Option InstanceLine) (means : Means) (lines : List PlanLine) (own : Exchanges) (new : Booted) (n : InstanceLine) → i ≡ Some n → BootsFrom i means lines own new → IsSome new.image
image_there i means lines own new n is b = on_disk new.image n.disk (image_on i means lines own new b ∙ ap instance_disk is)

-- ---- a line that failed, seen from before

module _ (a b c : Told) (y : Exchanges) (failed : ℕ) (le : a.faults ≤ b.faults) where
  refused_later : (s : Booted) (disk : ℕ) (apk idsig : List ℕ) (how : How) (f : ApkFault) → ApkIsRefused s disk apk idsig how f (trace_of y failed b c) → ApkIsRefused s disk apk idsig how f (trace_of y failed a c)
  refused_later s disk apk idsig how f h = record {
    first = h.first;
    rest = h.rest;
    cut = h.cut;
    tables = h.tables;
    parts = h.parts;
    found = h.found;
    outcome = open_later (opening disk h.parts.0 h.parts.1 (measure_in how)) a b c h.rest failed le f h.outcome;
  }

  apk_later : (s : Booted) (disk : ℕ) (apk idsig : List ℕ) (how : How) (why : BootCause) → ApkFails s disk apk idsig how why (trace_of y failed b c) → ApkFails s disk apk idsig how why (trace_of y failed a c)
  apk_later s disk apk idsig how (Gpt f) h = h
  apk_later s disk apk idsig how (NoPart name) h = h
  apk_later s disk apk idsig how (Apk (apks.Failed faults)) h = refused_later s disk apk idsig how _ h
  apk_later s disk apk idsig how (Apk (apks.Short asked got)) h = refused_later s disk apk idsig how _ h
  apk_later s disk apk idsig how (Apk (apks.Idsig fault)) h = refused_later s disk apk idsig how _ h
  apk_later s disk apk idsig how (Apk apks.SaltMismatch) h = refused_later s disk apk idsig how _ h
  apk_later s disk apk idsig how (Apk (apks.RootMismatch expected found)) h = refused_later s disk apk idsig how _ h
  apk_later s disk apk idsig how (Apk (apks.TooFewBlocks blocks)) h = refused_later s disk apk idsig how _ h
  apk_later s disk apk idsig how (Apk (apks.TooManyBlocks blocks)) h = refused_later s disk apk idsig how _ h
  apk_later s disk apk idsig how (Apk (apks.SpanShort blocks sectors)) h = refused_later s disk apk idsig how _ h
  apk_later s disk apk idsig how (Apk apks.Memory) h = h
  apk_later s disk apk idsig how (File f) h = h
  apk_later s disk apk idsig how (Image f) h = h
  apk_later s disk apk idsig how (Get f) h = h
  apk_later s disk apk idsig how (Put f) h = h
  apk_later s disk apk idsig how (NoEntropy left) h = h
  apk_later s disk apk idsig how MeasureText h = h
  apk_later s disk apk idsig how (Failed faults) h = (h.0, failed_later (TableNext disk y) a b c [] y failed faults le h.1)
  apk_later s disk apk idsig how (Short asked got) h = h
  apk_later s disk apk idsig how Memory h = h

  file_again : (file : ℕ) (digest : Digest) (f : RoFault) → IsRefused file digest (trace_of y failed b c) f → IsRefused file digest (trace_of y failed a c) f
  file_again file digest f h = record { failed = h.failed; bytes = h.bytes; own = h.own; few = h.few; is = h.is }

  file_later : (file : ℕ) (digest : Digest) (why : BootCause) → FileFails file digest why (trace_of y failed b c) → FileFails file digest why (trace_of y failed a c)
  file_later file digest (File (files.Failed faults)) h = (h.0, failed_later (IsDescriptorCall file) a b c [] y failed faults le h.1)
  file_later file digest (File (files.Short asked got)) h = file_again file digest _ h
  file_later file digest (File (files.DigestMismatch expected found)) h = file_again file digest _ h
  file_later file digest (File (files.Descriptor fault)) h = file_again file digest _ h
  file_later file digest (File (files.TooLong size)) h = file_again file digest _ h
  file_later file digest (File files.Memory) h = h
  file_later file digest (Gpt f) h = h
  file_later file digest (NoPart name) h = h
  file_later file digest (Apk f) h = h
  file_later file digest (Image f) h = h
  file_later file digest (Get f) h = h
  file_later file digest (Put f) h = h
  file_later file digest (NoEntropy left) h = h
  file_later file digest MeasureText h = h
  file_later file digest (Failed faults) h = h
  file_later file digest (Short asked got) h = h
  file_later file digest Memory h = record { own = h.own; failed = h.failed }

  write_later : (file : ℕ) (why : BootCause) → WriteFails file why (trace_of y failed b c) → WriteFails file why (trace_of y failed a c)
  write_later file (Failed faults) h = (h.0, failed_later (IsResize file) a b c [] y failed faults le h.1)
  write_later file Memory h = (h.0, scarce_later a b c [] y failed h.1)
  write_later file (Gpt f) h = h
  write_later file (NoPart name) h = h
  write_later file (Apk f) h = h
  write_later file (File f) h = h
  write_later file (Image f) h = h
  write_later file (Get f) h = h
  write_later file (Put f) h = h
  write_later file (NoEntropy left) h = h
  write_later file MeasureText h = h
  write_later file (Short asked got) h = h

  pub found_later : (s : Booted) (disk : ℕ) (parts : Span × Span) (uuid : List ℕ) (why : BootCause) (after : List Writing) → FoundFails s disk parts uuid why after (trace_of y failed b c)
      → FoundFails s disk parts uuid why after (trace_of y failed a c)
  found_later s disk parts uuid why after h = record {
    image = h.image;
    image_is = h.image_is;
    secret = h.secret;
    secret_is = h.secret_is;
    fails = record_later h.image h.secret h.fails;
  } where
    record_later : (image : Kept) (secret : List ℕ)
        → ((after ≡ s.writings) × (MeasureFails image secret uuid why (trace_of y failed b c) ⊎ OpeningFails disk parts image secret uuid why (trace_of y failed b c))) ⊎ KeepingFails s disk parts image secret uuid why after (trace_of y failed b c)
        → ((after ≡ s.writings) × (MeasureFails image secret uuid why (trace_of y failed a c) ⊎ OpeningFails disk parts image secret uuid why (trace_of y failed a c))) ⊎ KeepingFails s disk parts image secret uuid why after (trace_of y failed a c)
    record_later image secret (inl (same, inl h)) = inl (same, inl (measure_later a b c y failed le image secret uuid why h))
    record_later image secret (inl (same, inr h)) = inl (
      same,
      inr (record {
        got = h.got;
        rest = h.rest;
        cut = h.cut;
        measure = h.measure;
        measured = h.measured;
        fails = device_later a b c h.rest failed le (opening disk parts.0 parts.1 h.measure) why h.fails;
      }),
    )
    record_later image secret (inr h) = inr (record {
      empty = h.empty;
      opened = h.opened;
      rest = h.rest;
      cut = h.cut;
      items = h.items;
      boots = h.boots;
      fails = keep_later a b c h.rest failed le image uuid s.entropy h.boots.device.measure why h.fails;
      written = h.written;
    })

-- the later part of a trace, seen from before
module _ (a b c : Told) (y : Exchanges) (failed : ℕ) (le : a.faults ≤ b.faults) where
  no_parts_later : (s : Booted) (disk : ℕ) (apk idsig : List ℕ) (why : BootCause) → FindFails s.tables disk (both_parts apk idsig) why (trace_of y failed b c)
      → FindFails s.tables disk (both_parts apk idsig) why (trace_of y failed a c)
  no_parts_later s disk apk idsig (Failed faults) h = (h.0, failed_later (TableNext disk y) a b c [] y failed faults le h.1)
  no_parts_later s disk apk idsig (Gpt f) h = h
  no_parts_later s disk apk idsig (NoPart name) h = h
  no_parts_later s disk apk idsig (Apk f) h = h
  no_parts_later s disk apk idsig (File f) h = h
  no_parts_later s disk apk idsig (Image f) h = h
  no_parts_later s disk apk idsig (Get f) h = h
  no_parts_later s disk apk idsig (Put f) h = h
  no_parts_later s disk apk idsig (NoEntropy left) h = h
  no_parts_later s disk apk idsig MeasureText h = h
  no_parts_later s disk apk idsig (Short asked got) h = h
  no_parts_later s disk apk idsig Memory h = h

  recorded_later : (s : Booted) (disk : ℕ) (apk idsig uuid : List ℕ) (why : BootCause) (after : List Writing) → RecordedFails s disk apk idsig uuid why after (trace_of y failed b c)
      → RecordedFails s disk apk idsig uuid why after (trace_of y failed a c)
  recorded_later s disk apk idsig uuid why after (inl (same, h)) = inl (same, no_parts_later s disk apk idsig why h)
  recorded_later s disk apk idsig uuid why after (inr h) = inr (record {
    first = h.first;
    rest = h.rest;
    cut = h.cut;
    tables = h.tables;
    parts = h.parts;
    found = h.found;
    fails = found_later a b c h.rest failed le (record s { tables = h.tables }) disk h.parts uuid why after h.fails;
  })

  apk_by_later : (s : Booted) (disk : ℕ) (apk idsig : List ℕ) (how : How) (why : BootCause) (after : List Writing) → ApkFailsBy s disk apk idsig how why after (trace_of y failed b c)
      → ApkFailsBy s disk apk idsig how why after (trace_of y failed a c)
  apk_by_later s disk apk idsig (measures.Fixed m) why after h = (h.0, apk_later a b c y failed le s disk apk idsig (measures.Fixed m) why h.1)
  apk_by_later s disk apk idsig measures.First why after h = (h.0, apk_later a b c y failed le s disk apk idsig measures.First why h.1)
  apk_by_later s disk apk idsig (measures.Kept uuid) why after h = recorded_later s disk apk idsig uuid.0 why after h

  line_later : (s : Booted) (l : PlanLine) (why : BootCause) (after : List Writing) → LineFails s l why after (trace_of y failed b c) → LineFails s l why after (trace_of y failed a c)
  line_later s (line.Blob file m) why after h = h
  line_later s (line.Apk disk apk idsig how) why after h = apk_by_later s disk apk idsig how why after h
  line_later s (line.File name file digest) why after h = (h.0, file_later a b c y failed le file digest why h.1)
  line_later s (line.Instance disk part) why after h = h
  line_later s (line.Write name file) why after h = (h.0, write_later a b c y failed le file why h.1)
  line_later s (line.WriteDir name file) why after h = h

-- ---- the lines in order

-- the instance line, and then a line more
from_on : (i : Option InstanceLine) (means : Means) (s new : Booted) (xs : List PlanLine) (l : PlanLine) (x y : Exchanges) → BootsFrom i means xs x s → LineBoots s l y new → BootsFrom i means (xs ++ l ∷ []) (x ++ y) new
from_on i means s new xs l x y b one = record {
  first = b.first;
  rest = b.rest ++ y;
  cut = ap (λ (z : Exchanges). z ++ y) b.cut ∙ append_assoc b.first b.rest y;
  tables = b.tables;
  image = b.image;
  before = b.before;
  others = boots_on _ s new xs l b.rest y b.others one;
}

-- how many calls the instance line and these lines make at most
abbrev pub most_so_far : List PlanLine → List PlanLine → ℕ
most_so_far lines front = most_of_instance (instance_in lines) + most_placed front

-- what was booted so far, and the writes that were made
abbrev pub SoFar : Means → List PlanLine → List PlanLine → Boot → List Writing → Trace → Type 0
SoFar means lines front boot writings t = (t.failed ≡ 0) × BootsFrom (instance_in lines) means front t.own (state_of boot means.secret writings)

module _ (means : Means) (lines : List PlanLine) (i : ℕ) (l : PlanLine) (lt : i < length lines) (is : l ≡ get_or lines i l) (a b c : Told) (s : Boot)
    (d : DidWriting (IsForLines lines) (most_so_far lines (take i lines)) a b (SoFar means lines (take i lines) s)) where
  for_lines : (call : Call) → IsForLine (disk_of s.image) l call → IsForLines lines call
  for_lines call f = record {
    at = i;
    line = l;
    stands = slice_get_read lines (length lines) i l refl lt is;
    for = subst (λ (z : Option ℕ). IsForLine z l call) (image_on (instance_in lines) means (take i lines) _ _ d.did.outcome.1) f;
  }

  wider_first : (w : List Writing) (call : Call) (given : List ℕ) → ReadsOrWrites (IsForLines lines) d.writings call given → ReadsOrWrites (IsForLines lines) (d.writings ++ w) call given
  wider_first w call given (inl r) = inl r
  wider_first w call given (inr r) = inr (written_left d.writings w call given r)

  wider_later : (w : List Writing) (call : Call) (given : List ℕ) → ReadsOrWrites (IsForLine (disk_of s.image) l) w call given → ReadsOrWrites (IsForLines lines) (d.writings ++ w) call given
  wider_later w call given (inl r) = inl (for_lines call r.0, r.1)
  wider_later w call given (inr r) = inr (written_right d.writings w call given r)

  both : (most : ℕ) (P R : List Writing → Trace → Type 0) (e : DidWriting (IsForLine (disk_of s.image) l) (most_in_place l) b c P) → most_so_far lines (take i lines) + most_in_place l ≤ most
      → ((x y : Exchanges) (failed : ℕ) → a.faults ≤ b.faults → BootsFrom (instance_in lines) means (take i lines) x (state_of s means.secret d.writings) → P e.writings (trace_of y failed b c) → R (d.writings ++ e.writings) (trace_of (x ++ y) failed a c))
      → DidWriting (IsForLines lines) most a c R
  both most P R e few f = record {
    writings = d.writings ++ e.writings;
    did = did_as _ _ _ most a c _ _
        (did_by_then (ReadsOrWrites (IsForLines lines) (d.writings ++ e.writings)) (most_so_far lines (take i lines)) (most_in_place l) a b c (SoFar means lines (take i lines) s d.writings) (P e.writings) (R (d.writings ++ e.writings))
        (did_as _ _ _ _ a b _ _ d.did (wider_first e.writings) (omega arith) (λ t p. p))
        (did_as _ _ _ _ b c _ _ e.did (wider_later e.writings) (omega arith) (λ t p. p))
        (λ t p. p.0) (λ x y failed le p q. f x y failed le p.1 q))
        (λ call given g. g) few (λ t p. p);
  }

  few_next : most_so_far lines (take i lines) + most_in_place l ≤ most_so_far lines (take i lines ++ l ∷ [])
  few_next = omega (arith, placed_next (take i lines) l)

  pub goes_on : (new : Boot) (u : Unit {0}) → DidWriting (IsForLine (disk_of s.image) l) (most_in_place l) b c (LineDone means.secret s l new (Ok u))
      → DidWriting (IsForLines lines) (most_so_far lines (take (i + 1) lines)) a c (SoFar means lines (take (i + 1) lines) new)
  goes_on new u e =
      subst (λ (front : List PlanLine). DidWriting (IsForLines lines) (most_so_far lines front) a c (SoFar means lines front new)) (sym (take_next lines i l lt is))
      (both _ _ (SoFar means lines (take i lines ++ l ∷ []) new) e few_next (λ x y failed le p q.
      let one = q d.writings in (one.0, from_on (instance_in lines) means (state_of s means.secret d.writings) (state_of new means.secret (d.writings ++ e.writings)) (take i lines) l x y p one.1)))

  pub stops : (numbers : List ℕ) (n : ℕ) (why : BootCause) (new : Boot) → slice_get numbers i ≡ Some n → DidWriting (IsForLine (disk_of s.image) l) (most_in_place l) b c (LineDone means.secret s l new (Err why))
      → DidWriting (IsForLines lines) (most_of lines) a c (BootOutcome means lines numbers (Err (record { line = n; why = why })))
  stops numbers n why new at e =
      let cut = split_at lines i l lt is in
      let len : length (take i lines) ≡ i = omega (arith, length-take i lines, lt) in
      let within : most_placed (take i lines) + most_in_place l ≤ most_placed lines = subst (λ (z : List PlanLine). most_placed (take i lines) + most_in_place l ≤ most_placed z) (sym cut) (placed_within (take i lines) (drop (suc i) lines) l) in
      let few : most_so_far lines (take i lines) + most_in_place l ≤ most_of lines = omega (arith, within, most_from 0 lines) in
      both _ _ (BootOutcome means lines numbers (Err (record { line = n; why = why }))) e few (λ x y failed le p q. inr (record {
        before = take i lines;
        line = l;
        after = drop (suc i) lines;
        lines_are = cut;
        number = subst (λ (k : ℕ). slice_get numbers k ≡ Some n) (sym len) at;
        first = x;
        rest = y;
        cut = refl;
        mid = state_of s means.secret d.writings;
        booted = p;
        fails = line_later a b c y failed le (state_of s means.secret d.writings) l why (d.writings ++ e.writings) (q d.writings);
      }))

-- ---- before them, and after them

module _ (means : Means) (lines : List PlanLine) (numbers : List ℕ) (a b : Told) (tables : List TableOn) where
  pub not_begun : (fault : BootFault) → Did (IsForLines lines) (most_of_instance (instance_in lines)) a b (InstanceOutcome means.salt lines numbers tables (Err fault))
      → DidWriting (IsForLines lines) (most_of lines) a b (BootOutcome means lines numbers (Err fault))
  not_begun fault d =
      let few : most_of_instance (instance_in lines) ≤ most_of lines = omega (arith, most_from 0 lines) in
      record { writings = []; did = did_reading _ _ [] _ _ a b _ _ d (λ call f. f) few (λ t h. inl (refl, h)) }

  pub begins : (boot : Boot) (image : Option Kept) → state_of boot means.secret [] ≡ before_lines tables image means.secret means.entropy → Did (IsForLines lines) (most_of_instance (instance_in lines)) a b (InstanceOutcome means.salt lines numbers tables (Ok image))
      → DidWriting (IsForLines lines) (most_so_far lines []) a b (SoFar means lines [] boot)
  begins boot image is d = record {
    writings = [];
    did = did_reading _ _ [] _ _ a b _ _ d (λ call f. f) (omega arith) (λ t h. (
      h.0,
      record {
        first = t.own;
        rest = [];
        cut = sym (append-nil t.own);
        tables = tables;
        image = image;
        before = h.1;
        others = (refl, is);
      },
    ));
  }

take_all : {A : Type 0} (xs : List A) (i : ℕ) → length xs ≤ i → take i xs ≡ xs
take_all [] zero le = refl
take_all [] (suc i) le = refl
take_all (x ∷ xs) zero le = absurd (omega (arith, le))
take_all (x ∷ xs) (suc i) le = ap (λ z. x ∷ z) (take_all xs i (omega (arith, le)))

pub ends : (means : Means) (lines : List PlanLine) (numbers : List ℕ) (a b : Told) (boot : Boot) (i : ℕ) → length lines ≤ i
    → DidWriting (IsForLines lines) (most_so_far lines (take i lines)) a b (SoFar means lines (take i lines) boot)
    → DidWriting (IsForLines lines) (most_of lines) a b (BootOutcome means lines numbers (Ok (record { items = boot.items; files = boot.files; image = boot.image; entropy = boot.entropy })))
ends means lines numbers a b boot i le d =
    let whole = subst (λ (z : List PlanLine). DidWriting (IsForLines lines) (most_so_far lines z) a b (SoFar means lines z boot)) (take_all lines i le) d in
    record { writings = whole.writings; did = did_as _ _ _ _ a b _ _ whole.did (λ call given f. f) (most_from 0 lines) (λ t p. (p.0, boot.tables.items, p.1)) }
