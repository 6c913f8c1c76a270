-- What boot makes of the lines that name files.
use Rattle.std.proofs.Common.{◌≡◌, ◌+◌, ℕ, List, [], ◌∷◌, ◌++◌, length, Option, Some, None, refl, sym, ap, ◌∙◌, subst, inl, inr, arith, append_assoc, append-nil}
use Rattle.std.proofs.lemmas.List.{length-append}
use Rattle.mg_base.specs.declared.values.Digest.{Digest}
use Rattle.host_traits.specs.declared.calls.Call.TheVariants.{Descriptor as DescriptorOf}
use Rattle.host_traits.specs.declared.calls.Said.TheVariants.{Bytes}
use Rattle.host_traits.specs.Told.{Exchanges}
use Rattle.host_traits.specs.Did.{IsIn}
use Rattle.ro_file.specs.Files.{MeasuredFile, IsReadable, file_of}
use Rattle.ro_file.specs.Opening.{Describes, WasOpened}
use Rattle.ro_file.proofs.Standing.{opened_left, opened_right}
use Rattle.guest_plan.specs.declared.plan.PlanLine.{PlanLine}
use Rattle.guest_plan.specs.declared.plan.PlanLine.TheVariants as line
use Rattle.sha_tree.specs.declared.measure.Measure.{Measure}
use Rattle.instance_image.specs.Records.{Kept}
use Rattle.guest_plan.specs.declared.plan.How.{How}
use Rattle.guest_plan.specs.declared.plan.How.TheVariants as measures
use Rattle.guest_boot.specs.Booting.{Booted, Boots, LineBoots, ApkBootsBy, MeasureIsIn, PlanBoots, before_lines}
use Rattle.guest_names.specs.Standing.{NamedFile, file_in, and_files, files_in, read_if, read_only, read_count}
use Rattle.guest_names.specs.Promises.{IsPlannedFile, FilesAreCounted, FilesAreOpened, WritablesAreEmpty}
use Rattle.guest_names.proofs.Apart.{plan_plantable}
use Rattle.guest_names.proofs.Files.{WasMade, AreMade, IsFound, found, all_empty, only_differ}

-- ---- an APK device leaves the files as they are

kept_files : (s mid : Booted) (image : Kept) (secret uuid : List ℕ) (kept : Option Measure) (m : Measure) (own : Exchanges) → MeasureIsIn s image secret uuid kept m own mid → mid.files ≡ s.files
kept_files s mid image secret uuid (Some g) m own b = ap (λ (x : Booted). x.files) b.1
kept_files s mid image secret uuid None m own b = ap (λ (x : Booted). x.files) b.new_is

apk_files : (s mid : Booted) (disk : ℕ) (apk idsig : List ℕ) (how : How) (own : Exchanges) → ApkBootsBy s disk apk idsig how own mid → mid.files ≡ s.files
apk_files s mid disk apk idsig (measures.Fixed m) own b = ap (λ (x : Booted). x.files) b.new_is
apk_files s mid disk apk idsig measures.First own b = ap (λ (x : Booted). x.files) b.new_is
apk_files s mid disk apk idsig (measures.Kept uuid) own b = kept_files _ mid b.behind.image b.behind.secret uuid.0 b.behind.measure b.behind.boots.device.measure b.behind.put b.behind.kept

-- ---- as many as lines that name one

line_counted : (s mid : Booted) (l : PlanLine) (own : Exchanges) → LineBoots s l own mid → length mid.files ≡ length s.files + length (read_only (and_files (file_in l) []))
line_counted s mid (line.Blob file m) own b = ap (λ (x : Booted). length x.files) b.1 ∙ omega arith
line_counted s mid (line.Apk disk apk idsig how) own b = ap (λ (x : List MeasuredFile). length x) (apk_files s mid disk apk idsig how own b) ∙ omega arith
line_counted s mid (line.File name file digest) own b = ap (λ (x : Booted). length x.files) b.new_is ∙ length-append s.files (b.opened ∷ [])
line_counted s mid (line.Instance disk part) own b = ap (λ (x : Booted). length x.files) b.1 ∙ omega arith
line_counted s mid (line.Write name file) own b = ap (λ (x : Booted). length x.files) b.1 ∙ omega arith
line_counted s mid (line.WriteDir name file) own b = ap (λ (x : Booted). length x.files) b.1 ∙ omega arith

one_count : (f : NamedFile) (o : Option Digest) (files : List NamedFile) → length (read_if f o files) ≡ length (read_if f o []) + length files
one_count f None files = omega arith
one_count f (Some digest) files = omega arith

and_count : (o : Option NamedFile) (files : List NamedFile) → length (read_only (and_files o files)) ≡ length (read_only (and_files o [])) + length (read_only files)
and_count None files = omega arith
and_count (Some f) files = one_count f f.digest (read_only files)

counted_on : (lines : List PlanLine) (s new : Booted) (own : Exchanges) → Boots s lines own new → length new.files ≡ length s.files + read_count lines
counted_on [] s new own b = ap (λ (x : Booted). length x.files) b.1 ∙ omega arith
counted_on (l ∷ lines) s new own (first, rest, mid, cut, mine, later) =
    omega (arith, counted_on lines mid new rest later, line_counted s mid l first mine, and_count (file_in l) (files_in lines))

pub counted : FilesAreCounted
counted means lines own booted b = counted_on lines (before_lines b.tables b.image means.secret means.entropy) booted b.rest b.others ∙ omega arith

-- ---- each was opened by what was heard

made_by : (heard : Exchanges) (g : NamedFile) (digest : Digest) (f : MeasuredFile) (bytes : List ℕ) → g.digest ≡ Some digest → IsIn (DescriptorOf g.number) (Bytes bytes) heard → Describes g.number digest bytes f
    → WasMade heard g f
made_by heard g digest f bytes is there d =
    let readable : IsReadable (file_of g.number digest d.descriptor) = record { few = d.size; blocks = refl } in
    let same : f.digest ≡ digest = ap (λ (x : MeasuredFile). x.digest) d.file_is in
    record {
      number = ap (λ (x : MeasuredFile). x.file) d.file_is;
      digest = is ∙ ap (λ (x : Digest). Some x) (sym same);
      opened = subst (λ (x : Digest). WasOpened g.number x heard f) (sym same) (record { bytes = bytes; was_heard = there; describes = d });
      readable = subst IsReadable (sym d.file_is) readable;
    }

made_left : (x y : Exchanges) (g : NamedFile) (f : MeasuredFile) → WasMade x g f → WasMade (x ++ y) g f
made_left x y g f m = record { number = m.number; digest = m.digest; opened = opened_left g.number f.digest x y f m.opened; readable = m.readable }

all_right : (x y : Exchanges) (files : List NamedFile) (made : List MeasuredFile) → AreMade y files made → AreMade (x ++ y) files made
all_right x y [] [] all = tt
all_right x y [] (o ∷ made) all = absurd all
all_right x y (g ∷ files) [] all = absurd all
all_right x y (g ∷ files) (o ∷ made) all =
    (record { number = all.0.number; digest = all.0.digest; opened = opened_right g.number o.digest x y o all.0.opened; readable = all.0.readable }, all_right x y files made all.1)

-- the files behind those that were open before
record Adds (heard : Exchanges) (s new : Booted) (files : List NamedFile) : Type 0 where
  pub made : List MeasuredFile
  pub are : new.files ≡ s.files ++ made
  pub each : AreMade heard files made

adds_same : (x y own : Exchanges) (s mid new : Booted) (files : List NamedFile) → own ≡ x ++ y → mid.files ≡ s.files → Adds y mid new files → Adds own s new files
adds_same x y own s mid new files cut same a = record {
  made = a.made;
  are = a.are ∙ ap (λ (fs : List MeasuredFile). fs ++ a.made) same;
  each = subst (λ (z : Exchanges). AreMade z files a.made) (sym cut) (all_right x y files a.made a.each);
}

adds_one : (x y own : Exchanges) (s mid new : Booted) (g : NamedFile) (f : MeasuredFile) (files : List NamedFile) → own ≡ x ++ y → mid.files ≡ s.files ++ f ∷ [] → WasMade x g f → Adds y mid new files
    → Adds own s new (g ∷ files)
adds_one x y own s mid new g f files cut more m a = record {
  made = f ∷ a.made;
  are = a.are ∙ ap (λ (fs : List MeasuredFile). fs ++ a.made) more ∙ append_assoc s.files (f ∷ []) a.made;
  each = subst (λ (z : Exchanges). AreMade z (g ∷ files) (f ∷ a.made)) (sym cut) (made_left x y g f m, all_right x y files a.made a.each);
}

adds : (lines : List PlanLine) (s new : Booted) (own : Exchanges) → Boots s lines own new → Adds own s new (read_only (files_in lines))
adds [] s new own b = record { made = []; are = ap (λ (x : Booted). x.files) b.1 ∙ sym (append-nil s.files); each = tt }
adds (line.Blob file m ∷ lines) s new own (first, rest, mid, cut, mine, later) = adds_same first rest own s mid new (read_only (files_in lines)) cut (ap (λ (x : Booted). x.files) mine.1) (adds lines mid new rest later)
adds (line.Apk disk apk idsig how ∷ lines) s new own (first, rest, mid, cut, mine, later) = adds_same first rest own s mid new (read_only (files_in lines)) cut (apk_files s mid disk apk idsig how first mine) (adds lines mid new rest later)
adds (line.File name file digest ∷ lines) s new own (first, rest, mid, cut, mine, later) =
    let g : NamedFile = record { name = name; number = file; digest = Some digest } in
    let here : IsIn (DescriptorOf file) (Bytes mine.bytes) first = rw mine.own_is (inl refl) in
    adds_one first rest own s mid new g mine.opened (read_only (files_in lines)) cut (ap (λ (x : Booted). x.files) mine.new_is) (made_by first g digest mine.opened mine.bytes refl here mine.describes) (adds lines mid new rest later)
adds (line.Instance disk part ∷ lines) s new own (first, rest, mid, cut, mine, later) = adds_same first rest own s mid new (read_only (files_in lines)) cut (ap (λ (x : Booted). x.files) mine.1) (adds lines mid new rest later)
adds (line.Write name file ∷ lines) s new own (first, rest, mid, cut, mine, later) = adds_same first rest own s mid new (read_only (files_in lines)) cut (ap (λ (x : Booted). x.files) mine.1) (adds lines mid new rest later)
adds (line.WriteDir name file ∷ lines) s new own (first, rest, mid, cut, mine, later) = adds_same first rest own s mid new (read_only (files_in lines)) cut (ap (λ (x : Booted). x.files) mine.1) (adds lines mid new rest later)

planned : (lines : List PlanLine) (own : Exchanges) (n : ℕ) (f : MeasuredFile) → IsFound own (read_only (files_in lines)) n f → IsPlannedFile lines own n f
planned lines own n f w = record {
  number_is = w.made.number ∙ w.number;
  digest = f.digest;
  planned = w.among ∙ w.made.digest;
  digest_is = refl;
  opened = subst (λ (k : ℕ). WasOpened k f.digest own f) w.number w.made.opened;
  readable = w.made.readable;
}

pub files_opened : FilesAreOpened
files_opened text plan entropy own booted p b n f is =
    let a = adds plan.lines (before_lines b.tables b.image plan.secret entropy) booted b.rest b.others in
    let later : AreMade b.rest (read_only (files_in plan.lines)) booted.files = subst (AreMade b.rest (read_only (files_in plan.lines))) (sym a.are) a.each in
    let made : AreMade own (read_only (files_in plan.lines)) booted.files =
    subst (λ (z : Exchanges). AreMade z (read_only (files_in plan.lines)) booted.files) (sym b.cut) (all_right b.first b.rest (read_only (files_in plan.lines)) booted.files later) in
    elim (found own [] (read_only (files_in plan.lines)) booted.files n f made (only_differ (files_in plan.lines) (plan_plantable text plan p).different) is) [
      | inl w ↦ planned plan.lines own n f w
      | inr none ↦ absurd cc
    ]

pub empty_at_boot : WritablesAreEmpty
empty_at_boot lines n f is = elim (all_empty [] (files_in lines) n f is) [
  | inl empty ↦ empty
  | inr none ↦ absurd cc
]
