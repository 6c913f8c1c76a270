-- A boot of lines for which it only reads: it writes nothing, and each `apk` line is one that opens a device by its idsig alone.
use Rattle.std.proofs.Common.{◌≡◌, ℕ, zero, suc, ◌∙◌, List, [], ◌∷◌, ◌++◌, map, Option, Some, refl, ap, sym, subst, inl, inr}
use Rattle.std.specs.Prelude.{slice_get}
use Rattle.std.specs.List.{AllByRecursion}
use Rattle.host_traits.specs.declared.calls.Call.{Call}
use Rattle.host_traits.specs.Told.{Told, Exchanges, Made, heard_of}
use Rattle.host_traits.specs.Did.{Trace, Each, reads}
use Rattle.host_traits.proofs.Doing.{each_so}
use Rattle.instance_image.specs.Records.{Kept}
use Rattle.instance_image.specs.Sealings.{Sealing}
use Rattle.guest_plan.specs.declared.plan.How.{How}
use Rattle.guest_plan.specs.declared.plan.How.TheVariants as measures
use Rattle.guest_plan.specs.declared.plan.PlanLine.{PlanLine}
use Rattle.guest_plan.specs.declared.plan.PlanLine.TheVariants as line
use Rattle.guest_plan.specs.Plans.{Known}
use Rattle.guest_boot.specs.declared.faults.BootCause.{BootCause}
use Rattle.guest_boot.specs.Finding.{TableOn}
use Rattle.guest_boot.specs.Recording.{Writing, ReadsOrWrites}
use Rattle.guest_boot.specs.Booting.{OnlyReads, AllOnlyRead, Booted, Boots, LineBoots, ApkBoots, ApkBootsBy, FileBoots, InstanceLine, InstanceBoots, Means, BootsFrom, before_lines, with_item, device_on, instance_in, LineFails, ApkFails, ApkFailsBy, FileFails, BlobFails, IsForLines}
use Rattle.guest_boot.proofs.Plans.{stays}
use Rattle.guest_cli.specs.Booted.{Opened, Opens, BootsOver, sealings_of}

abbrev pub PlainLine : Booted → PlanLine → Exchanges → Booted → Type 0
PlainLine s (line.Instance disk part) own new = (own ≡ []) × (new ≡ s)
PlainLine s (line.Blob file m) own new = (own ≡ []) × (new ≡ with_item s (device_on file m))
PlainLine s (line.Apk disk apk idsig how) own new = ApkBoots s disk apk idsig how own new
PlainLine s (line.File name file digest) own new = FileBoots s file digest own new
PlainLine s (line.Write name file) own new = ⊥
PlainLine s (line.WriteDir name file) own new = (own ≡ []) × (new ≡ s)

abbrev pub PlainBoots : Booted → List PlanLine → Exchanges → Booted → Type 0
PlainBoots s [] own new = (own ≡ []) × (new ≡ s)
PlainBoots s (l ∷ lines) own new = (first : Exchanges) × (rest : Exchanges) × (mid : Booted) × (own ≡ first ++ rest) × PlainLine s l first mid × PlainBoots mid lines rest new

pub record PlainFrom (instance : Option InstanceLine) (means : Means) (lines : List PlanLine) (own : Exchanges) (new : Booted) : Type 0 where
  pub first : Exchanges
  pub rest : Exchanges
  pub cut : own ≡ first ++ rest
  pub tables : List TableOn
  pub image : Option Kept
  pub before : InstanceBoots instance means.salt first tables image
  pub others : PlainBoots (before_lines tables image means.secret means.entropy) lines rest new

abbrev pub PlainPlan : Means → List PlanLine → Exchanges → Booted → Type 0
PlainPlan means lines own new = PlainFrom (instance_in lines) means lines own new

abbrev pub PlainFails : PlanLine → Booted → BootCause → Trace → Type 0
PlainFails (line.Instance disk part) s why t = ⊥
PlainFails (line.Blob file m) s why t = (t.failed ≡ 0) × BlobFails why
PlainFails (line.Apk disk apk idsig how) s why t = ApkFails s disk apk idsig how why t
PlainFails (line.File name file digest) s why t = FileFails file digest why t
PlainFails (line.Write name file) s why t = ⊥
PlainFails (line.WriteDir name file) s why t = ⊥

apk_plain : (s new : Booted) (disk : ℕ) (apk idsig : List ℕ) (how : How) (own : Exchanges) → OnlyReads (line.Apk disk apk idsig how) → ApkBootsBy s disk apk idsig how own new → ApkBoots s disk apk idsig how own new
apk_plain s new disk apk idsig (measures.Fixed m) own none b = b
apk_plain s new disk apk idsig measures.First own none b = b
apk_plain s new disk apk idsig (measures.Kept uuid) own none b = absurd none

line_plain : (s new : Booted) (l : PlanLine) (own : Exchanges) → OnlyReads l → LineBoots s l own new → PlainLine s l own new
line_plain s new (line.Instance disk part) own none b = b
line_plain s new (line.Blob file m) own none b = b
line_plain s new (line.Apk disk apk idsig how) own none b = apk_plain s new disk apk idsig how own none b
line_plain s new (line.File name file digest) own none b = b
line_plain s new (line.Write name file) own none b = absurd none
line_plain s new (line.WriteDir name file) own none b = b

boots_plain : (lines : List PlanLine) (s new : Booted) (own : Exchanges) → AllOnlyRead lines → Boots s lines own new → PlainBoots s lines own new
boots_plain [] s new own none b = b
boots_plain (l ∷ lines) s new own none b = (b.0, b.1, b.2, b.3, line_plain s b.2 l b.0 none.0 b.4, boots_plain lines b.2 new b.1 none.1 b.5)

pub from_plain : (i : Option InstanceLine) (means : Means) (lines : List PlanLine) (own : Exchanges) (new : Booted) → AllOnlyRead lines → BootsFrom i means lines own new → PlainFrom i means lines own new
from_plain i means lines own new none b = record {
  first = b.first;
  rest = b.rest;
  cut = b.cut;
  tables = b.tables;
  image = b.image;
  before = b.before;
  others = boots_plain lines _ new b.rest none b.others;
}

apk_fails_plain : (s : Booted) (disk : ℕ) (apk idsig : List ℕ) (how : How) (why : BootCause) (w : List Writing) (t : Trace) → OnlyReads (line.Apk disk apk idsig how) → ApkFailsBy s disk apk idsig how why w t → ApkFails s disk apk idsig how why t
apk_fails_plain s disk apk idsig (measures.Fixed m) why w t none f = f.1
apk_fails_plain s disk apk idsig measures.First why w t none f = f.1
apk_fails_plain s disk apk idsig (measures.Kept uuid) why w t none f = absurd none

pub fails_plain : (s : Booted) (l : PlanLine) (why : BootCause) (w : List Writing) (t : Trace) → OnlyReads l → LineFails s l why w t → PlainFails l s why t
fails_plain s (line.Instance disk part) why w t none f = f
fails_plain s (line.Blob file m) why w t none f = (f.1, f.2)
fails_plain s (line.Apk disk apk idsig how) why w t none f = apk_fails_plain s disk apk idsig how why w t none f
fails_plain s (line.File name file digest) why w t none f = f.1
fails_plain s (line.Write name file) why w t none f = absurd none
fails_plain s (line.WriteDir name file) why w t none f = f

-- some of them, and one of them
pub unrecorded_before : (before : List PlanLine) (l : PlanLine) (after : List PlanLine) → AllOnlyRead (before ++ l ∷ after) → AllOnlyRead before
unrecorded_before [] l after none = tt
unrecorded_before (k ∷ before) l after none = (none.0, unrecorded_before before l after none.1)

pub reads_at : (lines : List PlanLine) (k : ℕ) (l : PlanLine) → AllOnlyRead lines → slice_get lines k ≡ Some l → OnlyReads l
reads_at [] k l only at = absurd cc
reads_at (x ∷ lines) zero l only at = let same : x ≡ l = cc in subst OnlyReads same only.0
reads_at (x ∷ lines) (suc k) l only at = reads_at lines k l only.1 at

pub unrecorded_at : (before : List PlanLine) (l : PlanLine) (after : List PlanLine) → AllOnlyRead (before ++ l ∷ after) → OnlyReads l
unrecorded_at [] l after none = none.0
unrecorded_at (k ∷ before) l after none = unrecorded_at before l after none.1

-- ---- nothing is written

only_reads : (F : Call → Type 0) (own : List Made) → Each (ReadsOrWrites F []) own → Each (reads F) own
only_reads F own each = each_so (ReadsOrWrites F []) (reads F) own one each where
  one : (call : Call) (given : List ℕ) → ReadsOrWrites F [] call given → reads F call given
  one call given (inl r) = r
  one call given (inr w) = absurd w

pub none_written : (plan : Known) (entropy : List ℕ) (own : Exchanges) (o : Opened) → AllOnlyRead plan.lines → Opens plan entropy own o → o.writings ≡ []
none_written plan entropy own o none opens = (stays _ plan.lines opens.boots.rest _ none opens.boots.others).writings

pub none_sealed : (plan : Known) (entropy : List ℕ) (own : Exchanges) (o : Opened) → AllOnlyRead plan.lines → Opens plan entropy own o → sealings_of o ≡ []
none_sealed plan entropy own o none opens = ap (λ (w : List Writing). map (λ (x : Writing). x.sealing) w) (none_written plan entropy own o none opens)

pub reads_only : (lines : List PlanLine) (w : List Writing) (own : List Made) → w ≡ [] → Each (ReadsOrWrites (IsForLines lines) w) own → Each (reads (IsForLines lines)) own
reads_only lines w own e each = only_reads (IsForLines lines) own (subst (λ (z : List Writing). Each (ReadsOrWrites (IsForLines lines) z) own) e each)
