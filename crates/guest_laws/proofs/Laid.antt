-- The partitions of an image that opened stand one behind another, and do so after each request.
use Rattle.std.proofs.Common.{◌≡◌, ◌+◌, ◌*◌, ◌^◌, ◌≤◌, ◌∙◌, ℕ, List, [], ◌∷◌, length, take, drop, Option, Some, None, Ok, Err, ap, sym, subst, inl, inr, arith}
use Rattle.std.specs.Prelude.{◌-◌}
use Rattle.std.proofs.lemmas.List.{length-append}
use Rattle.mg_base.specs.declared.values.Span.{Span}
use Rattle.host_traits.specs.Held.{Held}
use Rattle.host_traits.specs.Told.{Exchanges}
use Rattle.host_traits.specs.Did.{Trace}
use Rattle.session_frames.specs.Replies.{Sent}
use Rattle.verity_path.specs.declared.device.Cause.{Cause}
use Rattle.gpt.specs.Names.{part}
use Rattle.instance_image.specs.declared.faults.PutFault.{PutFault}
use Rattle.instance_image.specs.declared.faults.PutFault.TheVariants as puts
use Rattle.instance_image.specs.declared.values.Part.{Part}
use Rattle.instance_image.specs.Records.{Kept, IsLaid}
use Rattle.instance_image.specs.Opening.{Opening, Reading, start, with_part, HeardHeaders, HeardSoFar, IsClosed, IsOpened, kept_of}
use Rattle.instance_image.specs.Access.{PutOutcome, payload_size}
use Rattle.instance_image.specs.Sealings.{Sealing}
use Rattle.instance_image.proofs.Accesses.{fits_found, put_lies}
use Rattle.instance_image.proofs.Openings.{steps}
use Rattle.instance_image.proofs.Laying.{end_of, end_more, laid_none, laid_on, sized_laid, found_lies}
use Rattle.guest_boot.specs.Finding.{part_of}
use Rattle.guest_rules.specs.Machine.{Instance, Setting, State, World, Request, message_of, read_of, get_of, put_of, image_with}
use Rattle.guest_rules.specs.RecordRow.{PutRow, no_image, refused, no_entropy, put}
use Rattle.guest_rules.specs.MessageRow.{Heard}
use Rattle.guest_rules.specs.Step.{Row}
use Rattle.guest_laws.specs.Fitting.{HoldsInstance}
use Rattle.guest_laws.proofs.Inside.{part_inside}

-- ---- an image that opened

module _ (o : Opening) (end : o.span.first + o.span.sectors ≤ 2 ^ 40) where
  record IsReadLaid (r : Reading) : Type 0 where
    laid : IsLaid (kept_of o r)
    next : r.next ≡ end_of 1 r.parts
    some : 1 ≤ r.next
    few : length r.parts ≤ 256

  heard_laid : (own : Exchanges) (r new : Reading) → HeardHeaders o r own new → IsReadLaid r → IsReadLaid new
  heard_laid [] r new heard at = subst IsReadLaid (sym heard) at
  heard_laid (x ∷ own) r new heard at =
      let p : Part = heard.1 in
      let step = steps o.span.first o.span.sectors r heard.0 p end at.some at.few heard.4 in
      let few = step.few in
      heard_laid own (with_part r p) new heard.5 (record {
        laid = laid_on (kept_of o r) p at.laid step.lies (step.sector_is ∙ at.next);
        next = ap (λ (n : ℕ). n + (1 + p.reserved)) at.next ∙ sym (end_more 1 r.parts p);
        some = omega (arith, at.some);
        few = omega (arith, few, length-append r.parts (p ∷ []));
      })

  so_far_laid : (own : Exchanges) (r : Reading) → HeardSoFar o own r → IsReadLaid r
  so_far_laid own r s = heard_laid s.headers start r s.each (record { laid = record { kept = tt; laid = tt }; next = laid_none; some = omega arith; few = omega arith })

  closed_laid : (own : Exchanges) (r : Reading) → IsClosed o own r → IsReadLaid r
  closed_laid own r (inl e) = so_far_laid own r e.0
  closed_laid own r (inr n) = so_far_laid n.before r n.so_far

  pub opened_laid : (own : Exchanges) (k : Kept) → IsOpened o own k → IsLaid k
  opened_laid own k i = subst IsLaid (sym i.is) (closed_laid own i.reading i.closed).laid

-- the part of an instance line ends by sector 2 ^ 40
some_part : (name : List ℕ) (found : Option Span) (s : Span) → part_of name found ≡ Ok s → found ≡ Some s
some_part name None s e = absurd cc
some_part name (Some x) s e = cc

pub span_ends : (h : Held) (disk : ℕ) (name salt : List ℕ) (holds : HoldsInstance h disk name salt) → holds.span.first + holds.span.sectors ≤ 2 ^ 40
span_ends h disk name salt holds =
    let on = holds.on in
    let end = part_inside (take 20480 on.on.bytes) (drop (512 * (on.sectors - 40)) on.on.bytes) on.sectors on.table name holds.span on.is_table (some_part name (part name on.table.entries) holds.span holds.part) in
    let most = on.is_table.most in
    omega (arith, end, most)

-- ---- and after each request

abbrev pub IsImageLaid : Option Instance → List Part → Type 0
IsImageLaid None parts = Unit {0}
IsImageLaid (Some i) parts = IsLaid (image_with i parts)

same_parts : (image : Option Instance) (a b : List Part) → b ≡ a → IsImageLaid image a → IsImageLaid image b
same_parts image a b e l = subst (IsImageLaid image) (sym e) l

pub fault_keeps : (k now : Kept) (uuid text : List ℕ) (why : PutFault) (t : Trace) → PutOutcome k uuid text now (Err why) t → now ≡ k
fault_keeps k now uuid text (puts.Failed faults) t o = o.0
fault_keeps k now uuid text puts.Memory t o = o.0
fault_keeps k now uuid text puts.NoRecord t o = o.0
fault_keeps k now uuid text (puts.TooLarge n room) t o = o.0

put_made : (i : Instance) (uuid text : List ℕ) (parts new : List Part) (t : Trace) → PutOutcome (image_with i parts) uuid text (image_with i new) (Ok tt) t → IsLaid (image_with i parts) → IsLaid (image_with i new)
put_made i uuid text parts new t o laid =
    let p : Part = o.1.part in
    let fits = fits_found parts uuid (length text) p o.1.fits in
    let lies = put_lies i.first (length text) p fits.1 (found_lies (image_with i parts) uuid p laid fits.0) in
    subst IsLaid (sym o.1.now_is) (sized_laid (image_with i parts) uuid (payload_size text) p laid fits.0 lies)

put_laid : (image : Option Instance) (t : Trace) (uuid text : List ℕ) (old new : State) (sent : Sent) (cause : Option Cause) → PutRow image t uuid text old new sent cause
    → IsImageLaid image old.parts → IsImageLaid image new.parts
put_laid image t uuid text old new sent cause (no_image none quiet same) l = same_parts image old.parts new.parts (ap (λ (s : State). s.parts) same) l
put_laid image t uuid text old new sent cause (refused i why there fits quiet same) l = same_parts image old.parts new.parts (ap (λ (s : State). s.parts) same) l
put_laid image t uuid text old new sent cause (no_entropy i part there fits few quiet same) l = same_parts image old.parts new.parts (ap (λ (s : State). s.parts) same) l
put_laid image t uuid text old new sent cause (put i part (Err why) there fits some outcome is) l =
    same_parts image old.parts new.parts (ap (λ (k : Kept). k.parts) (fault_keeps (image_with i old.parts) (image_with i new.parts) uuid text why t outcome)) l
put_laid image t uuid text old new sent cause (put i part (Ok u) there fits some outcome is) l =
    subst (λ (o : Option Instance). IsImageLaid o new.parts) (sym there) (put_made i uuid text old.parts new.parts t outcome (subst (λ (o : Option Instance). IsImageLaid o old.parts) there l))

pub row_laid : (g : Setting) (world : World) (run : List Sealing) (h : Heard) (request : Request) (old new : State) (sent : Sent) (cause : Option Cause) → Row g world run h request old new sent cause
    → IsImageLaid g.image old.parts → IsImageLaid g.image new.parts
row_laid g world run h (message_of m) old new sent cause row l = same_parts g.image old.parts new.parts row.1 l
row_laid g world run h (read_of r) old new sent cause row l = same_parts g.image old.parts new.parts (ap (λ (s : State). s.parts) row.0) l
row_laid g world run h (get_of uuid) old new sent cause row l = same_parts g.image old.parts new.parts (ap (λ (s : State). s.parts) row.0) l
row_laid g world run h (put_of uuid text) old new sent cause row l = put_laid g.image h.trace uuid text old new sent cause row l
