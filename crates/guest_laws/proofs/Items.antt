-- A device that is held, of a line in the grammar, is an item.
use Rattle.std.proofs.Common.{◌≡◌, ℕ, zero, suc, ◌*◌, ◌/◌, ◌≤◌, ◌∙◌, Bool, true, false, cond, ltb, ltb-false, not, List, [], ◌∷◌, filter, length, take, drop, Some, Result, Ok, Err, refl, ap, sym, subst, arith}
use Rattle.std.specs.Prelude.{slice_get}
use Rattle.std.specs.Str.{bytes_eq}
use Rattle.std.proofs.lemmas.List.{length-take, length-drop}
use Rattle.mg_base.specs.declared.values.Span.{Span}
use Rattle.host_traits.specs.Held.{Held}
use Rattle.sha_tree.specs.declared.measure.Measure.{Measure}
use Rattle.sha_tree.specs.Measured.{IsMeasured}
use Rattle.verity_path.specs.Calls.{Suits}
use Rattle.verity_path.specs.declared.device.Device.{Device}
use Rattle.verity_path.specs.declared.walk.Layout.{Layout}
use Rattle.idsig_v4.specs.declared.head.Head.{Head}
use Rattle.apk_verity.specs.declared.ApkFault.{ApkFault}
use Rattle.apk_verity.specs.declared.ApkFault.TheVariants.{TooFewBlocks, TooManyBlocks, SaltMismatch, RootMismatch, SpanShort}
use Rattle.apk_verity.specs.Opening.{first_measure, measure_of}
use Rattle.guest_plan.specs.declared.plan.How.{How}
use Rattle.guest_plan.specs.declared.plan.How.TheVariants.{Fixed, First, Kept}
use Rattle.guest_plan.specs.declared.plan.PlanLine.{PlanLine}
use Rattle.guest_plan.specs.Spelling.{IsMeasuredBy, IsServed}
use Rattle.guest_boot.specs.Booting.{AreServed, measure_in}
use Rattle.guest_rules.specs.Machine.{IsItem}
use Rattle.guest_laws.specs.Fitting.{makes_item, item_line}
use Rattle.guest_laws.proofs.Fits.{IsHeldAt}
use Rattle.guest_laws.proofs.Lines.{same_line}

-- ---- the line is in the grammar

picked : (b : Bool) (l : PlanLine) (ls : List PlanLine) (k : ℕ) (x : PlanLine) → IsServed l → ((j : ℕ) → slice_get ls j ≡ Some x → IsServed x) → slice_get (cond b (l ∷ ls) ls) k ≡ Some x → IsServed x
picked true l ls zero x one rest e = subst IsServed (same_line l x e) one
picked true l ls (suc k) x one rest e = rest k e
picked false l ls k x one rest e = rest k e

pub served_line : (lines : List PlanLine) (k : ℕ) (x : PlanLine) → AreServed lines → item_line lines k ≡ Some x → IsServed x
served_line [] k x all e = absurd cc
served_line (l ∷ lines) k x all e = picked (makes_item l) l (filter makes_item lines) k x all.0 (λ j f. served_line lines j x all.1 f) e

-- ---- its measure has from 2 to 1,048,576 blocks

abbrev pub HasBlocks : Measure → Type 0
HasBlocks m = (2 ≤ m.blocks) × (m.blocks ≤ 1048576)

first_ok : (few many : Bool) (a b : ℕ) (x m : Measure) → cond {A = Result Measure ApkFault} few (Err (TooFewBlocks a)) (cond many (Err (TooManyBlocks b)) (Ok x)) ≡ Ok m → (few ≡ false) × (many ≡ false) × (x ≡ m)
first_ok true many a b x m e = absurd cc
first_ok false true a b x m e = absurd cc
first_ok false false a b x m e = (refl, refl, cc)

kept_ok : (salt root short : Bool) (f g s : ApkFault) (x m : Measure) → cond {A = Result Measure ApkFault} salt (Err f) (cond root (Err g) (cond short (Err s) (Ok x))) ≡ Ok m → x ≡ m
kept_ok true root short f g s x m e = absurd cc
kept_ok false true short f g s x m e = absurd cc
kept_ok false false true f g s x m e = absurd cc
kept_ok false false false f g s x m e = cc

first_in : (apk : Span) (h : Head) (m : Measure) → first_measure apk h ≡ Ok m → HasBlocks m
first_in apk h m e =
    let r = first_ok (ltb (apk.sectors / 8) 2) (ltb 1048576 (apk.sectors / 8)) (apk.sectors / 8) (apk.sectors / 8) (record { blocks = apk.sectors / 8; salt = h.salt; root = h.root }) m e in
    subst HasBlocks r.2 (ltb-false (apk.sectors / 8) 2 r.0, ltb-false 1048576 (apk.sectors / 8) r.1)

pub blocks_in : (apk : Span) (how : How) (h : Head) (m : Measure) → IsMeasuredBy how → measure_of apk (measure_in how) h ≡ Ok m → HasBlocks m
blocks_in apk (Fixed k) h m fits e =
    let same = kept_ok (not (bytes_eq k.salt h.salt)) (not (bytes_eq k.root.0 h.root.0)) (ltb apk.sectors (8 * k.blocks)) SaltMismatch (RootMismatch k.root h.root) (SpanShort k.blocks apk.sectors) k m e in
    let high = fits.high in
    subst HasBlocks same (fits.low, omega (arith, high))
blocks_in apk First h m fits e = first_in apk h m e
blocks_in apk (Kept g) h m fits e = first_in apk h m e

-- ---- and its places lie on the disk

pub item_is : (h : Held) (disk : ℕ) (it : Device) (m : Measure) (content : List ℕ) → IsHeldAt h disk it m content → HasBlocks m → IsMeasured it.measure content → IsItem it
item_is h disk it m content held has measured =
    let blocks = subst HasBlocks (sym held.measure) has in
    let least = blocks.0 in
    let few = held.few in
    let inside = held.inside in
    let bytes : List ℕ = held.holds.disk.bytes in
    let whole : length (take (4096 * it.measure.blocks) (drop (512 * held.first) bytes)) ≡ 4096 * it.measure.blocks = ap length held.holds.blocks ∙ measured.size in
    record {
      least = blocks.0;
      most = blocks.1;
      suits = subst (λ (l : Layout). Suits l it.measure.blocks) (sym held.layout) (
        omega (arith, whole, least, few, length-take (4096 * it.measure.blocks) (drop (512 * held.first) bytes), length-drop (512 * held.first) bytes),
        omega (arith, inside, few),
      );
    }
