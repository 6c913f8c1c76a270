-- What a plan in the grammar says of the files that it names: no two have one name or one number, each name is short, and there
-- are few.
use Rattle.std.proofs.Common.{if◌then◌else◌, ◌≡◌, ◌≤◌, ◌+◌, ℕ, Bool, true, false, List, [], ◌∷◌, ◌++◌, length, Option, Some, None, Ok, Err, refl, sym, ◌∙◌, subst, arith}
use Rattle.std.specs.Prelude.{nat_lt, not, codes, ◌||◌, ◌&&◌, ◌==◌}
use Rattle.std.specs.List.{AllByRecursion, list_any, list_all}
use Rattle.std.specs.Str.{bytes_eq}
use Rattle.std.proofs.lemmas.List.{length-append}
use Rattle.std.proofs.lemmas.Bool.Decides.{nat_tests}
use Rattle.mg_base.specs.declared.values.Digest.{Digest}
use Rattle.text_lines.specs.declared.kinds.PlanKind.{PlanKind}
use Rattle.text_lines.specs.Values.{is_name, is_name_byte}
use Rattle.text_lines.specs.Spelling.{collect}
use Rattle.guest_plan.specs.declared.plan.PlanLine.{PlanLine}
use Rattle.guest_plan.specs.declared.plan.PlanLine.TheVariants as line
use Rattle.guest_plan.specs.declared.plan.Item.{Item}
use Rattle.guest_plan.specs.declared.plan.Item.TheVariants.{Secret, InstanceSalt, Line}
use Rattle.guest_plan.specs.Plans.{Known, nothing, add, clash}
use Rattle.guest_plan.specs.Spelling.{IsPlan, IsServed}
use Rattle.guest_boot.specs.Booting.{AreServed}
use Rattle.guest_boot.proofs.Plans.{plan_served, chosen, bound}
use Rattle.guest_names.specs.Standing.{NamedFile, file_in, and_files, files_in}
use Rattle.guest_names.specs.Planted.{Differs, AreDifferent, AreShort, ArePlantable}

-- ---- lines of which no two clash

abbrev AreApart : List PlanLine → Type 0
AreApart [] = Unit {0}
AreApart (l ∷ lines) = AllByRecursion (λ m. clash m l ≡ false) lines × AreApart lines

either_off : (a b : Bool) → (a || b) ≡ false → (a ≡ false) × (b ≡ false)
either_off true b e = absurd cc
either_off false b e = (refl, e)

all_push : (P : PlanLine → Type 0) (lines : List PlanLine) (l : PlanLine) → AllByRecursion P lines → P l → AllByRecursion P (lines ++ l ∷ [])
all_push P [] l all one = (one, tt)
all_push P (x ∷ lines) l all one = (all.0, all_push P lines l all.1 one)

apart_push : (lines : List PlanLine) (l : PlanLine) → AreApart lines → list_any (clash l) lines ≡ false → AreApart (lines ++ l ∷ [])
apart_push [] l apart none = (tt, tt)
apart_push (x ∷ lines) l apart none =
    let off = either_off (clash l x) (list_any (clash l) lines) none in
    (all_push (λ m. clash m x ≡ false) lines l apart.0 off.0, apart_push lines l apart.1 off.1)

-- a choice that came to a value was no refusal
passed : {K : Type 0} (b : Bool) (fault : PlanKind) (x later : K) → (if b then Err fault else Ok x) ≡ Ok later → b ≡ false
passed true fault x later e = absurd cc
passed false fault x later e = refl

-- no two lines clash, and there are at most so many
record AreFew (lines : List PlanLine) (most : ℕ) : Type 0 where
  pub apart : AreApart lines
  pub few : length lines ≤ most

few_more : (lines : List PlanLine) (n : ℕ) → AreFew lines n → AreFew lines (n + 1)
few_more lines n f = record { apart = f.apart; few = omega (arith, f.few) }

few_push : (lines : List PlanLine) (l : PlanLine) (n : ℕ) → AreFew lines n → list_any (clash l) lines ≡ false → AreFew (lines ++ l ∷ []) (n + 1)
few_push lines l n f none = record { apart = apart_push lines l f.apart none; few = omega (arith, f.few, length-append lines (l ∷ [])) }

added : (k later : Known) (n most : ℕ) (item : Item) → AreFew k.lines most → add k n item ≡ Ok later → AreFew later.lines (most + 1)
unfolding add
added k later n most (Secret bytes) f e = subst (λ (z : Known). AreFew z.lines (most + 1)) (chosen _ _ _ _ e) (few_more k.lines most f)
added k later n most (InstanceSalt bytes) f e = subst (λ (z : Known). AreFew z.lines (most + 1)) (chosen _ _ _ _ e) (few_more k.lines most f)
added k later n most (Line l) f e = subst (λ (z : Known). AreFew z.lines (most + 1)) (chosen _ _ _ _ e) (few_push k.lines l most f (passed _ _ _ _ e))

collected : (n most : ℕ) (k later : Known) (items : List Item) → AreFew k.lines most → collect add n k items ≡ Ok later → AreFew later.lines (most + length items)
unfolding collect
collected n most k later [] f e =
    let same : k ≡ later = cc in
    let now : AreFew later.lines most = subst (λ (z : Known). AreFew z.lines most) same f in
    record { apart = now.apart; few = omega (arith, now.few) }
collected n most k later (item ∷ items) f e =
    let b = bound (add k n item) _ later e in
    let rest = collected (n + 1) (most + 1) b.0 later items (added k b.0 n most item f b.1) b.2 in
    record { apart = rest.apart; few = omega (arith, rest.few) }

plan_few : (text : List ℕ) (k : Known) → IsPlan text k → AreFew k.lines 4095
plan_few text k p =
    let all = collected 2 0 nothing k p.items.items (record { apart = tt; few = omega arith }) p.items.says in
    record { apart = all.apart; few = omega (arith, all.few, p.items.few) }

-- ---- the files that they name

differs : (f g : NamedFile) (a b c : Bool) → (a || b || c) ≡ false → a ≡ (g.number == f.number) → b ≡ bytes_eq g.name f.name → Differs f g
differs f g a b c off number name =
    let first = either_off (a || b) c off in
    let second = either_off a b first.0 in
    record { name = sym name ∙ second.1; number = sym number ∙ second.0 }

-- what a line that doesn't clash with this one names, differs from what this one names
abbrev DifferFrom : Option NamedFile → List NamedFile → Type 0
DifferFrom None files = Unit {0}
DifferFrom (Some f) files = AllByRecursion (Differs f) files

more_differ : (o p : Option NamedFile) (files : List NamedFile) → DifferFrom o files → ((f g : NamedFile) → o ≡ Some f → p ≡ Some g → Differs f g) → DifferFrom o (and_files p files)
more_differ None p files all one = tt
more_differ (Some f) None files all one = all
more_differ (Some f) (Some g) files all one = (one f g refl refl, all)

-- the name and the number that a line gives a file
abbrev named_file : List ℕ → ℕ → Option Digest → NamedFile
named_file name number digest = record { name = name; number = number; digest = digest }

names_differ : (name other : List ℕ) (file number : ℕ) (d e : Option Digest) (f g : NamedFile) → ((number == file) || bytes_eq other name || false) ≡ false → f ≡ named_file name file d → g ≡ named_file other number e → Differs f g
names_differ name other file number d e f g off one two = rw (one, two) (differs (named_file name file d) (named_file other number e) (number == file) (bytes_eq other name) false off refl refl)

two_differ : (l m : PlanLine) → clash m l ≡ false → (f g : NamedFile) → file_in l ≡ Some f → file_in m ≡ Some g → Differs f g
two_differ (line.File name file digest) (line.File other number root) off f g is are =
    let one : f ≡ named_file name file (Some digest) = cc in
    let two : g ≡ named_file other number (Some root) = cc in
    names_differ name other file number (Some digest) (Some root) f g off one two
two_differ (line.File name file digest) (line.Write other number) off f g is are =
    let one : f ≡ named_file name file (Some digest) = cc in
    let two : g ≡ named_file other number None = cc in
    names_differ name other file number (Some digest) None f g off one two
two_differ (line.File name file digest) (line.Instance disk part) off f g is are = absurd cc
two_differ (line.File name file digest) (line.Blob at measure) off f g is are = absurd cc
two_differ (line.File name file digest) (line.Apk disk apk idsig how) off f g is are = absurd cc
two_differ (line.File name file digest) (line.WriteDir other at) off f g is are = absurd cc
two_differ (line.Write name file) (line.File other number root) off f g is are =
    let one : f ≡ named_file name file None = cc in
    let two : g ≡ named_file other number (Some root) = cc in
    names_differ name other file number None (Some root) f g off one two
two_differ (line.Write name file) (line.Write other number) off f g is are =
    let one : f ≡ named_file name file None = cc in
    let two : g ≡ named_file other number None = cc in
    names_differ name other file number None None f g off one two
two_differ (line.Write name file) (line.Instance disk part) off f g is are = absurd cc
two_differ (line.Write name file) (line.Blob at measure) off f g is are = absurd cc
two_differ (line.Write name file) (line.Apk disk apk idsig how) off f g is are = absurd cc
two_differ (line.Write name file) (line.WriteDir other at) off f g is are = absurd cc
two_differ (line.Instance disk part) m off f g is are = absurd cc
two_differ (line.Blob at measure) m off f g is are = absurd cc
two_differ (line.Apk disk apk idsig how) m off f g is are = absurd cc
two_differ (line.WriteDir name at) m off f g is are = absurd cc

all_differ : (l : PlanLine) (lines : List PlanLine) → AllByRecursion (λ m. clash m l ≡ false) lines → DifferFrom (file_in l) (files_in lines)
all_differ l [] off = none (file_in l) where
  none : (o : Option NamedFile) → DifferFrom o []
  none None = tt
  none (Some f) = tt
all_differ l (m ∷ lines) off = more_differ (file_in l) (file_in m) (files_in lines) (all_differ l lines off.1) (two_differ l m off.0)

and_different : (o : Option NamedFile) (files : List NamedFile) → DifferFrom o files → AreDifferent files → AreDifferent (and_files o files)
and_different None files all rest = rest
and_different (Some f) files all rest = (all, rest)

different : (lines : List PlanLine) → AreApart lines → AreDifferent (files_in lines)
different [] apart = tt
different (l ∷ lines) apart = and_different (file_in l) (files_in lines) (all_differ l lines apart.0) (different lines apart.1)

fewer : (o : Option NamedFile) (files : List NamedFile) → length (and_files o files) ≤ length files + 1
fewer None files = omega arith
fewer (Some f) files = omega arith

few_files : (lines : List PlanLine) → length (files_in lines) ≤ length lines
few_files [] = omega arith
few_files (l ∷ lines) = omega (arith, few_files lines, fewer (file_in l) (files_in lines))

first_on : (a b : Bool) → (a && b) ≡ true → (a ≡ true) × (b ≡ true)
first_on true b e = (refl, e)
first_on false b e = absurd cc

short_name : (name : List ℕ) → is_name name ≡ true → length name ≤ 255
short_name name e =
    let without_dots = first_on _ (not (bytes_eq name (codes ".."))) e in
    let without_dot = first_on _ (not (bytes_eq name (codes "."))) without_dots.0 in
    let printed = first_on _ (list_all is_name_byte name) without_dot.0 in
    let sized = first_on (nat_lt 0 (length name)) (nat_lt (length name) 256) printed.0 in
    grind (arith, nat_tests, sized.1)

short_line : (l : PlanLine) (files : List NamedFile) → IsServed l → AreShort files → AreShort (and_files (file_in l) files)
short_line (line.File name file digest) files s rest = (short_name name s.0, rest)
short_line (line.Instance disk part) files s rest = rest
short_line (line.Blob at measure) files s rest = rest
short_line (line.Apk disk apk idsig how) files s rest = rest
short_line (line.Write name at) files s rest = (short_name name s.0, rest)
short_line (line.WriteDir name at) files s rest = rest

short : (lines : List PlanLine) → AreServed lines → AreShort (files_in lines)
short [] s = tt
short (l ∷ lines) s = short_line l (files_in lines) s.0 (short lines s.1)

-- what the lines of a plan name may be planted
pub plan_plantable : (text : List ℕ) (k : Known) → IsPlan text k → ArePlantable (files_in k.lines)
plan_plantable text k p =
    let f = plan_few text k p in
    record {
      different = different k.lines f.apart;
      short = short k.lines (plan_served text k p);
      few = omega (arith, f.few, few_files k.lines);
    }
