-- From a plan in the grammar to its lines.
use Rattle.std.proofs.Common.{if◌then◌else◌, ◌≡◌, ℕ, zero, suc, ◌+◌, ◌<◌, ◌∙◌, get_or, List, [], ◌∷◌, ◌++◌, length, refl, ap, sym, subst, inl, inr, arith, Bool, true, false, ◌||◌, Option, Some, None, is_some, Ok, Err, Result}
use Rattle.std.specs.Prelude.{slice_get, not, ◌&&◌, IsSome}
use Rattle.std.specs.List.{AllByRecursion, list_any}
use Rattle.std.proofs.lemmas.List.{length-append}
use Rattle.host_traits.specs.declared.calls.Call.{Call}
use Rattle.host_traits.specs.Told.{Exchanges, Kind, kind_bytes, kind_number, kind_done, kind_of}
use Rattle.text_lines.specs.declared.kinds.PlanKind.{PlanKind}
use Rattle.text_lines.specs.Fields.{◌>>=◌}
use Rattle.text_lines.specs.Spelling.{collect}
use Rattle.guest_plan.specs.declared.plan.PlanLine.{PlanLine}
use Rattle.guest_plan.specs.declared.plan.PlanLine.TheVariants as line
use Rattle.guest_plan.specs.declared.plan.How.TheVariants as measures
use Rattle.guest_plan.specs.declared.plan.Item.{Item}
use Rattle.guest_plan.specs.declared.plan.Item.TheVariants.{Secret, InstanceSalt, Line}
use Rattle.guest_plan.specs.Plans.{Known, nothing, add, clash, is_instance, first_lacking, has_keys, has_instance, is_kept, lacks}
use Rattle.guest_plan.specs.Spelling.{IsPlan, IsServed, IsItem as IsSaid}
use Rattle.guest_boot.specs.Finding.{IsTableCall}
use Rattle.guest_boot.specs.Booting.{is_recorded, AreServed, PlansAreNumbered, InstanceLine, instance_from, instance_in, instance_disk, IsSalted, PlansAreSalted, InstanceIsAlone, Booted, LineBoots, OnlyReads, RecordsStay, ReadersWriteNothing, IsForApk, IsForImage, IsForLine, IsRead, ReadersOnlyRead}

served_push : (lines : List PlanLine) (l : PlanLine) → AreServed lines → IsServed l → AreServed (lines ++ l ∷ [])
served_push [] l s one = (one, tt)
served_push (x ∷ lines) l s one = (s.0, served_push lines l s.1 one)

-- a choice that came to a value
pub chosen : {K : Type 0} (b : Bool) (fault : PlanKind) (x later : K) → (if b then Err fault else Ok x) ≡ Ok later → x ≡ later
chosen true fault x later e = absurd cc
chosen false fault x later e = cc

-- one item more
added : (k later : Known) (n : ℕ) (item : Item) → AreServed k.lines → IsSaid item → add k n item ≡ Ok later → AreServed later.lines
unfolding add
added k later n (Secret bytes) s one e = subst (λ (z : Known). AreServed z.lines) (chosen _ _ _ _ e) s
added k later n (InstanceSalt bytes) s one e = subst (λ (z : Known). AreServed z.lines) (chosen _ _ _ _ e) s
added k later n (Line l) s one e = subst (λ (z : Known). AreServed z.lines) (chosen _ _ _ _ e) (served_push k.lines l s one)

-- a value that was made of another
pub bound : {K : Type 0} (r : Result K PlanKind) (f : K → Result K PlanKind) (later : K) → (r >>= f) ≡ Ok later → (mid : K) × (r ≡ Ok mid) × (f mid ≡ Ok later)
bound (Ok mid) f later e = (mid, refl, e)
bound (Err fault) f later e = absurd cc

collected : (n : ℕ) (k later : Known) (items : List Item) → AreServed k.lines → AllByRecursion IsSaid items → collect add n k items ≡ Ok later → AreServed later.lines
unfolding collect
collected n k later [] s each e = let same : k ≡ later = cc in subst (λ (z : Known). AreServed z.lines) same s
collected n k later (item ∷ items) s each e =
    let b = bound (add k n item) _ later e in
    collected (n + 1) b.0 later items (added k b.0 n item s each.0 b.1) each.1 b.2

pub plan_served : (text : List ℕ) (k : Known) → IsPlan text k → AreServed k.lines
plan_served text k p = collected 2 nothing k p.items.items tt p.items.each p.items.says

-- the line at a place is in the grammar
pub served_at : (lines : List PlanLine) (i : ℕ) (l : PlanLine) → AreServed lines → i < length lines → l ≡ get_or lines i l → IsServed l
served_at [] i l s lt is = absurd (omega (arith, lt))
served_at (x ∷ lines) zero l s lt is = subst IsServed (sym is) s.0
served_at (x ∷ lines) (suc i) l s lt is = served_at lines i l s.1 (omega (arith, lt)) is

-- ---- a number for each line

lengths_more : (a b : ℕ) → a ≡ b → a + 1 ≡ b + 1
lengths_more a b e = omega (arith, e)

numbered_by : (k later : Known) (n : ℕ) (item : Item) → length k.numbers ≡ length k.lines → add k n item ≡ Ok later → length later.numbers ≡ length later.lines
unfolding add
numbered_by k later n (Secret bytes) s e = subst (λ (z : Known). length z.numbers ≡ length z.lines) (chosen _ _ _ _ e) s
numbered_by k later n (InstanceSalt bytes) s e = subst (λ (z : Known). length z.numbers ≡ length z.lines) (chosen _ _ _ _ e) s
numbered_by k later n (Line l) s e =
    subst (λ (z : Known). length z.numbers ≡ length z.lines) (chosen _ _ _ _ e) (length-append k.numbers (n ∷ []) ∙ (lengths_more _ _ s ∙ sym (length-append k.lines (l ∷ []))))

numbered : (n : ℕ) (k later : Known) (items : List Item) → length k.numbers ≡ length k.lines → collect add n k items ≡ Ok later → length later.numbers ≡ length later.lines
unfolding collect
numbered n k later [] s e = let same : k ≡ later = cc in subst (λ (z : Known). length z.numbers ≡ length z.lines) same s
numbered n k later (item ∷ items) s e =
    let b = bound (add k n item) _ later e in
    numbered (n + 1) b.0 later items (numbered_by k b.0 n item s b.1) b.2

pub plan_numbered : PlansAreNumbered
plan_numbered text k p = numbered 2 nothing k p.items.items refl p.items.says

-- ---- the instance line has a salt

rest_none : (b : Bool) (n : ℕ) (r : Option ℕ) → (if b then Some n else r) ≡ None → (b ≡ false) × (r ≡ None)
rest_none true n r e = absurd cc
rest_none false n r e = (refl, e)

not_false : (b : Bool) → not b ≡ false → b ≡ true
not_false true e = refl
not_false false e = absurd cc

second_true : (a b : Bool) → (a && b) ≡ true → b ≡ true
second_true true b e = e
second_true false b e = absurd cc

-- a salt has 64 bytes
abbrev IsLong : Option (List ℕ) → Type 0
IsLong None = Unit {0}
IsLong (Some bytes) = length bytes ≡ 64

long_added : (k later : Known) (n : ℕ) (item : Item) → IsLong k.salt → IsSaid item → add k n item ≡ Ok later → IsLong later.salt
unfolding add
long_added k later n (Secret bytes) s one e = subst (λ (z : Known). IsLong z.salt) (chosen _ _ _ _ e) s
long_added k later n (InstanceSalt bytes) s one e = subst (λ (z : Known). IsLong z.salt) (chosen _ _ _ _ e) one.0
long_added k later n (Line l) s one e = subst (λ (z : Known). IsLong z.salt) (chosen _ _ _ _ e) s

long : (n : ℕ) (k later : Known) (items : List Item) → IsLong k.salt → AllByRecursion IsSaid items → collect add n k items ≡ Ok later → IsLong later.salt
unfolding collect
long n k later [] s each e = let same : k ≡ later = cc in subst (λ (z : Known). IsLong z.salt) same s
long n k later (item ∷ items) s each e =
    let b = bound (add k n item) _ later e in
    long (n + 1) b.0 later items (long_added k b.0 n item s each.0 b.1) each.1 b.2

salt_there : (i : InstanceLine) (salt : Option (List ℕ)) → IsLong salt → is_some salt ≡ true → IsSalted (Some i) salt
salt_there i None s e = absurd cc
salt_there i (Some bytes) s e = s

salted_from : (n : ℕ) (salt : Option (List ℕ)) (keyed there : Bool) (lines : List PlanLine) (numbers : List ℕ) → IsLong salt → length numbers ≡ length lines → first_lacking keyed there lines numbers ≡ None
    → (keyed ≡ true → is_some salt ≡ true) → IsSalted (instance_from n lines) salt
unfolding instance_from
salted_from n salt keyed there [] numbers s even e f = tt
salted_from n salt keyed there (l ∷ lines) [] s even e f = absurd (omega (arith, even))
salted_from n salt keyed there (line.Instance disk part ∷ lines) (m ∷ numbers) s even e f = salt_there (record { at = n; disk = disk; part = part }) salt s (f (not_false keyed (rest_none (not keyed) m (first_lacking keyed there lines numbers) e).0))
salted_from n salt keyed there (line.Blob file measure ∷ lines) (m ∷ numbers) s even e f = salted_from (n + 1) salt keyed there lines numbers s (omega (arith, even)) e f
salted_from n salt keyed there (line.Apk disk apk idsig how ∷ lines) (m ∷ numbers) s even e f = salted_from (n + 1) salt keyed there lines numbers s (omega (arith, even)) (rest_none (is_kept how && not there) m (first_lacking keyed there lines numbers) e).1 f
salted_from n salt keyed there (line.File name file digest ∷ lines) (m ∷ numbers) s even e f = salted_from (n + 1) salt keyed there lines numbers s (omega (arith, even)) e f
salted_from n salt keyed there (line.Write name file ∷ lines) (m ∷ numbers) s even e f = salted_from (n + 1) salt keyed there lines numbers s (omega (arith, even)) e f
salted_from n salt keyed there (line.WriteDir name file ∷ lines) (m ∷ numbers) s even e f = salted_from (n + 1) salt keyed there lines numbers s (omega (arith, even)) e f

pub plan_salted : PlansAreSalted
plan_salted text k p = salted_from 0 k.salt (has_keys k) (has_instance k) k.lines k.numbers (long 2 nothing k p.items.items tt p.items.each p.items.says) (plan_numbered text k p) p.complete (second_true (is_some k.secret) (is_some k.salt))

-- ---- where a line's measure is in a record, there are an instance line and a secret

both_true : (a b : Bool) → (a && b) ≡ true → (a ≡ true) × (b ≡ true)
both_true true b e = (refl, e)
both_true false b e = absurd cc

kept_there : (a b : Bool) → (a && not b) ≡ false → a ≡ true → b ≡ true
kept_there true true e f = refl
kept_there true false e f = absurd cc
kept_there false b e f = absurd cc

lacks_not : (keyed there : Bool) (lines : List PlanLine) (numbers : List ℕ) (i : ℕ) (l : PlanLine) → length numbers ≡ length lines → first_lacking keyed there lines numbers ≡ None → i < length lines
    → l ≡ get_or lines i l → lacks keyed there l ≡ false
lacks_not keyed there [] numbers i l even e lt is = absurd (omega (arith, lt))
lacks_not keyed there (x ∷ lines) [] i l even e lt is = absurd (omega (arith, even))
lacks_not keyed there (x ∷ lines) (n ∷ numbers) zero l even e lt is = ap (lacks keyed there) is ∙ (rest_none (lacks keyed there x) n (first_lacking keyed there lines numbers) e).0
lacks_not keyed there (x ∷ lines) (n ∷ numbers) (suc i) l even e lt is =
    lacks_not keyed there lines numbers i l (omega (arith, even)) (rest_none (lacks keyed there x) n (first_lacking keyed there lines numbers) e).1 (omega (arith, lt)) is

-- a line whose measure is in a record needs the instance line
recorded_there : (keyed there : Bool) (l : PlanLine) → is_recorded l ≡ true → lacks keyed there l ≡ false → there ≡ true
recorded_there keyed there (line.Apk disk apk idsig how) r e = kept_there (is_kept how) there e r
recorded_there keyed there (line.Instance disk part) r e = absurd cc
recorded_there keyed there (line.Blob file m) r e = absurd cc
recorded_there keyed there (line.File name file digest) r e = absurd cc
recorded_there keyed there (line.Write name file) r e = absurd cc
recorded_there keyed there (line.WriteDir name file) r e = absurd cc

-- and that needs the keys
instance_there : (n : ℕ) (keyed there : Bool) (lines : List PlanLine) (numbers : List ℕ) → length numbers ≡ length lines → first_lacking keyed there lines numbers ≡ None → list_any is_instance lines ≡ true
    → (keyed ≡ true) × ((i : InstanceLine) × (instance_from n lines ≡ Some i))
unfolding instance_from
instance_there n keyed there [] numbers even e any = absurd cc
instance_there n keyed there (l ∷ lines) [] even e any = absurd (omega (arith, even))
instance_there n keyed there (line.Instance disk part ∷ lines) (m ∷ numbers) even e any = (not_false keyed (rest_none (not keyed) m (first_lacking keyed there lines numbers) e).0, (_, refl))
instance_there n keyed there (line.Blob file measure ∷ lines) (m ∷ numbers) even e any = instance_there (n + 1) keyed there lines numbers (omega (arith, even)) e any
instance_there n keyed there (line.Apk disk apk idsig how ∷ lines) (m ∷ numbers) even e any = instance_there (n + 1) keyed there lines numbers (omega (arith, even)) (rest_none (is_kept how && not there) m (first_lacking keyed there lines numbers) e).1 any
instance_there n keyed there (line.File name file digest ∷ lines) (m ∷ numbers) even e any = instance_there (n + 1) keyed there lines numbers (omega (arith, even)) e any
instance_there n keyed there (line.Write name file ∷ lines) (m ∷ numbers) even e any = instance_there (n + 1) keyed there lines numbers (omega (arith, even)) e any
instance_there n keyed there (line.WriteDir name file ∷ lines) (m ∷ numbers) even e any = instance_there (n + 1) keyed there lines numbers (omega (arith, even)) e any

pub plan_recorded : (text : List ℕ) (k : Known) (i : ℕ) (l : PlanLine) → IsPlan text k → i < length k.lines → l ≡ get_or k.lines i l → is_recorded l ≡ true
    → IsSome k.secret × ((n : InstanceLine) × (instance_in k.lines ≡ Some n))
plan_recorded text k i l p lt is r =
    let even = plan_numbered text k p in
    let there = recorded_there (has_keys k) (has_instance k) l r (lacks_not (has_keys k) (has_instance k) k.lines k.numbers i l even p.complete lt is) in
    let found = instance_there 0 (has_keys k) (has_instance k) k.lines k.numbers even p.complete there in
    ((both_true (is_some k.secret) (is_some k.salt) found.0).0, found.1)

-- ---- it is the only one

-- no instance line follows one
abbrev Single : List PlanLine → Type 0
Single [] = Unit {0}
Single (l ∷ lines) = (is_instance l ≡ true → list_any is_instance lines ≡ false) × Single lines

either_off : (a b : Bool) → (a || b) ≡ false → (a ≡ false) × (b ≡ false)
either_off true b e = absurd cc
either_off false b e = (refl, e)

not_both : (b : Bool) → b ≡ true → b ≡ false → ⊥
not_both true e f = cc
not_both false e f = cc

none_push : (lines : List PlanLine) (l : PlanLine) → list_any is_instance lines ≡ false → is_instance l ≡ false → list_any is_instance (lines ++ l ∷ []) ≡ false
none_push [] l none one = rw one refl
none_push (x ∷ lines) l none one = let off = either_off (is_instance x) (list_any is_instance lines) none in rw off.0 (none_push lines l off.1 one)

is_off : (b : Bool) → (b ≡ true → ⊥) → b ≡ false
is_off true f = absurd (f refl)
is_off false f = refl

single_push : (lines : List PlanLine) (l : PlanLine) → Single lines → (is_instance l ≡ true → list_any is_instance lines ≡ false) → Single (lines ++ l ∷ [])
single_push [] l s one = ((λ e. refl), tt)
single_push (x ∷ lines) l s one = (
  (λ e. none_push lines l (s.0 e) (is_off (is_instance l) (λ f. not_both (is_instance x) e (either_off (is_instance x) (list_any is_instance lines) (one f)).0))),
  single_push lines l s.1 (λ f. (either_off (is_instance x) (list_any is_instance lines) (one f)).1),
)

passed : {K : Type 0} (b : Bool) (fault : PlanKind) (x later : K) → (if b then Err fault else Ok x) ≡ Ok later → b ≡ false
passed true fault x later e = absurd cc
passed false fault x later e = refl

no_other : (l : PlanLine) (lines : List PlanLine) → list_any (clash l) lines ≡ false → is_instance l ≡ true → list_any is_instance lines ≡ false
no_other (line.Instance disk part) lines none e = none
no_other (line.Blob file m) lines none e = absurd cc
no_other (line.Apk disk apk idsig how) lines none e = absurd cc
no_other (line.File name file digest) lines none e = absurd cc
no_other (line.Write name file) lines none e = absurd cc
no_other (line.WriteDir name file) lines none e = absurd cc

single_added : (k later : Known) (n : ℕ) (item : Item) → Single k.lines → add k n item ≡ Ok later → Single later.lines
unfolding add
single_added k later n (Secret bytes) s e = subst (λ (z : Known). Single z.lines) (chosen _ _ _ _ e) s
single_added k later n (InstanceSalt bytes) s e = subst (λ (z : Known). Single z.lines) (chosen _ _ _ _ e) s
single_added k later n (Line l) s e = subst (λ (z : Known). Single z.lines) (chosen _ _ _ _ e) (single_push k.lines l s (no_other l k.lines (passed _ _ _ _ e)))

single : (n : ℕ) (k later : Known) (items : List Item) → Single k.lines → collect add n k items ≡ Ok later → Single later.lines
unfolding collect
single n k later [] s e = let same : k ≡ later = cc in subst (λ (z : Known). Single z.lines) same s
single n k later (item ∷ items) s e =
    let b = bound (add k n item) _ later e in
    single (n + 1) b.0 later items (single_added k b.0 n item s b.1) b.2

none_at : (lines : List PlanLine) (k disk : ℕ) (part : List ℕ) → list_any is_instance lines ≡ false → slice_get lines k ≡ Some (line.Instance disk part) → ⊥
none_at [] k disk part none at = cc
none_at (x ∷ lines) zero disk part none at =
    let same : x ≡ line.Instance disk part = cc in
    not_both (is_instance x) (ap is_instance same) (either_off (is_instance x) (list_any is_instance lines) none).0
none_at (x ∷ lines) (suc k) disk part none at = none_at lines k disk part (either_off (is_instance x) (list_any is_instance lines) none).1 at

moved : (n k disk : ℕ) (part : List ℕ) (o : Option InstanceLine) → o ≡ Some (record { at = n + 1 + k; disk = disk; part = part }) → o ≡ Some (record { at = n + suc k; disk = disk; part = part })
moved n k disk part o e =
    let same : n + 1 + k ≡ n + suc k = omega arith in
    subst (λ (z : ℕ). o ≡ Some (record { at = z; disk = disk; part = part })) same e

at_once : (n : ℕ) (d disk : ℕ) (p part : List ℕ) → ◌≡◌ {A = Option PlanLine} (Some (line.Instance d p)) (Some (line.Instance disk part))
    → ◌≡◌ {A = Option InstanceLine} (Some (record { at = n; disk = d; part = p })) (Some (record { at = n + 0; disk = disk; part = part }))
at_once n d disk p part e =
    let one : d ≡ disk = cc in
    let two : p ≡ part = cc in
    let here : n ≡ n + 0 = omega arith in
    let made : ℕ → ℕ → List ℕ → Option InstanceLine = λ a b c. Some (record { at = a; disk = b; part = c }) in
    ap (λ (z : ℕ). made z d p) here ∙ ap (λ (z : ℕ). made (n + 0) z p) one ∙ ap (λ (z : List ℕ). made (n + 0) disk z) two

alone_from : (n : ℕ) (lines : List PlanLine) (k disk : ℕ) (part : List ℕ) → Single lines → slice_get lines k ≡ Some (line.Instance disk part) → instance_from n lines ≡ Some (record { at = n + k; disk = disk; part = part })
unfolding instance_from
alone_from n [] k disk part s at = absurd cc
alone_from n (line.Instance d p ∷ lines) zero disk part s at = at_once n d disk p part at
alone_from n (line.Instance d p ∷ lines) (suc k) disk part s at = absurd (none_at lines k disk part (s.0 refl) at)
alone_from n (line.Blob file m ∷ lines) zero disk part s at = absurd cc
alone_from n (line.Blob file m ∷ lines) (suc k) disk part s at = moved n k disk part _ (alone_from (n + 1) lines k disk part s.1 at)
alone_from n (line.Apk d apk idsig how ∷ lines) zero disk part s at = absurd cc
alone_from n (line.Apk d apk idsig how ∷ lines) (suc k) disk part s at = moved n k disk part _ (alone_from (n + 1) lines k disk part s.1 at)
alone_from n (line.File name file digest ∷ lines) zero disk part s at = absurd cc
alone_from n (line.File name file digest ∷ lines) (suc k) disk part s at = moved n k disk part _ (alone_from (n + 1) lines k disk part s.1 at)
alone_from n (line.Write name file ∷ lines) zero disk part s at = absurd cc
alone_from n (line.Write name file ∷ lines) (suc k) disk part s at = moved n k disk part _ (alone_from (n + 1) lines k disk part s.1 at)
alone_from n (line.WriteDir name file ∷ lines) zero disk part s at = absurd cc
alone_from n (line.WriteDir name file ∷ lines) (suc k) disk part s at = moved n k disk part _ (alone_from (n + 1) lines k disk part s.1 at)

pub alone : InstanceIsAlone
alone text plan at disk part p stands =
    let same : 0 + at ≡ at = omega arith in
    subst (λ (k : ℕ). instance_from 0 plan.lines ≡ Some (record { at = k; disk = disk; part = part })) same (alone_from 0 plan.lines at disk part (single 2 nothing plan p.items.items tt p.items.says) stands)

-- ---- a line for which boot only reads changes nothing

stays_so : (s mid : Booted) → mid.image ≡ s.image → mid.entropy ≡ s.entropy → mid.writings ≡ s.writings → RecordsStay s mid
stays_so s mid a b c = record { image = a; entropy = b; writings = c }

stays_by : (s mid : Booted) (like : Booted) → mid ≡ like → RecordsStay s like → RecordsStay s mid
stays_by s mid like e r = subst (RecordsStay s) (sym e) r

line_stays : (s : Booted) (l : PlanLine) (own : Exchanges) (new : Booted) → OnlyReads l → LineBoots s l own new → RecordsStay s new
line_stays s (line.Instance disk part) own new none b = stays_by s new _ b.1 (stays_so s _ refl refl refl)
line_stays s (line.Blob file m) own new none b = stays_by s new _ b.1 (stays_so s _ refl refl refl)
line_stays s (line.Apk disk apk idsig (measures.Fixed m)) own new none b = stays_by s new _ b.new_is (stays_so s _ refl refl refl)
line_stays s (line.Apk disk apk idsig measures.First) own new none b = stays_by s new _ b.new_is (stays_so s _ refl refl refl)
line_stays s (line.Apk disk apk idsig (measures.Kept uuid)) own new none b = absurd none
line_stays s (line.File name file digest) own new none b = stays_by s new _ b.new_is (stays_so s _ refl refl refl)
line_stays s (line.Write name file) own new none b = absurd none
line_stays s (line.WriteDir name file) own new none b = stays_by s new _ b.1 (stays_so s _ refl refl refl)

pub stays : ReadersWriteNothing
stays s [] own new none b = stays_by s new s b.1 (stays_so s s refl refl refl)
stays s (l ∷ lines) own new none b =
    let one = line_stays s l b.0 b.2 none.0 b.4 in
    let rest = stays b.2 lines b.1 new none.1 b.5 in
    record { image = rest.image ∙ one.image; entropy = rest.entropy ∙ one.entropy; writings = rest.writings ∙ one.writings }

-- ---- nor do its calls

asks_bytes : (n : ℕ) (k : Kind) → k ≡ kind_bytes n → k ≡ kind_done → ⊥
asks_bytes n k e f = cc

asks_number : (k : Kind) → k ≡ kind_number → k ≡ kind_done → ⊥
asks_number k e f = cc

table_reads : (disk : ℕ) (call : Call) → IsTableCall disk call → IsRead call
table_reads disk call (inl e) = asks_number (kind_of call) (ap kind_of e)
table_reads disk call (inr (inl e)) = asks_bytes _ (kind_of call) (ap kind_of e)
table_reads disk call (inr (inr t)) = asks_bytes _ (kind_of call) (ap kind_of t.2)

apk_reads : (disk : ℕ) (call : Call) → IsForApk disk call → IsRead call
apk_reads disk call (inl t) = table_reads disk call t
apk_reads disk call (inr p) = asks_bytes _ (kind_of call) (ap kind_of p.1)

image_reads : (disk : ℕ) (call : Call) → IsForImage disk call → IsRead call
image_reads disk call (inl t) = table_reads disk call t
image_reads disk call (inr p) = asks_bytes _ (kind_of call) (ap kind_of p.1)

pub line_reads : (image : Option ℕ) (l : PlanLine) (call : Call) → OnlyReads l → IsForLine image l call → IsRead call
line_reads image (line.Instance disk part) call only f = image_reads disk call f
line_reads image (line.Blob file m) call only f = absurd f
line_reads image (line.Apk disk apk idsig (measures.Fixed m)) call only f = apk_reads disk call f
line_reads image (line.Apk disk apk idsig measures.First) call only f = apk_reads disk call f
line_reads image (line.Apk disk apk idsig (measures.Kept uuid)) call only f = absurd only
line_reads image (line.File name file digest) call only f = asks_bytes _ (kind_of call) (ap kind_of f)
line_reads image (line.Write name file) call only f = absurd only
line_reads image (line.WriteDir name file) call only f = absurd f

only_at : (lines : List PlanLine) (k : ℕ) (l : PlanLine) → AllByRecursion OnlyReads lines → slice_get lines k ≡ Some l → OnlyReads l
only_at [] k l only at = absurd cc
only_at (x ∷ lines) zero l only at = let same : x ≡ l = cc in subst OnlyReads same only.0
only_at (x ∷ lines) (suc k) l only at = only_at lines k l only.1 at

pub only_read : ReadersOnlyRead
only_read lines call only f = line_reads (instance_disk (instance_in lines)) f.line call (only_at lines f.at f.line only f.stands) f.for
