-- The names of a directory against the map and the rows that hold them.
use Rattle.std.proofs.Common.{if◌then◌else◌, zero, suc, drop, ◌≡◌, ◌≢◌, ◌≤◌, ◌<◌, ◌+◌, ℕ, Bool, true, false, cond, length-append, List, [], ◌∷◌, ◌++◌, map, length, Option, Some, None, refl, sym, ap, ◌∙◌, subst, arith}
use Rattle.std.specs.Prelude.{min, nat_eq, nat_le, nat_lt, slice_index_or, slice_get, set, filter, Result, Ok, Err}
use Rattle.std.proofs.lemmas.Bool.Decides.{nat_tests}
use Rattle.std.specs.Result.{IsOk, OnOk}
use Rattle.std.specs.Global.{Vec}
use Rattle.std.specs.Option.{option_map}
use Rattle.std.specs.Cmp.Lexicographic.{pointwise}
use Rattle.std.specs.Map.{IsKeyTest, AreApart, KeepsOthers}
use Rattle.authfs_dirs.specs.Names.{Entry, entry, is_named, named, unnamed, AreAlone}
use Rattle.authfs_dirs.proofs.NameLemmas.{same_name, both_ways, named-push, alone-push, alone-unnamed, named-unnamed, length-unnamed, unnamed_none}
use Rattle.authfs_dirs.specs.Tables.{Slot, slot_of, is_living, living, IsRising, Rises, IsOr, Has, StandsAt, IsKept, dead, marked, spot_of, Spots, spot_at, after}
use Rattle.authfs_dirs.specs.declared.rows.Row.{Row}
use Rattle.authfs_dirs.specs.declared.name_table.Spot.{Spot}

pub on_ok : {T E : Type 0} {P : Type 0} (r : Result T E) → IsOk r → OnOk r P → P
on_ok (Ok x) is p = p
on_ok (Err e) is p = absurd cc

-- ---- what the map finds

abbrev pub at_name : List ℕ → Vec ℕ → Bool
at_name name k = pointwise nat_eq name k.items

abbrev pub same_key : Vec ℕ → Vec ℕ → Bool
same_key x y = pointwise nat_eq x.items y.items

name_test : (name : List ℕ) → IsKeyTest same_key (at_name name)
name_test name x y e = ap (λ n. pointwise nat_eq n y.items) (same_name name x.items e)

apart_names : (a b : List ℕ) → pointwise nat_eq a b ≡ false → AreApart (at_name a) (at_name b)
apart_names a b other k e = rw (← same_name a k.items e, both_ways b a) other

-- one name changed, and no other
pub spot_updated : (a name : List ℕ) (old new : Spots) (w : Option Spot) → spot_at a new ≡ w → KeepsOthers same_key (at_name a) old new → spot_at name new ≡ cond (pointwise nat_eq a name) w (spot_at name old)
unfolding KeepsOthers
spot_updated a name old new w here others = by (pointwise nat_eq a name) refl where
  by : (b : Bool) → pointwise nat_eq a name ≡ b → spot_at name new ≡ cond b w (spot_at name old)
  by true e = subst (λ n. spot_at n new ≡ w) (same_name a name e) here
  by false e = others (at_name name) (name_test name) (apart_names a name e)

-- ---- rows

pub rises : (low next : ℕ) (ss : List Slot) → IsRising low ss next → Rises low ss
rises low next [] is = tt
rises low next (s ∷ ss) is = (is.0, rises (s.entry.cookie + 1) next ss is.2)

pub map-push : (rows : List Row) (r : Row) → map slot_of (rows ++ r ∷ []) ≡ map slot_of rows ++ slot_of r ∷ []
map-push [] r = refl
map-push (x ∷ rows) r = ap (λ ys. slot_of x ∷ ys) (map-push rows r)

-- the names that are there, as a row is there or not
abbrev pub onto : Bool → Entry → List Entry → List Entry
onto b e es = if b then e ∷ es else es

living_by : (b : Bool) (x : Entry) (es fs gs : List Entry) → es ≡ fs ++ gs → onto b x es ≡ onto b x fs ++ gs
living_by true x es fs gs same = ap (λ ys. x ∷ ys) same
living_by false x es fs gs same = same

pub living-push : (ss : List Slot) (e : Entry) → living (ss ++ record { entry = e; live = true } ∷ []) ≡ living ss ++ e ∷ []
living-push [] e = refl
living-push (s ∷ ss) e = living_by s.live s.entry (living (ss ++ record { entry = e; live = true } ∷ [])) (living ss) (e ∷ []) (living-push ss e)

pub Rising-push : (low next : ℕ) (ss : List Slot) (s : Slot) → IsRising low ss next → s.entry.cookie ≡ next → length s.entry.name ≤ 255 → IsRising low (ss ++ s ∷ []) (next + 1)
Rising-push low next [] s is here short = (omega arith, short, omega arith)
Rising-push low next (x ∷ ss) s is here short = (is.0, is.1, Rising-push (x.entry.cookie + 1) next ss s is.2 here short)

pub Rising-lower : (low high next : ℕ) (ss : List Slot) → low ≤ high → IsRising high ss next → IsRising low ss next
Rising-lower low high next [] below is = omega arith
Rising-lower low high next (s ∷ ss) below is = (omega arith, is.1, is.2)

marked_rising : (b : Bool) (low next : ℕ) (s : Slot) (ss ts : List Slot) → IsRising low (s ∷ ss) next → IsRising (s.entry.cookie + 1) ts next → IsRising low (if b then dead s ∷ ss else s ∷ ts) next
marked_rising true low next s ss ts is rest = is
marked_rising false low next s ss ts is rest = (is.0, is.1, rest)

pub Rising-marked : (low next cookie : ℕ) (ss : List Slot) → IsRising low ss next → IsRising low (marked cookie ss) next
Rising-marked low next cookie [] is = is
Rising-marked low next cookie (s ∷ ss) is = marked_rising (nat_eq cookie s.entry.cookie) low next s ss (marked cookie ss) is (Rising-marked (s.entry.cookie + 1) next cookie ss is.2)

kept_rising : (b : Bool) (low next : ℕ) (s : Slot) (ts : List Slot) → low ≤ s.entry.cookie → length s.entry.name ≤ 255 → IsRising (s.entry.cookie + 1) ts next → IsRising low (cond b (s ∷ ts) ts) next
kept_rising true low next s ts from short rest = (from, short, rest)
kept_rising false low next s ts from short rest = Rising-lower low (s.entry.cookie + 1) next ts (omega arith) rest

pub Rising-kept : (low next : ℕ) (ss : List Slot) → IsRising low ss next → IsRising low (filter is_living ss) next
Rising-kept low next [] is = is
Rising-kept low next (s ∷ ss) is = kept_rising s.live low next s (filter is_living ss) is.0 is.1 (Rising-kept (s.entry.cookie + 1) next ss is.2)

kept_by : (b : Bool) (s : Slot) (ts : List Slot) (es : List Entry) → s.live ≡ b → living ts ≡ es → living (cond b (s ∷ ts) ts) ≡ onto b s.entry es
kept_by true s ts es live same = rw live (ap (λ ys. s.entry ∷ ys) same)
kept_by false s ts es live same = same

pub living-kept : (ss : List Slot) → living (filter is_living ss) ≡ living ss
living-kept [] = refl
living-kept (s ∷ ss) = kept_by s.live s (filter is_living ss) (living ss) refl (living-kept ss)

length_kept_by : (b : Bool) (s : Slot) (ts : List Slot) → s.live ≡ b → length (living ts) ≡ length ts → length (living (cond b (s ∷ ts) ts)) ≡ length (cond b (s ∷ ts) ts)
length_kept_by true s ts live same = rw live (ap suc same)
length_kept_by false s ts live same = same

pub length-kept : (ss : List Slot) → length (living (filter is_living ss)) ≡ length (filter is_living ss)
length-kept [] = refl
length-kept (s ∷ ss) = length_kept_by s.live s (filter is_living ss) refl (length-kept ss)

filter_by : (b : Bool) (r : Row) (rows : List Row) (ss : List Slot) → map slot_of rows ≡ ss → map slot_of (cond b (r ∷ rows) rows) ≡ cond b (slot_of r ∷ ss) ss
filter_by true r rows ss same = ap (λ ts. slot_of r ∷ ts) same
filter_by false r rows ss same = same

abbrev pub is_live : Row → Bool
is_live r = r.live

pub slots-filter : (rows : List Row) → map slot_of (filter is_live rows) ≡ filter is_living (map slot_of rows)
slots-filter [] = refl
slots-filter (r ∷ rows) = filter_by r.live r (filter is_live rows) (filter is_living (map slot_of rows)) (slots-filter rows)

-- ---- the row of a name

same_eq : (a : ℕ) → nat_eq a a ≡ true
same_eq a = grind (arith, nat_tests)

other_eq : (a b : ℕ) → a ≢ b → nat_eq a b ≡ false
other_eq a b ne = grind (arith, nat_tests)

-- a name is that of the first row, or of a later one
by_rows : {P : Type 0} (b c : Bool) (x : Entry) (es : List Entry) (e : Entry) (name : List ℕ) → is_named name x ≡ c → named name (onto b x es) ≡ Some e → (b ≡ true → c ≡ true → x ≡ e → P)
    → (b ≡ true → c ≡ false → named name es ≡ Some e → P) → (b ≡ false → named name es ≡ Some e → P) → P
by_rows true true x es e name here at first later gone = first refl refl (let s : cond true (Some x) (named name es) ≡ Some e = rw here at at in cc)
by_rows true false x es e name here at first later gone = later refl refl (rw here at at)
by_rows false c x es e name here at first later gone = gone refl at

named_from : (low : ℕ) (name : List ℕ) (ss : List Slot) (e : Entry) → Rises low ss → named name (living ss) ≡ Some e → low ≤ e.cookie
named_from low name [] e is at = absurd cc
named_from low name (s ∷ ss) e is at =
    let rest : named name (living ss) ≡ Some e → low ≤ e.cookie = λ there. let r = named_from (s.entry.cookie + 1) name ss e is.1 there in omega (arith, is.0) in
    by_rows s.live (is_named name s.entry) s.entry (living ss) e name refl at (λ b c same. subst (λ (x : Entry). low ≤ x.cookie) same is.0) (λ b c there. rest there) (λ b there. rest there)

or_else : (b : Bool) (P : Type 0) → P → IsOr b P
or_else true P p = tt
or_else false P p = p

or_here : (b : Bool) (P : Type 0) → b ≡ true → IsOr b P
or_here true P e = tt
or_here false P e = absurd cc

pub has_named : (name : List ℕ) (ss : List Slot) (e : Entry) → named name (living ss) ≡ Some e → Has e.cookie ss
has_named name [] e at = absurd cc
has_named name (s ∷ ss) e at =
    let rest : named name (living ss) ≡ Some e → Has e.cookie (s ∷ ss) = λ there. or_else (nat_eq e.cookie s.entry.cookie) (Has e.cookie ss) (has_named name ss e there) in
    by_rows s.live (is_named name s.entry) s.entry (living ss) e name refl at
    (λ b c same. or_here (nat_eq e.cookie s.entry.cookie) (Has e.cookie ss) (subst (λ (x : Entry). nat_eq x.cookie s.entry.cookie ≡ true) same (same_eq s.entry.cookie)))
    (λ b c there. rest there) (λ b there. rest there)

-- the name of a marked row is gone, and no other
pub living-marked : (low : ℕ) (name : List ℕ) (ss : List Slot) (e : Entry) → Rises low ss → named name (living ss) ≡ Some e → living (marked e.cookie ss) ≡ unnamed name (living ss)
living-marked low name [] e is at = absurd cc
living-marked low name (s ∷ ss) e is at =
    let later : named name (living ss) ≡ Some e → nat_eq e.cookie s.entry.cookie ≡ false = λ there. let from = named_from (s.entry.cookie + 1) name ss e is.1 there in other_eq e.cookie s.entry.cookie (omega arith) in
    by_rows s.live (is_named name s.entry) s.entry (living ss) e name refl at
    (λ b c same. let here : nat_eq e.cookie s.entry.cookie ≡ true = subst (λ (x : Entry). nat_eq x.cookie s.entry.cookie ≡ true) same (same_eq s.entry.cookie) in rw (here, b, c) refl)
    (λ b c there. rw (later there, b, c) (ap (λ es. s.entry ∷ es) (living-marked (s.entry.cookie + 1) name ss e is.1 there)))
    (λ b there. rw (later there, b) (living-marked (s.entry.cookie + 1) name ss e is.1 there))

length_marked_by : (b : Bool) (s : Slot) (ss ts : List Slot) → length ts ≡ length ss → length (if b then dead s ∷ ss else s ∷ ts) ≡ length (s ∷ ss)
length_marked_by true s ss ts same = refl
length_marked_by false s ss ts same = ap suc same

pub length-marked : (cookie : ℕ) (ss : List Slot) → length (marked cookie ss) ≡ length ss
length-marked cookie [] = refl
length-marked cookie (s ∷ ss) = length_marked_by (nat_eq cookie s.entry.cookie) s ss (marked cookie ss) (length-marked cookie ss)

pub length-slots : (rows : List Row) → length (map slot_of rows) ≡ length rows
length-slots [] = refl
length-slots (r ∷ rows) = ap suc (length-slots rows)

-- ---- places

-- what passes in the front of a list and nowhere behind it
pub record Parts {X : Type 0} (p : X → Bool) (xs : List X) (i : ℕ) : Type 0 where
  pub front : (k : ℕ) (d : X) → k < i → p (slice_index_or xs k d) ≡ true
  pub back : (k : ℕ) (d : X) → i ≤ k → k < length xs → p (slice_index_or xs k d) ≡ false

abbrev pub is_before : ℕ → Row → Bool
is_before cookie r = nat_le r.cookie cookie

abbrev pub is_below : ℕ → Row → Bool
is_below cookie r = nat_lt r.cookie cookie

far : (low : ℕ) (rows : List Row) (k : ℕ) (d : Row) → Rises low (map slot_of rows) → k < length rows → low ≤ (slice_index_or rows k d).cookie
far low [] k d is lt = absurd (omega arith)
far low (r ∷ rows) zero d is lt = is.0
far low (r ∷ rows) (suc k) d is lt = let rest = far (r.cookie + 1) rows k d is.1 (omega arith) in omega (arith, is.0)

-- cookies that rise are parted by a test that passes all smaller ones
module _ (p : ℕ → Bool) (closed : (a b : ℕ) → a ≤ b → p b ≡ true → p a ≡ true) where
  parted : (low : ℕ) (rows : List Row) → Rises low (map slot_of rows) → (i j : ℕ) (d : Row) → i ≤ j → j < length rows → p ((slice_index_or rows j d).cookie) ≡ true → p ((slice_index_or rows i d).cookie) ≡ true
  parted low [] is i j d le lt h = absurd (omega arith)
  parted low (r ∷ rows) is zero zero d le lt h = h
  parted low (r ∷ rows) is zero (suc j) d le lt h = let rest = far (r.cookie + 1) rows j d is.1 (omega arith) in closed r.cookie ((slice_index_or rows j d).cookie) (omega arith) h
  parted low (r ∷ rows) is (suc i) zero d le lt h = absurd (omega arith)
  parted low (r ∷ rows) is (suc i) (suc j) d le lt h = parted (r.cookie + 1) rows is.1 i j d (omega arith) (omega arith) h

le_closed : (c a b : ℕ) → a ≤ b → nat_le b c ≡ true → nat_le a c ≡ true
le_closed c a b le e = grind (arith, nat_tests)

lt_closed : (c a b : ℕ) → a ≤ b → nat_lt b c ≡ true → nat_lt a c ≡ true
lt_closed c a b le e = grind (arith, nat_tests)

pub before_parted : (cookie low : ℕ) (rows : List Row) → Rises low (map slot_of rows) → (i j : ℕ) (d : Row) → i ≤ j → j < length rows → is_before cookie (slice_index_or rows j d) ≡ true → is_before cookie (slice_index_or rows i d) ≡ true
before_parted cookie = parted (λ c. nat_le c cookie) (le_closed cookie)

pub below_parted : (cookie low : ℕ) (rows : List Row) → Rises low (map slot_of rows) → (i j : ℕ) (d : Row) → i ≤ j → j < length rows → is_below cookie (slice_index_or rows j d) ≡ true → is_below cookie (slice_index_or rows i d) ≡ true
below_parted cookie = parted (λ c. nat_lt c cookie) (lt_closed cookie)

after_test : (a b : ℕ) → nat_le a b ≡ true → nat_lt b a ≡ false
after_test a b e = grind (arith, nat_tests)

after_test' : (a b : ℕ) → nat_le a b ≡ false → nat_lt b a ≡ true
after_test' a b e = grind (arith, nat_tests)

after_by : (b : Bool) (cookie : ℕ) (x : Entry) (es fs : List Entry) → nat_lt cookie x.cookie ≡ true → after cookie es ≡ fs → after cookie (onto b x es) ≡ onto b x fs
after_by true cookie x es fs here rest = rw here (ap (λ ys. x ∷ ys) rest)
after_by false cookie x es fs here rest = rest

all_after : (cookie : ℕ) (rows : List Row) → ((k : ℕ) (d : Row) → k < length rows → is_before cookie (slice_index_or rows k d) ≡ false) → after cookie (living (map slot_of rows)) ≡ living (map slot_of rows)
all_after cookie [] none = refl
all_after cookie (r ∷ rows) none =
    after_by r.live cookie (slot_of r).entry (living (map slot_of rows)) (living (map slot_of rows)) (after_test' r.cookie cookie (none 0 r (omega arith)))
    (all_after cookie rows (λ k d lt. none (suc k) d (omega arith)))

passed_by : (b : Bool) (cookie : ℕ) (x : Entry) (es fs : List Entry) → nat_lt cookie x.cookie ≡ false → after cookie es ≡ fs → after cookie (onto b x es) ≡ fs
passed_by true cookie x es fs here rest = rw here rest
passed_by false cookie x es fs here rest = rest

pub after_place : (cookie : ℕ) (rows : List Row) (i : ℕ) → Parts (is_before cookie) rows i → i ≤ length rows → after cookie (living (map slot_of rows)) ≡ living (drop i (map slot_of rows))
after_place cookie rows zero parts bound = all_after cookie rows (λ k d lt. parts.back k d (omega arith) lt)
after_place cookie [] (suc i) parts bound = absurd (omega arith)
after_place cookie (r ∷ rows) (suc i) parts bound =
    let shorter : Parts (is_before cookie) rows i = record { front = λ k d lt. parts.front (suc k) d (omega arith); back = λ k d from lt. parts.back (suc k) d (omega arith) (omega arith) } in
    passed_by r.live cookie (slot_of r).entry (living (map slot_of rows)) (living (drop i (map slot_of rows))) (after_test r.cookie cookie (parts.front 0 r (omega arith))) (after_place cookie rows i shorter (omega arith))

-- the row with a cookie, at its place
record Here (cookie : ℕ) (rows : List Row) (i : ℕ) : Type 0 where
  pub row : Row
  pub there : slice_get rows i ≡ Some row
  pub cookie_is : row.cookie ≡ cookie

or_by : {P : Type 0} (b : Bool) (Q : Type 0) → IsOr b Q → (b ≡ true → P) → (b ≡ false → Q → P) → P
or_by true Q is first later = first refl
or_by false Q is first later = later refl is

equal_of : (a b : ℕ) → nat_eq a b ≡ true → a ≡ b
equal_of a b e = grind (arith, nat_tests)

has_from : (low cookie : ℕ) (ss : List Slot) → Rises low ss → Has cookie ss → low ≤ cookie
has_from low cookie [] is has = absurd has
has_from low cookie (s ∷ ss) is has = or_by (nat_eq cookie s.entry.cookie) (Has cookie ss) has
    (λ e. let same = equal_of cookie s.entry.cookie e in omega (arith, is.0))
    (λ e h. let rest = has_from (s.entry.cookie + 1) cookie ss is.1 h in omega (arith, is.0))

from_below : (a b : ℕ) → nat_lt a b ≡ false → a < b → ⊥
from_below a b e lt = let f : nat_lt a b ≡ true = grind (arith, nat_tests) in cc

below_is : (a b : ℕ) → nat_lt a b ≡ true → a < b
below_is a b e = grind (arith, nat_tests)

place_is : (cookie low : ℕ) (rows : List Row) (i : ℕ) → Rises low (map slot_of rows) → Has cookie (map slot_of rows) → Parts (is_below cookie) rows i → Here cookie rows i
place_is cookie low [] i is has parts = absurd has
place_is cookie low (r ∷ rows) zero is has parts = or_by (nat_eq cookie r.cookie) (Has cookie (map slot_of rows)) has
    (λ e. record { row = r; there = refl; cookie_is = sym (equal_of cookie r.cookie e) })
    (λ e h. let from = has_from (r.cookie + 1) cookie (map slot_of rows) is.1 h in absurd (from_below r.cookie cookie (parts.back 0 r (omega arith) (omega arith)) (omega arith)))
place_is cookie low (r ∷ rows) (suc i) is has parts =
    let lt = below_is r.cookie cookie (parts.front 0 r (omega arith)) in
    let shorter : Parts (is_below cookie) rows i = record { front = λ k d lt. parts.front (suc k) d (omega arith); back = λ k d from lt. parts.back (suc k) d (omega arith) (omega arith) } in
    or_by (nat_eq cookie r.cookie) (Has cookie (map slot_of rows)) has
    (λ e. absurd (let same = equal_of cookie r.cookie e in omega arith))
    (λ e h. let rest = place_is cookie (r.cookie + 1) rows i is.1 h shorter in record { row = rest.row; there = rest.there; cookie_is = rest.cookie_is })

pub stands : (cookie : ℕ) (rows : List Row) (i : ℕ) → Rises 3 (map slot_of rows) → Has cookie (map slot_of rows) → Parts (is_below cookie) rows i → StandsAt cookie rows i
stands cookie rows i is has parts = let here = place_is cookie 3 rows i is has parts in record { row = here.row; there = here.there; cookie_is = here.cookie_is; front = λ k d lt. parts.front k d lt }

-- writing there marks the name
pub mark_at : (cookie : ℕ) (rows : List Row) (i : ℕ) (r w : Row) → ((k : ℕ) (d : Row) → k < i → is_below cookie (slice_index_or rows k d) ≡ true) → slice_get rows i ≡ Some r → r.cookie ≡ cookie → slot_of w ≡ dead (slot_of r) → map slot_of (set rows i w) ≡ marked cookie (map slot_of rows)
mark_at cookie [] i r w front at is so = absurd cc
mark_at cookie (x ∷ rows) zero r w front at is so =
    let same : x ≡ r = cc in
    let here : nat_eq cookie x.cookie ≡ true = subst (λ (y : Row). nat_eq cookie y.cookie ≡ true) (sym same) (rw is (same_eq cookie)) in
    rw (here, so, same) refl
mark_at cookie (x ∷ rows) (suc i) r w front at is so =
    let below : nat_lt x.cookie cookie ≡ true = front 0 x (omega arith) in
    let other : nat_eq cookie x.cookie ≡ false = grind (arith, nat_tests) in
    rw other (ap (λ ss. slot_of x ∷ ss) (mark_at cookie rows i r w (λ k d lt. front (suc k) d (omega arith)) at is so))

pub living_short : (low next : ℕ) (ss : List Slot) (i : ℕ) (s : Slot) → IsRising low ss next → slice_get ss i ≡ Some s → length s.entry.name ≤ 255
living_short low next [] i s is at = absurd cc
living_short low next (x ∷ xs) zero s is at = let same : x ≡ s = cc in subst (λ (y : Slot). length y.entry.name ≤ 255) same is.1
living_short low next (x ∷ xs) (suc i) s is at = living_short (x.entry.cookie + 1) next xs i s is.2 at

-- ---- a name added

found_added : (b : Bool) (e : Entry) (x : Option Spot) (o : Option Entry) → x ≡ option_map spot_of o → cond b (Some (spot_of e)) x ≡ option_map spot_of (cond b (Some e) o)
found_added true e x o same = refl
found_added false e x o same = same

added_found : (old new : Spots) (es : List Entry) (e : Entry) → spot_at e.name new ≡ Some (spot_of e) → KeepsOthers same_key (at_name e.name) old new → named e.name es ≡ None
    → ((name : List ℕ) → spot_at name old ≡ option_map spot_of (named name es)) → (name : List ℕ) → spot_at name new ≡ option_map spot_of (named name (es ++ e ∷ []))
added_found old new es e here others none found name =
    spot_updated e.name name old new (Some (spot_of e)) here others ∙ found_added (pointwise nat_eq e.name name) e (spot_at name old) (named name es) (found name) ∙ ap (option_map spot_of) (sym (named-push name es e none))

abbrev pub row_of : ℕ → Vec ℕ → ℕ → Row
row_of cookie name node = record { cookie = cookie; name = name; node = node; live = true }

pub added_entries : (rows : List Row) (cookie : ℕ) (name : Vec ℕ) (node : ℕ) → living (map slot_of (rows ++ row_of cookie name node ∷ [])) ≡ living (map slot_of rows) ++ entry cookie name.items node ∷ []
added_entries rows cookie name node = ap living (map-push rows (row_of cookie name node)) ∙ living-push (map slot_of rows) (entry cookie name.items node)

pub added_kept : (old new : Spots) (rows : List Row) (name : Vec ℕ) (node gone next : ℕ) → IsKept old rows gone next → length name.items ≤ 255 → named name.items (living (map slot_of rows)) ≡ None
    → spot_at name.items new ≡ Some (spot_of (entry next name.items node)) → KeepsOthers same_key (at_name name.items) old new → IsKept new (rows ++ row_of next name node ∷ []) gone (next + 1)
added_kept old new rows name node gone next is short none here others =
    let e : Entry = entry next name.items node in
    let es = living (map slot_of rows) in
    let there = added_entries rows next name node in
    let rising : IsRising 3 (map slot_of (rows ++ row_of next name node ∷ [])) (next + 1) = rw (map-push rows (row_of next name node)) (Rising-push 3 next (map slot_of rows) (slot_of (row_of next name node)) is.rising refl short) in
    let alone : AreAlone (living (map slot_of (rows ++ row_of next name node ∷ []))) = subst AreAlone (sym there) (alone-push es e is.alone none) in
    let len : length (living (map slot_of (rows ++ row_of next name node ∷ []))) ≡ length es + 1 = ap length there ∙ length-append es (e ∷ []) in
    let long : length (rows ++ row_of next name node ∷ []) ≡ length rows + 1 = length-append rows (row_of next name node ∷ []) in
    record {
      rising = rising;
      alone = alone;
      found = λ n. added_found old new es e here others none is.found n ∙ ap (λ xs. option_map spot_of (named n xs)) (sym there);
      count = let was = is.count in omega arith;
    }

-- the same, where the map's key is another copy of the name
pub added_by_key : (old new : Spots) (rows : List Row) (key : List ℕ) (name : Vec ℕ) (node gone next : ℕ) → name.items ≡ key → IsKept old rows gone next → length name.items ≤ 255 → named name.items (living (map slot_of rows)) ≡ None
    → spot_at key new ≡ Some (spot_of (entry next key node)) → KeepsOthers same_key (at_name key) old new → IsKept new (rows ++ row_of next name node ∷ []) gone (next + 1)
added_by_key old new rows key name node gone next same is short none here others =
    added_kept old new rows name node gone next is short none (subst (λ a. spot_at a new ≡ Some (spot_of (entry next a node))) (sym same) here) (subst (λ a. KeepsOthers same_key (at_name a) old new) (sym same) others)

-- ---- a name removed

pub record Found (name : List ℕ) (es : List Entry) (spot : Spot) : Type 0 where
  pub entry : Entry
  pub there : named name es ≡ Some entry
  pub cookie_is : entry.cookie ≡ spot.cookie

found_by : (name : List ℕ) (es : List Entry) (spot : Spot) (o : Option Entry) → named name es ≡ o → Some spot ≡ option_map spot_of o → Found name es spot
found_by name es spot None here e = absurd cc
found_by name es spot (Some x) here e = record { entry = x; there = here; cookie_is = cc }

pub found_of : (spots : Spots) (rows : List Row) (gone next : ℕ) (name : List ℕ) (spot : Spot) → IsKept spots rows gone next → Some spot ≡ spot_at name spots → Found name (living (map slot_of rows)) spot
found_of spots rows gone next name spot is at = found_by name (living (map slot_of rows)) spot (named name (living (map slot_of rows))) refl (at ∙ is.found name)

none_of : (o : Option Entry) → None ≡ option_map spot_of o → o ≡ None
none_of None e = refl
none_of (Some x) e = absurd cc

-- a name that the map doesn't find isn't there
pub not_there : (spots : Spots) (rows : List Row) (gone next : ℕ) (name : List ℕ) → IsKept spots rows gone next → None ≡ spot_at name spots → living (map slot_of rows) ≡ unnamed name (living (map slot_of rows))
not_there spots rows gone next name is none = sym (unnamed_none name (living (map slot_of rows)) (none_of (named name (living (map slot_of rows))) (none ∙ is.found name)))

pub has_spot : (spots : Spots) (rows : List Row) (gone next : ℕ) (name : List ℕ) (spot : Spot) → IsKept spots rows gone next → Some spot ≡ spot_at name spots → Has spot.cookie (map slot_of rows)
has_spot spots rows gone next name spot is at =
    let f = found_of spots rows gone next name spot is at in
    subst (λ c. Has c (map slot_of rows)) f.cookie_is (has_named name (map slot_of rows) f.entry f.there)

pub removed_entries : (spots : Spots) (rows done : List Row) (gone next : ℕ) (name : List ℕ) (spot : Spot) → IsKept spots rows gone next → Some spot ≡ spot_at name spots
    → map slot_of done ≡ marked spot.cookie (map slot_of rows) → living (map slot_of done) ≡ unnamed name (living (map slot_of rows))
removed_entries spots rows done gone next name spot is at so =
    let f = found_of spots rows gone next name spot is at in
    ap living so ∙ ap (λ c. living (marked c (map slot_of rows))) (sym f.cookie_is) ∙ living-marked 3 name (map slot_of rows) f.entry (rises 3 next (map slot_of rows) is.rising) f.there

found_removed : (b : Bool) (x : Option Spot) (o : Option Entry) → x ≡ option_map spot_of o → cond b None x ≡ option_map spot_of (cond b None o)
found_removed true x o same = refl
found_removed false x o same = same

pub removed_kept : (old new : Spots) (rows done : List Row) (gone next : ℕ) (name : List ℕ) (spot : Spot) → IsKept old rows gone next → Some spot ≡ spot_at name old
    → spot_at name new ≡ None → KeepsOthers same_key (at_name name) old new → map slot_of done ≡ marked spot.cookie (map slot_of rows) → length done ≡ length rows → IsKept new done (gone + 1) next
removed_kept old new rows done gone next name spot is at here others so len =
    let f = found_of old rows gone next name spot is at in
    let es = living (map slot_of rows) in
    let there = removed_entries old rows done gone next name spot is at so in
    let rising : IsRising 3 (map slot_of done) next = rw so (Rising-marked 3 next spot.cookie (map slot_of rows) is.rising) in
    let alone : AreAlone (living (map slot_of done)) = subst AreAlone (sym there) (alone-unnamed name es is.alone) in
    let fewer : length (living (map slot_of done)) + 1 ≡ length es = rw there (length-unnamed name es f.entry f.there) in
    record {
      rising = rising;
      alone = alone;
      found = λ n. spot_updated name n old new None here others ∙ found_removed (pointwise nat_eq name n) (spot_at n old) (named n es) (is.found n) ∙ ap (option_map spot_of) (sym (named-unnamed n name es is.alone)) ∙ ap (λ xs. option_map spot_of (named n xs)) (sym there);
      count = let was = is.count in omega arith;
    }

pub swept_entries : (rows done : List Row) → map slot_of done ≡ filter is_living (map slot_of rows) → living (map slot_of done) ≡ living (map slot_of rows)
swept_entries rows done so = ap living so ∙ living-kept (map slot_of rows)

pub swept_kept : (spots : Spots) (rows done : List Row) (gone next : ℕ) → IsKept spots rows gone next → map slot_of done ≡ filter is_living (map slot_of rows) → IsKept spots done 0 next
swept_kept spots rows done gone next is so =
    let there = swept_entries rows done so in
    let rising : IsRising 3 (map slot_of done) next = rw so (Rising-kept 3 next (map slot_of rows) is.rising) in
    let alone : AreAlone (living (map slot_of done)) = subst AreAlone (sym there) is.alone in
    let len : length (living (map slot_of done)) ≡ length done = ap (λ ss. length (living ss)) so ∙ length-kept (map slot_of rows) ∙ ap length (sym so) ∙ length-slots done in
    record {
      rising = rising;
      alone = alone;
      found = λ n. is.found n ∙ ap (λ xs. option_map spot_of (named n xs)) (sym there);
      count = omega arith;
    }

pub left_of : (a b : ℕ) → 0 < min a b → 0 < a
left_of a b h = omega arith

pub none_past : {X : Type 0} (xs : List X) (i : ℕ) → length xs ≤ i → slice_get xs i ≡ None
none_past [] i past = refl
none_past (x ∷ xs) zero past = absurd (omega arith)
none_past (x ∷ xs) (suc i) past = none_past xs i (omega arith)
