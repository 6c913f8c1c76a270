-- The listing of a directory, entry by entry.
use Rattle.std.proofs.Common.{zero, suc, ◌≡◌, ◌≢◌, ◌≤◌, ◌<◌, ◌+◌, ◌-◌, ℕ, Bool, true, false, cond, List, [], ◌∷◌, ◌++◌, map, length, drop, Option, Some, None, if◌then◌else◌, refl, sym, ap, ◌∙◌, arith, append_assoc, append-nil, length-append}
use Rattle.std.specs.Prelude.{nat_le, nat_lt, slice_get, Result, Ok, Err, OnOk}
use Rattle.std.specs.Option.{option_map}
use Rattle.std.proofs.lemmas.Bool.Decides.{nat_tests}
use Rattle.std.proofs.lemmas.Grind.{common_steps}
use Rattle.std.proofs.lemmas.Option.{slice_get-map}
use Rattle.std.proofs.lemmas.List.{drop-map, length-map}
use Rattle.authfs_dirs.specs.Names.{Entry, Node, NodeMap}
use Rattle.authfs_dirs.specs.Tables.{Slot, living, living_at, after, IsRising}
use Rattle.authfs_dirs.specs.Dirents.{Dirent, dirent_len, dirent_bytes, dirent, dot, dot_dot, dirents, above, whole}
use Rattle.authfs_dirs.specs.Lines.{dirent_by, line_of, lines, present, flat, PutsWhole, PutsPlace}
use Rattle.authfs_dirs.specs.declared.listing.Line.{Line}

pub on_ok_map : {T E P Q : Type 0} (r : Result T E) → (P → Q) → OnOk r P → OnOk r Q
on_ok_map (Ok x) f p = f p
on_ok_map (Err e) f p = p

-- the line at a place behind the first two
pub third : {A B : Type 0} (f : A → B) (a b : B) (xs : List A) (place : ℕ) → place ≢ 0 → place ≢ 1 → slice_get (a ∷ b ∷ map f xs) place ≡ option_map f (slice_get xs (place - 2))
third f a b xs zero h0 h1 = absurd (h0 refl)
third f a b xs (suc zero) h0 h1 = absurd (h1 refl)
third f a b xs (suc (suc k)) h0 h1 = let same : suc (suc k) - 2 ≡ k = omega arith in rw same (slice_get-map f xs k)

-- a row's line, where the name is still there
pub line_of_row : (m : NodeMap) (o : Option Slot) → flat (option_map (line_of m) o) ≡ option_map (dirent m) (living_at o)
line_of_row m None = refl
line_of_row m (Some s) = by s.live where
  by : (b : Bool) → (if b then Some (dirent m s.entry) else None) ≡ option_map (dirent m) (if b then Some s.entry else None)
  by true = refl
  by false = refl

abbrev pub onto : Bool → Entry → List Entry → List Entry
onto b e es = if b then e ∷ es else es

present_by : (b : Bool) (m : NodeMap) (e : Entry) (ls : List (Option Dirent)) (es : List Entry) → present ls ≡ map (dirent m) es → present ((if b then Some (dirent m e) else None) ∷ ls) ≡ map (dirent m) (onto b e es)
present_by true m e ls es same = ap (λ ds. dirent m e ∷ ds) same
present_by false m e ls es same = same

-- the lines of rows are the entries of the names that are still there
pub present_lines : (m : NodeMap) (ss : List Slot) → present (map (line_of m) ss) ≡ map (dirent m) (living ss)
present_lines m [] = refl
present_lines m (s ∷ ss) = present_by s.live m s.entry (map (line_of m) ss) (living ss) (present_lines m ss)

-- ---- entries with a cookie above one

kept_by : (b : Bool) (m : NodeMap) (e : Entry) (es : List Entry) (ds : List Dirent) → ds ≡ map (dirent m) es → cond b (dirent m e ∷ ds) ds ≡ map (dirent m) (cond b (e ∷ es) es)
kept_by true m e es ds same = ap (λ xs. dirent m e ∷ xs) same
kept_by false m e es ds same = same

pub above_map : (m : NodeMap) (cookie : ℕ) (es : List Entry) → above cookie (map (dirent m) es) ≡ map (dirent m) (after cookie es)
above_map m cookie [] = refl
above_map m cookie (e ∷ es) = kept_by (nat_lt cookie e.cookie) m e (after cookie es) (above cookie (map (dirent m) es)) (above_map m cookie es)

lt_true : (a b : ℕ) → a < b → nat_lt a b ≡ true
lt_true a b h = grind (arith, nat_tests)

lt_false : (a b : ℕ) → b ≤ a → nat_lt a b ≡ false
lt_false a b h = grind (arith, nat_tests)

above_by : (b : Bool) (cookie : ℕ) (e : Entry) (es : List Entry) → nat_lt cookie e.cookie ≡ true → after cookie es ≡ es → after cookie (onto b e es) ≡ onto b e es
above_by true cookie e es here rest = rw here (ap (λ xs. e ∷ xs) rest)
above_by false cookie e es here rest = rest

pub all_above : (cookie low next : ℕ) (ss : List Slot) → cookie < low → IsRising low ss next → after cookie (living ss) ≡ living ss
all_above cookie low next [] below is = refl
all_above cookie low next (s ∷ ss) below is =
    above_by s.live cookie s.entry (living ss) (lt_true cookie s.entry.cookie (omega (arith, is.0))) (all_above cookie (s.entry.cookie + 1) next ss (omega (arith, is.0)) is.2)

rest_is : (m : NodeMap) (cookie : ℕ) (es : List Entry) (ss : List Slot) → cookie < 3 → es ≡ living ss → (next : ℕ) → IsRising 3 ss next → above cookie (map (dirent m) es) ≡ present (map (line_of m) ss)
rest_is m cookie es ss below same next is = above_map m cookie es ∙ ap (λ xs. map (dirent m) (after cookie xs)) same ∙ ap (map (dirent m)) (all_above cookie 3 next ss below is) ∙ sym (present_lines m ss)

pub from_zero : (m : NodeMap) (n next : ℕ) (x : Node) (ss : List Slot) → x.entries ≡ living ss → IsRising 3 ss next → above 0 (dirents m n x) ≡ present (drop 0 (lines m n x.parent ss))
unfolding dirents lines
from_zero m n next x ss same is = ap (λ ds. dot n ∷ dot_dot n x.parent ∷ ds) (rest_is m 0 x.entries ss (omega arith) same next is)

pub from_one : (m : NodeMap) (n next : ℕ) (x : Node) (ss : List Slot) → x.entries ≡ living ss → IsRising 3 ss next → above 1 (dirents m n x) ≡ present (drop 1 (lines m n x.parent ss))
unfolding dirents lines
from_one m n next x ss same is = ap (λ ds. dot_dot n x.parent ∷ ds) (rest_is m 1 x.entries ss (omega arith) same next is)

two_more : {A : Type 0} (a b : A) (xs : List A) (k : ℕ) → drop (k + 2) (a ∷ b ∷ xs) ≡ drop k xs
two_more a b xs k = let same : k + 2 ≡ suc (suc k) = omega arith in rw same refl

pub from_more : (m : NodeMap) (n cookie place : ℕ) (x : Node) (ss : List Slot) → cookie ≢ 0 → cookie ≢ 1 → after cookie x.entries ≡ living (drop place ss) → above cookie (dirents m n x) ≡ present (drop (place + 2) (lines m n x.parent ss))
unfolding dirents lines
from_more m n cookie place x ss h0 h1 is =
    let one : nat_lt cookie 1 ≡ false = lt_false cookie 1 (omega arith) in
    let two : nat_lt cookie 2 ≡ false = lt_false cookie 2 (omega arith) in
    rw (one, two, two_more (Some (dot n)) (Some (dot_dot n x.parent)) (map (line_of m) ss) place) (above_map m cookie x.entries ∙ ap (map (dirent m)) is ∙ sym (present_lines m (drop place ss)) ∙ ap present (sym (drop-map (line_of m) place ss)))

-- ---- one entry more

pub drop_at : {A : Type 0} (xs : List A) (i : ℕ) (x : A) → slice_get xs i ≡ Some x → drop i xs ≡ x ∷ drop (i + 1) xs
drop_at [] i x e = absurd cc
drop_at (y ∷ ys) zero x e = let same : y ≡ x = cc in rw same refl
drop_at (y ∷ ys) (suc i) x e = let same : suc i + 1 ≡ suc (i + 1) = omega arith in rw same (drop_at ys i x e)

pub length_dirent : (d : Dirent) → length (dirent_bytes d) ≡ dirent_len d
unfolding dirent_bytes
length_dirent d = grind (arith, common_steps)

pub whole_fits : (n : ℕ) (d : Dirent) (ds : List Dirent) → dirent_len d ≤ n → whole n (d ∷ ds) ≡ dirent_bytes d ++ whole (n - dirent_len d) ds
unfolding whole
whole_fits n d ds h = let fits : nat_le (dirent_len d) n ≡ true = grind (arith, nat_tests) in rw fits refl

pub whole_ends : (n : ℕ) (d : Dirent) (ds : List Dirent) → n < dirent_len d → whole n (d ∷ ds) ≡ []
unfolding whole
whole_ends n d ds h = let fits : nat_le (dirent_len d) n ≡ false = grind (arith, nat_tests) in rw fits refl

pub whole_none : (n : ℕ) → whole n [] ≡ []
unfolding whole
whole_none n = refl

pub puts_more : (ls : List (Option Dirent)) (size place : ℕ) (d : Dirent) (old new : List ℕ) → slice_get ls place ≡ Some (Some d) → length old ≤ size → dirent_len d ≤ size - length old → new ≡ old ++ dirent_bytes d
    → (new ++ whole (size - length new) (present (drop (place + 1) ls)) ≡ old ++ whole (size - length old) (present (drop place ls))) × (length new ≤ size)
puts_more ls size place d old new at within fits is =
    let len : length new ≡ length old + dirent_len d = ap length is ∙ length-append old (dirent_bytes d) ∙ ap (λ n. length old + n) (length_dirent d) in
    let left : size - length new ≡ size - length old - dirent_len d = omega arith in
    (rw (drop_at ls place (Some d) at, whole_fits (size - length old) d (present (drop (place + 1) ls)) fits, left, is) (append_assoc old (dirent_bytes d) _), omega arith)

pub puts_no_more : (ls : List (Option Dirent)) (size place : ℕ) (d : Dirent) (old new : List ℕ) → slice_get ls place ≡ Some (Some d) → size - length old < dirent_len d → new ≡ old
    → new ≡ old ++ whole (size - length old) (present (drop place ls))
puts_no_more ls size place d old new at past is = rw (drop_at ls place (Some d) at, whole_ends (size - length old) d (present (drop (place + 1) ls)) past) (is ∙ sym (append-nil old))

there_by : {A : Type 0} (o : Option (Option A)) (d : A) → flat o ≡ Some d → o ≡ Some (Some d)
there_by None d e = absurd cc
there_by (Some o) d e = ap Some e

pub puts_by : (ls : List (Option Dirent)) (size place : ℕ) (l : Line) (old new : List ℕ) (fits : Bool) → flat (slice_get ls place) ≡ Some (dirent_by l) → length old ≤ size
    → PutsWhole l size old new fits → PutsPlace ls size place old new fits
puts_by ls size place l old new true at within said = puts_more ls size place (dirent_by l) old new (there_by (slice_get ls place) (dirent_by l) at) within said.0 said.1
puts_by ls size place l old new false at within said = puts_no_more ls size place (dirent_by l) old new (there_by (slice_get ls place) (dirent_by l) at) said.0 said.1

skipped : (ls : List (Option Dirent)) (place : ℕ) → flat (slice_get ls place) ≡ None → present (drop (place + 1) ls) ≡ present (drop place ls)
skipped [] zero none = refl
skipped [] (suc place) none = let same : suc place + 1 ≡ suc (suc place) = omega arith in rw same refl
skipped (None ∷ ls) zero none = refl
skipped (Some d ∷ ls) zero none = absurd cc
skipped (l ∷ ls) (suc place) none = let same : suc place + 1 ≡ suc (place + 1) = omega arith in rw same (skipped ls place none)

-- the row of a name that was removed is passed over
pub puts_none : (ls : List (Option Dirent)) (size place : ℕ) (old : List ℕ) → flat (slice_get ls place) ≡ None → length old ≤ size → PutsPlace ls size place old old true
puts_none ls size place old none within = (ap (λ ds. old ++ whole (size - length old) ds) (skipped ls place none), within)

bound_by : (b : Bool) (size : ℕ) (d : Dirent) (rest : List ℕ) → nat_le (dirent_len d) size ≡ b → length rest ≤ size - dirent_len d → length (if b then dirent_bytes d ++ rest else []) ≤ size
bound_by true size d rest e bound =
    let fits : dirent_len d ≤ size = grind (arith, nat_tests) in
    let len : length (dirent_bytes d ++ rest) ≡ dirent_len d + length rest = length-append (dirent_bytes d) rest ∙ ap (λ n. n + length rest) (length_dirent d) in
    omega arith
bound_by false size d rest e bound = omega arith

-- a listing has at most so many bytes
pub whole_bound : (size : ℕ) (ds : List Dirent) → length (whole size ds) ≤ size
unfolding whole
whole_bound size [] = omega arith
whole_bound size (d ∷ ds) = bound_by (nat_le (dirent_len d) size) size d (whole (size - dirent_len d) ds) refl (whole_bound (size - dirent_len d) ds)

ended_bound : (size : ℕ) (ds : List Dirent) (old new : List ℕ) → new ≡ old ++ whole (size - length old) ds → length old ≤ size → length new ≤ size
ended_bound size ds old new is within =
    let len : length new ≡ length old + length (whole (size - length old) ds) = ap length is ∙ length-append old (whole (size - length old) ds) in
    let rest = whole_bound (size - length old) ds in
    omega arith

pub drop_all : {A : Type 0} (xs : List A) (n : ℕ) → n ≡ length xs → drop n xs ≡ []
drop_all [] zero e = refl
drop_all [] (suc n) e = absurd (omega arith)
drop_all (x ∷ xs) zero e = absurd (omega arith)
drop_all (x ∷ xs) (suc n) e = drop_all xs n (omega arith)

pub length_lines : (m : NodeMap) (n : ℕ) (parent : Option ℕ) (ss : List Slot) → length (lines m n parent ss) ≡ length ss + 2
unfolding lines
length_lines m n parent ss = let same : length (map (line_of m) ss) ≡ length ss = length-map ss (line_of m) in omega arith

-- where no line is left, what is there is all
pub all_put : (ls : List (Option Dirent)) (size place : ℕ) (out : List ℕ) → place ≡ length ls → out ++ whole (size - length out) (present (drop place ls)) ≡ out
all_put ls size place out end = rw (drop_all ls place end, whole_none (size - length out)) (append-nil out)

pub placed_bound : (ls : List (Option Dirent)) (size place : ℕ) (old new : List ℕ) (fits : Bool) → PutsPlace ls size place old new fits → length old ≤ size → length new ≤ size
placed_bound ls size place old new true said within = said.1
placed_bound ls size place old new false said within = ended_bound size (present (drop place ls)) old new said within
