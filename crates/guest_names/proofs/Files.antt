-- The files that stand, and how they were opened.
use Rattle.std.proofs.Common.{◌≡◌, ℕ, zero, suc, Bool, true, false, cond, List, [], ◌∷◌, ◌++◌, length, Option, Some, None, refl, sym, ◌∙◌, ap, subst, inl, inr, arith, Ordering, Less, Equal, Greater}
use Rattle.std.specs.Prelude.{nat_eq, slice_get, IsSome, ◌⊎◌, ◌==◌}
use Rattle.std.specs.List.{AllByRecursion}
use Rattle.std.specs.Ordering.{nat_cmp, is_eq, match_ordering}
use Rattle.std.specs.Map.{lookup}
use Rattle.std.specs.BTreeMap.{insert_entry, is_at}
use Rattle.std.proofs.lemmas.Grind.{common_steps}
use Rattle.std.proofs.lemmas.Bool.Decides.{nat_tests}
use Rattle.host_traits.specs.Told.{Exchanges}
use Rattle.ro_file.specs.Files.{MeasuredFile, IsReadable}
use Rattle.ro_file.specs.Opening.{WasOpened}
use Rattle.mg_base.specs.declared.values.Digest.{Digest}
use Rattle.fuse_server.specs.State.{Files, WritableFile, Writables, file_at, writable_at, empty_file}
use Rattle.guest_names.specs.Standing.{NamedFile, read_if, read_only, all_standing, emptied_by, all_emptied, digest_among}
use Rattle.guest_names.specs.Planted.{stood_at, Differs, AreDifferent}

-- ---- a file more at a number

key_is : (n k : ℕ) → is_eq (nat_cmp n k) ≡ nat_eq n k
key_is n k = grind (arith, common_steps)

eq_of : (a b : ℕ) → nat_eq a b ≡ true → a ≡ b
eq_of a b e = grind (arith, nat_tests)

module _ {X : Type 0} where
  abbrev at : List (ℕ × X) → ℕ → Option X
  at files n = lookup (is_at (nat_cmp n)) files

  equal : (files : List (ℕ × X)) (k n : ℕ) (e : ℕ × X) (o : X) (b : Bool) → nat_eq n k ≡ b → nat_eq n e.0 ≡ b
      → cond (nat_eq n e.0) (Some o) (at files n) ≡ cond b (Some o) (cond (nat_eq n e.0) (Some e.1) (at files n))
  equal files k n e o true p q = rw q refl
  equal files k n e o false p q = rw q refl

  greater : (files : List (ℕ × X)) (k n : ℕ) (e : ℕ × X) (o : X) (b : Bool) → nat_eq n k ≡ b → (b ≡ true → nat_eq n e.0 ≡ false)
      → cond (nat_eq n e.0) (Some e.1) (cond b (Some o) (at files n)) ≡ cond b (Some o) (cond (nat_eq n e.0) (Some e.1) (at files n))
  greater files k n e o true p other = rw (other refl) refl
  greater files k n e o false p other = refl

  inserted_by : (files : List (ℕ × X)) (k n : ℕ) (e : ℕ × X) (o : X) (r : Ordering) → nat_cmp k e.0 ≡ r → at (insert_entry nat_cmp files k o) n ≡ cond (nat_eq n k) (Some o) (at files n)
      → at (match_ordering r ((k, o) ∷ e ∷ files) ((e.0, o) ∷ files) (e ∷ insert_entry nat_cmp files k o)) n ≡ cond (nat_eq n k) (Some o) (at (e ∷ files) n)
  inserted_by files k n e o Less c rest = rw (key_is n k) refl
  inserted_by files k n e o Equal c rest =
      let same : nat_eq n e.0 ≡ nat_eq n k = grind (arith, common_steps) in
      rw (key_is n e.0) (equal files k n e o (nat_eq n k) refl same)
  inserted_by files k n e o Greater c rest =
      let apart : nat_eq n k ≡ true → nat_eq n e.0 ≡ false = λ p. grind (arith, common_steps) in
      rw (key_is n e.0, rest) (greater files k n e o (nat_eq n k) refl apart)

  pub inserted : (files : List (ℕ × X)) (k n : ℕ) (o : X) → lookup (is_at (nat_cmp n)) (insert_entry nat_cmp files k o) ≡ cond (nat_eq n k) (Some o) (lookup (is_at (nat_cmp n)) files)
  inserted [] k n o = rw (key_is n k) refl
  inserted (e ∷ files) k n o = inserted_by files k n e o (nat_cmp k e.0) refl (inserted files k n o)

  some_by : (b : Bool) (o : X) (x : Option X) → IsSome x → IsSome (cond b (Some o) x)
  some_by true o x s = refl
  some_by false o x s = s

  -- one more leaves the others there, and is there itself
  pub more_stays : (files : List (ℕ × X)) (k n : ℕ) (o : X) → IsSome (lookup (is_at (nat_cmp n)) files) → IsSome (lookup (is_at (nat_cmp n)) (insert_entry nat_cmp files k o))
  more_stays files k n o s = subst IsSome (sym (inserted files k n o)) (some_by (nat_eq n k) o (at files n) s)

  pub more_stands : (files : List (ℕ × X)) (k : ℕ) (o : X) → IsSome (lookup (is_at (nat_cmp k)) (insert_entry nat_cmp files k o))
  more_stands files k o =
      let on : nat_eq k k ≡ true = grind (arith, nat_tests) in
      let here : at (insert_entry nat_cmp files k o) k ≡ Some o = inserted files k k o ∙ rw on refl in
      subst IsSome (sym here) refl

pub file_inserted : (files : Files) (k n : ℕ) (o : MeasuredFile) → file_at (insert_entry nat_cmp files k o) n ≡ cond (nat_eq n k) (Some o) (file_at files n)
file_inserted files k n o = inserted files k n o

-- ---- how files were opened

-- an opened file is the host's of this number, by the digest of one that is only read
pub record WasMade (heard : Exchanges) (g : NamedFile) (f : MeasuredFile) : Type 0 where
  pub number : f.file ≡ g.number
  pub digest : g.digest ≡ Some f.digest
  pub opened : WasOpened g.number f.digest heard f
  pub readable : IsReadable f

-- one after another
abbrev pub AreMade : Exchanges → List NamedFile → List MeasuredFile → Type 0
AreMade heard [] [] = Unit {0}
AreMade heard [] (o ∷ opened) = ⊥
AreMade heard (g ∷ files) [] = ⊥
AreMade heard (g ∷ files) (o ∷ opened) = WasMade heard g o × AreMade heard files opened

-- a file stands at a number: it was opened as the plan's first file of this number
pub record IsFound (heard : Exchanges) (files : List NamedFile) (n : ℕ) (f : MeasuredFile) : Type 0 where
  pub file : NamedFile
  pub among : digest_among files n ≡ file.digest
  pub number : file.number ≡ n
  pub made : WasMade heard file f

none_among : (g : NamedFile) (files : List NamedFile) → AllByRecursion (Differs g) files → digest_among files g.number ≡ None
none_among g [] all = refl
none_among g (h ∷ files) all = rw all.0.number (none_among g files all.1)

other_found : (heard : Exchanges) (g : NamedFile) (files : List NamedFile) (n : ℕ) (f : MeasuredFile) (b : Bool) → (g.number == n) ≡ b → AllByRecursion (Differs g) files → IsFound heard files n f → IsFound heard (g ∷ files) n f
other_found heard g files n f true e all w =
    let same : g.number ≡ n = eq_of g.number n e in
    let none : digest_among files n ≡ None = subst (λ (k : ℕ). digest_among files k ≡ None) same (none_among g files all) in
    let some : digest_among files n ≡ Some f.digest = w.among ∙ w.made.digest in
    absurd cc
other_found heard g files n f false e all w = record { file = w.file; among = rw e w.among; number = w.number; made = w.made }

at_head : (heard : Exchanges) (acc : Files) (g : NamedFile) (files : List NamedFile) (o f : MeasuredFile) (n : ℕ) (b : Bool) → nat_eq n g.number ≡ b → WasMade heard g o
    → cond b (Some o) (file_at acc n) ≡ Some f → IsFound heard (g ∷ files) n f ⊎ (file_at acc n ≡ Some f)
at_head heard acc g files o f n true e made is =
    let same : o ≡ f = cc in
    let number : g.number ≡ n = sym (eq_of n g.number e) in
    let on : (g.number == n) ≡ true = grind (arith, nat_tests, number) in
    inl (record { file = g; among = rw on refl; number = number; made = subst (WasMade heard g) same made })
at_head heard acc g files o f n false e made is = inr is

pub found : (heard : Exchanges) (acc : Files) (files : List NamedFile) (opened : List MeasuredFile) (n : ℕ) (f : MeasuredFile) → AreMade heard files opened → AreDifferent files
    → file_at (all_standing acc files opened) n ≡ Some f → IsFound heard files n f ⊎ (file_at acc n ≡ Some f)
found heard acc [] opened n f made d is = inr is
found heard acc (g ∷ files) [] n f made d is = absurd made
found heard acc (g ∷ files) (o ∷ opened) n f made d is = elim (found heard (insert_entry nat_cmp acc g.number o) files opened n f made.1 d.1 is) [
  | inl later ↦ inl (other_found heard g files n f (g.number == n) refl d.0 later)
  | inr here ↦ at_head heard acc g files o f n (nat_eq n g.number) refl made.0 (sym (file_inserted acc g.number n o) ∙ here)
]

-- ---- each named file stands

stays : (acc : Files) (files : List NamedFile) (opened : List MeasuredFile) (n : ℕ) → IsSome (file_at acc n) → IsSome (file_at (all_standing acc files opened) n)
stays acc [] opened n s = s
stays acc (g ∷ files) [] n s = s
stays acc (g ∷ files) (o ∷ opened) n s = stays (insert_entry nat_cmp acc g.number o) files opened n (more_stays acc g.number n o s)

pub stands : (acc : Files) (files : List NamedFile) (opened : List MeasuredFile) (k : ℕ) (g : NamedFile) → length opened ≡ length files → slice_get files k ≡ Some g
    → IsSome (file_at (all_standing acc files opened) g.number)
stands acc [] opened k g len at = absurd cc
stands acc (h ∷ files) [] k g len at = absurd (omega arith)
stands acc (h ∷ files) (o ∷ opened) zero g len at =
    let same : h ≡ g = cc in
    subst (λ (x : NamedFile). IsSome (file_at (all_standing (insert_entry nat_cmp acc h.number o) files opened) x.number)) same
    (stays (insert_entry nat_cmp acc h.number o) files opened h.number (more_stands acc h.number o))
stands acc (h ∷ files) (o ∷ opened) (suc k) g len at = stands (insert_entry nat_cmp acc h.number o) files opened k g (omega arith) at

-- ---- one file more

pub standing_push : (acc : Files) (files : List NamedFile) (opened : List MeasuredFile) (f : NamedFile)
    → stood_at (all_standing acc files opened) f.number (slice_get opened (length files)) ≡ all_standing acc (files ++ f ∷ []) opened
standing_push acc [] [] f = refl
standing_push acc [] (o ∷ opened) f = refl
standing_push acc (g ∷ files) [] f = refl
standing_push acc (g ∷ files) (o ∷ opened) f = standing_push (insert_entry nat_cmp acc g.number o) files opened f

-- ---- the files that are written

empty_stays : (acc : Writables) (number n : ℕ) (o : Option Digest) → IsSome (writable_at acc n) → IsSome (writable_at (emptied_by acc number o) n)
empty_stays acc number n None s = more_stays acc number n (empty_file number) s
empty_stays acc number n (Some digest) s = s

empties_stay : (acc : Writables) (files : List NamedFile) (n : ℕ) → IsSome (writable_at acc n) → IsSome (writable_at (all_emptied acc files) n)
empties_stay acc [] n s = s
empties_stay acc (g ∷ files) n s = empties_stay (emptied_by acc g.number g.digest) files n (empty_stays acc g.number n g.digest s)

empty_stands : (acc : Writables) (number : ℕ) (o : Option Digest) → o ≡ None → IsSome (writable_at (emptied_by acc number o) number)
empty_stands acc number None e = more_stands acc number (empty_file number)
empty_stands acc number (Some digest) e = absurd cc

-- each named file that is written stands
pub empties_stand : (acc : Writables) (files : List NamedFile) (k : ℕ) (g : NamedFile) → slice_get files k ≡ Some g → g.digest ≡ None → IsSome (writable_at (all_emptied acc files) g.number)
empties_stand acc [] k g at none = absurd cc
empties_stand acc (h ∷ files) zero g at none =
    let same : h ≡ g = cc in
    let empty : h.digest ≡ None = ap (λ (x : NamedFile). x.digest) same ∙ none in
    subst (λ (x : NamedFile). IsSome (writable_at (all_emptied (emptied_by acc h.number h.digest) files) x.number)) same
    (empties_stay (emptied_by acc h.number h.digest) files h.number (empty_stands acc h.number h.digest empty))
empties_stand acc (h ∷ files) (suc k) g at none = empties_stand (emptied_by acc h.number h.digest) files k g at none

one_emptied : (acc : Writables) (number n : ℕ) (o : Option Digest) (f : WritableFile) → writable_at (emptied_by acc number o) n ≡ Some f → (f ≡ empty_file n) ⊎ (writable_at acc n ≡ Some f)
one_emptied acc number n (Some digest) f is = inr is
one_emptied acc number n None f is = by (nat_eq n number) refl (sym (inserted acc number n (empty_file number)) ∙ is) where
  by : (b : Bool) → nat_eq n number ≡ b → cond b (Some (empty_file number)) (writable_at acc n) ≡ Some f → (f ≡ empty_file n) ⊎ (writable_at acc n ≡ Some f)
  by true e here = let same : empty_file number ≡ f = cc in inl (sym same ∙ ap empty_file (sym (eq_of n number e)))
  by false e here = inr here

-- each file that stands is empty, at its number
pub all_empty : (acc : Writables) (files : List NamedFile) (n : ℕ) (f : WritableFile) → writable_at (all_emptied acc files) n ≡ Some f → (f ≡ empty_file n) ⊎ (writable_at acc n ≡ Some f)
all_empty acc [] n f is = inr is
all_empty acc (g ∷ files) n f is = elim (all_empty (emptied_by acc g.number g.digest) files n f is) [
  | inl empty ↦ inl empty
  | inr here ↦ one_emptied acc g.number n g.digest f here
]

-- ---- those that are only read

all_read : (P : NamedFile → Type 0) (g : NamedFile) (o : Option Digest) (files : List NamedFile) → P g → AllByRecursion P files → AllByRecursion P (read_if g o files)
all_read P g None files one all = all
all_read P g (Some digest) files one all = (one, all)

all_only : (P : NamedFile → Type 0) (files : List NamedFile) → AllByRecursion P files → AllByRecursion P (read_only files)
all_only P [] all = tt
all_only P (g ∷ files) all = all_read P g g.digest (read_only files) all.0 (all_only P files all.1)

read_differ : (g : NamedFile) (o : Option Digest) (files : List NamedFile) → AllByRecursion (Differs g) files → AreDifferent files → AreDifferent (read_if g o files)
read_differ g None files all d = d
read_differ g (Some digest) files all d = (all, d)

pub only_differ : (files : List NamedFile) → AreDifferent files → AreDifferent (read_only files)
only_differ [] d = tt
only_differ (g ∷ files) d = read_differ g g.digest (read_only files) (all_only (Differs g) files d.0) (only_differ files d.1)

place_read : (h : NamedFile) (o : Option Digest) (files : List NamedFile) (g : NamedFile) (j : ℕ) → slice_get files j ≡ Some g → (k : ℕ) × (slice_get (read_if h o files) k ≡ Some g)
place_read h None files g j at = (j, at)
place_read h (Some digest) files g j at = (suc j, at)

first_read : (h g : NamedFile) (o : Option Digest) (digest : Digest) (files : List NamedFile) → o ≡ Some digest → h ≡ g → (k : ℕ) × (slice_get (read_if h o files) k ≡ Some g)
first_read h g None digest files e same = absurd cc
first_read h g (Some d) digest files e same = (0, ap (λ (x : NamedFile). Some x) same)

-- each of them has a place among them
pub place_only : (files : List NamedFile) (k : ℕ) (g : NamedFile) (digest : Digest) → slice_get files k ≡ Some g → g.digest ≡ Some digest → (j : ℕ) × (slice_get (read_only files) j ≡ Some g)
place_only [] k g digest at e = absurd cc
place_only (h ∷ files) zero g digest at e =
    let same : h ≡ g = cc in
    first_read h g h.digest digest (read_only files) (ap (λ (x : NamedFile). x.digest) same ∙ e) same
place_only (h ∷ files) (suc k) g digest at e = let w = place_only files k g digest at e in place_read h h.digest (read_only files) g w.0 w.1
