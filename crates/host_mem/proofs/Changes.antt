-- What each call does to what is held.
use Rattle.std.proofs.Common.{cond, not, ◌||◌, Bool, true, false, ◌≡◌, ℕ, ◌+◌, ◌*◌, ◌/◌, List, [], length, take, drop, refl, ap, sym, ◌∙◌, subst, arith, Option, Some, None}
use Rattle.std.specs.Prelude.{nat_eq, nat_le}
use Rattle.std.proofs.lemmas.Bool.Decides.{nat_tests}
use Rattle.std.specs.Ordering.{nat_cmp}
use Rattle.std.specs.BTreeMap.{is_at}
use Rattle.std.specs.Map.{update}
use mathlib.Core.Path.{fun_ext}
use Rattle.host_traits.specs.declared.calls.Call.TheVariants.{BlockSize, BlockRead, BlockWrite, BlockSync, FileRead, TreeRead, Descriptor, FileWrite, TreeWrite, Resize, Create, Mkdir, Delete}
use Rattle.host_traits.specs.declared.calls.Said.TheVariants.{Number, Bytes, Done}
use Rattle.host_traits.specs.Held.{File, Disk, serve, over, resized, tree_with, with_file, with_dir, name_with, is_there, is_free, all_writable}
use Rattle.std.specs.Option.{option_map}
use Rattle.host_mem.specs.Made.{with_disk}
use Rattle.mem_files.specs.Files.{Entries, FileData, NameList, at, file_of, has_name, page_in, blank_file, Puts}
use Rattle.host_mem.specs.Mem.{DiskData, disk_of, names_have, held_of, covers, may_make, Named}

at_eq : (k q : ℕ) → is_at (nat_cmp k) q ≡ nat_eq k q
at_eq k q = grind (arith, nat_tests)

mapped_update : {A B : Type 0} (f : A → B) (old new : List (ℕ × A)) (k : ℕ) (a : A) → ((q : ℕ) → at new q ≡ cond (is_at (nat_cmp k) q) (Some a) (at old q))
    → (q : ℕ) → option_map f (at new q) ≡ update nat_eq (λ n. option_map f (at old n)) k (Some (f a)) q
mapped_update f old new k a is q = rw (is q, at_eq k q) (by_test (nat_eq k q)) where
  by_test : (b : Bool) → option_map f (cond b (Some a) (at old q)) ≡ cond b (Some (f a)) (option_map f (at old q))
  by_test true = refl
  by_test false = refl

-- files that are changed at one number
pub file_put : (disks : Entries DiskData) (old new : Entries FileData) (dirs : Entries NameList) (k : ℕ) (f : FileData) → ((q : ℕ) → at new q ≡ cond (is_at (nat_cmp k) q) (Some f) (at old q))
    → held_of disks new dirs ≡ with_file (held_of disks old dirs) k (file_of f)
file_put disks old new dirs k f is = ap (λ (file : ℕ → Option File). record (held_of disks old dirs) { file = file }) (fun_ext (mapped_update file_of old new k f is))

-- a number that names no file
pub no_file : (disks : Entries DiskData) (files : Entries FileData) (dirs : Entries NameList) (k a b : ℕ) (given : List ℕ) → at files k ≡ None
    → (serve (held_of disks files dirs) (FileRead k a b) given ≡ None) × (serve (held_of disks files dirs) (TreeRead k a b) given ≡ None) × (serve (held_of disks files dirs) (Descriptor k) given ≡ None)
    × (serve (held_of disks files dirs) (FileWrite k a b) given ≡ None) × (serve (held_of disks files dirs) (TreeWrite k a b) given ≡ None) × (serve (held_of disks files dirs) (Resize k a) given ≡ None)
unfolding serve
no_file disks files dirs k a b given none = rw none (refl, refl, refl, refl, refl, refl)

pub reads_file : (disks : Entries DiskData) (files : Entries FileData) (dirs : Entries NameList) (k a w : ℕ) (f : FileData) → at files k ≡ Some f
    → serve (held_of disks files dirs) (FileRead k a w) [] ≡ Some (Bytes (take w (drop a f.bytes)), held_of disks files dirs)
unfolding serve
reads_file disks files dirs k a w f is = rw is refl

pub reads_tree : (disks : Entries DiskData) (files : Entries FileData) (dirs : Entries NameList) (k level index : ℕ) (f : FileData) → at files k ≡ Some f
    → serve (held_of disks files dirs) (TreeRead k level index) [] ≡ Some (Bytes (take 4096 (page_in f.pages level index)), held_of disks files dirs)
unfolding serve
reads_tree disks files dirs k level index f is = rw is refl

pub reads_descriptor : (disks : Entries DiskData) (files : Entries FileData) (dirs : Entries NameList) (k : ℕ) (f : FileData) → at files k ≡ Some f
    → serve (held_of disks files dirs) (Descriptor k) [] ≡ Some (Bytes (take 256 f.descriptor), held_of disks files dirs)
unfolding serve
reads_descriptor disks files dirs k f is = rw is refl

pub writes_file : (disks : Entries DiskData) (old new : Entries FileData) (dirs : Entries NameList) (k a n : ℕ) (bytes : List ℕ) (f : FileData) → at old k ≡ Some f → Puts old new k (record f { bytes = over f.bytes a bytes })
    → serve (held_of disks old dirs) (FileWrite k a n) bytes ≡ Some (Done, held_of disks new dirs)
unfolding serve
writes_file disks old new dirs k a n bytes f there is = rw (there, file_put disks old new dirs k _ is) refl

pub resizes_file : (disks : Entries DiskData) (old new : Entries FileData) (dirs : Entries NameList) (k size : ℕ) (f : FileData) → at old k ≡ Some f → Puts old new k (record f { bytes = resized f.bytes size })
    → serve (held_of disks old dirs) (Resize k size) [] ≡ Some (Done, held_of disks new dirs)
unfolding serve
resizes_file disks old new dirs k size f there is = rw (there, file_put disks old new dirs k _ is) refl

-- a file whose tree is another's with one page replaced
abbrev pub HasPage : FileData → FileData → ℕ → ℕ → List ℕ → Type 0
HasPage f g level index page = (l i : ℕ) → page_in g.pages l i ≡ tree_with (page_in f.pages) level index page l i

file_with : (f g : FileData) (level index : ℕ) (page : List ℕ) → g.bytes ≡ f.bytes → g.descriptor ≡ f.descriptor → HasPage f g level index page
    → file_of g ≡ record (file_of f) { tree = tree_with (page_in f.pages) level index page }
file_with f g level index page bytes descriptor tree =
    let trees : page_in g.pages ≡ tree_with (page_in f.pages) level index page = fun_ext (λ l. fun_ext (λ i. tree l i)) in
    rw (bytes, descriptor, trees) refl

pub writes_tree : (disks : Entries DiskData) (old new : Entries FileData) (dirs : Entries NameList) (k level index : ℕ) (page : List ℕ) (f g : FileData) → at old k ≡ Some f
    → g.bytes ≡ f.bytes → g.descriptor ≡ f.descriptor → HasPage f g level index page → Puts old new k g
    → serve (held_of disks old dirs) (TreeWrite k level index) page ≡ Some (Done, held_of disks new dirs)
unfolding serve
writes_tree disks old new dirs k level index page f g there bytes descriptor tree is =
    rw (there, file_put disks old new dirs k g is, file_with f g level index page bytes descriptor tree) refl

-- a number that names no disk
pub no_disk : (disks : Entries DiskData) (files : Entries FileData) (dirs : Entries NameList) (k a b : ℕ) (given : List ℕ) → at disks k ≡ None
    → (serve (held_of disks files dirs) (BlockSize k) given ≡ None) × (serve (held_of disks files dirs) (BlockRead k a b) given ≡ None) × (serve (held_of disks files dirs) (BlockSync k) given ≡ None)
unfolding serve
no_disk disks files dirs k a b given none = rw none (refl, refl, refl)

pub sizes_disk : (disks : Entries DiskData) (files : Entries FileData) (dirs : Entries NameList) (k : ℕ) (d : DiskData) → at disks k ≡ Some d
    → (serve (held_of disks files dirs) (BlockSize k) [] ≡ Some (Number (length (disk_of d).bytes / 512), held_of disks files dirs)) × (serve (held_of disks files dirs) (BlockSync k) [] ≡ Some (Done, held_of disks files dirs))
unfolding serve
sizes_disk disks files dirs k d is = rw is (refl, refl)

pub reads_disk : (disks : Entries DiskData) (files : Entries FileData) (dirs : Entries NameList) (k sector count : ℕ) (d : DiskData) → at disks k ≡ Some d → nat_le (512 * (sector + count)) (length (disk_of d).bytes) ≡ true
    → serve (held_of disks files dirs) (BlockRead k sector count) [] ≡ Some (Bytes (take (512 * count) (drop (512 * sector) (disk_of d).bytes)), held_of disks files dirs)
unfolding serve
reads_disk disks files dirs k sector count d is inside = rw (is, inside) refl

pub disk_put : (old new : Entries DiskData) (files : Entries FileData) (dirs : Entries NameList) (k : ℕ) (d : DiskData) → Puts old new k d → held_of new files dirs ≡ with_disk (held_of old files dirs) k (disk_of d)
disk_put old new files dirs k d is = ap (λ (disk : ℕ → Option Disk). record (held_of old files dirs) { disk = disk }) (fun_ext (mapped_update disk_of old new k d is))

pub writes_disk : (old new : Entries DiskData) (files : Entries FileData) (dirs : Entries NameList) (k sector count : ℕ) (given : List ℕ) (d e : DiskData) → 512 * (sector + count) ≡ 512 * sector + length given → at old k ≡ Some d → nat_le (512 * (sector + count)) (length (disk_of d).bytes) ≡ true
    → all_writable (disk_of d).writable (512 * sector) (length given) ≡ true → disk_of e ≡ record (disk_of d) { bytes = over (disk_of d).bytes (512 * sector) given } → Puts old new k e
    → serve (held_of old files dirs) (BlockWrite k sector count) given ≡ Some (Done, held_of new files dirs)
unfolding serve
writes_disk old new files dirs k sector count given d e whole there inside may is puts =
    let size : 512 * count ≡ length given = omega (arith, whole) in
    rw (there, inside, size, may, disk_put old new files dirs k e puts, is) refl

-- some byte of the range may not be written
pub shut_disk : (disks : Entries DiskData) (files : Entries FileData) (dirs : Entries NameList) (k sector count : ℕ) (given : List ℕ) (d : DiskData) → 512 * (sector + count) ≡ 512 * sector + length given → at disks k ≡ Some d → nat_le (512 * (sector + count)) (length (disk_of d).bytes) ≡ true
    → all_writable (disk_of d).writable (512 * sector) (length given) ≡ false → serve (held_of disks files dirs) (BlockWrite k sector count) given ≡ None
unfolding serve
shut_disk disks files dirs k sector count given d whole there inside shut =
    let size : 512 * count ≡ length given = omega (arith, whole) in
    rw (there, inside, size, shut) refl

-- the sectors aren't all there
pub past_disk : (disks : Entries DiskData) (files : Entries FileData) (dirs : Entries NameList) (k sector count : ℕ) (d : DiskData) → at disks k ≡ Some d → nat_le (512 * (sector + count)) (length (disk_of d).bytes) ≡ false
    → serve (held_of disks files dirs) (BlockRead k sector count) [] ≡ None
unfolding serve
past_disk disks files dirs k sector count d is past = rw (is, past) refl

unwritten_at : (disks : Entries DiskData) (files : Entries FileData) (dirs : Entries NameList) (o : Option DiskData) (k sector count : ℕ) (given : List ℕ) → at disks k ≡ o → 512 * (sector + count) ≡ 512 * sector + length given → covers o sector count ≡ false
    → serve (held_of disks files dirs) (BlockWrite k sector count) given ≡ None
unfolding serve
unwritten_at disks files dirs None k sector count given is whole past = rw is refl
unwritten_at disks files dirs (Some d) k sector count given is whole past = rw (is, past) refl

pub unwritten : (disks : Entries DiskData) (files : Entries FileData) (dirs : Entries NameList) (k sector count : ℕ) (given : List ℕ) → 512 * (sector + count) ≡ 512 * sector + length given → covers (at disks k) sector count ≡ false
    → serve (held_of disks files dirs) (BlockWrite k sector count) given ≡ None
unwritten disks files dirs k sector count given whole past = unwritten_at disks files dirs (at disks k) k sector count given refl whole past

pub covered : (o : Option DiskData) (d : DiskData) (sector count : ℕ) → o ≡ Some d → covers o sector count ≡ true → nat_le (512 * (sector + count)) (length (disk_of d).bytes) ≡ true
covered o d sector count is has = rw is at has

pub not_covered : (o : Option DiskData) (sector count : ℕ) → o ≡ None → covers o sector count ≡ true → ⊥
not_covered o sector count is has = let e = rw is at has in cc e

-- a name that isn't there
no_name_at : (disks : Entries DiskData) (files : Entries FileData) (dirs : Entries NameList) (o : Option NameList) (k : ℕ) (name : List ℕ) → at dirs k ≡ o → names_have o name ≡ false → serve (held_of disks files dirs) (Delete k) name ≡ None
unfolding serve
no_name_at disks files dirs None k name is no_name = rw is refl
no_name_at disks files dirs (Some names) k name is no_name = rw (is, no_name) refl

pub no_name : (disks : Entries DiskData) (files : Entries FileData) (dirs : Entries NameList) (k : ℕ) (name : List ℕ) → names_have (at dirs k) name ≡ false → serve (held_of disks files dirs) (Delete k) name ≡ None
no_name disks files dirs k name has_not = no_name_at disks files dirs (at dirs k) k name refl has_not

pub named : (o : Option NameList) (names : NameList) (name : List ℕ) → o ≡ Some names → names_have o name ≡ true → has_name names name ≡ true
named o names name is has = rw is at has

pub not_named : (o : Option NameList) (name : List ℕ) → o ≡ None → names_have o name ≡ true → ⊥
not_named o name is has = let e = rw is at has in cc e

pub dir_put : (disks : Entries DiskData) (files : Entries FileData) (old new : Entries NameList) (k : ℕ) (names : NameList) → Puts old new k names → held_of disks files new ≡ with_dir (held_of disks files old) k (has_name names)
dir_put disks files old new k names is = ap (λ (dir : ℕ → Option (List ℕ → Bool)). record (held_of disks files old) { dir = dir }) (fun_ext (mapped_update has_name old new k names is))

pub deletes : (disks : Entries DiskData) (files : Entries FileData) (old new : Entries NameList) (k : ℕ) (name : List ℕ) (names others : NameList) → at old k ≡ Some names → has_name names name ≡ true
    → ((other : List ℕ) → has_name others other ≡ name_with (has_name names) name false other) → Puts old new k others → serve (held_of disks files old) (Delete k) name ≡ Some (Done, held_of disks files new)
unfolding serve
deletes disks files old new k name names others there has is puts =
    let same : has_name others ≡ name_with (has_name names) name false = fun_ext is in
    rw (there, has, dir_put disks files old new k others puts, same) refl

is_there-option_map : {A B : Type 0} (f : A → B) (o : Option A) → is_there (option_map f o) ≡ is_there o
is_there-option_map f None = refl
is_there-option_map f (Some a) = refl

free_is : (disks : Entries DiskData) (files : Entries FileData) (dirs : Entries NameList) (names : NameList) (name : List ℕ) (n : ℕ)
    → is_free (held_of disks files dirs) (has_name names) name n ≡ not (has_name names name || is_there (at files n) || is_there (at dirs n))
free_is disks files dirs names name n = rw (is_there-option_map file_of (at files n), is_there-option_map has_name (at dirs n)) refl

-- a name or a number that is taken, or a directory that isn't there
not_free_at : (disks : Entries DiskData) (files : Entries FileData) (dirs : Entries NameList) (o : Option NameList) (k : ℕ) (name : List ℕ) (n : ℕ) → at dirs k ≡ o → may_make o (is_there (at files n)) (is_there (at dirs n)) name ≡ false
    → (serve (held_of disks files dirs) (Create k n) name ≡ None) × (serve (held_of disks files dirs) (Mkdir k n) name ≡ None)
unfolding serve
not_free_at disks files dirs None k name n is may = rw is (refl, refl)
not_free_at disks files dirs (Some names) k name n is may = rw (is, free_is disks files dirs names name n, may) (refl, refl)

pub not_free : (disks : Entries DiskData) (files : Entries FileData) (dirs : Entries NameList) (k : ℕ) (name : List ℕ) (n : ℕ) → may_make (at dirs k) (is_there (at files n)) (is_there (at dirs n)) name ≡ false
    → (serve (held_of disks files dirs) (Create k n) name ≡ None) × (serve (held_of disks files dirs) (Mkdir k n) name ≡ None)
not_free disks files dirs k name n may = not_free_at disks files dirs (at dirs k) k name n refl may

pub free_in : (o : Option NameList) (names : NameList) (f d : Bool) (name : List ℕ) → o ≡ Some names → may_make o f d name ≡ true → not (has_name names name || f || d) ≡ true
free_in o names f d name is may = rw is at may

pub creates : (disks : Entries DiskData) (old new : Entries FileData) (dirs others : Entries NameList) (k n : ℕ) (name : List ℕ) → Named dirs others k name → may_make (at dirs k) (is_there (at old n)) (is_there (at dirs n)) name ≡ true
    → Puts old new n blank_file → serve (held_of disks old dirs) (Create k n) name ≡ Some (Done, held_of disks new others)
unfolding serve
creates disks old new dirs others k n name added may puts =
    let free = free_in (at dirs k) added.before (is_there (at old n)) (is_there (at dirs n)) name added.there may in
    let names : has_name added.after ≡ name_with (has_name added.before) name true = fun_ext added.added in
    rw (added.there, free_is disks old dirs added.before name n, free, file_put disks old new others n _ puts, dir_put disks old dirs others k added.after added.puts, names) refl

-- of two numbers that differ, at most one is this one
swapped : {A : Type 0} (k n q : ℕ) (x y : A) (z : Option A) → (k ≡ n → ⊥) → cond (nat_eq k q) (Some x) (cond (nat_eq n q) (Some y) z) ≡ cond (nat_eq n q) (Some y) (cond (nat_eq k q) (Some x) z)
swapped k n q x y z differ = by_tests (nat_eq k q) (nat_eq n q) refl refl where
  by_tests : (b c : Bool) → nat_eq k q ≡ b → nat_eq n q ≡ c → cond b (Some x) (cond c (Some y) z) ≡ cond c (Some y) (cond b (Some x) z)
  by_tests true true e f = absurd (differ (grind (arith, nat_tests, e, f)))
  by_tests true false e f = refl
  by_tests false true e f = refl
  by_tests false false e f = refl

one_dir : (dirs : Entries NameList) (k n : ℕ) (names : NameList) → at dirs k ≡ Some names → is_there (at dirs n) ≡ false → k ≡ n → ⊥
one_dir dirs k n names there free same =
    let now : at dirs n ≡ Some names = subst (λ z. at dirs z ≡ Some names) same there in
    let e : true ≡ false = rw now at free in
    cc

last_false : (a b c : Bool) → not (a || b || c) ≡ true → c ≡ false
last_false false false false e = refl
last_false false false true e = absurd (cc)
last_false false true c e = absurd (cc)
last_false true b c e = absurd (cc)

some_is : {A : Type 0} (a b : A) → Some a ≡ Some b → a ≡ b
some_is a b e = ap (or_else a) e where
  or_else : {A : Type 0} → A → Option A → A
  or_else d None = d
  or_else d (Some x) = x

makes_at : (disks : Entries DiskData) (files : Entries FileData) (old mid new : Entries NameList) (o : Option NameList) (k n : ℕ) (name : List ℕ) → at old k ≡ o → Puts old mid n [] → Named mid new k name
    → may_make o (is_there (at files n)) (is_there (at old n)) name ≡ true → serve (held_of disks files old) (Mkdir k n) name ≡ Some (Done, held_of disks files new)
unfolding serve
makes_at disks files old mid new None k n name is puts added may = absurd (cc may)
makes_at disks files old mid new (Some names) k n name is puts added may =
    let differ : k ≡ n → ⊥ = one_dir old k n names is (last_false (has_name names name) (is_there (at files n)) (is_there (at old n)) may) in
    let apart : is_at (nat_cmp n) k ≡ false = grind (arith, nat_tests, differ) in
    let mid_is : at mid k ≡ Some names = puts k ∙ rw apart is in
    let before : added.before ≡ names = some_is added.before names (sym added.there ∙ mid_is) in
    let point : (q : ℕ) → option_map has_name (at new q) ≡ cond (nat_eq n q) (Some (has_name [])) (cond (nat_eq k q) (Some (has_name added.after)) (option_map has_name (at old q))) =
    λ q. mapped_update has_name mid new k added.after added.puts q
    ∙ ap (λ z. cond (nat_eq k q) (Some (has_name added.after)) z) (mapped_update has_name old mid n [] puts q)
    ∙ swapped k n q (has_name added.after) (has_name []) (option_map has_name (at old q)) differ in
    let held : held_of disks files new ≡ with_dir (with_dir (held_of disks files old) k (has_name added.after)) n (has_name []) = ap (λ (dir : ℕ → Option (List ℕ → Bool)). record (held_of disks files old) { dir = dir }) (fun_ext point) in
    let grown : has_name added.after ≡ name_with (has_name added.before) name true = fun_ext added.added in
    let after : has_name added.after ≡ name_with (has_name names) name true = subst (λ z. has_name added.after ≡ name_with (has_name z) name true) before grown in
    rw (is, free_is disks files old names name n, may, held, after) refl

pub makes : (disks : Entries DiskData) (files : Entries FileData) (old mid new : Entries NameList) (k n : ℕ) (name : List ℕ) → Puts old mid n [] → Named mid new k name
    → may_make (at old k) (is_there (at files n)) (is_there (at old n)) name ≡ true → serve (held_of disks files old) (Mkdir k n) name ≡ Some (Done, held_of disks files new)
makes disks files old mid new k n name puts added may = makes_at disks files old mid new (at old k) k n name refl puts added may
