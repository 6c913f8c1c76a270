-- Lines of a store list that are carried out one after another.
use Rattle.std.proofs.Common.{◌≡◌, ℕ, suc, ◌+◌, ◌<◌, List, [], ◌∷◌, ◌++◌, length, refl, ap, sym, subst, ◌∙◌, append_assoc, append-nil, Bool, true, false, ◌||◌, if◌then◌else◌, nat_eq, ◌==◌, Option, Some, None, Result, Ok, Err, arith}
use Rattle.std.specs.List.{list_any}
use Rattle.host_traits.specs.Folders.{Files}
use Rattle.host_traits.specs.Held.{Held}
use Rattle.text_lines.proofs.Lists.{Apart, apart_at, collected}
use Rattle.guest_plan.specs.declared.store.StoreLine.{StoreLine}
use Rattle.guest_plan.specs.declared.store.StoreLine.TheVariants as stored
use Rattle.guest_plan.specs.Plans.{same_file}
use Rattle.guest_plan.specs.Stores.{IsStore, store_clash, disk_in, node_in}
use Rattle.guest_files.specs.Files.{IsLoaded, AreLoaded}
use Rattle.guest_files.specs.Stocking.{Stock, Adds, Stocked, IsFree, unstocked}

pub loaded_then : (files : Option Files) (names : List (List ℕ)) (name : List ℕ) (a b c : ℕ) (contents : List (List ℕ)) (bytes : List ℕ) → AreLoaded files names a b contents → IsLoaded files name b c bytes
    → AreLoaded files (names ++ name ∷ []) a c (contents ++ bytes ∷ [])
loaded_then files [] name a b c contents bytes d l =
    (bytes, c, [], subst (λ (z : ℕ). IsLoaded files name z c bytes) d.0 l, (refl, refl), ap (λ (z : List (List ℕ)). z ++ bytes ∷ []) d.1)
loaded_then files (n ∷ ns) name a b c contents bytes d l =
    (d.0, d.1, d.2 ++ bytes ∷ [], d.3, loaded_then files ns name d.1 b c d.2 bytes d.4 l, ap (λ (z : List (List ℕ)). z ++ bytes ∷ []) d.5)

pub stocked_then : (files : Option Files) (front : List StoreLine) (line : StoreLine) (a b c : Stock) → Stocked files front a b → Adds files line b c → Stocked files (front ++ line ∷ []) a c
stocked_then files [] line a b c d l = (c, subst (λ (z : Stock). Adds files line z c) d l, refl)
stocked_then files (x ∷ front) line a b c d l = (d.0, d.1, stocked_then files front line d.0 b c d.2 l)

other : (n m : ℕ) → (n == m) ≡ false → nat_eq m n ≡ false
other n m e = grind arith

-- ---- what a line adds leaves other numbers as they were

both_false : (a b : Bool) → (a || b) ≡ false → (a ≡ false) × (b ≡ false)
both_false true b e = absurd cc
both_false false b e = (refl, e)

disk_kept : (files : Option Files) (x : StoreLine) (a b : Stock) (n : ℕ) → Adds files x a b → same_file (Some n) (disk_in x) ≡ false → a.held.disk n ≡ None → b.held.disk n ≡ None
disk_kept files (stored.Disk m file) a b n d e none = rw (d.held, other n m e) none
disk_kept files (stored.Composite m file) a b n d e none = rw (d.held, other n m e) none
disk_kept files (stored.Verity m file salt) a b n d e none = rw d.held none
disk_kept files (stored.Empty m) a b n d e none = rw d none
disk_kept files (stored.Dir m) a b n d e none = rw d none
disk_kept files (stored.KeepDisk m file) a b n d e none = rw d none
disk_kept files (stored.KeepFile m file) a b n d e none = rw d none

file_kept : (files : Option Files) (x : StoreLine) (a b : Stock) (n : ℕ) → Adds files x a b → same_file (Some n) (node_in x) ≡ false → a.held.file n ≡ None → b.held.file n ≡ None
file_kept files (stored.Disk m file) a b n d e none = rw d.held none
file_kept files (stored.Composite m file) a b n d e none = rw d.held none
file_kept files (stored.Verity m file salt) a b n d e none = rw (d.held, other n m e) none
file_kept files (stored.Empty m) a b n d e none = rw (d, other n m e) none
file_kept files (stored.Dir m) a b n d e none = rw d none
file_kept files (stored.KeepDisk m file) a b n d e none = rw d none
file_kept files (stored.KeepFile m file) a b n d e none = rw d none

dir_kept : (files : Option Files) (x : StoreLine) (a b : Stock) (n : ℕ) → Adds files x a b → same_file (Some n) (node_in x) ≡ false → a.held.dir n ≡ None → b.held.dir n ≡ None
dir_kept files (stored.Disk m file) a b n d e none = rw d.held none
dir_kept files (stored.Composite m file) a b n d e none = rw d.held none
dir_kept files (stored.Verity m file salt) a b n d e none = rw d.held none
dir_kept files (stored.Empty m) a b n d e none = rw d none
dir_kept files (stored.Dir m) a b n d e none = rw (d, other n m e) none
dir_kept files (stored.KeepDisk m file) a b n d e none = rw d none
dir_kept files (stored.KeepFile m file) a b n d e none = rw d none

disks_kept : (files : Option Files) (line : StoreLine) (n : ℕ) → disk_in line ≡ Some n → (front : List StoreLine) (a b : Stock) → list_any (store_clash line) front ≡ false → Stocked files front a b → a.held.disk n ≡ None → b.held.disk n ≡ None
disks_kept files line n is [] a b clear d none = subst (λ (z : Stock). z.held.disk n ≡ None) (sym d) none
disks_kept files line n is (x ∷ front) a b clear d none =
    let both = both_false (store_clash line x) _ clear in
    let apart : same_file (Some n) (disk_in x) ≡ false = subst (λ (z : Option ℕ). same_file z (disk_in x) ≡ false) is (both_false (same_file (disk_in line) (disk_in x)) _ both.0).0 in
    disks_kept files line n is front d.0 b both.1 d.2 (disk_kept files x a d.0 n d.1 apart none)

nodes_kept : (files : Option Files) (line : StoreLine) (n : ℕ) → node_in line ≡ Some n → (front : List StoreLine) (a b : Stock) → list_any (store_clash line) front ≡ false → Stocked files front a b
    → (a.held.file n ≡ None) × (a.held.dir n ≡ None) → (b.held.file n ≡ None) × (b.held.dir n ≡ None)
nodes_kept files line n is [] a b clear d none = subst (λ (z : Stock). (z.held.file n ≡ None) × (z.held.dir n ≡ None)) (sym d) none
nodes_kept files line n is (x ∷ front) a b clear d none =
    let both = both_false (store_clash line x) _ clear in
    let apart : same_file (Some n) (node_in x) ≡ false = subst (λ (z : Option ℕ). same_file z (node_in x) ≡ false) is (both_false (same_file (disk_in line) (disk_in x)) _ both.0).1 in
    nodes_kept files line n is front d.0 b both.1 d.2 (file_kept files x a d.0 n d.1 apart none.0, dir_kept files x a d.0 n d.1 apart none.1)

free_by : (files : Option Files) (line : StoreLine) (front : List StoreLine) (loaded : ℕ) (b : Stock) → list_any (store_clash line) front ≡ false → Stocked files front (unstocked loaded) b → IsFree line b.held
free_by files (stored.Disk n file) front loaded b clear d = disks_kept files (stored.Disk n file) n refl front (unstocked loaded) b clear d refl
free_by files (stored.Composite n file) front loaded b clear d = disks_kept files (stored.Composite n file) n refl front (unstocked loaded) b clear d refl
free_by files (stored.Verity n file salt) front loaded b clear d = nodes_kept files (stored.Verity n file salt) n refl front (unstocked loaded) b clear d (refl, refl)
free_by files (stored.Empty n) front loaded b clear d = nodes_kept files (stored.Empty n) n refl front (unstocked loaded) b clear d (refl, refl)
free_by files (stored.Dir n) front loaded b clear d = nodes_kept files (stored.Dir n) n refl front (unstocked loaded) b clear d (refl, refl)
free_by files (stored.KeepDisk n file) front loaded b clear d = tt
free_by files (stored.KeepFile n file) front loaded b clear d = tt

-- the number of the next line of a store list is free
pub free_next : (files : Option Files) (text : List ℕ) (lines front : List StoreLine) (line : StoreLine) (rest : List StoreLine) (loaded : ℕ) (b : Stock) → IsStore text lines → lines ≡ front ++ line ∷ rest
    → Stocked files front (unstocked loaded) b → IsFree line b.held
free_next files text lines front line rest loaded b list cut d =
    let all = collected store_clash list.items.items 2 [] lines list.items.says in
    free_by files line front loaded b (apart_at store_clash [] front line rest (subst (λ (z : List StoreLine). Apart store_clash [] z) (sym all.0 ∙ cut) all.1)) d
