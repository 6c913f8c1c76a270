-- The piece that a call is made for.
use Rattle.std.proofs.Common.{◌≡◌, ℕ, ◌+◌, ◌-◌, ◌*◌, ◌/◌, ◌%◌, ◌<◌, ◌≤◌, ◌∙◌, ◌^◌, List, length, take, drop, min, refl, ap, arith, append-nil, length-take, length-drop}
use Rattle.std.specs.Prelude.{Bool, true, false, ◌==◌, if◌then◌else◌, slice_range}
use Rattle.std.proofs.lemmas.Bool.Decides.{nat_tests}
use Rattle.host_traits.specs.declared.calls.Call.TheVariants.{BlockRead, FileRead, TreeRead}
use Rattle.host_traits.specs.declared.calls.Said.TheVariants.{Bytes}
use Rattle.host_traits.specs.Told.{kind_of, kind_bytes}
use Rattle.sha_tree.specs.Tree.{padded, pages_at, block_count}
use Rattle.sha_tree.proofs.Levels.{pages_at-zero, pages_at-low}
use Rattle.verity_path.specs.declared.walk.Layout.{Layout}
use Rattle.verity_path.specs.declared.walk.Layout.TheVariants.{File, Parts}
use Rattle.verity_path.specs.Calls.{call_for, piece_for, asked_for, tree_byte}
use Rattle.verity_path.specs.Pieces.{IsPieceOf}
use Rattle.verity_path.specs.Steps.{IsPlaced}

-- the sectors that are asked for hold the page
page_inside : (k n : ℕ) → k < 512 → 512 * (if k == 0 then 8 else 9) ≤ n → k + 4096 ≤ n
page_inside k n small = elim (k == 0) as (λ v. (k == 0) ≡ v → 512 * (if v then 8 else 9) ≤ n → k + 4096 ≤ n)
    [ true ↦ λ e h. grind (arith, nat_tests) | false ↦ λ e h. omega arith ] refl

-- a call for a page asks for so many bytes
pub kind_asked : (layout : Layout) (count level i : ℕ) → kind_of (call_for layout count level i) ≡ kind_bytes (asked_for layout count level i)
kind_asked (File file size) count level i =
    elim (level == 0) as (λ v. kind_of (if v then FileRead file (4096 * i) (min (size - 4096 * i) 4096) else TreeRead file level i) ≡ kind_bytes (if v then min (size - 4096 * i) 4096 else 4096))
    [ true ↦ refl | false ↦ refl ]
kind_asked (Parts disk first tree) count level i =
    let at : ℕ = tree_byte tree count level i in
    elim (level == 0) as (λ v. kind_of (if v then BlockRead disk (first + 8 * i) 8 else BlockRead disk (at / 512) (if at % 512 == 0 then 8 else 9)) ≡ kind_bytes (if v then 4096 else 512 * (if at % 512 == 0 then 8 else 9)))
    [ true ↦ refl | false ↦ refl ]

-- the page is a piece of an answer that is long enough
pub piece_holds : (layout : Layout) (count level i : ℕ) (bytes : List ℕ) → asked_for layout count level i ≤ length bytes →
    IsPieceOf (call_for layout count level i) (Bytes bytes) (piece_for layout count level i bytes)
piece_holds (File file size) count level i bytes = λ h.
    elim (level == 0) as (λ v. IsPieceOf (if v then FileRead file (4096 * i) (min (size - 4096 * i) 4096) else TreeRead file level i) (Bytes bytes) (padded bytes))
    [ true ↦ refl | false ↦ refl ]
piece_holds (Parts disk first tree) count level i bytes =
    let at : ℕ = tree_byte tree count level i in
    elim (level == 0) as (λ v. (if v then 4096 else 512 * (if at % 512 == 0 then 8 else 9)) ≤ length bytes →
    IsPieceOf (if v then BlockRead disk (first + 8 * i) 8 else BlockRead disk (at / 512) (if at % 512 == 0 then 8 else 9)) (Bytes bytes) (take 4096 (drop (if v then 0 else at % 512) bytes)))
    [ true ↦ λ h. (0, omega arith, refl) | false ↦ λ h. (at % 512, page_inside (at % 512) (length bytes) (omega arith) h, refl) ]

-- a whole page needs no zeros
pub padded-whole : (bytes : List ℕ) (at : ℕ) → at + 4096 ≤ length bytes → padded (slice_range bytes at (at + 4096)) ≡ take 4096 (drop at bytes)
padded-whole bytes at h =
    let few : at + 4096 - at ≡ 4096 = omega arith in
    let full : length (take 4096 (drop at bytes)) ≡ 4096 = omega (arith, length-take 4096 (drop at bytes), length-drop at bytes) in
    rw (few, full) (append-nil (take 4096 (drop at bytes)))

-- where the page stands in sectors
asked_is : (v : Bool) (at from asked : ℕ) → from ≡ (if v then 0 else at) → asked ≡ (if from == 0 then 4096 else 4608) → asked ≡ (if v then 4096 else 512 * (if at == 0 then 8 else 9))
asked_is true at from asked e is = rw e at is
asked_is false at from asked e is =
    let there : asked ≡ (if at == 0 then 4096 else 4608) = rw e at is in
    there ∙ elim (at == 0) as (λ v. (if v then 4096 else 4608) ≡ 512 * (if v then 8 else 9)) [ true ↦ refl | false ↦ refl ]

offset_small : (v : Bool) (at from : ℕ) → from ≡ (if v then 0 else at % 512) → from < 512
offset_small true at from e = omega arith
offset_small false at from e = omega arith

asked_room : (from asked : ℕ) → from < 512 → asked ≡ (if from == 0 then 4096 else 4608) → from + 4096 ≤ asked
asked_room from asked small = elim (from == 0) as (λ v. (from == 0) ≡ v → asked ≡ (if v then 4096 else 4608) → from + 4096 ≤ asked)
    [ true ↦ λ e h. grind (arith, nat_tests) | false ↦ λ e h. omega arith ] refl

pub parts_placed : (disk first tree count level i from asked : ℕ) → from ≡ (if level == 0 then 0 else tree_byte tree count level i % 512) → asked ≡ (if from == 0 then 4096 else 4608) →
    IsPlaced (Parts disk first tree) count level i (record { asked = asked; from = from; len = 4096 })
parts_placed disk first tree count level i from asked e is =
    let small = offset_small (level == 0) (tree_byte tree count level i) from e in
    let room = asked_room from asked small is in
    record {
      asked = asked_is (level == 0) (tree_byte tree count level i % 512) from asked e is;
      fits = room;
      few = omega arith;
      is = λ bytes len. padded-whole bytes from (omega arith) ∙ ap (λ (k : ℕ). take 4096 (drop k bytes)) e;
    }

pub in_file : (size count level index : ℕ) → block_count size ≡ count → index < pages_at count level → level ≡ 0 → 4096 * index < size
in_file size count level index suits within z =
    let blocks : pages_at count level ≡ count = ap (pages_at count) z ∙ pages_at-zero count in
    omega arith

pub in_parts : (first count level index : ℕ) → first + 8 * count < 2 ^ 64 → index < pages_at count level → first + 8 * index < 2 ^ 64
in_parts first count level index suits within = omega (arith, pages_at-low count level)
