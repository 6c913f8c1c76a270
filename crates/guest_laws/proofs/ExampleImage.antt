-- A host with a disk on which an empty instance image stands, as `mkguest` writes one, and a plan with an instance line that it fits.
-- The disk's first 40 sectors are a variable: any that hold a table with a part `vm` of 8 sectors, as those that `write_gpt` writes.
use Rattle.std.proofs.Common.{◌≡◌, ◌∙◌, ℕ, zero, suc, ◌+◌, ◌*◌, ◌^◌, ◌<◌, ◌≤◌, true, false, List, [], ◌∷◌, ◌++◌, All, length, take, drop, replicate, get_or, Some, None, Ok, refl, ap, sym, subst, inl, lit<, lit≤, arith}
use Rattle.std.specs.Prelude.{codes, if◌then◌else◌}
use Rattle.std.specs.Int.{w16, w32, w64, to_le_bytes}
use Rattle.std.specs.List.{flat_map}
use Rattle.std.specs.Str.{bytes_eq}
use Rattle.std.proofs.lemmas.List.{length-append, length-replicate, take_at, drop_at}
use Rattle.std.proofs.lemmas.List.Elements.{All-append, All-replicate, All-from_recursion}
use Rattle.mg_base.specs.declared.values.Guid.{Guid}
use Rattle.mg_base.specs.declared.values.Span.{Span}
use Rattle.host_traits.specs.Held.{Held}
use Rattle.host_mem.specs.Made.{nothing, with_disk, plain_disk}
use Rattle.gpt.specs.declared.values.Table.{Table}
use Rattle.gpt.specs.Rules.{primary}
use Rattle.gpt.specs.Grammar.{IsCopy}
use Rattle.instance_image.specs.declared.values.Part.{Part}
use Rattle.instance_image.specs.Records.{find_part, header_of, zeros}
use Rattle.instance_image.specs.Opening.{magic, opening}
use Rattle.instance_image.specs.Grammar.{IsImage, AreApart, AreNamed, disk_header, slot_bytes, empty_slots, image_bytes, parts_from, taken}
use Rattle.instance_image.specs.Imaged.{image_of}
use Rattle.instance_image.specs.Staying.{HoldsRecords}
use Rattle.instance_image.proofs.Written.{writes_image}
use Rattle.guest_plan.specs.Plans.{Known}
use Rattle.guest_plan.specs.declared.plan.PlanLine.{PlanLine}
use Rattle.guest_plan.specs.declared.plan.PlanLine.TheVariants as line
use Rattle.guest_boot.specs.Finding.{part_in}
use Rattle.guest_laws.specs.Fitting.{FitsInstance, HoldsInstance, HoldsTable}
use Rattle.guest_laws.proofs.Lines.{same_line}

-- ---- the image: one partition of 4 sectors, and 2 sectors of zeros behind it

abbrev parts : List (Guid × ℕ)
parts = (record { 0 = replicate 16 5 }, 4) ∷ []

abbrev salt : List ℕ
salt = replicate 64 7

abbrev image : List ℕ
image = image_bytes salt parts ++ zeros (512 * 2)

sectors_are : 1 + taken parts + 2 ≡ 8
unfolding taken
sectors_are = refl

few_taken : 1 + taken parts ≤ 2 ^ 21
unfolding taken
few_taken = lit≤ tt

are_named : AreNamed parts
are_named = ((λ e. absurd (omega (arith, ap (λ (xs : List ℕ). get_or xs 0 0) e))), tt)

are_apart : AreApart (empty_slots parts)
unfolding empty_slots
are_apart = (tt, tt)

is_image : IsImage 8 salt (empty_slots parts) image
is_image = subst (λ (n : ℕ). IsImage n salt (empty_slots parts) image) sectors_are (writes_image salt parts 2 refl (refl, tt) are_named are_apart (lit≤ tt) few_taken)

-- each of its partitions is empty, so its records are known ones, whatever was sealed
found_empty : (uuid : List ℕ) (p : Part) → find_part (parts_from 1 (empty_slots parts)) uuid ≡ Some p → p.size ≡ 0
unfolding find_part parts_from empty_slots
found_empty uuid p found = elim (bytes_eq (replicate 16 5) uuid) as (λ b. (if b then Some (record { uuid = record { 0 = replicate 16 5 }; sector = 1; reserved = 4; size = 0 }) else None) ≡ Some p → p.size ≡ 0) [
  | true ↦ λ e. (let same : record { uuid = record { 0 = replicate 16 5 }; sector = 1; reserved = 4; size = 0 } ≡ p = cc in sym (ap (λ (q : Part). q.size) same))
  | false ↦ λ e. absurd cc
] found

-- ---- the disk

abbrev IsSmall : ℕ → Type 0
IsSmall b = b < 256

small_disk : All IsSmall (disk_header salt)
unfolding disk_header
small_disk =
    let front : All IsSmall magic = All-from_recursion IsSmall magic (lit< tt, (lit< tt, (lit< tt, (lit< tt, (lit< tt, (lit< tt, (lit< tt, (lit< tt, (lit< tt, (lit< tt, (lit< tt, (lit< tt, (lit< tt, (lit< tt, (lit< tt, (lit< tt, (lit< tt, (lit< tt, (lit< tt, (lit< tt, tt)))))))))))))))))))) in
    let version : All IsSmall (to_le_bytes w16 1) = All-from_recursion IsSmall (to_le_bytes w16 1) (lit< tt, (lit< tt, tt)) in
    All-append IsSmall magic (to_le_bytes w16 1 ++ (salt ++ zeros 426)) front
    (All-append IsSmall (to_le_bytes w16 1) (salt ++ zeros 426) version
    (All-append IsSmall salt (zeros 426) (All-replicate IsSmall 64 7 (lit< tt)) (All-replicate IsSmall 426 0 (lit< tt))))

small_header : All IsSmall (header_of (replicate 16 5) 0 4)
unfolding header_of
small_header =
    let size : All IsSmall (to_le_bytes w64 0) = All-from_recursion IsSmall (to_le_bytes w64 0) (lit< tt, (lit< tt, (lit< tt, (lit< tt, (lit< tt, (lit< tt, (lit< tt, (lit< tt, tt)))))))) in
    let reserved : All IsSmall (to_le_bytes w32 4) = All-from_recursion IsSmall (to_le_bytes w32 4) (lit< tt, (lit< tt, (lit< tt, (lit< tt, tt)))) in
    All-append IsSmall (replicate 16 5) (to_le_bytes w64 0 ++ (to_le_bytes w32 4 ++ zeros 484)) (All-replicate IsSmall 16 5 (lit< tt))
    (All-append IsSmall (to_le_bytes w64 0) (to_le_bytes w32 4 ++ zeros 484) size
    (All-append IsSmall (to_le_bytes w32 4) (zeros 484) reserved (All-replicate IsSmall 484 0 (lit< tt))))

small_slots : All IsSmall (flat_map slot_bytes (empty_slots parts))
unfolding slot_bytes empty_slots
small_slots =
    All-append IsSmall (header_of (replicate 16 5) 0 4 ++ zeros 2048) []
    (All-append IsSmall (header_of (replicate 16 5) 0 4) (zeros 2048) small_header (All-replicate IsSmall 2048 0 (lit< tt))) (All-from_recursion IsSmall [] tt)

image_small : All IsSmall image
unfolding image_bytes
image_small =
    All-append IsSmall (image_bytes salt parts) (zeros 1024)
    (All-append IsSmall (disk_header salt) (flat_map slot_bytes (empty_slots parts)) small_disk small_slots) (All-replicate IsSmall 1024 0 (lit< tt))

abbrev name : List ℕ
name = codes "vm"

abbrev place : Span
place = record { first = 40; sectors = 8 }

module _ (head : List ℕ) (table : Table) (head_len : length head ≡ 20480) (head_small : All IsSmall head) (copy : IsCopy (primary 88) head table) (there : part_in table name ≡ Ok place) where
  abbrev disk : List ℕ
  disk = head ++ (image ++ zeros 20480)

  abbrev pub held : Held
  held = with_disk nothing 0 (plain_disk disk)

  abbrev pub plan : Known
  plan = record { secret = Some (replicate 32 9); salt = Some salt; lines = line.Instance 0 name ∷ []; numbers = 4 ∷ [] }

  image_len : length image ≡ 4096
  image_len = is_image.len

  disk_len : length disk ≡ 512 * 88
  disk_len = omega (arith, length-append head (image ++ zeros 20480), length-append image (zeros 20480), length-replicate {A = ℕ} 20480 0, head_len, image_len)

  front : take 20480 disk ≡ head
  front = take_at head (image ++ zeros 20480) 20480 head_len

  middle : take 4096 (drop 20480 disk) ≡ image
  middle = ap (take 4096) (drop_at head (image ++ zeros 20480) 20480 head_len) ∙ take_at image (zeros 20480) 4096 image_len

  on_disk : HoldsTable held 0
  on_disk = record {
    on = plain_disk disk;
    there = refl;
    sectors = 88;
    whole = disk_len;
    are_bytes = All-append IsSmall head (image ++ zeros 20480) head_small (All-append IsSmall image (zeros 20480) image_small (All-replicate IsSmall 20480 0 (lit< tt)));
    table = table;
    is_table = record { least = lit≤ tt; most = lit≤ tt; copy = inl (subst (λ (b : List ℕ). IsCopy (primary 88) b table) (sym front) copy) };
  }

  image_held : HoldsInstance held 0 name salt
  unfolding on_disk
  image_held = record {
    on = on_disk;
    span = place;
    part = there;
    salt_len = refl;
    slots = empty_slots parts;
    image = record {
      disk = plain_disk disk;
      is = refl;
      room = omega (arith, disk_len);
      image = subst (λ (b : List ℕ). IsImage 8 salt (empty_slots parts) b) (sym middle) is_image;
    };
  }

  same_salt : (s : List ℕ) → Some salt ≡ Some s → salt ≡ s
  same_salt s e = cc

  abbrev IsHeldImage : List ℕ → PlanLine → Type 0
  IsHeldImage s (line.Instance d part) = HoldsInstance held d part s
  IsHeldImage s other = Unit {0}

  -- the host holds what the plan's instance line needs
  pub image_fits : FitsInstance plan held
  image_fits zero d part s at is = subst (λ (z : List ℕ). HoldsInstance held d part z) (same_salt s is) (subst (IsHeldImage salt) (same_line (line.Instance 0 name) (line.Instance d part) at) image_held)
  image_fits (suc k) d part s at is = absurd cc

  -- each record of its image is one of those that were sealed before: there is none
  pub records_known : (secret : List ℕ) → HoldsRecords held (image_of (opening 0 place salt) (empty_slots parts)) secret []
  records_known secret uuid p found = inl (found_empty uuid p found)
