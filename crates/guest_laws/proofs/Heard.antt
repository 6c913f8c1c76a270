-- The table of a disk, by answers that are what is held.
use Rattle.std.proofs.Common.{◌≡◌, ℕ, ◌+◌, ◌-◌, ◌*◌, ◌/◌, ◌≤◌, ◌∙◌, List, [], ◌∷◌, length, take, drop, All, Result, Some, Ok, Err, refl, ap, sym, subst, inl, inr, arith, true, false, nat_le, ◌⊎◌}
use Rattle.std.proofs.lemmas.Bool.Decides.{nat_tests}
use Rattle.std.proofs.lemmas.List.{length-take, length-drop, take_all}
use Rattle.host_traits.specs.declared.calls.Call.TheVariants.{BlockSize, BlockRead}
use Rattle.host_traits.specs.declared.calls.Call.{Call}
use Rattle.host_traits.specs.declared.calls.Said.{Said}
use Rattle.host_traits.specs.declared.calls.Said.TheVariants.{Number, Bytes}
use Rattle.host_traits.specs.Held.{Held, Disk, serve}
use Rattle.host_traits.specs.Told.{Exchanges}
use Rattle.gpt.specs.declared.faults.GptFault.{GptFault}
use Rattle.gpt.specs.declared.faults.GptFault.TheVariants as broken
use Rattle.gpt.specs.declared.values.Table.{Table}
use Rattle.gpt.specs.Grammar.{IsGpt}
use Rattle.gpt.specs.Rules.{is_sized, gpt_of}
use Rattle.gpt.proofs.Pieces.{IsByte, part_bytes}
use Rattle.gpt.proofs.CopyLaws.{gpt_only}
use Rattle.guest_rules.proofs.Holding.{pair_is, when_is}
use Rattle.guest_boot.specs.Finding.{size_call, head_call, tail_call, HeardEnds, ReadsTable, TableRefused, HeardNoSize, BreaksTable, EndIsShort, TableNext}
use Rattle.guest_laws.specs.Fitting.{AreTrue}

number_is : (a b : ℕ) → Number a ≡ Number b → a ≡ b
number_is a b e = cc

pub bytes_is : (a b : List ℕ) → Bytes a ≡ Bytes b → a ≡ b
bytes_is a b e = cc

table_is : (a b : Table) → ◌≡◌ {A = Result Table GptFault} (Ok a) (Ok b) → a ≡ b
table_is a b e = cc

le_of : (a b : ℕ) → nat_le a b ≡ true → a ≤ b
le_of a b e = grind (arith, nat_tests)

test_of : (a b : ℕ) → a ≤ b → nat_le a b ≡ true
test_of a b le = grind (arith, nat_tests)

not_sized : (n : ℕ) → 80 ≤ n → n ≤ 1099511627776 → is_sized n ≡ false → ⊥
not_sized n low high e = grind (arith, nat_tests)

not_ok : (t : Table) (f : GptFault) → ◌≡◌ {A = Result Table GptFault} (Ok t) (Err f) → ⊥
not_ok t f e = cc

-- no rule of tables is want of memory
table_broken : (disk : ℕ) (own : Exchanges) (why : GptFault) → TableRefused disk own why → HeardNoSize disk own why ⊎ BreaksTable disk own why
table_broken disk own broken.Memory r = absurd r
table_broken disk own other r = r

module _ (h : Held) (disk : ℕ) (on : Disk) (there : h.disk disk ≡ Some on) where
  -- the number of sectors
  size_served : (n : ℕ) → serve h (BlockSize disk) [] ≡ Some (Number n, h) → n ≡ length on.bytes / 512
  unfolding serve
  size_served n e = number_is n _ (sym (pair_is (Number (length on.bytes / 512), h) (Number n, h) (rw there at e)).0)

  -- sectors
  pub sectors_served : (sector count : ℕ) (bytes : List ℕ) → serve h (BlockRead disk sector count) [] ≡ Some (Bytes bytes, h)
      → (512 * (sector + count) ≤ length on.bytes) × (bytes ≡ take (512 * count) (drop (512 * sector) on.bytes))
  unfolding serve
  sectors_served sector count bytes e =
      let is = when_is (nat_le (512 * (sector + count)) (length on.bytes)) (Bytes (take (512 * count) (drop (512 * sector) on.bytes)), h) (Bytes bytes, h) (rw there at e) in
      (le_of _ _ is.0, bytes_is bytes _ (sym (pair_is _ _ is.1).0))

  pub sectors_serve : (sector count : ℕ) → 512 * (sector + count) ≤ length on.bytes
      → serve h (BlockRead disk sector count) [] ≡ Some (Bytes (take (512 * count) (drop (512 * sector) on.bytes)), h)
  unfolding serve
  sectors_serve sector count le = rw (there, test_of _ _ le) refl

  pub size_serves : serve h (BlockSize disk) [] ≡ Some (Number (length on.bytes / 512), h)
  unfolding serve
  size_serves = rw there refl

  module _ (sectors : ℕ) (table : Table) (whole : length on.bytes ≡ 512 * sectors) (are_bytes : All IsByte on.bytes)
      (is : IsGpt (take 20480 on.bytes) (drop (512 * (sectors - 40)) on.bytes) sectors table) (own : Exchanges) (heard : AreTrue h disk own) where
    least : 80 ≤ sectors
    least = is.least

    heard_sectors : (n : ℕ) (rest : Exchanges) → own ≡ (size_call disk, Number n) ∷ rest → n ≡ sectors
    heard_sectors n rest e =
        let all : AreTrue h disk ((size_call disk, Number n) ∷ rest) = subst (λ (x : Exchanges). AreTrue h disk x) e heard in
        omega (arith, size_served n (all (BlockSize disk) (Number n) (inl refl) refl), whole)

    -- the two ends that were heard are those of the table
    pub ends_held : (e : HeardEnds disk own) → gpt_of e.head e.tail e.sectors ≡ Ok table
    ends_held e =
        let all : AreTrue h disk ((size_call disk, Number e.sectors) ∷ (head_call disk, Bytes e.head) ∷ (tail_call disk e.sectors, Bytes e.tail) ∷ []) =
        subst (λ (x : Exchanges). AreTrue h disk x) e.own_is heard in
        let n : e.sectors ≡ sectors = heard_sectors e.sectors _ e.own_is in
        let head : e.head ≡ take 20480 on.bytes = (sectors_served 0 40 e.head (all (BlockRead disk 0 40) (Bytes e.head) (inr (inl refl)) refl)).1 in
        let cut : e.tail ≡ take 20480 (drop (512 * (e.sectors - 40)) on.bytes) =
        (sectors_served (e.sectors - 40) 40 e.tail (all (BlockRead disk (e.sectors - 40) 40) (Bytes e.tail) (inr (inr (inl refl))) refl)).1 in
        let tail : e.tail ≡ drop (512 * (sectors - 40)) on.bytes =
        cut ∙ ap (λ (k : ℕ). take 20480 (drop (512 * (k - 40)) on.bytes)) n
        ∙ take_all 20480 (drop (512 * (sectors - 40)) on.bytes) (omega (arith, length-drop (512 * (sectors - 40)) on.bytes, whole, least)) in
        let same : gpt_of e.head e.tail e.sectors ≡ gpt_of (take 20480 on.bytes) (drop (512 * (sectors - 40)) on.bytes) sectors = rw (head, tail, n) refl in
        let full : length (take 20480 on.bytes) ≡ 20480 = omega (arith, length-take 20480 on.bytes, whole, least) in
        same ∙ gpt_only (take 20480 on.bytes) (drop (512 * (sectors - 40)) on.bytes) sectors table (λ a b. full) (part_bytes 0 20480 on.bytes are_bytes) is

    -- a table that was read is the one that is held
    pub table_held : (other : Table) → ReadsTable disk own other → other ≡ table
    table_held other r = table_is other table (sym r.is ∙ ends_held r.ends)

    -- no rule of tables is broken
    not_broken : (why : GptFault) → HeardNoSize disk own why ⊎ BreaksTable disk own why → ⊥
    not_broken why (inl none) =
        let n : none.sectors ≡ sectors = heard_sectors none.sectors [] none.own_is in
        let most = is.most in
        not_sized none.sectors (omega (arith, n, least)) (omega (arith, n, most)) none.sized
    not_broken why (inr b) = not_ok table why (sym (ends_held b.ends) ∙ b.is)

    pub not_refused : (why : GptFault) → TableRefused disk own why → ⊥
    not_refused why r = not_broken why (table_broken disk own why r)

    full_end : (sector : ℕ) (bytes : List ℕ) → serve h (BlockRead disk sector 40) [] ≡ Some (Bytes bytes, h) → length bytes ≡ 20480
    full_end sector bytes e =
        let seen = sectors_served sector 40 bytes e in
        omega (arith, seen.0, ap length seen.1, length-take (512 * 40) (drop (512 * sector) on.bytes), length-drop (512 * sector) on.bytes)

    -- no end is short
    pub not_short : (asked got : ℕ) → EndIsShort disk own asked got → ⊥
    not_short asked got (is_asked, inl s) =
        let all : AreTrue h disk ((size_call disk, Number s.sectors) ∷ (head_call disk, Bytes s.head) ∷ []) = subst (λ (x : Exchanges). AreTrue h disk x) s.own_is heard in
        absurd (omega (arith, full_end 0 s.head (all (BlockRead disk 0 40) (Bytes s.head) (inr (inl refl)) refl), s.got_is, s.short))
    not_short asked got (is_asked, inr s) =
        let all : AreTrue h disk ((size_call disk, Number s.sectors) ∷ (head_call disk, Bytes s.head) ∷ (tail_call disk s.sectors, Bytes s.tail) ∷ []) =
        subst (λ (x : Exchanges). AreTrue h disk x) s.own_is heard in
        absurd (omega (arith, full_end (s.sectors - 40) s.tail (all (BlockRead disk (s.sectors - 40) 40) (Bytes s.tail) (inr (inr (inl refl))) refl), s.got_is, s.short))

    -- the next call can be served
    pub next_serves : (call : Call) → TableNext disk own call → (said : Said) × (serve h call [] ≡ Some (said, h))
    next_serves call (inl next) = (_, subst (λ (c : Call). serve h c [] ≡ Some (Number (length on.bytes / 512), h)) (sym next.1) size_serves)
    next_serves call (inr (inl next)) =
        (_, subst (λ (c : Call). serve h c [] ≡ Some (Bytes (take 20480 (drop 0 on.bytes)), h)) (sym next.1) (sectors_serve 0 40 (omega (arith, whole, least))))
    next_serves call (inr (inr (head, next))) =
        let n : head.sectors ≡ sectors = heard_sectors head.sectors _ head.own_is in (
          _,
          subst (λ (c : Call). serve h c [] ≡ Some (Bytes (take 20480 (drop (512 * (head.sectors - 40)) on.bytes)), h)) (sym next)
              (sectors_serve (head.sectors - 40) 40 (omega (arith, n, whole, least))),
        )
