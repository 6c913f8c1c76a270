-- Why no line fails over a host that holds what it needs, where no call that this can serve failed.
use Rattle.std.proofs.Common.{◌≡◌, ℕ, ◌+◌, ◌-◌, ◌*◌, ◌≤◌, ◌∙◌, min, List, [], ◌∷◌, length, take, drop, Option, Some, Result, Ok, Err, refl, ap, sym, subst, inl, arith}
use Rattle.std.specs.Prelude.{string_bytes}
use Rattle.std.proofs.lemmas.List.{length-take, length-drop, take-take, take_all}
use Rattle.mg_base.specs.declared.values.Digest.{Digest}
use Rattle.mg_base.specs.declared.values.Span.{Span}
use Rattle.host_traits.specs.declared.calls.Call.{Call}
use Rattle.host_traits.specs.declared.calls.Call.TheVariants.{Descriptor as DescriptorOf}
use Rattle.host_traits.specs.declared.calls.Said.{Said}
use Rattle.host_traits.specs.declared.calls.Said.TheVariants.{Bytes}
use Rattle.host_traits.specs.Held.{Held, File, serve}
use Rattle.host_traits.specs.Told.{Exchanges}
use Rattle.host_traits.specs.Did.{Trace, IsIn, IsFailed}
use Rattle.sha_tree.specs.declared.measure.Measure.{Measure}
use Rattle.sha_tree.specs.Tree.{block_count, root, tree_pages}
use Rattle.sha_tree.specs.Measured.{IsMeasured}
use Rattle.sha_tree.proofs.Pages.{length-page_hash}
use Rattle.sha_tree.proofs.Stored.{length-stored}
use Rattle.verity_path.specs.declared.device.Device.{Device}
use Rattle.verity_descriptor.specs.declared.Descriptor.{Descriptor}
use Rattle.verity_descriptor.specs.Spelling.{IsDescriptor, descriptor_bytes}
use Rattle.gpt.specs.declared.values.Table.{Table}
use Rattle.gpt.specs.Names.{part}
use Rattle.idsig_v4.proofs.Spelled.{read_again}
use Rattle.apk_verity.specs.declared.ApkFault.{ApkFault}
use Rattle.apk_verity.specs.declared.ApkFault.TheVariants as apks
use Rattle.apk_verity.specs.Opening.{Opening, opening, idsig_call, count_of, opened, IsIdsigCall}
use Rattle.apk_verity.proofs.Outcomes.{part_opens}
use Rattle.ro_file.specs.declared.files.RoFault.{RoFault}
use Rattle.ro_file.specs.declared.files.RoFault.TheVariants as files
use Rattle.ro_file.specs.Files.{MeasuredFile, file_of}
use Rattle.ro_file.specs.Opening.{opened as opened_file}
use Rattle.ro_file.specs.Contents.{descriptor_of}
use Rattle.ro_file.proofs.Standing.{length-descriptor, open_whole}
use Rattle.guest_plan.specs.declared.plan.How.{How}
use Rattle.guest_boot.specs.declared.faults.BootCause.{BootCause}
use Rattle.guest_boot.specs.declared.faults.BootCause.TheVariants.{Gpt, NoPart, Apk, File as FileCause, Image, Get, Put, NoEntropy, MeasureText, Failed, Short, Memory}
use Rattle.guest_boot.specs.Finding.{table_on, parts_in}
use Rattle.guest_boot.specs.Booting.{Booted, measure_in, later_of, ApkIsRefused, ApkFails, FileFails}
use Rattle.guest_rules.proofs.Holding.{pair_is}
use Rattle.guest_laws.specs.Fitting.{HoldsApk, HoldsReadOnly, AreTrue}
use Rattle.guest_laws.proofs.Heard.{bytes_is, sectors_served, sectors_serve, not_refused, not_short, next_serves}
use Rattle.guest_laws.proofs.Heads.{tree_inside}
use Rattle.guest_laws.proofs.Inside.{part_inside, both_named}
use Rattle.guest_laws.proofs.Fits.{Knows, has_it, true_left, true_right}

-- no call that what is held can serve is the one that failed
abbrev pub CanNotFail : Held → Trace → Type 0
CanNotFail h t = (call : Call) (said : Said) → t.failed ≡ 1 → t.last_failed ≡ Some call → serve h call [] ≡ Some (said, h) → ⊥

-- ---- an APK device

few_sectors : (n : ℕ) → 512 * min n 136 ≤ 512 * n
few_sectors n = omega arith

not_device : (d : Device) (f : ApkFault) → ◌≡◌ {A = Result Device ApkFault} (Ok d) (Err f) → ⊥
not_device d f e = cc

not_parts : (p : Span × Span) (name : List ℕ) → ◌≡◌ {A = Result (Span × Span) (List ℕ)} (Ok p) (Err name) → ⊥
not_parts p name e = cc

parts_same : (a b : Span × Span) → ◌≡◌ {A = Result (Span × Span) (List ℕ)} (Ok a) (Ok b) → a ≡ b
parts_same a b e = cc

module _ (h : Held) (disk : ℕ) (apk idsig : List ℕ) (how : How) (m : Measure) (content : List ℕ) (holds : HoldsApk h disk apk idsig how m content) (measured : IsMeasured m content) where
  abbrev here : Opening
  here = opening disk holds.first holds.second (measure_in how)

  second_in : holds.second.first + holds.second.sectors ≤ holds.on.sectors
  second_in =
      let named = both_named apk idsig (part apk holds.on.table.entries) (part idsig holds.on.table.entries) holds.first holds.second holds.parts in
      part_inside (take 20480 holds.on.on.bytes) (drop (512 * (holds.on.sectors - 40)) holds.on.on.bytes) holds.on.sectors holds.on.table idsig holds.second holds.on.is_table named.1

  idsig_in : 512 * (holds.second.first + min holds.second.sectors 136) ≤ length holds.on.on.bytes
  idsig_in = omega (arith, second_in, holds.on.whole)

  idsig_serves : (said : Said) × (serve h (idsig_call here) [] ≡ Some (said, h))
  idsig_serves = (_, sectors_serve h disk holds.on.on holds.on.there holds.second.first (min holds.second.sectors 136) idsig_in)

  tree_len_is : holds.head.tree_len ≡ 4096 * tree_pages m.blocks
  tree_len_is =
      let from : List ℕ = drop (512 * holds.second.first) holds.on.on.bytes in
      let inside = tree_inside from holds.second.sectors holds.head holds.is_idsig in
      let end = inside.1 in
      let at : ℕ = 512 * holds.second.first + holds.head.tree_at in
      let whole : length (take holds.head.tree_len (drop at holds.on.on.bytes)) ≡ holds.head.tree_len =
      omega (arith, end, length-take holds.head.tree_len (drop at holds.on.on.bytes), length-drop at holds.on.on.bytes, length-drop (512 * holds.second.first) holds.on.on.bytes) in
      let count : block_count (length content) ≡ m.blocks = rw measured.size (omega arith) in
      sym whole ∙ ap length holds.tree ∙ length-stored content m.salt ∙ ap (λ (n : ℕ). 4096 * tree_pages n) count

  -- the answer to the one call makes the device
  opens : (bytes : List ℕ) → serve h (idsig_call here) [] ≡ Some (Bytes bytes, h) → (d : Device) × (opened here bytes ≡ Ok d)
  opens bytes e =
      let from : List ℕ = drop (512 * holds.second.first) holds.on.on.bytes in
      let seen = sectors_served h disk holds.on.on holds.on.there holds.second.first (count_of here) bytes e in
      let len : length (take (512 * holds.second.sectors) from) ≡ 512 * holds.second.sectors =
      omega (arith, second_in, holds.on.whole, length-take (512 * holds.second.sectors) from, length-drop (512 * holds.second.first) holds.on.on.bytes) in
      let same : take (512 * count_of here) (take (512 * holds.second.sectors) from) ≡ bytes = take-take (512 * count_of here) (512 * holds.second.sectors) from (few_sectors holds.second.sectors) ∙ sym seen.1 in (
        _,
        ap (opened here) (sym same) ∙ part_opens read_again here (take (512 * holds.second.sectors) from) holds.head m len holds.is_idsig holds.measure tree_len_is,
      )

  module _ (s : Booted) (t : Trace) (heard : AreTrue h disk t.own) (known : Knows disk holds.on.table s.tables) (calm : CanNotFail h t) where
    -- an answer that makes no device
    module _ (f : ApkFault) (r : ApkIsRefused s disk apk idsig how f t) where
      parts : r.parts ≡ (holds.first, holds.second)
      parts =
          let table = has_it h disk holds.on (table_on disk s.tables) r.first r.found.table known (true_left h disk t.own r.first r.rest r.cut heard) r.found.has in
          parts_same r.parts (holds.first, holds.second) (sym r.found.found_is ∙ ap (λ (z : Table). parts_in z apk idsig) table ∙ holds.parts)

      not_opened : (bytes : List ℕ) → r.rest ≡ (idsig_call (opening disk r.parts.0 r.parts.1 (measure_in how)), Bytes bytes) ∷ []
          → Err f ≡ opened (opening disk r.parts.0 r.parts.1 (measure_in how)) bytes → ⊥
      not_opened bytes own is =
          let here_own : r.rest ≡ (idsig_call here, Bytes bytes) ∷ [] = subst (λ (p : Span × Span). r.rest ≡ (idsig_call (opening disk p.0 p.1 (measure_in how)), Bytes bytes) ∷ []) parts own in
          let here_is : Err f ≡ opened here bytes = subst (λ (p : Span × Span). Err f ≡ opened (opening disk p.0 p.1 (measure_in how)) bytes) parts is in
          let rest = subst (λ (x : Exchanges). AreTrue h disk x) here_own (true_right h disk t.own r.first r.rest r.cut heard) in
          let made = opens bytes (rest (idsig_call here) (Bytes bytes) (inl refl) refl) in
          not_device made.0 f (sym made.1 ∙ sym here_is)

      not_idsig_failed : (faults : ℕ) → IsFailed (IsIdsigCall (opening disk r.parts.0 r.parts.1 (measure_in how))) (later_of t r.rest) faults → ⊥
      not_idsig_failed faults failed =
          let call : failed.call ≡ idsig_call here = subst (λ (p : Span × Span). failed.call ≡ idsig_call (opening disk p.0 p.1 (measure_in how))) parts failed.for.call_is in
          let serves = idsig_serves in
          calm failed.call serves.0 failed.failed failed.last (subst (λ (c : Call). serve h c [] ≡ Some (serves.0, h)) (sym call) serves.1)

    refused : (f : ApkFault) → (f ≡ apks.Memory → ⊥) → ApkIsRefused s disk apk idsig how f t → ⊥
    refused (apks.Failed faults) other r = not_idsig_failed _ r faults r.outcome.1
    refused (apks.Short asked got) other r = not_opened _ r r.outcome.0.bytes r.outcome.0.own r.outcome.0.is
    refused (apks.Idsig fault) other r = not_opened _ r r.outcome.bytes r.outcome.own r.outcome.is
    refused apks.SaltMismatch other r = not_opened _ r r.outcome.bytes r.outcome.own r.outcome.is
    refused (apks.RootMismatch expected found) other r = not_opened _ r r.outcome.bytes r.outcome.own r.outcome.is
    refused (apks.TooFewBlocks blocks) other r = not_opened _ r r.outcome.bytes r.outcome.own r.outcome.is
    refused (apks.TooManyBlocks blocks) other r = not_opened _ r r.outcome.bytes r.outcome.own r.outcome.is
    refused (apks.SpanShort blocks sectors) other r = not_opened _ r r.outcome.bytes r.outcome.own r.outcome.is
    refused apks.Memory other r = other refl

    pub apk_passes : (why : BootCause) → ApkFails s disk apk idsig how why t → why ≡ Memory
    apk_passes Memory e = refl
    apk_passes (Gpt f) e = absurd (not_refused h disk holds.on.on holds.on.there holds.on.sectors holds.on.table holds.on.whole holds.on.are_bytes holds.on.is_table t.own heard f e.1.1)
    apk_passes (NoPart name) (none, e) =
        let table = has_it h disk holds.on (table_on disk s.tables) t.own e.table known heard e.has in
        absurd (not_parts (holds.first, holds.second) (string_bytes name) (sym holds.parts ∙ ap (λ (z : Table). parts_in z apk idsig) (sym table) ∙ e.lacks))
    apk_passes (Apk (apks.Failed faults)) e = absurd (refused (apks.Failed faults) (λ x. cc) e)
    apk_passes (Apk (apks.Short asked got)) e = absurd (refused (apks.Short asked got) (λ x. cc) e)
    apk_passes (Apk (apks.Idsig fault)) e = absurd (refused (apks.Idsig fault) (λ x. cc) e)
    apk_passes (Apk apks.SaltMismatch) e = absurd (refused apks.SaltMismatch (λ x. cc) e)
    apk_passes (Apk (apks.RootMismatch expected found)) e = absurd (refused (apks.RootMismatch expected found) (λ x. cc) e)
    apk_passes (Apk (apks.TooFewBlocks blocks)) e = absurd (refused (apks.TooFewBlocks blocks) (λ x. cc) e)
    apk_passes (Apk (apks.TooManyBlocks blocks)) e = absurd (refused (apks.TooManyBlocks blocks) (λ x. cc) e)
    apk_passes (Apk (apks.SpanShort blocks sectors)) e = absurd (refused (apks.SpanShort blocks sectors) (λ x. cc) e)
    apk_passes (Apk apks.Memory) e = absurd e
    apk_passes (FileCause f) e = absurd e.1
    apk_passes (Image f) e = absurd e.1
    apk_passes (Get f) e = absurd e.1
    apk_passes (Put f) e = absurd e.1
    apk_passes (NoEntropy left) e = absurd e.1
    apk_passes MeasureText e = absurd e.1
    apk_passes (Failed faults) e =
        let failed = e.1 in
        let serves = next_serves h disk holds.on.on holds.on.there holds.on.sectors holds.on.table holds.on.whole holds.on.are_bytes holds.on.is_table t.own heard failed.call failed.for in
        absurd (calm failed.call serves.0 failed.failed failed.last serves.1)
    apk_passes (Short asked got) e = absurd (not_short h disk holds.on.on holds.on.there holds.on.sectors holds.on.table holds.on.whole holds.on.are_bytes holds.on.is_table t.own heard asked got e.1.1)

-- ---- a read-only file

length-root : (content salt : List ℕ) → length (root content salt) ≡ 32
unfolding root
length-root [] salt = refl
length-root (b ∷ bs) salt = length-page_hash salt _

not_file : (f : MeasuredFile) (why : RoFault) → ◌≡◌ {A = Result MeasuredFile RoFault} (Ok f) (Err why) → ⊥
not_file f why e = cc

descriptor_serves : (h : Held) (number : ℕ) (f : File) → h.file number ≡ Some f → serve h (DescriptorOf number) [] ≡ Some (Bytes (take 256 f.descriptor), h)
unfolding serve
descriptor_serves h number f there = rw there refl

module _ (h : Held) (number : ℕ) (digest : Digest) (content salt : List ℕ) (holds : HoldsReadOnly h number digest content salt) where
  abbrev mine : Descriptor
  mine = descriptor_of content salt

  sound : IsDescriptor mine
  sound = record { size = holds.measured.size; root = length-root content salt; salt = holds.short }

  serves : serve h (DescriptorOf number) [] ≡ Some (Bytes (descriptor_bytes mine), h)
  serves =
      let len = length-descriptor mine sound in
      let all : take 256 holds.holds.file.descriptor ≡ descriptor_bytes mine = ap (take 256) holds.descriptor ∙ take_all 256 (descriptor_bytes mine) (omega (arith, len)) in
      subst (λ (x : List ℕ). serve h (DescriptorOf number) [] ≡ Some (Bytes x, h)) all (descriptor_serves h number holds.holds.file holds.holds.there)

  opens_file : (bytes : List ℕ) → serve h (DescriptorOf number) [] ≡ Some (Bytes bytes, h) → opened_file number digest bytes ≡ Ok (file_of number digest mine)
  opens_file bytes e =
      let same : descriptor_bytes mine ≡ bytes = bytes_is (descriptor_bytes mine) bytes (said_is (Bytes (descriptor_bytes mine)) (Bytes bytes) h (sym serves ∙ e)) in
      subst (λ (x : List ℕ). opened_file number digest x ≡ Ok (file_of number digest mine)) same (open_whole number digest mine sound holds.few (sym holds.measured.digest_is)) where
        said_is : (a b : Said) (k : Held) → ◌≡◌ {A = Option (Said × Held)} (Some (a, k)) (Some (b, k)) → a ≡ b
        said_is a b k both = (pair_is (a, k) (b, k) both).0

  module _ (t : Trace) (heard : (call : Call) (said : Said) → IsIn call said t.own → serve h call [] ≡ Some (said, h)) (calm : CanNotFail h t) where
    not_opened_file : (why : RoFault) (bytes : List ℕ) → t.own ≡ (DescriptorOf number, Bytes bytes) ∷ [] → opened_file number digest bytes ≡ Err why → ⊥
    not_opened_file why bytes own is =
        let one = subst (λ (x : Exchanges). (call : Call) (said : Said) → IsIn call said x → serve h call [] ≡ Some (said, h)) own heard in
        not_file (file_of number digest mine) why (sym (opens_file bytes (one (DescriptorOf number) (Bytes bytes) (inl refl))) ∙ is)

    pub file_passes : (why : BootCause) → FileFails number digest why t → why ≡ Memory
    file_passes Memory e = refl
    file_passes (FileCause (files.Failed faults)) e =
        let failed = e.1 in
        absurd (calm failed.call (Bytes (descriptor_bytes mine)) failed.failed failed.last (subst (λ (c : Call). serve h c [] ≡ Some (Bytes (descriptor_bytes mine), h)) (sym failed.for) serves))
    file_passes (FileCause (files.Short asked got)) e = absurd (not_opened_file _ e.bytes e.own e.is)
    file_passes (FileCause (files.DigestMismatch expected found)) e = absurd (not_opened_file _ e.bytes e.own e.is)
    file_passes (FileCause (files.Descriptor broken)) e = absurd (not_opened_file _ e.bytes e.own e.is)
    file_passes (FileCause (files.TooLong size)) e = absurd (not_opened_file _ e.bytes e.own e.is)
    file_passes (FileCause files.Memory) e = absurd e
    file_passes (Gpt f) e = absurd e
    file_passes (NoPart name) e = absurd e
    file_passes (Apk f) e = absurd e
    file_passes (Image f) e = absurd e
    file_passes (Get f) e = absurd e
    file_passes (Put f) e = absurd e
    file_passes (NoEntropy left) e = absurd e
    file_passes MeasureText e = absurd e
    file_passes (Failed faults) e = absurd e
    file_passes (Short asked got) e = absurd e
