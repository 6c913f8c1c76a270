-- What a put leaves at a host.
use Rattle.std.proofs.Common.{◌≡◌, ◌≢◌, ℕ, zero, suc, ◌+◌, ◌-◌, ◌*◌, ◌<◌, ◌≤◌, Bool, true, false, List, [], ◌∷◌, ◌++◌, length, take, drop, replicate, Option, Some, None, Result, Ok, Err, refl, ap, sym, ◌∙◌, subst, arith, inl, inr, append_assoc, append-nil}
use Rattle.std.specs.Prelude.{◌⊎◌, nat_eq, nat_le, if◌then◌else◌}
use Rattle.std.specs.Str.{bytes_eq}
use Rattle.std.specs.Map.{update}
use Rattle.std.proofs.lemmas.Bool.Decides.{nat_tests}
use Rattle.std.proofs.lemmas.Map.{update_here}
use Rattle.std.proofs.lemmas.List.{length-append, length-take, length-drop, drop-append-le, take-append-le, drop-take, take-take, drop_at, drop-drop}
use Rattle.host_traits.specs.declared.calls.Call.{Call}
use Rattle.host_traits.specs.declared.calls.Call.TheVariants.{BlockWrite}
use Rattle.host_traits.specs.declared.calls.Said.{Said}
use Rattle.host_traits.specs.Held.{Held, Disk, over, serve, all_writable}
use Rattle.host_traits.specs.Told.{Told, Made, Calm, Serves, ServesAll, failures_of, one_failure}
use Rattle.host_traits.specs.Did.{Each}
use Rattle.instance_image.specs.declared.faults.PutFault.{PutFault}
use Rattle.instance_image.specs.declared.faults.PutFault.TheVariants as puts
use Rattle.instance_image.specs.declared.values.Part.{Part}
use Rattle.instance_image.specs.Records.{Kept, IsLaid, find_part, keep_size, sectors_of, size_in, header_in}
use Rattle.instance_image.specs.Sealings.{Sealing, BeginsWith, IsOneOf}
use Rattle.instance_image.specs.Access.{IsPutInto, IsPutting, put_call, sealing_of, record_bytes, payload_size}
use Rattle.instance_image.specs.Promised.{HoldsRecord, HasPut, HoldsPut, HoldsStill, PutStands, PutLeaves, MayBeWritten, PutOrMemory, PutIsKept}
use Rattle.instance_image.specs.Staying.{resized_part, SizesAreKept, OthersAreKept, HoldsOneOf, HoldsRecords, put_image, HoldsAfter, PutsKeepRecords}
use Rattle.instance_image.proofs.Accesses.{fits_found, large_not}
use Rattle.instance_image.proofs.Laying.{found_lies, found_named, beside}
use Rattle.instance_image.proofs.Served.{holds_after, quiet_none}
use Rattle.instance_image.proofs.Promises.{DidPut, puts_held, puts_keep, puts_hold, over_long, record_len, few_of}
use Rattle.instance_image.proofs.Holding.{are_same, same_bytes}

-- ---- sizes

pub sizes_kept : SizesAreKept
unfolding find_part keep_size
sizes_kept [] uuid size = refl
sizes_kept (q ∷ parts) uuid size =
    elim (bytes_eq q.uuid.0 uuid) as (λ b. bytes_eq q.uuid.0 uuid ≡ b → find_part (if b then record q { size = size } ∷ parts else q ∷ keep_size parts uuid size) uuid
    ≡ resized_part (if b then Some q else find_part parts uuid) size) [
      | true ↦ λ e. rw e refl
      | false ↦ λ e. rw e (sizes_kept parts uuid size)
    ] refl

pub others_kept : OthersAreKept
unfolding find_part keep_size
others_kept [] uuid other size apart = refl
others_kept (q ∷ parts) uuid other size apart =
    elim (bytes_eq q.uuid.0 uuid) as (λ b. bytes_eq q.uuid.0 uuid ≡ b → find_part (if b then record q { size = size } ∷ parts else q ∷ keep_size parts uuid size) other
    ≡ (if bytes_eq q.uuid.0 other then Some q else find_part parts other)) [
      | true ↦ λ e. (let not : bytes_eq q.uuid.0 other ≡ false = differs q.uuid.0 (are_same q.uuid.0 uuid e) in rw not refl)
      | false ↦ λ e. ap (λ (o : Option Part). if bytes_eq q.uuid.0 other then Some q else o) (others_kept parts uuid other size apart)
    ] refl where
      differs : (u : List ℕ) → u ≡ uuid → bytes_eq u other ≡ false
      differs u same = elim (bytes_eq u other) as (λ v. bytes_eq u other ≡ v → v ≡ false) [
        | true ↦ λ e. absurd (apart (sym (are_same u other e) ∙ same))
        | false ↦ λ e. refl
      ] refl

-- ---- bytes beside others that were put

pub over_shape : (old new : List ℕ) (at : ℕ) → at + length new ≤ length old → over old at new ≡ take at old ++ (new ++ drop (at + length new) old)
over_shape old new at room =
    let none : at - length old ≡ 0 = omega arith in
    ap (λ (n : ℕ). take at old ++ replicate n 0 ++ new ++ drop (at + length new) old) none ∙ simp (append-nil, append_assoc)

over_before : (old new : List ℕ) (at from n : ℕ) → at + length new ≤ length old → from + n ≤ at → take n (drop from (over old at new)) ≡ take n (drop from old)
over_before old new at from n room before =
    let rest : List ℕ = new ++ drop (at + length new) old in
    let front : length (take at old) ≡ at = omega (arith, length-take at old) in
    let cut : at ≡ from + (at - from) = omega arith in
    let inner : drop from (take at old) ≡ take (at - from) (drop from old) = ap (λ (m : ℕ). drop from (take m old)) cut ∙ drop-take from (at - from) old in
    let long : length (drop from (take at old)) ≡ at - from = omega (arith, length-drop from (take at old), front) in
    ap (λ (l : List ℕ). take n (drop from l)) (over_shape old new at room)
    ∙ ap (take n) (drop-append-le from (take at old) rest (omega (arith, front, before)))
    ∙ take-append-le n (drop from (take at old)) rest (omega (arith, long, before))
    ∙ ap (take n) inner ∙ take-take n (at - from) (drop from old) (omega (arith, before))

over_after : (old new : List ℕ) (at from n : ℕ) → at + length new ≤ length old → at + length new ≤ from → take n (drop from (over old at new)) ≡ take n (drop from old)
over_after old new at from n room past =
    let rest : List ℕ = drop (at + length new) old in
    let front : length (take at old) ≡ at = omega (arith, length-take at old) in
    let both : length (take at old ++ new) ≡ at + length new = length-append (take at old) new ∙ omega (arith, front) in
    let cut : from ≡ (at + length new) + (from - (at + length new)) = omega arith in
    let swap : (from - (at + length new)) + (at + length new) ≡ from = omega arith in
    ap (λ (l : List ℕ). take n (drop from l)) (over_shape old new at room ∙ sym (append_assoc (take at old) new rest))
    ∙ ap (λ (m : ℕ). take n (drop m ((take at old ++ new) ++ rest))) cut
    ∙ ap (take n) (sym (drop-drop (from - (at + length new)) (at + length new) ((take at old ++ new) ++ rest)))
    ∙ ap (λ (l : List ℕ). take n (drop (from - (at + length new)) l)) (drop_at (take at old ++ new) rest (at + length new) both)
    ∙ ap (take n) (drop-drop (from - (at + length new)) (at + length new) old) ∙ ap (λ (m : ℕ). take n (drop m old)) (sym cut)

pub sectors_few : (n r : ℕ) → n ≤ 512 * r → sectors_of n ≤ r
sectors_few n r le = omega (arith, le)

others_held : (k : Kept) (secret uuid nonce text : List ℕ) (h : Held) (new : Option Held) (other : List ℕ) (q : Part) (z : Sealing)
    → IsLaid k → length uuid ≡ 16 → length nonce ≡ 12 → HasPut k secret uuid nonce text h new → other ≢ uuid → find_part k.parts other ≡ Some q → HoldsRecord h k secret q z → HoldsStill k secret q z new
others_held k secret uuid nonce text h new other q z laid uuid_len nonce_len s apart found holds =
    let p = s.part in
    let fits = fits_found k.parts uuid (length text) p s.fits in
    let large = large_not (length text) p fits.1 in
    let few : length text ≤ 65536 = few_of (length text) p fits.1 in
    let given : List ℕ = record_bytes k.salt secret (sealing_of p uuid nonce text) in
    let len : length given ≡ 512 * (1 + sectors_of (28 + length text)) = record_len k.salt secret uuid nonce text p uuid_len nonce_len few in
    let mine : sectors_of (28 + length text) ≤ p.reserved = sectors_few (28 + length text) p.reserved large.room in
    let lies = found_lies k other q laid found in
    let begins = holds.begins in
    let size : size_in (header_in (take (512 * (1 + sectors_of q.size)) (drop (512 * (k.first + q.sector)) holds.disk.bytes))) ≡ q.size = ap size_in (sym begins.header_is) ∙ holds.size_is in
    let its : sectors_of q.size ≤ q.reserved = sectors_few q.size q.reserved (elim lies.payload [ inl none ↦ omega (arith, none) | inr some ↦ some.room ]) in
    let at : ℕ = 512 * (k.first + p.sector) in
    let from : ℕ = 512 * (k.first + q.sector) in
    let n : ℕ = 512 * (1 + sectors_of q.size) in
    let room : at + length given ≤ length s.disk.bytes = omega (arith, s.room, len) in
    let disk_is : holds.disk ≡ s.disk = (let e : Some holds.disk ≡ Some s.disk = sym holds.is ∙ s.is in cc) in
    let kept : take n (drop from (over s.disk.bytes at given)) ≡ take n (drop from s.disk.bytes) = elim (beside 1 k.parts uuid other p q apart laid.laid fits.0 found) [
      | inl behind ↦ over_after s.disk.bytes given at from n room (omega (arith, len, mine, behind))
      | inr before ↦ over_before s.disk.bytes given at from n room (omega (arith, its, before))
    ] in
    let disk : Disk = record s.disk { bytes = over s.disk.bytes at given } in
    record {
      held = record h { disk = update nat_eq h.disk k.disk (Some disk) };
      held_is = s.new_is;
      holds = record {
        disk = disk;
        is = update_here h.disk k.disk (Some disk);
        room = omega (arith, over_long s.disk.bytes given at room, holds.room, ap (λ (d : Disk). length d.bytes) disk_is);
        begins = subst (λ (b : List ℕ). BeginsWith k.salt secret b z) (ap (λ (d : Disk). take n (drop from d.bytes)) disk_is ∙ sym kept) begins;
        size_is = holds.size_is;
      };
    }

pub stands : (k : Kept) (secret uuid nonce text : List ℕ) (h : Held) (new : Option Held) → IsLaid k → length uuid ≡ 16 → length nonce ≡ 12 → HasPut k secret uuid nonce text h new → PutStands k secret uuid nonce text h new
stands k secret uuid nonce text h new laid uuid_len nonce_len s = record {
  changed = s;
  mine = puts_hold k secret uuid nonce text h new uuid_len nonce_len s;
  others = λ other q z apart found holds. others_held k secret uuid nonce text h new other q z laid uuid_len nonce_len s apart found holds;
}

-- ---- a host that lets the partition be written doesn't fail a put

writable_all : (w : ℕ → Bool) (at n : ℕ) → ((x : ℕ) → at ≤ x → x < at + n → w x ≡ true) → all_writable w at n ≡ true
writable_all w at zero f = refl
writable_all w at (suc n) f =
    let here = f at (omega arith) (omega arith) in
    let rest = writable_all w (suc at) n (λ x low high. f x (omega (arith, low)) (omega (arith, high))) in
    rw (here, rest) refl

can_write : (h : Held) (disk sector count : ℕ) (given : List ℕ) (d : Disk) → h.disk disk ≡ Some d → 512 * (sector + count) ≤ length d.bytes → all_writable d.writable (512 * sector) (512 * count) ≡ true
    → serve h (BlockWrite disk sector count) given ≡ None → ⊥
unfolding serve
can_write h disk sector count given d is room writable =
    let test : nat_le (512 * (sector + count)) (length d.bytes) ≡ true = grind (arith, nat_tests, room) in
    rw (is, test, writable) (λ e. cc)

module _ (k : Kept) (secret uuid nonce text : List ℕ) (h : Held) (p : Part) (fits : IsPutInto k uuid text p) (may : MayBeWritten h k p) where
  unrefused : (call : Call) (given : List ℕ) → IsPutting k secret uuid nonce text call given → serve h call given ≡ None → ⊥
  unrefused call given is none =
      let e : Ok is.part ≡ Ok p = sym is.fits ∙ fits in
      let same : is.part ≡ p = cc in
      let found = fits_found k.parts uuid (length text) p fits in
      let large = large_not (length text) p found.1 in
      let few : sectors_of (28 + length text) ≤ p.reserved = sectors_few (28 + length text) p.reserved large.room in
      let called : call ≡ put_call k p text = is.call_is ∙ ap (λ (q : Part). put_call k q text) same in
      let at : ℕ = k.first + p.sector in
      let open_all = writable_all may.disk.writable (512 * at) (512 * (1 + sectors_of (28 + length text)))
      (λ x low high. may.writable x (omega (arith, low)) (omega (arith, high, few))) in
      can_write h k.disk at (1 + sectors_of (28 + length text)) given may.disk may.is (omega (arith, may.room, few)) open_all
      (subst (λ (c : Call). serve h c given ≡ None) called none)

  one_unfailed : (own : List Made) (after : Held) → length own ≤ 1 → Each (IsPutting k secret uuid nonce text) own → ServesAll true h own after → failures_of own ≡ 0
  one_unfailed [] after few each s = refl
  one_unfailed (m ∷ []) after few each s = by_came m.came s.1 where
    by_came : (came : Option Said) → Serves true h m.call m.given came s.0 → one_failure came + 0 ≡ 0
    by_came None one = absurd (unrefused m.call m.given each.0 (one.1 refl))
    by_came (Some said) one = refl
  one_unfailed (m ∷ n ∷ own) after few each s = absurd (omega (arith, few))

  pub right : (a b : Told) (now : Kept) (r : Result (Unit {0}) PutFault) → a.held ≡ Some h → Calm a b → DidPut k secret uuid nonce text a b now r → PutOrMemory r
  right a b now (Ok x) is calm d = tt
  right a b now (Err puts.Memory) is calm d = refl
  right a b now (Err puts.NoRecord) is calm d = absurd (ok_err puts.NoRecord (sym fits ∙ d.outcome.3)) where
    ok_err : (why : PutFault) → ◌≡◌ {A = Result Part PutFault} (Ok p) (Err why) → ⊥
    ok_err why e = cc
  right a b now (Err (puts.TooLarge n room)) is calm d = absurd (ok_err (puts.TooLarge n room) (sym fits ∙ d.outcome.3)) where
    ok_err : (why : PutFault) → ◌≡◌ {A = Result Part PutFault} (Ok p) (Err why) → ⊥
    ok_err why e = cc
  right a b now (Err (puts.Failed faults)) is (inl quiet) d = absurd (omega (arith, quiet_none a b d.own d.talked quiet, d.outcome.2.failed))
  right a b now (Err (puts.Failed faults)) is (inr honest) d =
      let after = holds_after h a b d.own is d.talked in
      let none = one_unfailed d.own after.0 d.few d.calls (subst (λ z. ServesAll z h d.own after.0) honest after.2) in
      absurd (omega (arith, none, d.outcome.2.failed))

pub put_right : (k : Kept) (secret uuid nonce text : List ℕ) (a b : Told) (now : Kept) (r : Result (Unit {0}) PutFault) → IsLaid k → length nonce ≡ 12
    → DidPut k secret uuid nonce text a b now r → PutIsKept k secret uuid nonce text a b r
put_right k secret uuid nonce text a b now r laid nonce_len d = record {
  leaves = λ h is. leaves r d h is;
  right = λ h p calm is fits may. right k secret uuid nonce text h p fits may a b now r is calm d;
} where
  leaves : (r : Result (Unit {0}) PutFault) → DidPut k secret uuid nonce text a b now r → (h : Held) → a.held ≡ Some h → PutLeaves k secret uuid nonce text h b.held r
  leaves (Ok x) d h is =
      let s = puts_held k secret uuid nonce text h a b now is d in
      let there = (fits_found k.parts uuid (length text) s.part s.fits).0 in
      let lies = found_lies k uuid s.part laid there in
      let named = found_named k.parts uuid s.part there in
      stands k secret uuid nonce text h b.held laid (ap length (sym named) ∙ lies.uuid_len) nonce_len s
  leaves (Err why) d h is = puts_keep k secret uuid nonce text h a b now why is d

-- ---- all records

pub one_left : (x y : List Sealing) (z : Sealing) → IsOneOf x z → IsOneOf (x ++ y) z
one_left [] y z i = absurd i
one_left (w ∷ x) y z (inl e) = inl e
one_left (w ∷ x) y z (inr i) = inr (one_left x y z i)

one_last : (x : List Sealing) (z : Sealing) → IsOneOf (x ++ z ∷ []) z
one_last [] z = inl refl
one_last (w ∷ x) z = inr (one_last x z)

-- a record is held of an image whatever its partitions are
of_image : (h : Held) (k : Kept) (secret uuid text : List ℕ) (p : Part) (z : Sealing) → HoldsRecord h k secret p z → HoldsRecord h (put_image k uuid text) secret p z
of_image h k secret uuid text p z holds = record { disk = holds.disk; is = holds.is; room = holds.room; begins = holds.begins; size_is = holds.size_is }

module _ (k : Kept) (secret uuid nonce text : List ℕ) (sealings : List Sealing) (h : Held) (new : Option Held) (put : PutStands k secret uuid nonce text h new) (records : HoldsRecords h k secret sealings) where
  mine : HoldsPut k secret uuid nonce text new
  mine = put.mine

  more : List Sealing
  more = sealings ++ sealing_of put.mine.part uuid nonce text ∷ []

  -- the record that was put
  of_mine : (other : List ℕ) (p : Part) → other ≡ uuid → find_part (keep_size k.parts uuid (payload_size text)) other ≡ Some p → HoldsOneOf mine.held (put_image k uuid text) secret more other p
  unfolding mine more
  of_mine other p same found =
      let q = put.mine.part in
      let there = (fits_found k.parts uuid (length text) q put.mine.fits).0 in
      let is : Some (record q { size = payload_size text }) ≡ Some p =
      sym (ap (λ (o : Option Part). resized_part o (payload_size text)) there) ∙ sym (sizes_kept k.parts uuid (payload_size text)) ∙ ap (find_part (keep_size k.parts uuid (payload_size text))) (sym same) ∙ found in
      let part_is : record q { size = payload_size text } ≡ p = cc in
      record {
        sealing = sealing_of q uuid nonce text;
        was = one_last sealings (sealing_of q uuid nonce text);
        uuid_is = sym same;
        holds = subst (λ (x : Part). HoldsRecord put.mine.held (put_image k uuid text) secret x (sealing_of q uuid nonce text)) part_is
            (of_image put.mine.held k secret uuid text (record q { size = payload_size text }) (sealing_of q uuid nonce text) put.mine.holds);
      }

  -- another one
  of_other : (other : List ℕ) (p : Part) → other ≢ uuid → find_part (keep_size k.parts uuid (payload_size text)) other ≡ Some p → (p.size ≡ 0) ⊎ HoldsOneOf mine.held (put_image k uuid text) secret more other p
  unfolding mine more
  of_other other p apart found =
      let before : find_part k.parts other ≡ Some p = sym (others_kept k.parts uuid other (payload_size text) apart) ∙ found in
      elim (records other p before) [
        | inl none ↦ inl none
        | inr one ↦ (
            let still = put.others other p one.sealing apart before one.holds in
            let e : Some still.held ≡ Some put.mine.held = sym still.held_is ∙ put.mine.held_is in
            let same : still.held ≡ put.mine.held = cc in
            inr (record {
              sealing = one.sealing;
              was = one_left sealings (sealing_of put.mine.part uuid nonce text ∷ []) one.sealing one.was;
              uuid_is = one.uuid_is;
              holds = subst (λ (x : Held). HoldsRecord x (put_image k uuid text) secret p one.sealing) same (of_image still.held k secret uuid text p one.sealing still.holds);
            }))
      ]

  all : HoldsRecords mine.held (put_image k uuid text) secret more
  all other p found = elim (bytes_eq other uuid) as (λ v. bytes_eq other uuid ≡ v → (p.size ≡ 0) ⊎ HoldsOneOf mine.held (put_image k uuid text) secret more other p) [
    | true ↦ λ e. inr (of_mine other p (are_same other uuid e) found)
    | false ↦ λ e. of_other other p (λ same. true_false (sym (same_bytes other uuid same) ∙ e)) found
  ] refl where
    true_false : true ≡ false → ⊥
    true_false e = cc

  after : HoldsAfter k secret uuid nonce text sealings new
  unfolding mine more
  after = record { part = put.mine.part; fits = put.mine.fits; held = put.mine.held; held_is = put.mine.held_is; holds = all }

pub records_kept : PutsKeepRecords
records_kept k secret uuid nonce text sealings h new put records = after k secret uuid nonce text sealings h new put records
