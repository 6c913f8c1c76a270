-- Records that are held, and texts that were sealed.
use Rattle.std.proofs.Common.{◌≡◌, ◌≢◌, ℕ, ◌+◌, ◌-◌, ◌*◌, ◌<◌, ◌≤◌, ◌^◌, Bool, true, false, List, [], ◌∷◌, ◌++◌, length, take, drop, replicate, Option, Some, None, Result, Ok, Err, refl, ap, sym, ◌∙◌, subst, arith, inl, inr, append_assoc, append-nil}
use Rattle.std.specs.Prelude.{◌⊎◌, nat_le, nat_eq, ◌&&◌}
use Rattle.std.specs.Int.{w32, w64, to_le_bytes, from_le_bytes}
use Rattle.std.specs.Map.{update}
use Rattle.std.proofs.lemmas.Bool.Decides.{nat_tests}
use Rattle.std.proofs.lemmas.List.{length-append, length-take, length-drop, length-replicate, take_at, drop_at, take_all}
use Rattle.std.proofs.lemmas.Nat.{from_le_bytes-to_le_bytes_8}
use Rattle.std.proofs.lemmas.Map.{update_here}
use Rattle.sha2.proofs.Facts256.{length-sha256}
use Rattle.key_derive.specs.Derive.{hmac, hkdf, extract, expand_block, expand_blocks}
use Rattle.sealed_record.specs.Sealed.{sealed_form, IsSealed}
use Rattle.sealed_record.proofs.Laws.{texts_are_one, forms_are_longer}
use Rattle.host_traits.specs.declared.calls.Call.{Call}
use Rattle.host_traits.specs.declared.calls.Call.TheVariants.{BlockRead, BlockWrite}
use Rattle.host_traits.specs.declared.calls.Said.{Said}
use Rattle.host_traits.specs.declared.calls.Said.TheVariants.{Bytes, Done}
use Rattle.host_traits.specs.Held.{Held, Disk, over, serve, found, when, all_writable}
use Rattle.host_traits.specs.Told.{Told, Exchanges, Made, Calm, Serves, ServesAll, heard_of, exchange_of, failures_of}
use Rattle.host_traits.specs.Did.{Trace, trace_of, Did, DidBy, IsIn, Each}
use Rattle.instance_image.specs.declared.faults.GetFault.{GetFault}
use Rattle.instance_image.specs.declared.faults.GetFault.TheVariants as gets
use Rattle.instance_image.specs.declared.faults.PutFault.{PutFault}
use Rattle.instance_image.specs.declared.faults.PutFault.TheVariants as puts
use Rattle.instance_image.specs.declared.values.Part.{Part}
use Rattle.instance_image.specs.Records.{Kept, zeros, header_of, header_in, uuid_in, size_in, sectors_of, find_part, size_of, is_large}
use Rattle.instance_image.specs.Sealings.{record_key, record_info, Sealing, BeginsWith, HeardSealing}
use Rattle.instance_image.specs.Access.{get_call, HasRecord, IsGetCall, payload_in, IsAnswered, GetOutcome, payload_size, put_call, IsPutting, PutOutcome, sealing_of, record_bytes}
use Rattle.instance_image.specs.Promised.{TextsWereSealed, HoldsRecord, IsTextOf, RecordIsGot, HasPut, HoldsPut}
use Rattle.instance_image.proofs.Accesses.{fits_found}
use Rattle.instance_image.proofs.Written.{length-header}
use Rattle.instance_image.proofs.Served.{Answers, answers, holds_after, CanServe, reads_keep, no_failure, can_read}

-- ---- lengths

length-hmac : (key text : List ℕ) → length (hmac key text) ≡ 32
unfolding hmac
length-hmac key text = length-sha256 _

length-block : (prk info : List ℕ) → length (expand_block prk info 1) ≡ 32
unfolding expand_block
length-block prk info = length-hmac prk _

pub length-key : (salt secret uuid : List ℕ) → length (record_key salt secret uuid) ≡ 32
unfolding record_key hkdf expand_blocks
length-key salt secret uuid =
    let b = length-block (extract salt secret) (record_info uuid) in
    ap length (take_all 32 (expand_block (extract salt secret) (record_info uuid) 1) (omega (arith, b))) ∙ b

sectors_enough : (n : ℕ) → n ≤ 512 * sectors_of n
sectors_enough n = omega arith

-- ---- what was sealed

pub was_sealed : TextsWereSealed
was_sealed k secret uuid text t sealings a only =
    let p = a.part in
    let bytes = a.bytes in
    let is = a.makes.is_record in
    let s = a.makes.sealed in
    let size : size_in (header_in bytes) ≡ p.size = is.size_is in
    let z : Sealing = record { uuid = uuid; header = header_in bytes; nonce = s.nonce; text = text } in
    let begins : BeginsWith k.salt secret bytes z = record {
      least = omega (arith, size, a.has.least);
      most = omega (arith, size, a.has.most);
      whole = omega (arith, size, is.whole, sectors_enough p.size);
      header_is = refl;
      uuid_is = sym is.uuid_is;
      nonce_len = s.nonce_len;
      sealed = s.is ∙ ap (λ (n : ℕ). take n (drop 512 bytes)) (sym size);
    } in
    let heard : HeardSealing k.salt secret t.own z = record {
      disk = k.disk;
      sector = k.first + p.sector;
      count = 1 + sectors_of p.size;
      bytes = bytes;
      was_heard = subst (λ (x : Exchanges). IsIn (get_call k p) (Bytes bytes) x) (sym a.own) (inl refl);
      begins = begins;
    } in
    record { sealing = z; was = only z heard; heard = heard; uuid_is = refl; text_is = refl }

-- ---- what is held

bytes_is : (a b : List ℕ) → Bytes a ≡ Bytes b → a ≡ b
bytes_is a b e = cc

pair_is : (p q : Said × Held) → Some p ≡ Some q → (p.0 ≡ q.0) × (p.1 ≡ q.1)
pair_is p q e = let same : p ≡ q = cc in (ap (λ x. x.0) same, ap (λ x. x.1) same)

when_is : (b : Bool) (p q : Said × Held) → when {A = Said × Held} b p ≡ Some q → (b ≡ true) × (Some p ≡ Some q)
when_is true p q e = (refl, e)
when_is false p q e = absurd cc

-- the answer to a read of sectors of a disk that is held
pub read_is : (h : Held) (disk sector count : ℕ) (given : List ℕ) (d : Disk) (bytes : List ℕ) (k : Held) → h.disk disk ≡ Some d → serve h (BlockRead disk sector count) given ≡ Some (Bytes bytes, k)
    → bytes ≡ take (512 * count) (drop (512 * sector) d.bytes)
unfolding serve
read_is h disk sector count given d bytes k is e =
    let f : Disk → Option (Said × Held) = λ (x : Disk). when (nat_le (512 * (sector + count)) (length x.bytes)) (Bytes (take (512 * count) (drop (512 * sector) x.bytes)), h) in
    let w = when_is (nat_le (512 * (sector + count)) (length d.bytes)) (Bytes (take (512 * count) (drop (512 * sector) d.bytes)), h) (Bytes bytes, k)
    (ap (λ (o : Option Disk). found o f) (sym is) ∙ e) in
    sym (bytes_is _ _ (pair_is (Bytes (take (512 * count) (drop (512 * sector) d.bytes)), h) (Bytes bytes, k) w.1).0)

-- the one exchange was served
once_is : (h after : Held) (call : Call) (said : Said) (own : Exchanges) → own ≡ (call, said) ∷ [] → Answers h own after → (given : List ℕ) × (mid : Held) × (serve h call given ≡ Some (said, mid))
once_is h after call said own e s = let r = subst (λ (x : Exchanges). Answers h x after) e s in (r.0, r.1, r.2)

module _ (k : Kept) (secret uuid : List ℕ) (p : Part) (z : Sealing) (h after : Held) (t : Trace) (has : HasRecord k uuid p) (of : z.uuid ≡ uuid) (holds : HoldsRecord h k secret p z) (serves : Answers h t.own after)
    (none : t.failed ≡ 0) where
  held : List ℕ
  held = take (512 * (1 + sectors_of p.size)) (drop (512 * (k.first + p.sector)) holds.disk.bytes)

  whole : length held ≡ 512 * (1 + sectors_of p.size)
  unfolding held
  whole =
      let room = holds.room in
      omega (arith, length-take (512 * (1 + sectors_of p.size)) (drop (512 * (k.first + p.sector)) holds.disk.bytes), length-drop (512 * (k.first + p.sector)) holds.disk.bytes)

  begins : BeginsWith k.salt secret held z
  unfolding held
  begins = holds.begins

  size : size_in (header_in held) ≡ p.size
  size = ap size_in (sym begins.header_is) ∙ holds.size_is

  part_is : (q : Part) → HasRecord k uuid q → q ≡ p
  part_is q other = let e : Some q ≡ Some p = sym other.found ∙ has.found in cc

  -- what is answered is what is held
  heard_is : (r : Result (List ℕ) GetFault) (a : IsAnswered k secret uuid t r) → (a.part ≡ p) × (a.bytes ≡ held)
  unfolding held
  heard_is r a =
      let same = part_is a.part a.has in
      let o = once_is h after (get_call k a.part) (Bytes a.bytes) t.own a.own serves in
      let b = read_is h k.disk (k.first + a.part.sector) (1 + sectors_of a.part.size) o.0 holds.disk a.bytes o.1 holds.is o.2 in
      (same, b ∙ ap (λ (q : Part). take (512 * (1 + sectors_of q.size)) (drop (512 * (k.first + q.sector)) holds.disk.bytes)) same)

  sealed : IsSealed (record_key k.salt secret uuid) (header_in held) k.salt (payload_in p held) z.text
  sealed = record {
    nonce = z.nonce;
    nonce_len = begins.nonce_len;
    is = (λ i. sealed_form (record_key k.salt secret (sym of i)) z.nonce (sym begins.header_is i) k.salt z.text) ∙ begins.sealed ∙ ap (λ (n : ℕ). take n (drop 512 held)) size;
  }

  -- two texts of one sealed form are one
  one_text : (text : List ℕ) → IsSealed (record_key k.salt secret uuid) (header_in held) k.salt (payload_in p held) text → text ≡ z.text
  one_text text s = texts_are_one (record_key k.salt secret uuid) (header_in held) k.salt (payload_in p held) text z.text (length-key k.salt secret uuid) s sealed

  uuid_held : uuid_in (header_in held) ≡ uuid
  uuid_held = sym begins.uuid_is ∙ of

  served : (r : Result (List ℕ) GetFault) → GetOutcome k secret uuid r t → IsTextOf z r
  served (Ok text) a =
      let same = heard_is (Ok text) a in
      one_text text (rw (same.0, same.1) at a.makes.sealed)
  served (Err gets.NoRecord) n =
      let one : size_of (find_part k.parts uuid) ≡ Some p.size = ap size_of has.found in
      elim n.2 [ inl e ↦ absurd (some_none p.size (sym one ∙ e)) | inr e ↦ absurd (some_zero p.size has.least (sym one ∙ e)) ] where
        some_none : (n : ℕ) → Some n ≡ None → ⊥
        some_none n e = cc

        some_zero : (n : ℕ) → 28 ≤ n → Some n ≡ Some 0 → ⊥
        some_zero n le e = let z : n ≡ 0 = cc in omega (arith, z)
  served (Err (gets.Failed faults)) f = absurd (omega (arith, none, f.1.failed))
  served (Err (gets.Short asked got)) s =
      let same = heard_is (Err (gets.Short asked got)) s.0 in
      let m = s.0.makes in
      let size_same : s.0.part.size ≡ p.size = ap (λ (q : Part). q.size) same.0 in
      absurd (omega (arith, m.asked_is, m.got_is, m.short, ap length same.1, whole, ap sectors_of size_same))
  served (Err (gets.Changed sector)) a =
      let same = heard_is (Err (gets.Changed sector)) a in
      let changed : (uuid_in (header_in held) ≢ uuid) ⊎ (size_in (header_in held) ≢ p.size) = rw (same.0, same.1) at a.makes.changed in
      elim changed [ inl u ↦ absurd (u uuid_held) | inr s ↦ absurd (s size) ]
  served (Err (gets.Tag tag)) a =
      let same = heard_is (Err (gets.Tag tag)) a in
      absurd (a.makes.nothing z.text (rw (same.0, same.1) sealed))
  served (Err gets.Memory) u = refl

pub get_right : (k : Kept) (secret uuid : List ℕ) (a b : Told) (r : Result (List ℕ) GetFault) → Did (IsGetCall k uuid) 1 a b (GetOutcome k secret uuid r) → RecordIsGot k secret uuid a b r
get_right k secret uuid a b r d = record { right = right } where
  right : (h : Held) (p : Part) (z : Sealing) → Calm a b → a.held ≡ Some h → find_part k.parts uuid ≡ Some p → z.uuid ≡ uuid → HoldsRecord h k secret p z → (b.held ≡ Some h) × IsTextOf z r
  right h p z calm is found of holds =
      let begins = holds.begins in
      let room = holds.room in
      let size : size_in (header_in (take (512 * (1 + sectors_of p.size)) (drop (512 * (k.first + p.sector)) holds.disk.bytes))) ≡ p.size = ap size_in (sym begins.header_is) ∙ holds.size_is in
      let has : HasRecord k uuid p = record { found = found; least = omega (arith, size, begins.least); most = omega (arith, size, begins.most) } in
      let after = holds_after h a b d.own is d.talked in
      let can : (call : Call) → IsGetCall k uuid call → CanServe h call = λ call c. (
      let q : Some c.part ≡ Some p = sym c.has.found ∙ found in
      let same : c.part ≡ p = cc in
      subst (λ z. CanServe h z) (sym (c.call_is ∙ ap (get_call k) same)) (can_read h k.disk (k.first + p.sector) (1 + sectors_of p.size) holds.disk holds.is room)) in
      let kept = reads_keep (IsGetCall k uuid) a.honest d.own h after.0 can after.2 d.calls in
      let none = no_failure (IsGetCall k uuid) d.own h after.0 a b d.talked d.calls can after.2 calm in
      (after.1 ∙ ap Some kept, served k secret uuid p z h after.0 (trace_of (heard_of d.own) (failures_of d.own) a b) has of holds (answers a.honest d.own h after.0 after.2) none r d.outcome)

-- ---- what a put leaves

write_is : (h : Held) (disk sector count : ℕ) (given : List ℕ) (o : Option Disk) (new : Held) → o ≡ h.disk disk
    → found {A = Disk} {B = Said × Held} o (λ (d : Disk). when (nat_le (512 * (sector + count)) (length d.bytes) && all_writable d.writable (512 * sector) (512 * count))
    (Done, record h { disk = update nat_eq h.disk disk (Some (record d { bytes = over d.bytes (512 * sector) given })) })) ≡ Some (Done, new)
    → (d : Disk) × (h.disk disk ≡ Some d) × (512 * (sector + count) ≤ length d.bytes) × (new ≡ record h { disk = update nat_eq h.disk disk (Some (record d { bytes = over d.bytes (512 * sector) given })) })
write_is h disk sector count given None new is e = absurd cc
write_is h disk sector count given (Some d) new is e =
    let w = when_is (nat_le (512 * (sector + count)) (length d.bytes) && all_writable d.writable (512 * sector) (512 * count)) _ (Done, new) e in
    (d, sym is, fits (nat_le (512 * (sector + count)) (length d.bytes)) (all_writable d.writable (512 * sector) (512 * count)) refl w.0, sym (pair_is _ (Done, new) w.1).1) where
      fits : (a b : Bool) → a ≡ nat_le (512 * (sector + count)) (length d.bytes) → (a && b) ≡ true → 512 * (sector + count) ≤ length d.bytes
      fits true b is e = grind (arith, nat_tests)
      fits false b is e = absurd cc

served_write : (h : Held) (disk sector count : ℕ) (given : List ℕ) (new : Held) → serve h (BlockWrite disk sector count) given ≡ Some (Done, new)
    → (d : Disk) × (h.disk disk ≡ Some d) × (512 * (sector + count) ≤ length d.bytes) × (new ≡ record h { disk = update nat_eq h.disk disk (Some (record d { bytes = over d.bytes (512 * sector) given })) })
unfolding serve
served_write h disk sector count given new e = write_is h disk sector count given (h.disk disk) new refl e

-- one answered call of at most one is all
one_made : (F : Call → List ℕ → Type 0) (honest : Bool) (own : List Made) (h k : Held) (call : Call) (said : Said) → length own ≤ 1 → heard_of own ≡ (call, said) ∷ [] → Each F own → ServesAll honest h own k
    → (given : List ℕ) × F call given × (serve h call given ≡ Some (said, k))
one_made F honest [] h k call said few heard each s = absurd (omega (arith, ap length heard))
one_made F honest (m ∷ []) h k call said few heard each s = by_came m.came heard s.1 where
  by_came : (came : Option Said) → exchange_of m.call came ++ [] ≡ (call, said) ∷ [] → Serves honest h m.call m.given came s.0 → (given : List ℕ) × F call given × (serve h call given ≡ Some (said, k))
  by_came None heard one = absurd (omega (arith, ap length heard))
  by_came (Some x) heard one =
      let same : (m.call, x) ≡ (call, said) = cc in
      let call_is : m.call ≡ call = ap (λ (z : Call × Said). z.0) same in
      let said_is : x ≡ said = ap (λ (z : Call × Said). z.1) same in
      (m.given, subst (λ z. F z m.given) call_is each.0, rw (sym call_is, sym said_is, s.2) one)
one_made F honest (m ∷ n ∷ own) h k call said few heard each s = absurd (omega (arith, few))

-- what a put did
abbrev pub DidPut : Kept → List ℕ → List ℕ → List ℕ → List ℕ → Told → Told → Kept → Result (Unit {0}) PutFault → Type 0
DidPut k secret uuid nonce text old new now r = DidBy (IsPutting k secret uuid nonce text) 1 old new (PutOutcome k uuid text now r)

pub puts_held : (k : Kept) (secret uuid nonce text : List ℕ) (h : Held) (a b : Told) (now : Kept) → a.held ≡ Some h → DidPut k secret uuid nonce text a b now (Ok tt) → HasPut k secret uuid nonce text h b.held
puts_held k secret uuid nonce text h a b now is d =
    let put = d.outcome.1 in
    let after = holds_after h a b d.own is d.talked in
    let one = one_made (IsPutting k secret uuid nonce text) a.honest d.own h after.0 (put_call k put.part text) Done d.few put.own_is d.calls after.2 in
    let p : Part = one.1.part in
    let fit : Ok put.part ≡ Ok p = sym put.fits ∙ one.1.fits in
    let same : put.part ≡ p = cc in
    let called : serve h (put_call k p text) (record_bytes k.salt secret (sealing_of p uuid nonce text)) ≡ Some (Done, after.0) =
    subst (λ (q : Part). serve h (put_call k q text) (record_bytes k.salt secret (sealing_of p uuid nonce text)) ≡ Some (Done, after.0)) same
    (subst (λ g. serve h (put_call k put.part text) g ≡ Some (Done, after.0)) one.1.given_is one.2) in
    let s = served_write h k.disk (k.first + p.sector) (1 + sectors_of (payload_size text)) _ after.0 called in
    record {
      part = p;
      fits = one.1.fits;
      disk = s.0;
      is = s.1;
      room = s.2;
      new_is = after.1 ∙ ap Some s.3;
    }

-- calls that all failed changed nothing
pub none_answered : (honest : Bool) (own : List Made) (h k : Held) → heard_of own ≡ [] → ServesAll honest h own k → k ≡ h
none_answered honest [] h k heard s = s
none_answered honest (m ∷ own) h k heard s = by_came m.came heard s.1 (λ rest. none_answered honest own s.0 k rest s.2) where
  by_came : (came : Option Said) → exchange_of m.call came ++ heard_of own ≡ [] → Serves honest h m.call m.given came s.0 → (heard_of own ≡ [] → k ≡ s.0) → k ≡ h
  by_came None heard one later = later heard ∙ one.0
  by_came (Some x) heard one later = absurd (omega (arith, ap length heard))

no_answer : (k : Kept) (uuid text : List ℕ) (now : Kept) (why : PutFault) (t : Trace) → PutOutcome k uuid text now (Err why) t → t.own ≡ []
no_answer k uuid text now (puts.Failed faults) t o = o.1
no_answer k uuid text now puts.Memory t o = o.1
no_answer k uuid text now puts.NoRecord t o = o.1
no_answer k uuid text now (puts.TooLarge n room) t o = o.1

pub puts_keep : (k : Kept) (secret uuid nonce text : List ℕ) (h : Held) (a b : Told) (now : Kept) (why : PutFault) → a.held ≡ Some h → DidPut k secret uuid nonce text a b now (Err why) → b.held ≡ Some h
puts_keep k secret uuid nonce text h a b now why is d =
    let after = holds_after h a b d.own is d.talked in
    after.1 ∙ ap Some (none_answered a.honest d.own h after.0 (no_answer k uuid text now why (trace_of (heard_of d.own) (failures_of d.own) a b) d.outcome) after.2)

-- bytes that were put over others stand there
over_at : (old new : List ℕ) (at : ℕ) → at + length new ≤ length old → take (length new) (drop at (over old at new)) ≡ new
over_at old new at room =
    let none : at - length old ≡ 0 = omega arith in
    let front : length (take at old) ≡ at = omega (arith, length-take at old) in
    let rest : List ℕ = drop (at + length new) old in
    let shape : over old at new ≡ take at old ++ (new ++ rest) = ap (λ (n : ℕ). take at old ++ replicate n 0 ++ new ++ rest) none ∙ simp (append-nil, append_assoc) in
    ap (λ (l : List ℕ). take (length new) (drop at l)) shape ∙ ap (take (length new)) (drop_at (take at old) (new ++ rest) at front) ∙ take_at new rest (length new) refl

pub over_long : (old new : List ℕ) (at : ℕ) → at + length new ≤ length old → length (over old at new) ≡ length old
over_long old new at room = simp (length-append, length-replicate, length-take, length-drop) (omega arith)

pub length-sealed : (key nonce header salt text : List ℕ) → length key ≡ 32 → length nonce ≡ 12 → length (sealed_form key nonce header salt text) ≡ 28 + length text
length-sealed = forms_are_longer

size_of_header : (uuid : List ℕ) (size reserved : ℕ) → length uuid ≡ 16 → size < 2 ^ 64 → size_in (header_of uuid size reserved) ≡ size
unfolding header_of
size_of_header uuid size reserved len few =
    let rest : List ℕ = to_le_bytes w64 size ++ (to_le_bytes w32 reserved ++ zeros 484) in
    ap (λ (l : List ℕ). from_le_bytes w64 (take 8 l)) (drop_at uuid rest 16 len) ∙ from_le_bytes-to_le_bytes_8 size few

uuid_of_header : (uuid : List ℕ) (size reserved : ℕ) → length uuid ≡ 16 → uuid_in (header_of uuid size reserved) ≡ uuid
unfolding header_of
uuid_of_header uuid size reserved len = take_at uuid (to_le_bytes w64 size ++ (to_le_bytes w32 reserved ++ zeros 484)) 16 len

pub few_of : (n : ℕ) (p : Part) → is_large n p ≡ false → n ≤ 65536
few_of n p e = grind (arith, nat_tests)

module _ (salt secret uuid nonce text : List ℕ) (p : Part) (uuid_len : length uuid ≡ 16) (nonce_len : length nonce ≡ 12) (few : length text ≤ 65536) where
  mine : Sealing
  mine = sealing_of p uuid nonce text

  n : ℕ
  n = 28 + length text

  form : List ℕ
  form = sealed_form (record_key salt secret uuid) nonce (header_of uuid (28 + length text) p.reserved) salt text

  form_len : length form ≡ 28 + length text
  unfolding form
  form_len = length-sealed (record_key salt secret uuid) nonce (header_of uuid (28 + length text) p.reserved) salt text (length-key salt secret uuid) nonce_len

  header_len : length (header_of uuid (28 + length text) p.reserved) ≡ 512
  header_len = length-header uuid (28 + length text) p.reserved uuid_len

  pub record_len : length (record_bytes salt secret (sealing_of p uuid nonce text)) ≡ 512 * (1 + sectors_of (28 + length text))
  unfolding form form_len
  record_len =
      let pad : List ℕ = zeros (512 * sectors_of (28 + length text) - (28 + length text)) in
      length-append (header_of uuid (28 + length text) p.reserved) (form ++ pad)
      ∙ omega (arith, header_len, length-append form pad, form_len, length-replicate {A = ℕ} (512 * sectors_of (28 + length text) - (28 + length text)) 0, sectors_enough (28 + length text))

  pub record_begins : BeginsWith salt secret (record_bytes salt secret (sealing_of p uuid nonce text)) (sealing_of p uuid nonce text)
  unfolding form form_len
  record_begins =
      let header : List ℕ = header_of uuid (28 + length text) p.reserved in
      let pad : List ℕ = zeros (512 * sectors_of (28 + length text) - (28 + length text)) in
      let head : header_in (record_bytes salt secret (sealing_of p uuid nonce text)) ≡ header = take_at header (form ++ pad) 512 header_len in
      let size : size_in (header_in (record_bytes salt secret (sealing_of p uuid nonce text))) ≡ 28 + length text = ap size_in head ∙ size_of_header uuid (28 + length text) p.reserved uuid_len (omega (arith, few)) in
      record {
        least = omega (arith, size);
        most = omega (arith, size, few);
        whole = omega (arith, size, record_len, sectors_enough (28 + length text));
        header_is = sym head;
        uuid_is = sym (ap uuid_in head ∙ uuid_of_header uuid (28 + length text) p.reserved uuid_len);
        nonce_len = nonce_len;
        sealed = sym (ap (λ (m : ℕ). take m (drop 512 (record_bytes salt secret (sealing_of p uuid nonce text)))) size
            ∙ ap (take (28 + length text)) (drop_at header (form ++ pad) 512 header_len) ∙ take_at form pad (28 + length text) form_len);
      }

pub puts_hold : (k : Kept) (secret uuid nonce text : List ℕ) (h : Held) (new : Option Held) → length uuid ≡ 16 → length nonce ≡ 12 → HasPut k secret uuid nonce text h new → HoldsPut k secret uuid nonce text new
puts_hold k secret uuid nonce text h new uuid_len nonce_len s =
    let p = s.part in
    let fits = fits_found k.parts uuid (length text) p s.fits in
    let few : length text ≤ 65536 = few_of (length text) p fits.1 in
    let given : List ℕ = record_bytes k.salt secret (sealing_of p uuid nonce text) in
    let len : length given ≡ 512 * (1 + sectors_of (28 + length text)) = record_len k.salt secret uuid nonce text p uuid_len nonce_len few in
    let at : ℕ = 512 * (k.first + p.sector) in
    let room : at + length given ≤ length s.disk.bytes = omega (arith, s.room, len) in
    let there : take (512 * (1 + sectors_of (28 + length text))) (drop at (over s.disk.bytes at given)) ≡ given =
    ap (λ (m : ℕ). take m (drop at (over s.disk.bytes at given))) (sym len) ∙ over_at s.disk.bytes given at room in
    let begins = record_begins k.salt secret uuid nonce text p uuid_len nonce_len few in
    let disk : Disk = record s.disk { bytes = over s.disk.bytes at given } in
    record {
      part = p;
      fits = s.fits;
      held = record h { disk = update nat_eq h.disk k.disk (Some disk) };
      held_is = s.new_is;
      holds = record {
        disk = disk;
        is = update_here h.disk k.disk (Some disk);
        room = omega (arith, over_long s.disk.bytes given at room, room, len);
        begins = subst (λ (b : List ℕ). BeginsWith k.salt secret b (sealing_of p uuid nonce text)) (sym there) begins;
        size_is = size_of_header uuid (28 + length text) p.reserved uuid_len (omega (arith, few));
      };
    }
