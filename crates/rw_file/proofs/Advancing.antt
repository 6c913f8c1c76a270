-- A write, block by block.
use Rattle.std.proofs.Common.{◌≡◌, ℕ, zero, suc, ◌+◌, ◌-◌, ◌*◌, ◌/◌, ◌%◌, ◌<◌, ◌≤◌, ◌∙◌, ◌⊎◌, List, [], ◌∷◌, ◌++◌, map, length, take, drop, min, max, Some, None, Ok, Err, true, false, refl, ap, sym, subst, arith, inl, inr, ⊎_elim, append-nil}
use Rattle.std.specs.Prelude.{slice_range, nat_eq}
use Rattle.std.proofs.lemmas.Bool.{ne_eqb, eq-eqb}
use Rattle.std.proofs.lemmas.List.{length-take, length-drop}
use Rattle.std.proofs.Math.Seq.{take-add}
use Rattle.std.proofs.Math.Nat.{suc-mul, mul-le-mul_right}
use Rattle.host_traits.specs.declared.calls.Call.{Call}
use Rattle.host_traits.specs.declared.calls.Call.TheVariants.{FileRead, FileWrite}
use Rattle.host_traits.specs.declared.calls.Said.{Said}
use Rattle.host_traits.specs.declared.calls.Said.TheVariants.{Bytes}
use Rattle.host_traits.specs.Held.{over}
use Rattle.host_traits.specs.Told.{Told, Exchanges}
use Rattle.host_traits.specs.Did.{Trace, trace_of, IsIn}
use Rattle.leaf_tree.specs.Outcomes.{Standing}
use Rattle.leaf_tree.specs.Worked.{Worked}
use Rattle.leaf_tree.proofs.Working.{worked_more, worked_hands, worked_none, worked_as, worked_so, worked_then, worked_calls}
use Rattle.sha_tree.specs.Tree.{block_count, top}
use Rattle.sha_tree.specs.Path.{NoClash}
use Rattle.verity_path.specs.Range.{touched}
use Rattle.verity_path.specs.declared.walk.WalkFault.{WalkFault}
use Rattle.verity_path.proofs.Pieces.{piece_left, piece_right}
use Rattle.rw_file.specs.Contents.{Meaning, meaning, IsFileHashed, IsAtHost, Only, version, next_border, IsBorder, IsVersion}
use Rattle.rw_file.specs.Asked.{AreAsked, AreBegun}
use Rattle.rw_file.specs.Calls.{block_read, block_write, block_writes, bare_read, block_calls, write_calls, WritesTo, changes_in, IsForFileWrite, most_write, Hands}
use Rattle.rw_file.specs.Blame.{Each}
use Rattle.rw_file.specs.Rows.{IsNow, IsTreeTo, size_with}
use Rattle.rw_file.specs.Steps.{BlockOutcome, IsPlacedTo, ProgressOutcome}
use Rattle.rw_file.proofs.Ordered.{asked_none, asked_on, begun_on, bare_yes, bare_no, place_in, want_in, Follows}
use Rattle.rw_file.proofs.Bytes.{lt_or_le, over-over, over-part}
use Rattle.rw_file.proofs.Hashed.{apart_fewer, file_hashed, each_more}
use Rattle.rw_file.proofs.Serving.{now_on, blame_on}
use Rattle.rw_file.proofs.Splicing.{top-mono}
use Rattle.rw_file.proofs.Putting.{tree_wider}
use Rattle.rw_file.proofs.Changing.{touched_none, writes_none, then_none, then_more}
use Rattle.rw_file.proofs.Handing.{part_hands}
use Rattle.std.specs.List.{range_with_len, flat_map}
use Rattle.std.proofs.lemmas.Grind.{flat_map-append}
use Rattle.sha_tree.proofs.Levels.{range_with_len-more}
use Rattle.std.proofs.lemmas.List.FromFn.{map-range_with_len_more}
use Rattle.rw_file.proofs.Uncounted.{uncounted_on}

take-on : (xs : List ℕ) (n m : ℕ) → n ≤ m → take n xs ++ take (m - n) (drop n xs) ≡ take m xs
take-on xs n m le = let e : n + (m - n) ≡ m = omega (arith, le) in sym (take-add n (m - n) xs) ∙ ap (λ (k : ℕ). take k xs) e

-- one block more
pub version-on : (c : List ℕ) (at : ℕ) (bytes : List ℕ) (n m : ℕ) → n < m → m ≤ length bytes →
    over (version c at bytes n) (at + n) (slice_range bytes n m) ≡ version c at bytes m
version-on c at bytes n zero lt le = absurd (omega (arith, lt))
version-on c at bytes zero (suc m) lt le = let here : at + 0 ≡ at = omega arith in
    let all : suc m - 0 ≡ suc m = omega arith in
    ap (λ (k : ℕ). over c k (take (suc m - 0) bytes)) here ∙ ap (λ (k : ℕ). over c at (take k bytes)) all
version-on c at bytes (suc n) (suc m) lt le =
    let long : length (take (suc n) bytes) ≡ suc n = omega (arith, length-take (suc n) bytes, lt, le) in
    ap (λ (k : ℕ). over (over c at (take (suc n) bytes)) (at + k) (take (suc m - suc n) (drop (suc n) bytes))) (sym long)
    ∙ over-over c at (take (suc n) bytes) (take (suc m - suc n) (drop (suc n) bytes))
    ∙ ap (λ (xs : List ℕ). over c at xs) (take-on bytes (suc n) (suc m) (omega (arith, lt)))

version-part : (c : List ℕ) (at : ℕ) (bytes : List ℕ) (n k want : ℕ) → n ≤ length bytes → (0 < n → at + n ≤ k) → k + want ≤ length c →
    take want (drop k (version c at bytes n)) ≡ take want (drop k c)
version-part c at bytes zero k want le past within = refl
version-part c at bytes (suc n) k want le past within =
    let long : length (take (suc n) bytes) ≡ suc n = omega (arith, length-take (suc n) bytes, le) in
    let after : at + suc n ≤ k = past (omega arith) in
    over-part c at (take (suc n) bytes) k want (omega (arith, long, after)) within

pub size_zero : (size at n : ℕ) → n ≡ 0 → size_with size at n ≡ size
size_zero size at n z = let test : nat_eq n 0 ≡ true = eq-eqb n 0 z in rw test refl

pub size_some : (size at n : ℕ) → 0 < n → size_with size at n ≡ max size (at + n)
size_some size at n some = let test : nat_eq n 0 ≡ false = ne_eqb n 0 (λ z. omega (arith, some, z)) in rw test refl

zero_or : (n : ℕ) → (n ≡ 0) ⊎ (0 < n)
zero_or zero = inl refl
zero_or (suc n) = inr (omega arith)

touched_next : (at n m : ℕ) → n < m → (n ≡ 0) ⊎ ((at + n) % 4096 ≡ 0) → m ≤ 4096 * ((at + n) / 4096 + 1) - at →
    touched at (at + m) ≡ touched at (at + n) + 1
touched_next at n m lt border le = ⊎_elim
    (λ z. touched_is at m (omega (arith, lt)) ∙ first z ∙ ap (λ (k : ℕ). touched at (at + k) + 1) (sym z))
    (λ some. touched_is at m (omega (arith, lt)) ∙ next some ∙ ap (λ (k : ℕ). k + 1) (sym (touched_is at n some)))
    (zero_or n) where
      touched_is : (at k : ℕ) → 0 < k → touched at (at + k) ≡ (at + k + 4095) / 4096 - at / 4096
      touched_is at k some = grind (arith, some)

      first : n ≡ 0 → (at + m + 4095) / 4096 - at / 4096 ≡ touched at (at + 0) + 1
      first z = rw (touched_none at) (omega (arith, z, lt, le))

      aligned : 0 < n → (at + n) % 4096 ≡ 0
      aligned some = ⊎_elim (λ z. absurd (omega (arith, z, some))) (λ h. h) border

      next : 0 < n → (at + m + 4095) / 4096 - at / 4096 ≡ (at + n + 4095) / 4096 - at / 4096 + 1
      next some = let h = aligned some in omega (arith, h, lt, le, some)

-- a block of bytes: from the n-th to the m-th
module _ (is_local : Type 0) (file size at len n m now : ℕ) (some : n < len) (border : (n ≡ 0) ⊎ ((at + n) % 4096 ≡ 0))
    (m_is : m ≡ next_border at len n) (now_is : now ≡ size_with size at n) where
  m_more : n < m
  m_more = omega (arith, m_is, some)

  now_same : (block : ℕ) → (at + n) / 4096 ≤ block → 4096 * block < now → now ≡ size
  now_same block from there = ⊎_elim (λ z. now_is ∙ size_zero size at n z)
      (λ more. let aligned : (at + n) % 4096 ≡ 0 = ⊎_elim (λ z. absurd (omega (arith, z, more))) (λ h. h) border in
      omega (arith, now_is, size_some size at n more, from, there, aligned)) (zero_or n)

  start_or : (n ≡ 0) ⊎ ((0 < n) × ((at + n) % 4096 ≡ 0))
  start_or = ⊎_elim (λ z. inl z) (λ more. inr (more, ⊎_elim (λ z. absurd (omega (arith, z, more))) (λ h. h) border)) (zero_or n)

  now_between : (size ≤ now) × (now ≤ max size (at + len))
  now_between = ⊎_elim (λ z. (omega (arith, now_is, size_zero size at n z), omega (arith, now_is, size_zero size at n z)))
      (λ more. (omega (arith, now_is, size_some size at n more), omega (arith, now_is, size_some size at n more, some))) (zero_or n)

  pub calls_for : (call : Call) → IsForFileWrite is_local file now (at + n) (m - n) call → IsForFileWrite is_local file size at len call
  calls_for call (p, inl r) =
      let same : now ≡ size = now_same r.block r.from r.there in (
        omega (arith, some),
        inl (record {
          block = r.block;
          from = omega (arith, r.from);
          to = omega (arith, r.to, m_is, m_more);
          there = omega (arith, r.there, same);
          bare = ⊎_elim
              (λ low. ⊎_elim (λ z. inl (omega (arith, low, z))) (λ a. absurd (omega (arith, low, r.from, a.1))) start_or)
              (λ few. inr (omega (arith, few, same, m_is, m_more, r.from, r.to)))
              r.bare;
          call_is = r.call_is ∙ ap (λ (s : ℕ). block_read file s r.block) same;
        }),
      )
  calls_for call (p, inr (inl w)) =
      let begins : max (at + n) (4096 * w.block) ≡ max at (4096 * w.block) = ⊎_elim (λ z. omega (arith, z)) (λ a. omega (arith, w.from, a.1)) start_or in
      let ends : min (at + n + (m - n)) (4096 * (w.block + 1)) ≡ min (at + len) (4096 * (w.block + 1)) = omega (arith, m_is, m_more, w.from, w.to) in (
        omega (arith, some),
        inr (inl (record {
          block = w.block;
          from = omega (arith, w.from);
          to = omega (arith, w.to, m_is, m_more);
          call_is = w.call_is ∙ ap (λ (k : ℕ). FileWrite file (max (at + n) (4096 * w.block)) (k - max (at + n) (4096 * w.block))) ends ∙ ap (λ (k : ℕ). FileWrite file k (min (at + len) (4096 * (w.block + 1)) - k)) begins;
        })),
      )
  calls_for call (p, inr (inr t)) =
      let b = now_between in
      (omega (arith, some), inr (inr (tree_wider is_local file (block_count now) (block_count (max now (at + n + (m - n)))) (block_count size) (block_count (max size (at + len))) (omega (arith, b)) (omega (arith, b, m_is, m_more)) call t)))

  each_low : top (block_count (max now (at + n + (m - n)))) + 1 ≤ top (block_count (max size (at + len))) + 1
  each_low = let b = now_between in let low = top-mono (block_count (max now (at + n + (m - n)))) (block_count (max size (at + len))) (omega (arith, b, m_is, m_more)) in omega (arith, low)

  -- the n-th byte is the first of its block's
  block_at : at / 4096 + touched at (at + n) ≡ (at + n) / 4096
  block_at = ⊎_elim
      (λ z. ap (λ (k : ℕ). at / 4096 + touched at (at + k)) z ∙ ap (λ (k : ℕ). at / 4096 + k) (touched_none at) ∙ (let e : at / 4096 + 0 ≡ (at + n) / 4096 = omega (arith, z) in e))
      (λ more. let full : touched at (at + n) ≡ (at + n + 4095) / 4096 - at / 4096 = grind (arith, more) in omega (arith, full, more.1, more.0))
      start_or

  block_is : (k : ℕ) → k ≡ m - n → block_write file at (at + len) ((at + n) / 4096) ≡ FileWrite file (at + n) k
  block_is k is =
      let begins : max at (4096 * ((at + n) / 4096)) ≡ at + n = ⊎_elim (λ z. omega (arith, z)) (λ a. omega (arith, a.1)) start_or in
      let ends : min (at + len) (4096 * ((at + n) / 4096 + 1)) - (at + n) ≡ k = omega (arith, is, m_is, some) in
      ap (λ (b : ℕ). FileWrite file b (min (at + len) (4096 * ((at + n) / 4096 + 1)) - b)) begins ∙ ap (λ (c : ℕ). FileWrite file (at + n) c) ends

  blocks_next : (k : ℕ) → k ≡ m - n → block_writes file at len n ++ FileWrite file (at + n) k ∷ [] ≡ block_writes file at len m
  blocks_next k is = sym (
      ap (λ (j : ℕ). map (block_write file at (at + len)) (range_with_len (at / 4096) j)) (touched_next at n m m_more border (omega (arith, m_is)))
      ∙ map-range_with_len_more (block_write file at (at + len)) (at / 4096) (touched at (at + n)) ((at + n) / 4096) block_at
      ∙ ap (λ (c : Call). block_writes file at len n ++ c ∷ []) (block_is k is))

  bare_same : bare_read file now (at + n) (at + n + (m - n)) ((at + n) / 4096) ≡ bare_read file size at (at + len) ((at + n) / 4096)
  bare_same =
      let i : ℕ = (at + n) / 4096 in
      ⊎_elim
      (λ there.
      let same : now ≡ size = now_same i (omega arith) there in
      ⊎_elim
      (λ low. bare_yes file now (at + n) (at + n + (m - n)) i there (inl low) ∙ ap (λ (s : ℕ). block_read file s i ∷ []) same
      ∙ sym (bare_yes file size at (at + len) i (omega (arith, there, same)) (inl (⊎_elim (λ z. omega (arith, low, z)) (λ a. absurd (omega (arith, low, a.1))) start_or))))
      (λ high. ⊎_elim
      (λ few. bare_yes file now (at + n) (at + n + (m - n)) i there (inr few) ∙ ap (λ (s : ℕ). block_read file s i ∷ []) same
      ∙ sym (bare_yes file size at (at + len) i (omega (arith, there, same)) (inr (omega (arith, few, same, m_is, m_more)))))
      (λ whole. bare_no file now (at + n) (at + n + (m - n)) i (inr (high, whole)) ∙ sym (bare_no file size at (at + len) i (inr (omega (arith, high), omega (arith, whole, same, m_is, m_more, there)))))
      (lt_or_le (at + n + (m - n)) (min now (4096 * (i + 1)))))
      (lt_or_le (4096 * i) (at + n)))
      (λ past. bare_no file now (at + n) (at + n + (m - n)) i (inl past) ∙ sym (bare_no file size at (at + len) i (inl (omega (arith, past, now_between)))))
      (lt_or_le (4096 * i) now)

  -- the calls for the block are those of the whole write for it
  block_same : block_calls file now (at + n) (at + n + (m - n)) ((at + n) / 4096) ≡ block_calls file size at (at + len) ((at + n) / 4096)
  block_same =
      let begins : max (at + n) (4096 * ((at + n) / 4096)) ≡ at + n = omega arith in
      let ends : min (at + n + (m - n)) (4096 * ((at + n) / 4096 + 1)) - (at + n) ≡ m - n = omega (arith, m_is, some) in
      let write : block_write file (at + n) (at + n + (m - n)) ((at + n) / 4096) ≡ block_write file at (at + len) ((at + n) / 4096) =
      ap (λ (b : ℕ). FileWrite file b (min (at + n + (m - n)) (4096 * ((at + n) / 4096 + 1)) - b)) begins ∙ ap (λ (k : ℕ). FileWrite file (at + n) k) ends ∙ sym (block_is (m - n) refl) in
      ap (λ (l : List Call). l ++ block_write file (at + n) (at + n + (m - n)) ((at + n) / 4096) ∷ []) bare_same ∙ ap (λ (c : Call). bare_read file size at (at + len) ((at + n) / 4096) ++ c ∷ []) write

  module _ (bytes : List ℕ) (len_is : len ≡ length bytes) (first stands : Standing) (x y z : Told)
      (d : Worked (Hands at bytes) (touched at (at + n)) (IsForFileWrite is_local file size at len) (touched at (at + n) * (top (block_count (max size (at + len))) + 1)) x y (IsPlacedTo file size at bytes n (meaning size first) (meaning now stands) x.held y.held)) where
    -- the version that is here is one of those
    here : (k : ℕ) → n ≤ k → (c v : List ℕ) → Only (version c at bytes n) v → IsVersion c at bytes k v
    here k le c v is = record { n = n; most = le; border = ⊎_elim (λ e. inl e) (λ h. inr (inr h)) border; is = is }

    clear : (a b : Exchanges) (k : ℕ) → n ≤ k → (c : List ℕ) → NoClash (IsFileHashed (IsVersion c at bytes k) (a ++ b)) →
        NoClash (IsFileHashed (Only (version c at bytes n)) b)
    clear a b k le c apart = apart_fewer (IsFileHashed (Only (version c at bytes n)) b) (IsFileHashed (IsVersion c at bytes k) (a ++ b))
        (file_hashed (Only (version c at bytes n)) (IsVersion c at bytes k) b (a ++ b) (here k le c) (piece_right a b)) apart

    early : (a b : Exchanges) (k : ℕ) → n ≤ k →
        IsPlacedTo file size at bytes n (meaning size first) (meaning now stands) x.held y.held (trace_of a 0 x y) →
        Each (meaning size first) (λ c. IsVersion c at bytes k) (a ++ b) (λ c. IsNow (meaning size first) (meaning now stands) file x.held y.held c (version c at bytes n))
    early a b k le p = each_more (meaning size first) (λ c. IsVersion c at bytes n) (λ c. IsVersion c at bytes k) a (a ++ b) _
        (λ c v i. record { n = i.n; most = omega (arith, i.most, le); border = i.border; is = i.is }) (piece_left a b) p.content

    more_writes : (a b : Exchanges) (k : ℕ) → k ≡ m - n → changes_in a ≡ block_writes file at (length bytes) n →
        changes_in b ≡ FileWrite file (at + n) k ∷ [] → changes_in (a ++ b) ≡ block_writes file at (length bytes) m
    more_writes a b k is first more =
        then_more a b (block_writes file at (length bytes) n) (FileWrite file (at + n) k ∷ []) first more
        ∙ subst (λ (l : ℕ). block_writes file at l n ++ FileWrite file (at + n) k ∷ [] ≡ block_writes file at l m) len_is (blocks_next k is)

    writes_to : (a b : Exchanges) (k : ℕ) → k ≡ m - n → changes_in a ≡ block_writes file at (length bytes) n →
        (changes_in b ≡ []) ⊎ ((is_local → ⊥) × (changes_in b ≡ FileWrite file (at + n) k ∷ []))
        → WritesTo is_local file at (length bytes) n (a ++ b)
    writes_to a b k is first (inl none) = inl (then_none a b (block_writes file at (length bytes) n) first none)
    writes_to a b k is first (inr far) =
        inr (far.0, more_writes a b k is first far.1 ∙ ap (λ (j : ℕ). block_writes file at (length bytes) j) (m_is ∙ ap (λ (l : ℕ). next_border at l n) len_is))

    longer : (k : ℕ) → n ≤ k → (c v : List ℕ) → IsVersion c at bytes n v → IsVersion c at bytes k v
    longer k le c v i = record { n = i.n; most = omega (arith, i.most, le); border = i.border; is = i.is }

    -- the reads of the block are right by the content before the write too
    follows : (a b : Exchanges) (k : ℕ) → n ≤ k →
        IsPlacedTo file size at bytes n (meaning size first) (meaning now stands) x.held y.held (trace_of a 0 x y) →
        ((call : Call) (said : Said) → IsIn call said b → IsForFileWrite is_local file now (at + n) (m - n) call) → Follows (meaning size first) (meaning now stands) (λ c. IsVersion c at bytes k) (λ c. version c at bytes n) a b
    follows a b k le p calls = λ c is apart. (
      (early a b k le p c is apart).now,
      clear a b k le c apart,
      λ f from want said i right. right ∙ ap (λ (xs : List ℕ). Bytes xs) (same_part c is.size_is f from want (calls (FileRead f from want) said i)),
    ) where
      same_part : (c : List ℕ) → size ≡ length c → (f from want : ℕ) → IsForFileWrite is_local file now (at + n) (m - n) (FileRead f from want) →
          take want (drop from (version c at bytes n)) ≡ take want (drop from c)
      same_part c long f from want (q, inl r) =
          let same : now ≡ size = now_same r.block r.from r.there in
          let place : from ≡ 4096 * r.block = ap place_in r.call_is in
          let count : want ≡ min (now - 4096 * r.block) 4096 = ap want_in r.call_is in
          ⊎_elim
          (λ z. ap (λ (k : ℕ). take want (drop from (version c at bytes k))) z)
          (λ more. version-part c at bytes n from want (omega (arith, some, len_is)) (λ s. omega (arith, place, r.from, more.1)) (omega (arith, place, count, same, long, r.there)))
          start_or
      same_part c long f from want (q, inr (inl w)) = absurd (let e = w.call_is in (cc))
      same_part c long f from want (q, inr (inr t)) = absurd (elim t.call_is [
        | inl e ↦ cc
        | inr e ↦ cc
      ])

    -- the calls for the block are those of the whole write for it
    calls_same : (part : List ℕ) → length part ≡ m - n →
        block_calls file now (at + n) (at + n + length part) ((at + n) / 4096) ≡ block_calls file size at (at + length bytes) ((at + n) / 4096)
    calls_same part long =
        ap (λ (k : ℕ). block_calls file now (at + n) (at + n + k) ((at + n) / 4096)) long ∙ block_same ∙ ap (λ (k : ℕ). block_calls file size at (at + k) ((at + n) / 4096)) len_is

    calls_next : write_calls file size at (length bytes) n ++ block_calls file size at (at + length bytes) ((at + n) / 4096) ≡ write_calls file size at (length bytes) m
    calls_next = sym (
        ap (λ (j : ℕ). flat_map (block_calls file size at (at + length bytes)) (range_with_len (at / 4096) j)) (touched_next at n m m_more border (omega (arith, m_is)))
        ∙ ap (flat_map (block_calls file size at (at + length bytes))) (range_with_len-more (at / 4096) (touched at (at + n)) ((at + n) / 4096) block_at)
        ∙ flat_map-append (block_calls file size at (at + length bytes)) (range_with_len (at / 4096) (touched at (at + n))) ((at + n) / 4096 ∷ [])
        ∙ ap (λ (l : List Call). write_calls file size at (length bytes) n ++ l) (append-nil (block_calls file size at (at + length bytes) ((at + n) / 4096))))

    begun_is : {V : List ℕ → List ℕ → Type 0} {done done2 next next2 : List Call} {t : Trace} {w : WalkFault} → done ≡ done2 → next ≡ next2 →
        AreBegun (meaning size first) V done next t w → AreBegun (meaning size first) V done2 next2 t w
    begun_is {V} {done} {done2} {next} {next2} {t} {w} d n b = subst (λ (l : List Call). AreBegun (meaning size first) V l next2 t w) d (subst (λ (l : List Call). AreBegun (meaning size first) V done l t w) n b)

    -- the calls of a block are known
    known : {P : Trace → Type 0} {low : ℕ} {k : ℕ} → low ≤ k →
        Worked (Hands at bytes) 1 (IsForFileWrite is_local file now (at + n) (m - n)) low y z P →
        Worked (Hands at bytes) 1 (IsForFileWrite is_local file size at len) k y z (λ t. P t × ((call : Call) (said : Said) → IsIn call said t.own → IsForFileWrite is_local file now (at + n) (m - n) call))
    known {P} {low} {k} le e =
        worked_as _ _ _ _ low k y z _ _ e calls_for le (e.outcome, worked_calls (IsForFileWrite is_local file now (at + n) (m - n)) e.own e.calls)

    part_is : (part : List ℕ) → part ≡ slice_range bytes n m → (c : List ℕ) → over (version c at bytes n) (at + n) part ≡ version c at bytes m
    part_is part is c =
        ap (λ (q : List ℕ). over (version c at bytes n) (at + n) q) is ∙ version-on c at bytes n m m_more (omega (arith, m_is, len_is))

    inner : (part : List ℕ) → part ≡ slice_range bytes n m → length part ≡ m - n → (most : ℕ) (P : Trace → Type 0) →
        Worked (Hands (at + n) part) 1 (IsForFileWrite is_local file now (at + n) (m - n)) most y z P →
        Worked (Hands at bytes) 1 (IsForFileWrite is_local file now (at + n) (m - n)) most y z P
    inner part is long most P e = worked_hands (Hands (at + n) part) (Hands at bytes) 1 (IsForFileWrite is_local file now (at + n) (m - n)) most y z P
        (λ call given c p. part_hands bytes part n m at is long (omega (arith, m_is, len_is)) (omega (arith, m_more)) call given p) e

    pub step_on : (part : List ℕ) (stands2 : Standing) (u : Unit {0}) → part ≡ slice_range bytes n m → length part ≡ m - n →
        Worked (Hands (at + n) part) 1 (IsForFileWrite is_local file now (at + n) (length part)) (top (block_count (max now (at + n + length part))) + 1) y z (BlockOutcome is_local file now (at + n) part stands stands2 y.held z.held (Ok u)) →
        Worked (Hands at bytes) (touched at (at + m)) (IsForFileWrite is_local file size at len) (touched at (at + m) * (top (block_count (max size (at + len))) + 1)) x z (IsPlacedTo file size at bytes m (meaning size first) (meaning (max now (at + n + length part)) stands2) x.held z.held)
    step_on part stands2 u is long e =
        let e2 : Worked (Hands (at + n) part) 1 (IsForFileWrite is_local file now (at + n) (m - n)) (top (block_count (max now (at + n + (m - n)))) + 1) y z (BlockOutcome is_local file now (at + n) part stands stands2 y.held z.held (Ok u)) =
        subst (λ (k : ℕ). Worked (Hands (at + n) part) 1 (IsForFileWrite is_local file now (at + n) k) (top (block_count (max now (at + n + k))) + 1) y z (BlockOutcome is_local file now (at + n) part stands stands2 y.held z.held (Ok u))) long e in
        let next : touched at (at + m) ≡ suc (touched at (at + n)) = touched_next at n m m_more border (omega (arith, m_is)) ∙ (let s : touched at (at + n) + 1 ≡ suc (touched at (at + n)) = omega arith in s) in
        let bound : touched at (at + m) * (top (block_count (max size (at + len))) + 1) ≡ touched at (at + n) * (top (block_count (max size (at + len))) + 1) + (top (block_count (max size (at + len))) + 1) =
        ap (λ (k : ℕ). k * (top (block_count (max size (at + len))) + 1)) next ∙ suc-mul (touched at (at + n)) (top (block_count (max size (at + len))) + 1) in
        rw bound (worked_more _ (touched at (at + n) + 1) (touched at (at + m)) _ _ x z _ (omega (arith, next)) (worked_then _ _ _ _ _ _ x y z _ _ _ d (known each_low (inner part is long _ _ e2)) (λ t p. p.failed) (λ a b failed le p q. record {
          failed = q.0.failed;
          writes = more_writes a b (length part) long p.writes q.0.writes;
          asked = subst (λ (l : List Call). AreAsked (meaning size first) (λ c. IsVersion c at bytes m) l (trace_of (a ++ b) failed x z)) calls_next
              (asked_on (meaning size first) (λ c. IsVersion c at bytes m) (λ c. IsVersion c at bytes n) (longer m (omega (arith, m_more))) (write_calls file size at (length bytes) n) x y z a b failed p.asked
              (meaning now stands) (λ c. version c at bytes n) _ (follows a b m (omega (arith, m_more)) p q.1) (subst (λ (l : List Call). AreAsked (meaning now stands) Only l (trace_of b failed y z)) (calls_same part long) q.0.asked));
          content = λ c ok apart.
              let was = early a b m (omega (arith, m_more)) p c ok apart in
              let now2 = q.0.content (version c at bytes n) was.now (clear a b m (omega (arith, m_more)) c apart) in
              subst (λ (v : List ℕ). IsNow (meaning size first) (meaning (max now (at + n + length part)) stands2) file x.held z.held c v) (part_is part is c)
              (now_on (meaning size first) (meaning now stands) (meaning (max now (at + n + length part)) stands2) file x.held y.held z.held c (version c at bytes n) (over (version c at bytes n) (at + n) part) was now2);
        })))

    touched_low : touched at (at + m) ≤ touched at (at + len)
    touched_low = grind (arith, m_is, some, m_more)

    all_most : touched at (at + n) * (top (block_count (max size (at + len))) + 1) + (top (block_count (max now (at + n + (m - n)))) + 1) ≤ most_write size at len
    all_most =
        let next : suc (touched at (at + n)) ≤ touched at (at + len) = omega (arith, touched_next at n m m_more border (omega (arith, m_is)), touched_low) in
        let low = mul-le-mul_right (top (block_count (max size (at + len))) + 1) next in
        omega (arith, low, suc-mul (touched at (at + n)) (top (block_count (max size (at + len))) + 1), each_low)

    pub step_bad : (part : List ℕ) (stands2 : Standing) (w : WalkFault) → part ≡ slice_range bytes n m → length part ≡ m - n →
        Worked (Hands (at + n) part) 1 (IsForFileWrite is_local file now (at + n) (length part)) (top (block_count (max now (at + n + length part))) + 1) y z (BlockOutcome is_local file now (at + n) part stands stands2 y.held z.held (Err w)) →
        Worked (Hands at bytes) (touched at (at + length bytes)) (IsForFileWrite is_local file size at (length bytes)) (most_write size at (length bytes)) x z (ProgressOutcome is_local file size at bytes (meaning size first) (meaning now stands2) x.held z.held n (Some w))
    step_bad part stands2 w is long e =
        let e2 : Worked (Hands (at + n) part) 1 (IsForFileWrite is_local file now (at + n) (m - n)) (top (block_count (max now (at + n + (m - n)))) + 1) y z (BlockOutcome is_local file now (at + n) part stands stands2 y.held z.held (Err w)) =
        subst (λ (k : ℕ). Worked (Hands (at + n) part) 1 (IsForFileWrite is_local file now (at + n) k) (top (block_count (max now (at + n + k))) + 1) y z (BlockOutcome is_local file now (at + n) part stands stands2 y.held z.held (Err w))) long e in
        let between = now_between in
        let wide : (call : Call) → IsTreeTo is_local file now (max now (at + n + length part)) call → IsTreeTo is_local file size (max size (at + length bytes)) call =
        λ call c. tree_wider is_local file (block_count now) (block_count (max now (at + n + length part))) (block_count size) (block_count (max size (at + length bytes))) (omega (arith, between)) (omega (arith, between, m_is, m_more, long, len_is)) call c in
        let written : FileWrite file (at + n) (length part) ≡ FileWrite file (at + n) (next_border at (length bytes) n - n) =
        ap (λ (k : ℕ). FileWrite file (at + n) k) (long ∙ ap (λ (k : ℕ). k - n) m_is ∙ ap (λ (k : ℕ). next_border at k n - n) len_is) in
        let all : Worked (Hands at bytes) (touched at (at + len)) (IsForFileWrite is_local file size at len) (most_write size at len) x z (ProgressOutcome is_local file size at bytes (meaning size first) (meaning now stands2) x.held z.held n (Some w)) =
        worked_more _ (touched at (at + n) + 1) (touched at (at + len)) _ _ x z _ (omega (arith, touched_next at n m m_more border (omega (arith, m_is)), touched_low)) (worked_so _ _ _ _ _ _ x z _ _ (worked_then _ _ _ _ _ _ x y z _ _ (ProgressOutcome is_local file size at bytes (meaning size first) (meaning now stands2) x.held z.held n (Some w)) d (known (omega arith) (inner part is long _ _ e2)) (λ t p. p.failed) (λ a b failed le p q. (
          omega (arith, some, len_is),
          border,
          record {
            writes = writes_to a b (length part) long p.writes q.0.writes;
            asked = begun_is (append-nil (write_calls file size at (length bytes) n)) (calls_same part long)
                (begun_on (meaning size first) (λ c. IsVersion c at bytes n) (λ c. IsVersion c at bytes n) (λ c v i. i) (write_calls file size at (length bytes) n) x y z a b failed p.asked
                (meaning now stands) (λ c. version c at bytes n) [] _ w (follows a b n (omega arith) p q.1) q.0.asked);
            content = λ c ok apart.
                let was = early a b n (omega arith) p c ok apart in
                let kept = q.0.content (version c at bytes n) was.now (clear a b n (omega arith) c apart) in
                let next : over (version c at bytes n) (at + n) part ≡ version c at bytes (next_border at (length bytes) n) = part_is part is c ∙ ap (version c at bytes) (m_is ∙ ap (λ (k : ℕ). next_border at k n) len_is) in
                record { now = kept.now; agree = λ h. ⊎_elim (λ same. inl same) (λ u. inr (uncounted_on file (IsTreeTo is_local file now (max now (at + n + length part))) (IsTreeTo is_local file size (max size (at + length bytes))) wide x y z le is_local (FileWrite file (at + n) (length part)) _ a b failed w written u.0, subst (λ (v : List ℕ). IsAtHost z.held file v) next u.1)) (kept.agree (was.agree h)); backed = λ h. kept.backed (was.backed h) };
            blame = blame_on is_local file (IsForFileWrite is_local file now (at + n) (length part)) (IsForFileWrite is_local file size at (length bytes)) (meaning now stands) (meaning size first) (λ c. IsVersion c at bytes n) (λ c. version c at bytes n) x y z a b failed w le
                (λ call f. subst (λ (k : ℕ). IsForFileWrite is_local file size at k call) len_is (calls_for call (subst (λ (k : ℕ). IsForFileWrite is_local file now (at + n) k call) long f)))
                (λ c ok apart. ((early a b n (omega arith) p c ok apart).now, clear a b n (omega arith) c apart, (let was = early a b n (omega arith) p c ok apart in λ h bk. (was.agree h, was.backed bk))))
                q.0.blame;
          },
        ))) (λ call q. q) all_most (λ t q. q)) in
        subst (λ (k : ℕ). Worked (Hands at bytes) (touched at (at + k)) (IsForFileWrite is_local file size at k) (most_write size at k) x z (ProgressOutcome is_local file size at bytes (meaning size first) (meaning now stands2) x.held z.held n (Some w))) len_is all

-- of no bytes no call is made
pub none_asked : (file size at : ℕ) (bytes : List ℕ) (before : Meaning) (x : Told) →
    AreAsked before (λ c. IsVersion c at bytes 0) (write_calls file size at (length bytes) 0) (trace_of [] 0 x x)
none_asked file size at bytes before x = subst (λ (l : List Call). AreAsked before (λ c. IsVersion c at bytes 0) l (trace_of [] 0 x x))
    (sym (ap (λ (k : ℕ). flat_map (block_calls file size at (at + length bytes)) (range_with_len (at / 4096) k)) (touched_none at)))
    (asked_none before (λ c. IsVersion c at bytes 0) (trace_of [] 0 x x) refl)

-- nothing is in place yet
pub step_start : (is_local : Type 0) (file size at len : ℕ) (bytes : List ℕ) (stands : Standing) (x : Told) →
    Worked (Hands at bytes) (touched at (at + 0)) (IsForFileWrite is_local file size at len) (touched at (at + 0) * (top (block_count (max size (at + len))) + 1)) x x
    (IsPlacedTo file size at bytes 0 (meaning size stands) (meaning size stands) x.held x.held)
step_start is_local file size at len bytes stands x = worked_none _ _ _ _ x _ (record {
  failed = refl;
  writes = writes_none file at (length bytes);
  asked = none_asked file size at bytes (meaning size stands) x;
  content = λ c is n. record { now = is; agree = λ h. h; backed = λ h. h };
})

pub length-part : (xs : List ℕ) (n k : ℕ) → n + k ≤ length xs → length (slice_range xs n (n + k)) ≡ n + k - n
length-part xs n k le = omega (arith, length-take (n + k - n) (drop n xs), length-drop n xs, le)

-- whole blocks, where bytes are left
pub border_of : (at len n : ℕ) → n < len → IsBorder at len n → (n ≡ 0) ⊎ ((at + n) % 4096 ≡ 0)
border_of at len n lt (inl z) = inl z
border_of at len n lt (inr (inl all)) = absurd (omega (arith, lt, all))
border_of at len n lt (inr (inr a)) = inr a

pub border_next : (at len n m : ℕ) → n < len → m ≡ next_border at len n → IsBorder at len m
border_next at len n m lt is = ⊎_elim (λ few. inr (inr (omega (arith, is, few)))) (λ all. inr (inl (omega (arith, is, all)))) (lt_or_le m len)

pub size_next : (size at n m now : ℕ) → now ≡ size_with size at n → n < m → max now (at + m) ≡ size_with size at m
size_next size at n m now is lt = ⊎_elim
    (λ z. omega (arith, is, size_zero size at n z, size_some size at m (omega (arith, lt)), lt))
    (λ more. omega (arith, is, size_some size at n more, size_some size at m (omega (arith, lt)), lt)) (zero_or n)

-- the size and the size's end by another name
pub placed_as : (p : ℕ) (F : Call → Type 0) (most : ℕ) (x z : Told) (file size at : ℕ) (bytes : List ℕ) (m a b : ℕ) (first : Meaning) (stands : Standing) →
    a ≡ b →
    Worked (Hands at bytes) p F most x z (IsPlacedTo file size at bytes m first (meaning a stands) x.held z.held) → Worked (Hands at bytes) p F most x z (IsPlacedTo file size at bytes m first (meaning b stands) x.held z.held)
placed_as p F most x z file size at bytes m a b first stands e d =
    subst (λ (s : ℕ). Worked (Hands at bytes) p F most x z (IsPlacedTo file size at bytes m first (meaning s stands) x.held z.held)) e d

pub all_placed : (is_local : Type 0) (file size at : ℕ) (bytes : List ℕ) (n : ℕ) (first after : Meaning) (x y : Told) → n ≡ length bytes →
    Worked (Hands at bytes) (touched at (at + n)) (IsForFileWrite is_local file size at (length bytes)) (touched at (at + n) * (top (block_count (max size (at + length bytes))) + 1)) x y (IsPlacedTo file size at bytes n first after x.held y.held) →
    Worked (Hands at bytes) (touched at (at + length bytes)) (IsForFileWrite is_local file size at (length bytes)) (most_write size at (length bytes)) x y (ProgressOutcome is_local file size at bytes first after x.held y.held n None)
all_placed is_local file size at bytes n first after x y is d = worked_more _ (touched at (at + n)) (touched at (at + length bytes)) _ _ x y _ (rw is (omega arith)) (worked_so _ _ _ _ _ _ x y _ _ d (λ call q. q) (rw is (omega arith)) (λ t p. (is, p)))
