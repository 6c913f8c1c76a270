-- What a block that was heard says: that it is the block of each content, or that it isn't.
use Rattle.std.proofs.Common.{◌≡◌, ℕ, ◌+◌, ◌-◌, ◌*◌, ◌<◌, ◌∙◌, List, [], ◌∷◌, length, take, drop, min, Option, refl, ap, sym, subst, inl, inr, arith, ⊎_elim}
use Rattle.std.specs.Prelude.{◌≢◌, slice_range}
use Rattle.std.proofs.lemmas.List.{append_cancel_left, take_all}
use Rattle.host_traits.specs.declared.calls.Said.{Said}
use Rattle.host_traits.specs.declared.calls.Said.TheVariants.{Bytes}
use Rattle.host_traits.specs.Held.{Held}
use Rattle.host_traits.specs.Did.{Trace}
use Rattle.sha_tree.specs.Tree.{padded, padded_salt, hash_input, page_hash, page, pages_at, block, block_count}
use Rattle.sha_tree.specs.Path.{IsInput, NoClash}
use Rattle.sha_tree.proofs.Levels.{pages_at-zero}
use Rattle.host_traits.specs.declared.calls.Call.TheVariants.{FileRead}
use Rattle.verity_path.specs.States.{Place}
use Rattle.verity_path.specs.declared.states.Mismatch.{Mismatch}
use Rattle.verity_path.specs.declared.walk.WalkFault.TheVariants as walk
use Rattle.rw_file.specs.Contents.{Meaning, IsFileHashed, IsDigestOf, Only}
use Rattle.rw_file.specs.Calls.{block_read}
use Rattle.rw_file.specs.Blame.{Each, IsFileMismatch, Lied}
use Rattle.rw_file.specs.Steps.{IsBrought}
use Rattle.rw_file.proofs.Bytes.{heard_block, block_is}
use Rattle.rw_file.specs.Asked.{AllReads, IsFull, IsPartOf, AreAsked, AreBegun}
use Rattle.rw_file.proofs.Ordered.{no_reads, reads_both, same_read, but_none}
use Rattle.verity_path.proofs.Order.{last_in}

block_page : (c : List ℕ) (i : ℕ) → page c [] 0 i ≡ block c i
unfolding page
block_page c i = refl

block_within : (c : List ℕ) (i : ℕ) → i < block_count (length c) → i < pages_at (block_count (length c)) 0
block_within c i lt = omega (arith, pages_at-zero (block_count (length c)), lt)

block_input : (c : List ℕ) (i : ℕ) → i < block_count (length c) → IsInput c [] (hash_input [] (block c i))
block_input c i lt = record { level = 0; i = i; level_in = omega arith; index = block_within c i lt; is = ap (hash_input []) (sym (block_page c i)) }

one_page : (Hashed : List ℕ → Type 0) (p q : List ℕ) → NoClash Hashed → Hashed (hash_input [] p) → Hashed (hash_input [] q) →
    page_hash [] p ≡ page_hash [] q → p ≡ q
unfolding page_hash
one_page Hashed p q apart has_p has_q same = append_cancel_left (padded_salt []) p q (apart (hash_input [] p) (hash_input [] q) has_p has_q same)

module _ (file size count i : ℕ) (same : count ≡ block_count size) (there : i < count) where
  there_in : (c : List ℕ) → size ≡ length c → i < block_count (length c)
  there_in c e = subst (λ (k : ℕ). i < block_count k) e (omega (arith, same, there))

  module _ (before after : Meaning) (sized : (c : List ℕ) → before.is c → size ≡ length c) (x y : Option Held) (raw : List ℕ) (anchor : Place)
      (t : Trace) (b : IsBrought file size i before after x y raw anchor t) where
    -- what was heard has the block's digest, so it is the block
    pub is_known : page_hash anchor.salt (padded raw) ≡ anchor.digest → Each before Only t.own (λ c. padded raw ≡ block c i)
    is_known met = λ c is n.
        let hash : page_hash [] (padded raw) ≡ page_hash [] (block c i) = ap (λ (s : List ℕ). page_hash s (padded raw)) (sym b.prepared.place.0) ∙ met ∙ (b.prepared.kept c is n).1 in
        one_page (IsFileHashed (Only c) t.own) (padded raw) (block c i) n
        (inr (inr (record { p = padded raw; piece = record { call = block_read file size i; said = Bytes raw; was_heard = last_in (block_read file size i) (Bytes raw) t.own b.heard; piece = refl }; is = refl })))
        (inl (record { content = c; version = refl; input = block_input c i (there_in c (sized c is)) }))
        hash

    -- of the reads there is but this one
    one_read : (P : ℕ → ℕ → Said → Type 0) → P (4096 * i) (min (size - 4096 * i) 4096) (Bytes raw) → AllReads P t.own
    one_read P here = subst (AllReads P) (sym b.heard.is) (reads_both P b.heard.before ((block_read file size i, Bytes raw) ∷ []) (no_reads P b.heard.before b.first)
        (λ f at want said one. ⊎_elim (λ e. same_read P f file at (4096 * i) want (min (size - 4096 * i) 4096) said (Bytes raw) e here) (λ none. absurd none) one))

    pub asked_known : page_hash anchor.salt (padded raw) ≡ anchor.digest → AreAsked before Only (block_read file size i ∷ []) t
    asked_known met = record {
      made = b.prepared.made;
      full = one_read IsFull b.count;
      right =
          λ c is n. one_read (IsPartOf c) (ap (λ (bytes : List ℕ). Bytes bytes) (block_is c i size raw (sized c is) b.count (is_known met c is n)));
    }

    pub asked_other : (m : Mismatch) → AreBegun before Only [] (block_read file size i ∷ []) t (walk.Mismatch m)
    asked_other m = record {
      begun = block_read file size i ∷ [];
      rest = [];
      made = b.prepared.made;
      next_is = refl;
      full = but_none 0 IsFull t.own (one_read IsFull b.count);
      right = λ c is n. record { before = b.heard.before; last = (block_read file size i, Bytes raw) ∷ []; is = b.heard.is; count = omega arith; reads = no_reads (IsPartOf c) b.heard.before b.first };
    }

    -- it has another
    pub is_other : (m : Mismatch) → m.expected.0 ≢ m.found.0 → m.expected.0 ≡ anchor.digest → m.found.0 ≡ page_hash anchor.salt (padded raw) →
        m.level ≡ anchor.level → m.index ≡ anchor.index →
        IsFileMismatch file before Only (λ c. c) t m × Lied x file before Only t.own
    is_other m differ expected found level index =
        let at_level : m.level ≡ 0 = level ∙ b.prepared.place.1 in
        let at_index : m.index ≡ i = index ∙ b.prepared.place.2 in (
          record {
            failed = b.prepared.failed;
            differ = differ;
            bytes = raw;
            call = block_read file size i;
            page = inl (at_level, (min (size - 4096 * i) 4096, ap (λ (k : ℕ). FileRead file (4096 * k) (min (size - 4096 * i) 4096)) (sym at_index)));
            own = b.heard;
            found = found ∙ ap (λ (s : List ℕ). page_hash s (padded raw)) b.prepared.place.0;
            expected = λ c is n.
                let one : IsDigestOf c 0 i m.expected.0 = record { level_in = omega arith; index = block_within c i (there_in c (sized c is)); is = expected ∙ (b.prepared.kept c is n).1 ∙ ap (page_hash []) (sym (block_page c i)) } in
                subst (λ (l : ℕ). IsDigestOf c l m.index m.expected.0) (sym at_level) (subst (λ (k : ℕ). IsDigestOf c 0 k m.expected.0) (sym at_index) one);
          },
          λ c is n h bk.
              let whole : padded raw ≡ block c i = heard_block c i raw (b.at_host c is n h ∙ ap (λ (k : ℕ). take (min (k - 4096 * i) 4096) (drop (4096 * i) c)) (sized c is)) in
              differ (expected ∙ (b.prepared.kept c is n).1 ∙ ap (page_hash []) (sym whole) ∙ sym (found ∙ ap (λ (s : List ℕ). page_hash s (padded raw)) b.prepared.place.0)),
        )

pub all_of : (raw : List ℕ) (n : ℕ) → n ≡ length raw → padded (slice_range raw 0 (0 + n)) ≡ padded raw
all_of raw n is =
    let count : 0 + n - 0 ≡ length raw = omega (arith, is) in
    ap (λ (k : ℕ). padded (take k raw)) count ∙ ap (λ (xs : List ℕ). padded xs) (take_all (length raw) raw (omega arith))
