-- One page of a walk, from the answer to its call.
use Rattle.std.proofs.Common.{◌≡◌, ℕ, ◌+◌, ◌-◌, ◌<◌, ◌≤◌, ◌∙◌, List, [], ◌∷◌, length, drop, Ok, Err, refl, ap, sym, subst, inl, arith, length-take}
use Rattle.std.specs.Prelude.{◌≢◌, slice_range}
use Rattle.host_traits.specs.declared.calls.Said.TheVariants.{Bytes}
use Rattle.host_traits.specs.Told.{Told, Answered, Refused, Unheard, kind_bytes}
use Rattle.host_traits.specs.Did.{Trace, trace_of, Did}
use Rattle.host_traits.proofs.Doing.{did_answered, did_refused, did_unheard, is_failed}
use Rattle.sha_tree.specs.Tree.{padded, page_hash}
use Rattle.sha_tree.proofs.Pages.{length-padded}
use Rattle.verity_path.specs.States.{Place}
use Rattle.verity_path.specs.Calls.{call_for, piece_for, asked_for}
use Rattle.verity_path.specs.Pieces.{IsPieceOf}
use Rattle.verity_path.specs.Steps.{IsCallFor, IsPlaced, FetchOutcome}
use Rattle.verity_path.specs.declared.states.Mismatch.{Mismatch}
use Rattle.verity_path.specs.declared.ask.Piece.{Piece}
use Rattle.verity_path.specs.declared.walk.Layout.{Layout}
use Rattle.verity_path.specs.declared.walk.WalkFault.TheVariants as fault
use Rattle.verity_path.proofs.Asking.{kind_asked, piece_holds}

-- the call failed, or there was no memory
module _ (layout : Layout) (count level index : ℕ) (a : Place) (level_is : level ≡ a.level) (index_is : index ≡ a.index) (x y : Told) (old new : List ℕ) (same : new ≡ old) where
  pub failed : (faults : ℕ) → Refused (call_for layout count level index) [] x y → faults ≡ y.faults → Did (IsCallFor layout count a.level a.index) 1 x y (FetchOutcome layout count a old new (Err (fault.Failed faults)))
  failed faults refusal count_is =
      let refused : Refused (call_for layout count a.level a.index) [] x y =
      subst (λ (i : ℕ). Refused (call_for layout count a.level i) [] x y) index_is (subst (λ (l : ℕ). Refused (call_for layout count l index) [] x y) level_is refusal) in
      did_refused (IsCallFor layout count a.level a.index) (call_for layout count a.level a.index) x y (FetchOutcome layout count a old new (Err (fault.Failed faults))) (record { call_is = refl }) refused
      ((is_failed (IsCallFor layout count a.level a.index) (call_for layout count a.level a.index) [] x y [] faults (record { call_is = refl }) refused count_is, refl), same)

  pub scarce : Unheard x y → Did (IsCallFor layout count a.level a.index) 1 x y (FetchOutcome layout count a old new (Err fault.Memory))
  scarce unheard = did_unheard (IsCallFor layout count a.level a.index) 1 x y (FetchOutcome layout count a old new (Err fault.Memory)) unheard ((record { failed = refl; scarce = unheard.scarce }, refl), same)

module _ (layout : Layout) (count level index : ℕ) (a : Place) (level_is : level ≡ a.level) (index_is : index ≡ a.index) (x y : Told) (raw : List ℕ)
    (answer : Answered (call_for layout count level index) [] (Bytes raw) x y) (piece : Piece) (placed : IsPlaced layout count level index piece)
    (got : ℕ) (got_is : got ≡ length raw) where
  answered : Answered (call_for layout count a.level a.index) [] (Bytes raw) x y
  answered = subst (λ (i : ℕ). Answered (call_for layout count a.level i) [] (Bytes raw) x y) index_is
      (subst (λ (l : ℕ). Answered (call_for layout count l index) [] (Bytes raw) x y) level_is answer)

  stands : IsPlaced layout count a.level a.index piece
  stands = subst (λ (i : ℕ). IsPlaced layout count a.level i piece) index_is (subst (λ (l : ℕ). IsPlaced layout count l index piece) level_is placed)

  once : (R : Trace → Type 0) → R (trace_of ((call_for layout count a.level a.index, Bytes raw) ∷ []) 0 x y) → Did (IsCallFor layout count a.level a.index) 1 x y R
  once R r = did_answered (IsCallFor layout count a.level a.index) (call_for layout count a.level a.index) (Bytes raw) x y R (record { call_is = refl }) answered r

  pub short : (old new : List ℕ) → got < piece.asked → new ≡ old →
      Did (IsCallFor layout count a.level a.index) 1 x y (FetchOutcome layout count a old new (Err (fault.Short piece.asked got)))
  short old new few same = once (FetchOutcome layout count a old new (Err (fault.Short piece.asked got))) (
    record {
      short = record {
        failed = refl;
        call = call_for layout count a.level a.index;
        bytes = raw;
        own = inl refl;
        asks = kind_asked layout count a.level a.index ∙ ap kind_bytes (sym stands.asked);
        got_is = got_is;
        short = few;
      };
      own = refl;
    },
    same,
  )

  module _ (enough : piece.asked ≤ got) (most : length raw ≤ asked_for layout count level index) (old page : List ℕ)
      (is : page ≡ padded (slice_range raw piece.from (piece.from + piece.len))) where
    whole : length raw ≡ piece.asked
    whole = omega (arith, placed.asked, got_is)

    page_is : page ≡ piece_for layout count a.level a.index raw
    page_is = is ∙ stands.is raw whole

    held : IsPieceOf (call_for layout count a.level a.index) (Bytes raw) (piece_for layout count a.level a.index raw)
    held = piece_holds layout count a.level a.index raw (omega (arith, whole, stands.asked))

    page_long : length page ≡ 4096
    page_long = ap length is ∙ length-padded (slice_range raw piece.from (piece.from + piece.len))
        (omega (arith, placed.few, length-take (piece.from + piece.len - piece.from) (drop piece.from raw)))

    pub good : (u : Unit {0}) → page_hash a.salt page ≡ a.digest →
        Did (IsCallFor layout count a.level a.index) 1 x y (FetchOutcome layout count a old page (Ok u))
    good u met = once (FetchOutcome layout count a old page (Ok u)) (record {
      failed = refl;
      bytes = raw;
      own = refl;
      whole = whole ∙ stands.asked;
      is = page_is;
      piece = record {
        call = call_for layout count a.level a.index;
        said = Bytes raw;
        was_heard = inl refl;
        piece = subst (λ (q : List ℕ). IsPieceOf (call_for layout count a.level a.index) (Bytes raw) q) (sym page_is) held;
      };
      len = page_long;
      met = met;
    })

    pub other : (w : Mismatch) → w.expected.0 ≢ w.found.0 → w.expected.0 ≡ a.digest → w.found.0 ≡ page_hash a.salt page →
        w.level ≡ a.level → w.index ≡ a.index →
        Did (IsCallFor layout count a.level a.index) 1 x y (FetchOutcome layout count a old page (Err (fault.Mismatch w)))
    other w differ expected found at_level at_index = once (FetchOutcome layout count a old page (Err (fault.Mismatch w))) (
      record {
        failed = refl;
        differ = differ;
        bytes = raw;
        own = refl;
        whole = whole ∙ stands.asked;
        piece = held;
        found = found ∙ ap (page_hash a.salt) page_is;
        expected = expected;
        level_is = at_level;
        index_is = at_index;
      },
      page_is,
    )
