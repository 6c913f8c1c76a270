-- One page of a walk over a host that holds the content.
use Rattle.std.proofs.Common.{◌≡◌, ℕ, ◌+◌, ◌<◌, ◌≤◌, ◌∙◌, List, [], length, Some, Ok, Err, refl, ap, sym, subst, arith}
use Rattle.std.specs.Prelude.{◌≢◌, ◌-◌, ◌%◌, slice_range}
use Rattle.host_traits.specs.declared.calls.Said.TheVariants.{Bytes}
use Rattle.host_traits.specs.Held.{Held, serve}
use Rattle.host_traits.specs.Told.{Told, Asked, Answered, Refused, Unheard}
use Rattle.host_traits.specs.declared.host.HostError.{HostError}
use Rattle.host_traits.specs.declared.host.HostError.TheVariants.{Failed, Memory}
use Rattle.host_traits.proofs.Holding.{held_answered, held_refused, held_unheard, calm_served, same_answer}
use Rattle.sha_tree.specs.declared.measure.Measure.{Measure}
use Rattle.sha_tree.specs.Tree.{padded, page, page_hash, pages_at, top, ancestor, slot}
use Rattle.sha_tree.specs.Measured.{HasTree}
use Rattle.verity_path.specs.States.{Place, Met}
use Rattle.verity_path.specs.Calls.{call_for, piece_for, asked_for}
use Rattle.verity_path.specs.Steps.{IsPlaced}
use Rattle.verity_path.specs.Holding.{HoldsAt, PageIsRight, ProvedIsRight, BelowIsRight}
use Rattle.verity_path.specs.declared.states.Mismatch.{Mismatch}
use Rattle.verity_path.specs.declared.ask.Piece.{Piece}
use Rattle.verity_path.specs.declared.walk.Layout.{Layout}
use Rattle.verity_path.specs.declared.walk.WalkFault.TheVariants as fault
use Rattle.verity_path.proofs.Pages.{HasPage, page_held}

module _ (layout : Layout) (count level index : ℕ) (a : Place) (level_is : level ≡ a.level) (index_is : index ≡ a.index)
    (low : a.level ≤ top count) (within : a.index < pages_at count a.level) (x y : Told) where
  -- how the call is served, where the content is held
  served : (m : Measure) (h : Held) (content : List ℕ) → m.blocks ≡ count → HoldsAt h layout m content → HasTree m content → m.blocks ≤ 1048576
      → HasPage h layout m content level index
  served m h content same holds tree limit =
      let low_in : a.level ≤ top m.blocks = subst (λ (n : ℕ). a.level ≤ top n) (sym same) low in
      let within_in : a.index < pages_at m.blocks a.level = subst (λ (n : ℕ). a.index < pages_at n a.level) (sym same) within in
      rw (level_is, index_is) (page_held h m content tree.blocks limit layout a.level a.index holds low_in within_in)

  by_call : (m : Measure) (h : Held) (bytes : List ℕ) → m.blocks ≡ count → serve h (call_for layout m.blocks level index) [] ≡ Some (Bytes bytes, h)
      → serve h (call_for layout count level index) [] ≡ Some (Bytes bytes, h)
  by_call m h bytes same e = subst (λ (n : ℕ). serve h (call_for layout n level index) [] ≡ Some (Bytes bytes, h)) same e

  -- the call failed, or there was no memory
  refused : (faults : ℕ) (p : List ℕ) → Refused (call_for layout count level index) [] x y
      → PageIsRight layout count a x y p (Err (fault.Failed faults))
  refused faults p r m same = record {
    right = λ h content calm held holds tree limit.
        let after = held_refused _ _ x y h held r in
        let page = served m h content same holds tree limit in
        (after.0, λ anchored. absurd (calm_served _ _ x y h _ held r calm (by_call m h page.bytes same (page.served []))));
  }

  unheard : (p : List ℕ) → Unheard x y → PageIsRight layout count a x y p (Err fault.Memory)
  unheard p u m same = record {
    right = λ h content calm held holds tree limit.
        (held_unheard x y h held u, λ anchored. refl);
  }

  pub failed_right : (raw : List ℕ) (e : HostError) → e ≡ Failed → Asked {T = Unit {0}} (call_for layout count level index) [] (λ _. Bytes raw) (Err e) x y
      → (faults : ℕ) (p : List ℕ) → PageIsRight layout count a x y p (Err (fault.Failed faults))
  failed_right raw e is asked faults p =
      refused faults p (subst (λ (z : HostError). Asked {T = Unit {0}} (call_for layout count level index) [] (λ _. Bytes raw) (Err z) x y) is asked)

  pub memory_right : (raw : List ℕ) (e : HostError) → e ≡ Memory → Asked {T = Unit {0}} (call_for layout count level index) [] (λ _. Bytes raw) (Err e) x y
      → (p : List ℕ) → PageIsRight layout count a x y p (Err fault.Memory)
  memory_right raw e is asked p =
      unheard p (subst (λ (z : HostError). Asked {T = Unit {0}} (call_for layout count level index) [] (λ _. Bytes raw) (Err z) x y) is asked)

  module _ (raw : List ℕ) (answer : Answered (call_for layout count level index) [] (Bytes raw) x y)
      (piece : Piece) (placed : IsPlaced layout count level index piece) (got : ℕ) (got_is : got ≡ length raw) where
    -- the answer is the content's page
    abbrev IsPage : Measure → List ℕ → Type 0
    IsPage m content = (length raw ≡ asked_for layout count level index) × (piece_for layout count level index raw ≡ page content m.salt a.level a.index)

    by_held : (m : Measure) (h : Held) (content : List ℕ) → m.blocks ≡ count → x.held ≡ Some h → HoldsAt h layout m content
        → HasTree m content → m.blocks ≤ 1048576 → (y.held ≡ Some h) × IsPage m content
    by_held m h content same held holds tree limit =
        let after = held_answered _ _ _ x y h held answer in
        let it = served m h content same holds tree limit in
        let is = same_answer it.bytes raw h after.0 _ (by_call m h it.bytes same (it.served [])) after.2 in (
          after.1 ∙ ap Some is.1,
          (
            ap length is.0 ∙ it.len ∙ ap (λ (n : ℕ). asked_for layout n level index) same,
            ap (piece_for layout count level index) is.0 ∙ ap (λ (n : ℕ). piece_for layout n level index it.bytes) (sym same) ∙ it.piece
                ∙ ap (λ (l : ℕ). page content m.salt l index) level_is ∙ ap (page content m.salt a.level) index_is,
          ),
        )

    pub short_right : (p : List ℕ) → got < piece.asked → PageIsRight layout count a x y p (Err (fault.Short piece.asked got))
    short_right p few m same = record {
      right = λ h content calm held holds tree limit.
          let after = by_held m h content same held holds tree limit in
          (after.0, λ anchored. absurd (omega (arith, after.1.0, placed.asked, got_is, few)));
    }

    module _ (p : List ℕ) (is : p ≡ padded (slice_range raw piece.from (piece.from + piece.len))) where
      right_page : (m : Measure) (content : List ℕ) → IsPage m content → p ≡ page content m.salt a.level a.index
      right_page m content so = is ∙ placed.is raw (so.0 ∙ sym placed.asked) ∙ so.1

      pub good_right : (u : Unit {0}) → PageIsRight layout count a x y p (Ok u)
      good_right u m same = record {
        right = λ h content calm held holds tree limit.
            let after = by_held m h content same held holds tree limit in
            (after.0, λ anchored. right_page m content after.1);
      }

      pub other_right : (w : Mismatch) → w.expected.0 ≢ w.found.0 → w.expected.0 ≡ a.digest → w.found.0 ≡ page_hash a.salt p
          → PageIsRight layout count a x y p (Err (fault.Mismatch w))
      other_right w differ expected found m same = record {
        right = λ h content calm held holds tree limit.
            let after = by_held m h content same held holds tree limit in (
              after.0,
              λ anchored. absurd (differ (expected ∙ anchored.digest_is
                  ∙ ap (page_hash m.salt) (sym (right_page m content after.1)) ∙ ap (λ (s : List ℕ). page_hash s p) (sym anchored.salt_is) ∙ sym found)),
            );
      }

module _ (layout : Layout) (count : ℕ) (a : Place) (x y : Told) where
  -- the page is wrapped
  pub proved_right : (p : List ℕ) (u : Unit {0}) (q : Met) → q.page ≡ p → PageIsRight layout count a x y p (Ok u) → ProvedIsRight layout count a x y (Ok q)
  proved_right p u q is step m same = record {
    right = λ h content calm held holds tree limit.
        let after = (step m same).right h content calm held holds tree limit in
        (after.0, λ anchored. is ∙ after.1 anchored);
  }

  -- a slot of it is read
  pub below_right : (block k : ℕ) (q : Met) (b : Place) → k ≡ ancestor block (a.level - 1) % 128 → b.digest ≡ slot q.page k
      → ProvedIsRight layout count a x y (Ok q) → BelowIsRight layout count block a x y (Ok b)
  below_right block k q b at is step m same = record {
    right = λ h content calm held holds tree limit.
        let after = (step m same).right h content calm held holds tree limit in
        (after.0, λ anchored. is ∙ ap (slot q.page) at ∙ ap (λ (p : List ℕ). slot p (ancestor block (a.level - 1) % 128)) (after.1 anchored));
  }
