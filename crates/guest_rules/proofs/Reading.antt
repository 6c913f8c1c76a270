-- A read of a range of a content, over a host that holds it: no answer of it is to blame, and over an honest one no call fails.
use Rattle.std.proofs.Common.{◌≡◌, ℕ, zero, suc, ◌*◌, ◌<◌, ◌≤◌, List, [], length, ap, sym, refl, ◌∙◌, subst, arith, Option, Some, None, true, ⊎_elim}
use Rattle.std.specs.Prelude.{Bool, ◌⊎◌}
use Rattle.host_traits.specs.declared.calls.Call.{Call}
use Rattle.host_traits.specs.declared.calls.Said.{Said}
use Rattle.host_traits.specs.declared.calls.Said.TheVariants.{Bytes}
use Rattle.host_traits.specs.Held.{Held, serve}
use Rattle.host_traits.specs.Told.{Told, Made, Talked, HeldAfter, heard_of, failures_of, kind_of, kind_bytes}
use Rattle.host_traits.specs.Did.{IsIn, Each, reads, Trace, IsShort}
use Rattle.host_traits.proofs.Doing.{each_so}
use Rattle.sha_tree.specs.Tree.{ancestor}
use Rattle.sha_tree.specs.Measured.{HasTree}
use Rattle.sha_tree.specs.Path.{NoClash}
use Rattle.sha_tree.specs.declared.measure.Measure.{Measure}
use Rattle.sha_tree.proofs.Levels.{ancestor-page}
use Rattle.ro_file.proofs.Standing.{some_blocks}
use Rattle.verity_path.specs.Calls.{call_for, asked_for}
use Rattle.verity_path.specs.Holding.{HoldsAt}
use Rattle.verity_path.specs.Pieces.{IsHashed}
use Rattle.verity_path.specs.Walk.{IsMismatch}
use Rattle.verity_path.proofs.Order.{last_in}
use Rattle.verity_path.specs.Range.{IsForRead, IsReadBlame}
use Rattle.verity_path.specs.declared.states.Mismatch.{Mismatch}
use Rattle.verity_path.specs.declared.walk.Layout.{Layout}
use Rattle.verity_path.specs.declared.device.Cause.{Cause}
use Rattle.verity_path.specs.declared.device.Cause.TheVariants.{Mismatch as OfMismatch, Short, Failed, Tag, Changed, Memory}
use Rattle.verity_path.proofs.Asking.{kind_asked}
use Rattle.verity_path.proofs.Blaming.{mismatch_lies}
use Rattle.guest_rules.proofs.Devices.{page_reads, page_serves, page_held}
use Rattle.guest_rules.proofs.Exact.{finds_refused}
use Rattle.guest_rules.proofs.Holding.{AreServed, IsReading, reads_keep}

bytes_is : (a b : List ℕ) → Bytes a ≡ Bytes b → a ≡ b
bytes_is a b e = cc

same_size : (a b : ℕ) → kind_bytes a ≡ kind_bytes b → a ≡ b
same_size a b e = cc

not_both : (a : Said × Held) (o : Option (Said × Held)) → o ≡ None → o ≡ Some a → ⊥
not_both a o e f = cc

pub none_of : (n : ℕ) → (0 < n → ⊥) → n ≡ 0
none_of zero never = refl
none_of (suc n) never = absurd (never (omega arith))

-- the blocks of a content of so many bytes
abbrev pub IsInside : Measure → ℕ → Type 0
IsInside m size = (b : ℕ) → 4096 * b < size → b < m.blocks

module _ (h : Held) (layout : Layout) (m : Measure) (size offset len : ℕ) (content : List ℕ) (tree : HasTree m content) (limit : m.blocks ≤ 1048576)
    (inside : IsInside m size) (holds : HoldsAt h layout m content) where
  abbrev pub For : Call → Type 0
  For call = IsForRead layout m size offset len call

  index_in : (call : Call) → (f : IsForRead layout m size offset len call) → f.block < m.blocks
  index_in call f = let to = f.to in inside f.block (omega (arith, to))

  -- the calls of a read are reads of blocks, files and trees
  for_reads : (call : Call) → IsForRead layout m size offset len call → IsReading call
  for_reads call f = subst IsReading (sym f.path.call_is) (page_reads layout m.blocks f.path.level (ancestor f.block f.path.level))

  -- and can be served
  for_serves : (call : Call) → IsForRead layout m size offset len call → (said : Said) × (serve h call [] ≡ Some (said, h))
  for_serves call f =
      let p = page_serves h m content tree limit layout f.path.level (ancestor f.block f.path.level) holds f.path.level_in (ancestor-page m.blocks f.block f.path.level (index_in call f)) in
      (p.0, subst (λ (c : Call). serve h c [] ≡ Some (p.0, h)) (sym f.path.call_is) p.1)

  module _ (t : Trace) (apart : NoClash (IsHashed t.heard content m.salt)) (held : AreServed h t.own) (for : (call : Call) (said : Said) → IsIn call said t.own → IsForRead layout m size offset len call) where
    -- no page differs
    not_mismatch : (x : Mismatch) → IsMismatch layout m t x → ⊥
    not_mismatch x w =
        let answer = held.each (call_for layout m.blocks x.level x.index) (Bytes w.bytes) (last_in _ _ t.own w.own) in
        let low = w.expected.level_is in
        let page = page_held h m content tree limit layout x.level x.index holds (omega (arith, low)) w.expected.index answer.0 (Bytes w.bytes) answer.1 in
        let bytes : page.bytes ≡ w.bytes = bytes_is page.bytes w.bytes (sym page.said_is) in
        mismatch_lies layout m t x content tree (some_blocks m.blocks x.level x.index w.expected.index) apart w (rw bytes at page.piece)

    -- no answer is short
    not_short : (asked got : ℕ) → IsShort t asked got → ⊥
    not_short asked got s =
        let f = for s.call (Bytes s.bytes) s.own in
        let level = f.path.level in
        let index = ancestor f.block level in
        let answer = held.each s.call (Bytes s.bytes) s.own in
        let page = page_held h m content tree limit layout level index holds f.path.level_in (ancestor-page m.blocks f.block level (index_in s.call f)) answer.0 (Bytes s.bytes)
        (subst (λ (c : Call). serve h c answer.0 ≡ Some (Bytes s.bytes, h)) f.path.call_is answer.1) in
        let bytes : page.bytes ≡ s.bytes = bytes_is page.bytes s.bytes (sym page.said_is) in
        let asks : asked ≡ asked_for layout m.blocks level index =
        same_size _ _ (sym s.asks ∙ ap kind_of f.path.call_is ∙ kind_asked layout m.blocks level index) in
        absurd (omega (arith, asks, page.len, ap length bytes, s.got_is, s.short))

    -- so nothing is to blame where no call failed
    pub not_blamed : t.failed ≡ 0 → (cause : Cause) → IsReadBlame layout m (IsForRead layout m size offset len) t cause → ⊥
    not_blamed calm (OfMismatch x) blame = not_mismatch x blame
    not_blamed calm (Short asked got) blame = not_short asked got blame.short
    not_blamed calm (Failed faults) blame = let failed = blame.failed in absurd (omega (arith, calm, failed))
    not_blamed calm (Tag found) blame = blame
    not_blamed calm (Changed sector) blame = blame
    not_blamed calm Memory blame = blame

  module _ (old new : Told) (own : List Made) (talked : Talked old new own) (told : old.held ≡ Some h) (each : Each (reads For) own) where
    pub after : (k : Held) × (new.held ≡ Some k) × (k ≡ h) × AreServed h (heard_of own)
    after =
        let a = subst (λ (o : Option Held). HeldAfter old.honest o own new.held) told talked.held in
        let reading = each_so (reads For) (reads IsReading) own (λ call given p. (for_reads call p.0, p.1)) each in
        let keeps = reads_keep old.honest own h a.0 a.2 reading in
        (a.0, a.1, keeps.0, keeps.1)

    pub stays : new.held ≡ Some h
    stays = after.1 ∙ ap Some after.2

    -- over an honest host no call of a read fails
    none_fails : old.honest ≡ true → failures_of own ≡ 0
    none_fails honest =
        let a = subst (λ (o : Option Held). HeldAfter true o own new.held) told (subst (λ (b : Bool). HeldAfter b old.held own new.held) honest talked.held) in
        none_of (failures_of own) (λ some.
        let bad = finds_refused For own h a.0 for_reads a.2 each some in
        let good = for_serves bad.0 bad.1 in
        not_both (good.0, h) (serve h bad.0 []) bad.2 good.1)

    pub calm_by : (failures_of own ≡ 0) ⊎ (old.honest ≡ true) → failures_of own ≡ 0
    calm_by calm = ⊎_elim (λ e. e) none_fails calm
