-- Opening over a host that holds the idsig.
use Rattle.std.proofs.Common.{◌≡◌, ℕ, ◌+◌, ◌*◌, ◌≤◌, ◌∙◌, List, [], length, take, drop, Some, Result, Ok, Err, refl, ap, sym, subst, arith}
use Rattle.std.proofs.lemmas.List.{length-take, length-drop, take-take}
use Rattle.host_traits.specs.declared.calls.Call.TheVariants.{BlockRead}
use Rattle.host_traits.specs.declared.calls.Said.TheVariants.{Bytes}
use Rattle.host_traits.specs.declared.host.HostError.{HostError}
use Rattle.host_traits.specs.declared.host.HostError.TheVariants.{Failed, Memory}
use Rattle.host_traits.specs.Held.{Held, serve}
use Rattle.host_traits.specs.Told.{Told, Asked, Answered, Refused, Unheard}
use Rattle.host_traits.proofs.Holding.{held_answered, held_refused, held_unheard, calm_served, same_answer, sectors_served}
use Rattle.sha_tree.specs.declared.measure.Measure.{Measure}
use Rattle.verity_path.specs.declared.device.Device.{Device}
use Rattle.verity_path.specs.declared.walk.Layout.TheVariants.{Parts}
use Rattle.idsig_v4.specs.declared.head.Head.{Head}
use Rattle.idsig_v4.specs.Reading.{IdsigsAreRead}
use Rattle.apk_verity.specs.declared.ApkFault.{ApkFault}
use Rattle.apk_verity.specs.declared.ApkFault.TheVariants as fault
use Rattle.apk_verity.specs.Opening.{Opening, count_of, opened}
use Rattle.apk_verity.specs.Holding.{HoldsIdsig, OpensAs, DeviceOpens}
use Rattle.apk_verity.proofs.Outcomes.{part_opens}

module _ (o : Opening) (count : ℕ) (count_is : count ≡ count_of o) (some : 1 ≤ o.idsig.sectors) (x y : Told) where
  served : (h : Held) (head : Head) (m : Measure) → (holds : HoldsIdsig h o head m)
      → serve h (BlockRead o.disk o.idsig.first count) [] ≡ Some (Bytes (take (512 * count_of o) holds.part), h)
  served h head m holds =
      let few : count ≤ o.idsig.sectors = omega (arith, count_is) in
      let ends : 512 * (o.idsig.first + count) ≤ length holds.disk.bytes =
      omega (
        arith,
        count_is,
        some,
        ap length holds.bytes,
        holds.whole,
        length-take (512 * o.idsig.sectors) (drop (512 * o.idsig.first) holds.disk.bytes),
        length-drop (512 * o.idsig.first) holds.disk.bytes,
      ) in
      let same : take (512 * count) (drop (512 * o.idsig.first) holds.disk.bytes) ≡ take (512 * count_of o) holds.part =
      sym (take-take (512 * count) (512 * o.idsig.sectors) (drop (512 * o.idsig.first) holds.disk.bytes) (omega (arith, few)))
      ∙ ap (take (512 * count)) holds.bytes ∙ ap (λ (n : ℕ). take (512 * n) holds.part) count_is in
      sectors_served h o.disk o.idsig.first count holds.disk [] holds.there ends ∙ ap (λ (b : List ℕ). Some (Bytes b, h)) same

  refused : (faults : ℕ) → Refused (BlockRead o.disk o.idsig.first count) [] x y → DeviceOpens o x y (Err (fault.Failed faults))
  refused faults r = record {
    right = λ h head m calm held holds.
        let after = held_refused _ _ x y h held r in
        (after.0, absurd (calm_served _ _ x y h _ held r calm (served h head m holds)));
  }

  unheard : Unheard x y → DeviceOpens o x y (Err fault.Memory)
  unheard u = record { right = λ h head m calm held holds. (held_unheard x y h held u, refl) }

  pub failed_right : (raw : List ℕ) (e : HostError) → e ≡ Failed
      → Asked {T = Unit {0}} (BlockRead o.disk o.idsig.first count) [] (λ _. Bytes raw) (Err e) x y
      → (faults : ℕ) → DeviceOpens o x y (Err (fault.Failed faults))
  failed_right raw e is asked faults =
      refused faults (subst (λ (z : HostError). Asked {T = Unit {0}} (BlockRead o.disk o.idsig.first count) [] (λ _. Bytes raw) (Err z) x y) is asked)

  pub memory_right : (raw : List ℕ) (e : HostError) → e ≡ Memory
      → Asked {T = Unit {0}} (BlockRead o.disk o.idsig.first count) [] (λ _. Bytes raw) (Err e) x y → DeviceOpens o x y (Err fault.Memory)
  memory_right raw e is asked =
      unheard (subst (λ (z : HostError). Asked {T = Unit {0}} (BlockRead o.disk o.idsig.first count) [] (λ _. Bytes raw) (Err z) x y) is asked)

  pub answered_right : IdsigsAreRead → (raw : List ℕ) (r : Result Device ApkFault) → Answered (BlockRead o.disk o.idsig.first count) [] (Bytes raw) x y
      → r ≡ opened o raw → DeviceOpens o x y r
  answered_right read raw r a is = record {
    right = λ h head m calm held holds.
        let device : Device = record { measure = m; layout = Parts o.disk o.apk.first (512 * o.idsig.first + head.tree_at) } in
        let after = held_answered _ _ _ x y h held a in
        let same = same_answer (take (512 * count_of o) holds.part) raw h after.0 _ (served h head m holds) after.2 in
        let whole : r ≡ Ok device =
        is ∙ ap (opened o) same.0 ∙ part_opens read o holds.part head m holds.whole holds.idsig holds.measure holds.tree in
        (after.1 ∙ ap Some same.1, subst (λ (z : Result Device ApkFault). OpensAs device z) (sym whole) refl);
  }
