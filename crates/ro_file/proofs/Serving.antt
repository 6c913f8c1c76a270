-- Opening and reading over a host that holds the file.
use Rattle.std.proofs.Common.{◌≡◌, ℕ, ◌∙◌, List, [], take, Some, Result, Ok, Err, refl, ap, sym, subst, arith}
use Rattle.std.proofs.lemmas.List.{take_all}
use Rattle.mg_base.specs.declared.values.Digest.{Digest}
use Rattle.host_traits.specs.declared.calls.Call.TheVariants.{Descriptor as DescriptorOf}
use Rattle.host_traits.specs.declared.calls.Said.TheVariants.{Bytes}
use Rattle.host_traits.specs.declared.host.HostError.{HostError}
use Rattle.host_traits.specs.declared.host.HostError.TheVariants.{Failed, Memory}
use Rattle.host_traits.specs.Held.{Held, serve}
use Rattle.host_traits.specs.Told.{Told, Asked, Answered, Refused, Unheard}
use Rattle.host_traits.proofs.Holding.{held_answered, held_refused, held_unheard, calm_served, same_answer, descriptor_served}
use Rattle.verity_path.specs.Holding.{RangeIsRight}
use Rattle.verity_path.specs.declared.walk.WalkFault.{WalkFault}
use Rattle.verity_descriptor.specs.declared.Descriptor.{Descriptor}
use Rattle.verity_descriptor.specs.Spelling.{descriptor_bytes}
use Rattle.ro_file.specs.declared.files.RoFault.{RoFault}
use Rattle.ro_file.specs.declared.files.RoFault.TheVariants as fault
use Rattle.ro_file.specs.Files.{MeasuredFile, layout_of, file_of}
use Rattle.ro_file.specs.Opening.{opened}
use Rattle.ro_file.specs.Holding.{HoldsDescriptor, OpensAs, FileOpens, FileReadIsRight}
use Rattle.ro_file.proofs.Standing.{length-descriptor, open_whole}

module _ (file : ℕ) (digest : Digest) (x y : Told) where
  served : (h : Held) (d : Descriptor) → HoldsDescriptor h file digest d → serve h (DescriptorOf file) [] ≡ Some (Bytes (descriptor_bytes d), h)
  served h d holds =
      let whole : take 256 holds.file.descriptor ≡ descriptor_bytes d =
      ap (take 256) holds.spelled ∙ take_all 256 (descriptor_bytes d) (omega (arith, length-descriptor d holds.sound)) in
      descriptor_served h file holds.file [] holds.there ∙ ap (λ (b : List ℕ). Some (Bytes b, h)) whole

  refused : (faults : ℕ) → Refused (DescriptorOf file) [] x y → FileOpens file digest x y (Err (fault.Failed faults))
  refused faults r = record {
    right = λ h d calm held holds.
        let after = held_refused _ _ x y h held r in
        (after.0, absurd (calm_served _ _ x y h _ held r calm (served h d holds)));
  }

  unheard : Unheard x y → FileOpens file digest x y (Err fault.Memory)
  unheard u = record { right = λ h d calm held holds. (held_unheard x y h held u, refl) }

  pub failed_right : (raw : List ℕ) (e : HostError) → e ≡ Failed → Asked {T = Unit {0}} (DescriptorOf file) [] (λ _. Bytes raw) (Err e) x y
      → (faults : ℕ) → FileOpens file digest x y (Err (fault.Failed faults))
  failed_right raw e is asked faults =
      refused faults (subst (λ (z : HostError). Asked {T = Unit {0}} (DescriptorOf file) [] (λ _. Bytes raw) (Err z) x y) is asked)

  pub memory_right : (raw : List ℕ) (e : HostError) → e ≡ Memory → Asked {T = Unit {0}} (DescriptorOf file) [] (λ _. Bytes raw) (Err e) x y
      → FileOpens file digest x y (Err fault.Memory)
  memory_right raw e is asked =
      unheard (subst (λ (z : HostError). Asked {T = Unit {0}} (DescriptorOf file) [] (λ _. Bytes raw) (Err z) x y) is asked)

  pub answered_right : (raw : List ℕ) (r : Result MeasuredFile RoFault) → Answered (DescriptorOf file) [] (Bytes raw) x y → r ≡ opened file digest raw
      → FileOpens file digest x y r
  answered_right raw r a is = record {
    right = λ h d calm held holds.
        let after = held_answered _ _ _ x y h held a in
        let same = same_answer (descriptor_bytes d) raw h after.0 _ (served h d holds) after.2 in
        let whole : r ≡ Ok (file_of file digest d) = is ∙ ap (opened file digest) same.0 ∙ open_whole file digest d holds.sound holds.size holds.digest_is in
        (after.1 ∙ ap Some same.1, subst (λ (z : Result MeasuredFile RoFault). OpensAs file digest d z) (sym whole) refl);
  }

-- the size of a file that is held is its content's
pub read_right : (f : MeasuredFile) (offset len : ℕ) (x y : Told) (bytes : List ℕ) (r : Result (Unit {0}) WalkFault)
    → RangeIsRight (layout_of f) f.measure f.size offset len x y bytes r → FileReadIsRight f offset len x y bytes r
read_right f offset len x y bytes r step = record {
  right = λ h content calm held holds tree limit.
      let after = step.right h content calm held holds tree limit in
      (after.0, after.1 holds.size_is);
}
