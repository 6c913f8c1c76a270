-- What the bytes of an answer give, rule by rule.
use Rattle.std.proofs.Common.{◌≡◌, ℕ, ◌^◌, ◌<◌, ◌≤◌, ◌∙◌, Bool, true, false, List, length, Ok, Err, refl, sym, ap, ltb}
use Rattle.std.specs.Prelude.{Some, nat_eq, not}
use Rattle.std.specs.Cmp.Lexicographic.{pointwise, pointwise_decides}
use Rattle.std.proofs.lemmas.Bool.{le-ltb, lt-ltb}
use Rattle.std.proofs.lemmas.Bool.Decides.{Decides-eqb}
use Rattle.sha2.specs.Sha256.{sha256}
use Rattle.mg_base.specs.declared.values.Digest.{Digest}
use Rattle.verity_descriptor.specs.declared.Descriptor.{Descriptor}
use Rattle.verity_descriptor.specs.declared.DescriptorFault.{DescriptorFault}
use Rattle.verity_descriptor.specs.Spelling.{IsDescriptor, descriptor_bytes, decoded, first_fault, said, answer}
use Rattle.verity_descriptor.proofs.Laws.{again}
use Rattle.ro_file.specs.declared.files.RoFault.TheVariants as fault
use Rattle.ro_file.specs.Files.{file_of}
use Rattle.ro_file.specs.Opening.{file_from, opened}

not_so : (b : Bool) → true ≡ not b → b ≡ false
not_so true e = absurd cc
not_so false e = refl

so : (b : Bool) → false ≡ not b → b ≡ true
so true e = refl
so false e = absurd cc

-- equal lists pass the test
pub same_bytes : (a b : List ℕ) → a ≡ b → pointwise nat_eq a b ≡ true
same_bytes a b e = (pointwise_decides Decides-eqb a b).1 e

pub is_bytes : (a b : List ℕ) → pointwise nat_eq a b ≡ true → a ≡ b
is_bytes a b e = (pointwise_decides Decides-eqb a b).0 e

pub short : (file : ℕ) (digest : Digest) (bytes : List ℕ) → length bytes < 256 → Err (fault.Short 256 (length bytes)) ≡ opened file digest bytes
unfolding opened
short file digest bytes few =
    let is : ltb (length bytes) 256 ≡ true = lt-ltb _ _ few in
    rw is refl

module _ (file : ℕ) (digest : Digest) (bytes all found : List ℕ) (long : 256 ≤ length bytes) (copy : all ≡ bytes) (hash : found ≡ sha256 all) where
  pub other : true ≡ not (pointwise nat_eq found digest.0) → Err (fault.DigestMismatch digest (record { 0 = found })) ≡ opened file digest bytes
  unfolding opened
  other differ =
      let whole : ltb (length bytes) 256 ≡ false = le-ltb _ _ long in
      let is : found ≡ sha256 bytes = hash ∙ ap sha256 copy in
      let no_digest : pointwise nat_eq (sha256 bytes) digest.0 ≡ false = rw is at (not_so _ differ) in
      rw (is, whole, no_digest) refl

  module _ (same : false ≡ not (pointwise nat_eq found digest.0)) where
    digest_is : pointwise nat_eq (sha256 bytes) digest.0 ≡ true
    digest_is =
        let is : found ≡ sha256 bytes = hash ∙ ap sha256 copy in
        rw is at (so _ same)

    pub read : opened file digest bytes ≡ file_from file digest (decoded bytes)
    unfolding opened
    read =
        let whole : ltb (length bytes) 256 ≡ false = le-ltb _ _ long in
        let is : pointwise nat_eq (sha256 bytes) digest.0 ≡ true = digest_is in
        rw (whole, is) refl

    pub broken : (why : DescriptorFault) → Some why ≡ first_fault all → Err (fault.Descriptor why) ≡ opened file digest bytes
    broken why first =
        let rule : first_fault bytes ≡ Some why = ap first_fault (sym copy) ∙ sym first in
        sym (read ∙ ap (λ o. file_from file digest (answer o (said bytes))) rule)

    module _ (d : Descriptor) (sound : IsDescriptor d) (spelled : all ≡ descriptor_bytes d) where
      decoded_is : decoded bytes ≡ Ok d
      decoded_is = ap decoded (sym copy ∙ spelled) ∙ again d sound

      pub too_long : 2 ^ 32 < d.size → Err (fault.TooLong d.size) ≡ opened file digest bytes
      too_long much =
          let is : ltb (2 ^ 32) d.size ≡ true = lt-ltb _ _ much in
          sym (read ∙ ap (file_from file digest) decoded_is ∙ rw is refl)

      pub good : d.size ≤ 2 ^ 32 → Ok (file_of file digest d) ≡ opened file digest bytes
      good few =
          let is : ltb (2 ^ 32) d.size ≡ false = le-ltb _ _ few in
          sym (read ∙ ap (file_from file digest) decoded_is ∙ rw is refl)
