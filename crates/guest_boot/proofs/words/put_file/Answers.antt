use Rattle.std.proofs.Common.{refl}
use Rattle.guest_boot.specs.Wording.{file_words}
use Rattle.guest_boot.proofs.Wordings.{said, said_then}
use Rattle.guest_boot.proofs.words.put_file.Goals as goal

pub returns-in-DigestMismatch-clause-value : goal.returns-in-DigestMismatch-clause-value
returns-in-DigestMismatch-clause-value c = said file_words _ _ _ _ c.in-DigestMismatch.is c.put_digests.ensures.value

pub returns-in-Descriptor-clause-value : goal.returns-in-Descriptor-clause-value
returns-in-Descriptor-clause-value c = said_then file_words _ _ _ _ _ _ _ c.in-Descriptor.is c.put.ensures.value c.put_descriptor.ensures.value refl
