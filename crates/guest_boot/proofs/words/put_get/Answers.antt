use Rattle.std.proofs.Common.{refl}
use Rattle.guest_boot.specs.Wording.{get_words}
use Rattle.guest_boot.proofs.Wordings.{said_then}
use Rattle.guest_boot.proofs.words.put_get.Goals as goal

pub returns-in-Tag-clause-value : goal.returns-in-Tag-clause-value
returns-in-Tag-clause-value c = said_then get_words _ _ _ _ _ _ _ c.in-Tag.is c.put-in-Tag.ensures.value c.hex.ensures.value refl
