use Rattle.guest_boot.specs.Wording.{apk_words}
use Rattle.guest_boot.proofs.Wordings.{said}
use Rattle.guest_boot.proofs.words.put_apk.Goals as goal

pub returns-in-RootMismatch-clause-value : goal.returns-in-RootMismatch-clause-value
returns-in-RootMismatch-clause-value c = said apk_words _ _ _ _ c.in-RootMismatch.is c.put_digests.ensures.value

pub returns-in-TooFewBlocks-clause-value : goal.returns-in-TooFewBlocks-clause-value
returns-in-TooFewBlocks-clause-value c = said apk_words _ _ _ _ c.in-TooFewBlocks.is c.put_number-in-TooFewBlocks.ensures.value

pub returns-in-TooManyBlocks-clause-value : goal.returns-in-TooManyBlocks-clause-value
returns-in-TooManyBlocks-clause-value c = said apk_words _ _ _ _ c.in-TooManyBlocks.is c.put_number-in-TooManyBlocks.ensures.value
