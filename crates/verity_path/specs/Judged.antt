-- That the answers of a walk or a read are right, but for the last one where that is to blame.
use Rattle.std.specs.Prelude.{◌≡◌, ℕ, List, ◌++◌, length}
use Rattle.host_traits.specs.declared.calls.Call.{Call}
use Rattle.host_traits.specs.declared.calls.Said.{Said}
use Rattle.host_traits.specs.declared.calls.Said.TheVariants.{Bytes}
use Rattle.host_traits.specs.Told.{Exchanges}
use Rattle.host_traits.specs.Did.{IsIn}
use Rattle.sha_tree.specs.declared.measure.Measure.{Measure}
use Rattle.sha_tree.specs.Tree.{page_hash}
use Rattle.sha_tree.specs.Path.{IsDerived}
use Rattle.verity_path.specs.Calls.{call_for, asked_for, piece_for}
use Rattle.verity_path.specs.Pieces.{IsPiece}
use Rattle.verity_path.specs.declared.device.Cause.{Cause}
use Rattle.verity_path.specs.declared.device.Cause.TheVariants as cause
use Rattle.verity_path.specs.declared.walk.Layout.{Layout}
use Rattle.verity_path.specs.declared.walk.WalkFault.{WalkFault}
use Rattle.verity_path.specs.declared.walk.WalkFault.TheVariants as fault

-- An answer to the call for a page, as long as asked, in which the piece at the page's place has a hash that what was heard ties
-- to that place.
pub record IsRightAnswer (layout : Layout) (m : Measure) (heard : Exchanges) (call : Call) (said : Said) : Type 0 where
  pub level : ℕ
  pub index : ℕ
  pub bytes : List ℕ
  pub call_is : call ≡ call_for layout m.blocks level index
  pub said_is : said ≡ Bytes bytes
  pub whole : length bytes ≡ asked_for layout m.blocks level index
  pub tied : IsDerived (IsPiece heard) m level index (page_hash m.salt (piece_for layout m.blocks level index bytes))

abbrev pub AreRight : Layout → Measure → Exchanges → Exchanges → Type 0
AreRight layout m heard own = (call : Call) (said : Said) → IsIn call said own → IsRightAnswer layout m heard call said

-- how many answers are to blame: the last one, where it was short or false
abbrev pub judged : WalkFault → ℕ
judged (fault.Mismatch x) = 1
judged (fault.Short asked got) = 1
judged (fault.Failed faults) = 0
judged fault.Memory = 0

abbrev pub judged_by : Cause → ℕ
judged_by (cause.Mismatch x) = 1
judged_by (cause.Short asked got) = 1
judged_by (cause.Failed faults) = 0
judged_by (cause.Tag found) = 1
judged_by (cause.Changed sector) = 1
judged_by cause.Memory = 0

-- of some answers, those before the last so many are right
pub record AreRightBefore (layout : Layout) (m : Measure) (own : Exchanges) (blamed : ℕ) : Type 0 where
  pub before : Exchanges
  pub last : Exchanges
  pub is : own ≡ before ++ last
  pub count : length last ≡ blamed
  pub right : AreRight layout m own before
