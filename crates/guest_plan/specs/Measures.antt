-- The text of a measure by itself, as a record keeps it.
use Rattle.std.specs.Prelude.{◌≡◌, ℕ, List, Option, Some, None}
use Rattle.sha_tree.specs.declared.measure.Measure.{Measure}
use Rattle.guest_plan.specs.Spelling.{IsDevice, measure_text}

-- it is the text of this measure, which is one that a device may have
pub record IsMeasureText (text : List ℕ) (m : Measure) : Type 0 where
  pub device : IsDevice m
  pub spelled : text ≡ measure_text m

-- what a reader of such a text says: the measure, or that there is none
abbrev pub SaysMeasure : List ℕ → Option Measure → Type 0
SaysMeasure text (Some m) = IsMeasureText text m
SaysMeasure text None = (m : Measure) → ¬ IsMeasureText text m
