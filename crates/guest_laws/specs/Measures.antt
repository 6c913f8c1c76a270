-- The measure that boot gets from a record was sealed.
use Rattle.std.specs.Prelude.{◌≡◌, ℕ, List}
use Rattle.host_traits.specs.Told.{Exchanges}
use Rattle.sha_tree.specs.declared.measure.Measure.{Measure}
use Rattle.instance_image.specs.Records.{Kept}
use Rattle.instance_image.specs.Sealings.{Sealing, IsOneOf, OnlySealed}
use Rattle.guest_plan.specs.Measures.{IsMeasureText}
use Rattle.guest_boot.specs.Recording.{GivesMeasure}

-- one of these sealings, for this UUID, is of the text of this measure
pub record WasMeasured (sealings : List Sealing) (uuid : List ℕ) (m : Measure) : Type 0 where
  pub sealing : Sealing
  pub was : IsOneOf sealings sealing
  pub uuid_is : sealing.uuid ≡ uuid
  pub says : IsMeasureText sealing.text m

-- Where no sealed form was heard for the record but those of these sealings, the measure that it gives is that of one of them, for
-- the record's UUID.
abbrev pub MeasuresWereSealed : Type 0
MeasuresWereSealed = (k : Kept) (secret uuid : List ℕ) (own : Exchanges) (m : Measure) (sealings : List Sealing)
    → GivesMeasure k secret uuid own m → OnlySealed k.salt secret sealings own → WasMeasured sealings uuid m
