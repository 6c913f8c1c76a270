use Rattle.std.proofs.Common.{◌≡◌, drop}
use Rattle.std.specs.List.{list_any}
use Rattle.guest_images.specs.ImageLists.{same_uuid}
use Rattle.guest_images.proofs.image_lists.is_taken.Given as goal

abbrev pub invariant-loop-other : goal.invariant-loop-other
invariant-loop-other l = list_any (same_uuid l.part) l.parts ≡ list_any (same_uuid l.part) (drop l.other-index l.parts)
