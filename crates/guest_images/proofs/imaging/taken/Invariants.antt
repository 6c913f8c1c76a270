use Rattle.std.proofs.Common.{◌≡◌, ◌≤◌, ◌+◌, ◌*◌, ◌^◌, drop}
use Rattle.instance_image.specs.Grammar.{taken}
use Rattle.guest_images.proofs.imaging.taken.Given as goal

abbrev pub invariant-loop-part : goal.invariant-loop-part
invariant-loop-part l = record {
  so_far : l.sum + taken (drop l.part-index l.parts) ≡ taken l.parts;
  small : l.sum ≤ 2 ^ 32 * l.part-index;
}
