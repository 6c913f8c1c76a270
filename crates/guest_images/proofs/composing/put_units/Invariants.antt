use Rattle.std.proofs.Common.{◌≡◌, ◌+◌, ◌*◌, ◌++◌, take, vec_len}
use Rattle.std.specs.List.{flat_map}
use Rattle.guest_images.specs.Composing.{unit_of}
use Rattle.guest_images.proofs.composing.put_units.Given as goal

abbrev pub invariant-loop-byte : goal.invariant-loop-byte
invariant-loop-byte l = record {
  text : l.out.items ≡ l.fn.out.items ++ flat_map unit_of (take l.byte-index l.name);
  len : vec_len l.out ≡ vec_len l.fn.out + 2 * l.byte-index;
}
