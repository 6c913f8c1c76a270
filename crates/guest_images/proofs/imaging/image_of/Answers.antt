use Rattle.std.proofs.Common.{◌≡◌, ◌+◌, ◌*◌, ◌∙◌, length, refl, ap, arith}
use Rattle.instance_image.specs.Grammar.{taken, image_bytes}
use Rattle.guest_images.proofs.ImageStored.{IsWritten, fit_image, image_length, image_padded}
use Rattle.guest_images.proofs.imaging.image_of.Goals as goal

pub pad-requires : goal.pad-requires
pad-requires c =
    let list = c.args.list.now in
    let written : IsWritten list.salt list.parts.items = rw c.deref.ensures.value at c.in_ok-writer.ensures.image in
    let fit = fit_image list.parts.items c.requires.fit in
    let bytes : c.writer.new.out.items ≡ image_bytes list.salt list.parts.items = c.in_ok-writer.ensures.text ∙ rw (c.deref.ensures.value, c.new-bytes.ensures.items) refl in
    let len : length c.writer.new.out.items ≡ 512 * (1 + taken list.parts.items) = ap length bytes ∙ image_length list.salt list.parts.items written in
    omega (arith, len, fit.size)

pub returns-clause-image : goal.returns-clause-image
returns-clause-image c =
    let list = c.args.list.now in
    let written : IsWritten list.salt list.parts.items = rw c.deref.ensures.value at c.in_ok-writer.ensures.image in
    image_padded list.salt list.parts.items written
