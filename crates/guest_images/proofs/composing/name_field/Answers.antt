use Rattle.std.proofs.Common.{◌≡◌, ◌*◌, ◌∙◌, arith, length, vec_len}
use Rattle.guest_images.proofs.Naming.{field_is}
use Rattle.guest_images.proofs.composing.name_field.Goals as goal

pub returns : goal.returns
returns c =
    let units = rw c.new-units.ensures.items at c.in_ok-put_units.ensures.text in
    let len : vec_len c.put_units.new.out ≡ 2 * length c.args.name.now = omega (arith, c.in_ok-put_units.ensures.len, c.new-units.ensures.len) in
    c.copy_from_slice.ensures.after ∙ c.deref.ensures.value ∙ c.in_ok-resize.ensures.items ∙ field_is c.args.name.now c.put_units.new.out.items _ units len c.requires
