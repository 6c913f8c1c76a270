use Rattle.std.proofs.Common.{◌≡◌, ◌++◌, ℕ, length, ap, ◌∙◌, arith, length-append}
use Rattle.composite_spec.specs.Said.{Placed, placed, capability_of}
use Rattle.composite_spec.specs.Writing.{varint_bytes, number_field, bytes_field, component_bytes}
use Rattle.composite_spec.proofs.writing.component_size.Goals as goal

pub returns : goal.returns
unfolding component_bytes bytes_field
returns c =
    let p : Placed = placed c.args.component.now in
    let path : length c.as_bytes.result.now ≡ length p.path = ap length c.as_bytes.ensures.value in
    let size : c.varint_size-2.result ≡ length (varint_bytes (length p.path)) = c.varint_size-2.ensures.value ∙ ap (λ (n : ℕ). length (varint_bytes n)) path in
    let offset = c.number_size.ensures.value in
    let last : c.number_size-2.result ≡ length (number_field 3 (capability_of p)) = c.number_size-2.ensures.value ∙ ap (λ (n : ℕ). length (number_field 3 n)) c.capability.ensures in
    omega (arith, c.varint_size.ensures.value, length-append (varint_bytes 10 ++ (varint_bytes (length p.path) ++ p.path)) (number_field 2 p.offset ++ number_field 3 (capability_of p)), length-append (number_field 2 p.offset) (number_field 3 (capability_of p)), length-append (varint_bytes 10) (varint_bytes (length p.path) ++ p.path), length-append (varint_bytes (length p.path)) p.path)
