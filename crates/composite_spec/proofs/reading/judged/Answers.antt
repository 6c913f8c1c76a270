use Rattle.std.proofs.Common.{◌≡◌, List, true, false, None, Ok, map, ap, sym, ◌∙◌}
use Rattle.composite_spec.specs.declared.stated.Stated.{Stated}
use Rattle.composite_spec.specs.Said.{placed}
use Rattle.composite_spec.specs.Reading.{part_by, disk_by, is_length, all_placed, stated_offset}
use Rattle.composite_spec.proofs.Rules.{judged_ok, judged_long, offsets_are}
use Rattle.composite_spec.proofs.reading.judged.Goals as goal

pub returns-then-not-is_length : goal.returns-then-not-is_length
returns-then-not-is_length c =
    let d = disk_by c.args.disk.now in
    let each : all_placed 0 None d.parts ≡ Ok (map placed c.in_ok-components.components.items) = ap (λ (x : List Stated). all_placed 0 None (map part_by x)) (sym c.as_slice.ensures.value) ∙ c.in_ok-components.ensures in
    let long : is_length d.length (map stated_offset d.parts) ≡ false = ap (is_length d.length) (sym (offsets_are c.args.disk.now.components.items)) ∙ ap (λ (x : List Stated). is_length d.length (map (λ (p : Stated). stated_offset (part_by p)) x)) (sym c.as_slice-2.ensures.value) ∙ sym c.is_length.ensures ∙ c.if-not-is_length.true in
    judged_long d (map placed c.in_ok-components.components.items) c.if-disk-ne2.false each long

pub returns : goal.returns
returns c =
    let d = disk_by c.args.disk.now in
    let each : all_placed 0 None d.parts ≡ Ok (map placed c.in_ok-components.components.items) = ap (λ (x : List Stated). all_placed 0 None (map part_by x)) (sym c.as_slice.ensures.value) ∙ c.in_ok-components.ensures in
    let long : is_length d.length (map stated_offset d.parts) ≡ true = ap (is_length d.length) (sym (offsets_are c.args.disk.now.components.items)) ∙ ap (λ (x : List Stated). is_length d.length (map (λ (p : Stated). stated_offset (part_by p)) x)) (sym c.as_slice-2.ensures.value) ∙ sym c.is_length.ensures ∙ c.if-not-is_length.false in
    judged_ok d (map placed c.in_ok-components.components.items) c.if-disk-ne2.false each long
