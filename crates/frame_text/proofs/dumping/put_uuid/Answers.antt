use Rattle.std.proofs.Common.{◌≡◌, ◌++◌, List, ℕ, ap, ◌∙◌}
use Rattle.uuid.specs.Text.{hyphenated_text, lower}
use Rattle.guid_crc.proofs.Spelled.{hyphenated_is_guid_text}
use Rattle.frame_text.proofs.dumping.put_uuid.Goals as goal

pub returns : goal.returns
returns c =
    let bytes = c.args.bytes.now in
    let shown : c.encode_lower-text.result.now ≡ hyphenated_text lower bytes = rw (c.hyphenated.ensures, c.from_bytes-id.ensures, c.uuid_in.ensures) at c.encode_lower-text.ensures.text in
    c.in_ok-extend_from_slice.ensures.items ∙ ap (λ (x : List ℕ). c.args.out.now.items ++ x) (c.as_bytes.ensures.value ∙ shown ∙ hyphenated_is_guid_text bytes c.requires)
