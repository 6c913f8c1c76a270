use Rattle.std.proofs.Common.{◌≡◌, ◌++◌, length, List, ℕ, ap, ◌∙◌, rules}
use Rattle.uuid.specs.Text.{hyphenated_text, lower}
use Rattle.guid_crc.proofs.Spelled.{hyphenated_is_guid_text}
use Rattle.guest_plan.proofs.writing.put_guid.Goals as goal

pub returns : goal.returns
returns c =
    let len : length c.args.guid.now.0 ≡ 16 = search rules in
    let shown : c.encode_lower-text.result.now ≡ hyphenated_text lower c.args.guid.now.0 = rw (c.hyphenated.ensures, c.from_bytes-id.ensures) at c.encode_lower-text.ensures.text in
    c.in_ok-extend_from_slice.ensures.items ∙ ap (λ (x : List ℕ). c.args.out.now.items ++ x) (c.as_bytes.ensures.value ∙ shown ∙ hyphenated_is_guid_text c.args.guid.now.0 len)
