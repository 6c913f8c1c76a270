use Rattle.std.proofs.Common.{◌≡◌, length, ap, ◌∙◌, rules}
use Rattle.guid_crc.specs.Guids.{disk_form}
use Rattle.guid_crc.proofs.Spelled.{swap_is_disk_form, disk_form-twice}
use Rattle.guid_crc.proofs.forms.from_disk.Goals as goal

pub returns-clause-value : goal.returns-clause-value
returns-clause-value c =
    let len : length c.args.bytes.now ≡ 16 = search rules in
    c.into_bytes.ensures ∙ c.from_bytes_le.ensures ∙ swap_is_disk_form c.args.bytes.now len

pub returns-clause-inverse : goal.returns-clause-inverse
returns-clause-inverse c =
    let len : length c.args.bytes.now ≡ 16 = search rules in
    ap disk_form (c.into_bytes.ensures ∙ c.from_bytes_le.ensures ∙ swap_is_disk_form c.args.bytes.now len) ∙ disk_form-twice c.args.bytes.now len
