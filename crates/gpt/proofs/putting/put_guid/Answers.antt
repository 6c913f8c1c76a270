use Rattle.std.proofs.Common.{◌≡◌, All, List, ℕ, length, subst, rules}
use Rattle.guid_crc.proofs.Spelled.{disk_form-twice}
use Rattle.gpt.proofs.Pieces.{IsByte, disk_form-bytes}
use Rattle.gpt.proofs.putting.put_guid.Goals as goal

pub returns-clause-fits : goal.returns-clause-fits
returns-clause-fits c =
    let len : length c.args.guid.now.0 ≡ 16 = search rules in
    let shown = disk_form-bytes _ (subst (λ (b : List ℕ). All IsByte b) c.to_disk.ensures.value c.put.ensures.bytes) in
    (len, subst (λ (b : List ℕ). All IsByte b) (disk_form-twice c.args.guid.now.0 len) shown)
