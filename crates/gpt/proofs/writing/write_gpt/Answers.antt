use Rattle.std.proofs.Common.{◌≡◌, ◌<◌, ℕ, length, get_or, arith, rules}
use Rattle.std.proofs.lemmas.List.Elements.{All-from_get_or}
use Rattle.guid_crc.specs.Guids.{IsGuid}
use Rattle.gpt.proofs.Pieces.{IsByte}
use Rattle.gpt.proofs.Written.{primary_written, alternate_written, all_written}
use Rattle.gpt.proofs.writing.write_gpt.Goals as goal

pub returns-in-Ok-clause-primary : goal.returns-in-Ok-clause-primary
returns-in-Ok-clause-primary c =
    let disk_len : length c.args.disk.0 ≡ 16 = search rules in
    let disk_at : (i : ℕ) → get_or c.args.disk.0 i 0 < 256 = λ i. search rules in
    let disk : IsGuid c.args.disk = (disk_len, All-from_get_or IsByte c.args.disk.0 0 (λ i lt. disk_at i)) in
    primary_written c.in-Ok.image.sectors c.in-Ok.image.head.items c.args.disk c.args.parts.now c.in-Ok.ensures.head c.in-Ok.ensures.sectors
    disk c.requires.some c.requires.each c.in-Ok.ensures.fit (omega arith) c.requires.few

pub returns-in-Ok-clause-alternate : goal.returns-in-Ok-clause-alternate
returns-in-Ok-clause-alternate c =
    let disk_len : length c.args.disk.0 ≡ 16 = search rules in
    let disk_at : (i : ℕ) → get_or c.args.disk.0 i 0 < 256 = λ i. search rules in
    let disk : IsGuid c.args.disk = (disk_len, All-from_get_or IsByte c.args.disk.0 0 (λ i lt. disk_at i)) in
    alternate_written c.in-Ok.image.sectors c.in-Ok.image.tail.items c.args.disk c.args.parts.now c.in-Ok.ensures.tail c.in-Ok.ensures.sectors
    disk c.requires.some c.requires.each c.in-Ok.ensures.fit (omega arith) c.requires.few

pub returns-in-Ok-clause-read : goal.returns-in-Ok-clause-read
returns-in-Ok-clause-read c =
    let disk_len : length c.args.disk.0 ≡ 16 = search rules in
    let disk_at : (i : ℕ) → get_or c.args.disk.0 i 0 < 256 = λ i. search rules in
    let disk : IsGuid c.args.disk = (disk_len, All-from_get_or IsByte c.args.disk.0 0 (λ i lt. disk_at i)) in
    all_written c.in-Ok.image.sectors c.in-Ok.image.head.items c.in-Ok.image.tail.items c.args.disk c.args.parts.now c.in-Ok.ensures.head c.in-Ok.ensures.tail c.in-Ok.ensures.sectors
    disk c.requires.some c.requires.each c.in-Ok.ensures.fit (omega arith) c.requires.few
