use Rattle.std.proofs.Common.{◌≡◌, ◌∙◌, sym, subst, arith}
use Rattle.std.specs.Prelude.{All}
use Rattle.gpt.specs.Grammar.{IsGpt}
use Rattle.gpt.specs.Image.{HasSectors, head_bytes, tail_bytes, total, written}
use Rattle.guest_images.specs.Composing.{disk_of}
use Rattle.guest_images.proofs.Fits.{fit_of, have_sectors, taken_low}
use Rattle.guest_images.proofs.composing.table_of.Goals as goal

pub write_gpt-requires-clause-each : goal.write_gpt-requires-clause-each
write_gpt-requires-clause-each c =
    let parts = c.deref.ensures.value ∙ c.in_ok-parts.ensures in
    subst (All HasSectors) (sym parts) (have_sectors c.uuid_of-disk.result c.args.pieces.now (fit_of c.args.pieces.now c.requires.fit).filled)

pub write_gpt-requires-clause-few : goal.write_gpt-requires-clause-few
write_gpt-requires-clause-few c =
    let low = taken_low c.uuid_of-disk.result c.args.pieces.now c.requires.each in
    let few = (fit_of c.args.pieces.now c.requires.fit).few in
    rw (c.deref.ensures.value, c.in_ok-parts.ensures) (omega (arith, low, few))

pub returns-in-Ok-clause-head : goal.returns-in-Ok-clause-head
returns-in-Ok-clause-head c =
    let disk : c.uuid_of-disk.result ≡ disk_of c.args.out.now = rw c.as_bytes.ensures.value at c.uuid_of-disk.ensures in
    rw (← disk) (rw (c.deref.ensures.value, c.in_ok-parts.ensures) at c.in-Ok.ensures.head)

pub returns-in-Ok-clause-tail : goal.returns-in-Ok-clause-tail
returns-in-Ok-clause-tail c =
    let disk : c.uuid_of-disk.result ≡ disk_of c.args.out.now = rw c.as_bytes.ensures.value at c.uuid_of-disk.ensures in
    rw (← disk) (rw (c.deref.ensures.value, c.in_ok-parts.ensures) at c.in-Ok.ensures.tail)

pub returns-in-Ok-clause-sectors : goal.returns-in-Ok-clause-sectors
returns-in-Ok-clause-sectors c =
    let disk : c.uuid_of-disk.result ≡ disk_of c.args.out.now = rw c.as_bytes.ensures.value at c.uuid_of-disk.ensures in
    rw (← disk) (rw (c.deref.ensures.value, c.in_ok-parts.ensures) at c.in-Ok.ensures.sectors)

pub returns-in-Ok-clause-high : goal.returns-in-Ok-clause-high
returns-in-Ok-clause-high c =
    let low = taken_low c.uuid_of-disk.result c.args.pieces.now c.requires.each in
    let few = (fit_of c.args.pieces.now c.requires.fit).few in
    let sectors = rw (c.deref.ensures.value, c.in_ok-parts.ensures) at c.in-Ok.ensures.sectors in
    omega (arith, low, few, sectors)

pub returns-in-Ok-clause-table : goal.returns-in-Ok-clause-table
returns-in-Ok-clause-table c =
    let disk : c.uuid_of-disk.result ≡ disk_of c.args.out.now = rw c.as_bytes.ensures.value at c.uuid_of-disk.ensures in
    let e = c.in-Ok.ensures in
    let read : IsGpt (head_bytes c.uuid_of-disk.result c.deref.result.now) (tail_bytes c.uuid_of-disk.result c.deref.result.now) (total c.deref.result.now) (written c.uuid_of-disk.result c.deref.result.now) =
    rw (e.head, e.tail, e.sectors) at e.read in
    rw (← disk) (rw (c.deref.ensures.value, c.in_ok-parts.ensures) at read)
