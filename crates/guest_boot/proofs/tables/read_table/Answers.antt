use Rattle.std.proofs.Common.{refl}
use Rattle.guest_boot.proofs.Finds.{no_size, no_head, headed, no_tail, ended, table_read, table_broken}
use Rattle.guest_boot.proofs.tables.read_table.Goals as goal

pub returns-in-Err : goal.returns-in-Err
returns-in-Err g c = no_size c.args.disk _ _ c.in-Err.why c.in-Err.ensures.did

pub returns-in-Err-read_end : goal.returns-in-Err-read_end
returns-in-Err-read_end g c = no_head c.args.disk c.in-Ok.sectors _ _ _ c.in-Err-read_end.why c.in-Ok.ensures.did c.in-Err-read_end.ensures

pub returns-in-Err-read_end-2 : goal.returns-in-Err-read_end-2
returns-in-Err-read_end-2 g c =
    no_tail c.args.disk c.in-Ok.sectors c.in-Ok-read_end.head.items _ _ _ c.in-Err-read_end-2.why
    (headed c.args.disk c.in-Ok.sectors _ _ _ c.in-Ok-read_end.head.items c.in-Ok.ensures.did c.in-Ok-read_end.ensures) c.in-Err-read_end-2.ensures

pub returns-in-Ok-read_gpt : goal.returns-in-Ok-read_gpt
returns-in-Ok-read_gpt g c =
    table_read c.args.disk c.in-Ok.sectors c.in-Ok-read_end.head.items c.in-Ok-read_end-2.tail.items _ _ _ c.in-Ok-read_gpt.table
    (ended c.args.disk c.in-Ok.sectors c.in-Ok-read_end.head.items _ _ _ c.in-Ok-read_end-2.tail.items
    (headed c.args.disk c.in-Ok.sectors _ _ _ c.in-Ok-read_end.head.items c.in-Ok.ensures.did c.in-Ok-read_end.ensures) c.in-Ok-read_end-2.ensures)
    (rw (c.as_slice.ensures.value, c.as_slice-2.ensures.value) at c.in-Ok-read_gpt.ensures.exact) refl

pub returns : goal.returns
returns g c =
    rw c.gpt_cause.ensures (table_broken c.args.disk c.in-Ok.sectors c.in-Ok-read_end.head.items c.in-Ok-read_end-2.tail.items _ _ _ c.in-Err-read_gpt.fault
    (ended c.args.disk c.in-Ok.sectors c.in-Ok-read_end.head.items _ _ _ c.in-Ok-read_end-2.tail.items
    (headed c.args.disk c.in-Ok.sectors _ _ _ c.in-Ok-read_end.head.items c.in-Ok.ensures.did c.in-Ok-read_end.ensures) c.in-Ok-read_end-2.ensures)
    (rw (c.as_slice.ensures.value, c.as_slice-2.ensures.value) at c.in-Err-read_gpt.ensures.exact) refl)
