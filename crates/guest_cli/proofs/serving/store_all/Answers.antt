use Rattle.host_mem.specs.Mem.{mem_held}
use Rattle.guest_cli.proofs.Served.{tape_stops, keep_stops}
use Rattle.guest_cli.proofs.serving.store_all.Goals as goal

pub returns-in-Err-clause-stored : goal.returns-in-Err-clause-stored
returns-in-Err-clause-stored g c =
    rw c.refused.ensures (tape_stops _ _ c.args.tape_out.now c.text.result.now c.args.host.now.kept.items (mem_held c.args.host.now.host) c.args.lines.now c.in-Err.refusal c.text.ensures.bytes c.in-Err.ensures.err)

pub returns-in-Err-keep-clause-stored : goal.returns-in-Err-keep-clause-stored
returns-in-Err-keep-clause-stored g c =
    rw c.refused-in-Err-keep.ensures (keep_stops _ (g.F.Folder.files c.store_file.new.folder) _ c.args.tape_out.now c.text.result.now c.args.host.now.kept.items (mem_held c.args.host.now.host) c.args.lines.now c.in-Err-keep.refusal c.text.ensures.bytes c.in-Ok.ensures.ok
    (rw c.host.ensures at c.in-Err-keep.ensures.err))
