use Rattle.std.proofs.Common.{rules, ◌≡◌, sym}
use Rattle.fuse_server.specs.declared.deed.Behind.TheVariants as behind
use Rattle.fuse_server.specs.Parts.{state_of}
use Rattle.fuse_server.proofs.Nodes.{write_row}
use Rattle.fuse_server.proofs.rows.write.Goals as goal

pub returns-in-Written-clause-row : goal.returns-in-Written-clause-row
returns-in-Written-clause-row c =
    let is : c.in-Ok.behind ≡ behind.Written c.in-Written.number = search rules in
    write_row (state_of c.args.parts.now) c.args.node c.args.fh c.args.offset c.in-Written.number c.args.bytes.now c.store.result (rw is at c.in-Ok.ensures) (sym c.in-Ok-held.ensures)
    (λ f there. c.store.ensures.row c.args.parts.now.writables.entries f there)
