use Rattle.std.proofs.Common.{refl, sym, ◌∙◌}
use Rattle.host_mem.proofs.Changes.{not_free, makes}
use Rattle.host_mem.proofs.dirs.mkdir.Goals as goal

pub returns-then-not-may_make : goal.returns-then-not-may_make
returns-then-not-may_make c = λ disks.
    let may = sym c.may_make.ensures ∙ c.if-not-may_make.true in
    ((not_free disks c.args.files.now.entries c.args.dirs.now.entries c.args.dir c.args.name.now c.args.file may).1, refl)

pub returns-in-Ok-add_name : goal.returns-in-Ok-add_name
returns-in-Ok-add_name c = λ disks.
    let may = sym c.may_make.ensures ∙ c.if-not-may_make.false in
    makes disks c.args.files.now.entries c.args.dirs.now.entries c.insert.new.self.entries c.add_name.new.dirs.entries c.args.dir c.args.file c.args.name.now (rw c.new.ensures at c.in-Ok.ensures.updates.0) c.in-Ok-add_name.ensures.ok may
