use Rattle.std.proofs.Common.{List, ℕ, ◌++◌}
use Rattle.composite_spec.specs.Said.{magic, Composite, composite}
use Rattle.composite_spec.specs.Writing.{number_field, components_bytes, file_bytes}
use Rattle.composite_spec.proofs.Kept.{kept_on, behind_on}
use Rattle.composite_spec.proofs.writing.put_file.Goals as goal

pub returns-clause-ok : goal.returns-clause-ok
unfolding file_bytes
returns-clause-ok c =
    let s : Composite = composite c.args.spec.now in
    let message : List ℕ = number_field 1 2 ++ (components_bytes s.components ++ number_field 3 s.length) in
    behind_on c.put_disk.result c.args.out.now.items c.extend_from_slice.new.self.items c.put_disk.new.out.items magic message c.in_ok-extend_from_slice.ensures.items c.put_disk.ensures.ok

pub returns-clause-kept : goal.returns-clause-kept
returns-clause-kept c = kept_on c.args.out.now.items c.extend_from_slice.new.self.items c.put_disk.new.out.items magic c.in_ok-extend_from_slice.ensures.items c.put_disk.ensures.kept
