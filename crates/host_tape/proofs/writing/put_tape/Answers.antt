use Rattle.host_tape.specs.Tape.{header, items_bytes}
use Rattle.host_tape.proofs.Kept.{kept_on, behind_on}
use Rattle.host_tape.proofs.writing.put_tape.Goals as goal

pub returns-clause-ok : goal.returns-clause-ok
returns-clause-ok c = behind_on c.put_items.result c.args.out.now.items c.extend_from_slice.new.self.items c.put_items.new.out.items header (items_bytes c.args.items.now) c.in_ok-extend_from_slice.ensures.items c.put_items.ensures.ok

pub returns-clause-kept : goal.returns-clause-kept
returns-clause-kept c = kept_on c.args.out.now.items c.extend_from_slice.new.self.items c.put_items.new.out.items header c.in_ok-extend_from_slice.ensures.items c.put_items.ensures.kept
