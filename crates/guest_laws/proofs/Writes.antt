-- What is read of a writable file in a session.
use Rattle.std.proofs.Common.{◌≡◌, ℕ, List, [], Some, refl, sym, subst}
use Rattle.fuse_server.specs.State.{WritableFile, writable_at, empty_file}
use Rattle.fuse_server.specs.FileRows.{meaning_of}
use Rattle.rw_file.specs.Contents.{digests_of}
use Rattle.guest_plan.specs.declared.plan.PlanLine.{PlanLine}
use Rattle.guest_names.specs.Standing.{writables_at_boot}
use Rattle.guest_names.proofs.Making.{empty_at_boot}
use Rattle.guest_rules.specs.Machine.{moment}
use Rattle.guest_rules.specs.Written.{StandFor}
use Rattle.guest_rules.proofs.Writing.{all_read}
use Rattle.guest_cli.specs.Booted.{first_state}
use Rattle.guest_laws.specs.Writes.{no_bytes, WrittenIsRead}

empty_stands : (number : ℕ) → (meaning_of (empty_file number)).is []
unfolding digests_of
empty_stands number = record { size_is = refl; tree = refl }

files_stand : (lines : List PlanLine) → StandFor (writables_at_boot lines) no_bytes
files_stand lines number f is = subst (λ (x : WritableFile). (meaning_of x).is []) (sym (empty_at_boot lines number f is)) (empty_stands number)

pub written_is_read : WrittenIsRead
written_is_read plan o g world told heard sealings turns new run clear =
    all_read g world (moment (first_state plan o) told heard sealings) turns new run no_bytes (files_stand plan.lines) clear
