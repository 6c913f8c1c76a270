use Rattle.std.proofs.Common.{◌≡◌, ℕ, List, length, sym, ap, subst, ◌∙◌, arith}
use Rattle.composite_spec.specs.Said.{Composite, composite}
use Rattle.block_map.specs.Disk.{contents, disk_bytes}
use Rattle.block_map.proofs.Patches.{patched}
use Rattle.block_map.proofs.Components.{files_count}
use Rattle.block_map.proofs.Writes.{disk_after}
use Rattle.block_map.proofs.map.Map.write.Goals as goal

pub returns-clause-disk : goal.returns-clause-disk
returns-clause-disk c =
    let s : Composite = composite c.self.inside.spec in
    let old = contents c.args.files.now in
    let new = contents c.overwrite.new.files in
    let at : ℕ = c.args.at in
    let bytes : List ℕ = c.args.bytes.now in
    let done : disk_bytes s new ≡ patched at bytes (disk_bytes s old) = disk_after s at bytes old new c.self.invariant (files_count c.args.files.now ∙ c.requires ∙ sym (ap (λ (x : Composite). length x.components) c.self.view_is)) (omega arith) c.overwrite.ensures c.in-Ok.ensures.1 in
    subst (λ (x : Composite). disk_bytes x new ≡ patched at bytes (disk_bytes x old)) c.self.view_is done
