use Rattle.std.proofs.Common.{◌≡◌, ℕ, List, length, take, drop, subst, arith}
use Rattle.composite_spec.specs.Said.{Composite, composite}
use Rattle.block_map.specs.Disk.{contents, disk_bytes}
use Rattle.block_map.proofs.Writes.{copied_range}
use Rattle.block_map.proofs.map.Map.read.Goals as goal

pub returns-clause-read : goal.returns-clause-read
returns-clause-read c =
    let s : Composite = composite c.self.inside.spec in
    let out : List ℕ = c.copy.new.out in
    let n : ℕ = length c.args.out.now in
    let done : out ≡ take n (drop c.args.at (disk_bytes s (contents c.args.files.now))) = copied_range s (contents c.args.files.now) c.args.at n out (omega (arith, c.copy.auto.out)) (omega arith) c.copy.ensures in
    subst (λ (x : Composite). out ≡ take n (drop c.args.at (disk_bytes x (contents c.args.files.now)))) c.self.view_is done
