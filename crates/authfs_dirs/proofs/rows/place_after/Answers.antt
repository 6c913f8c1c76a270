use Rattle.std.proofs.Common.{rules, of_calls}
use Rattle.std.proofs.lemmas.Fn.{always_returns_same}
use Rattle.authfs_dirs.proofs.TableLemmas.{is_before, after_place, before_parted}
use Rattle.authfs_dirs.proofs.rows.place_after.Goals as goal

pub returns-clause-place : goal.returns-clause-place
returns-clause-place c =
    let rows = c.args.rows.now in
    let point = c.partition_point.ensures.partitioned (is_before c.args.cookie) (always_returns_same _ _ _ (λ a r f k. search (rules, of_calls))) (before_parted c.args.cookie 3 rows c.requires) in
    after_place c.args.cookie rows c.partition_point.result (record { front = λ k d lt. point.0 k d (search rules) lt; back = λ k d from lt. point.1 k d from lt }) c.partition_point.ensures.bound
