use Rattle.std.proofs.Common.{rules, of_calls}
use Rattle.std.proofs.lemmas.Fn.{always_returns_same}
use Rattle.authfs_dirs.proofs.TableLemmas.{is_below, below_parted, stands}
use Rattle.authfs_dirs.proofs.rows.place_of.Goals as goal

pub returns : goal.returns
returns c =
    let rows = c.args.rows.now in
    let point = c.partition_point.ensures.partitioned (is_below c.args.cookie) (always_returns_same _ _ _ (λ a r f k. search (rules, of_calls))) (below_parted c.args.cookie 3 rows c.requires.rising) in
    stands c.args.cookie rows c.partition_point.result c.requires.rising c.requires.has (record { front = λ k d lt. point.0 k d (search rules) lt; back = λ k d from lt. point.1 k d from lt })
