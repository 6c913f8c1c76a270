use Rattle.std.proofs.Common.{◌≡◌, ◌*◌, ◌-◌, drop}
use Rattle.fuse_codec.specs.Reading.{pairs_in}
use Rattle.fuse_server.specs.Effects.{all_forgotten}
use Rattle.fuse_server.proofs.perform.forget_pairs.Given as goal

abbrev pub invariant-loop-place : goal.invariant-loop-place
invariant-loop-place l = all_forgotten l.dirs (pairs_in (l.place-end - l.place) (drop (16 * l.place) l.pairs)) ≡ all_forgotten l.initial.dirs (pairs_in l.place-end l.pairs)
