use Rattle.host_traits.proofs.Prefixes.{prefix_first, prefix_second_err, appends_then_ok}
use Rattle.fuse_codec.proofs.writing.send.Goals as goal

pub returns-in-Err-clause-writes : goal.returns-in-Err-clause-writes
returns-in-Err-clause-writes g c = record { ok = tt; err = prefix_first _ _ c.args.first.now c.args.second.now c.in-Err.ensures.err }

pub returns-clause-writes : goal.returns-clause-writes
returns-clause-writes g c = record {
  ok = appends_then_ok _ _ _ c.args.first.now c.args.second.now c.write_all-3.result c.in-Ok.ensures.ok c.write_all-3.ensures.ok;
  err = prefix_second_err _ _ _ c.args.first.now c.args.second.now c.write_all-3.result c.in-Ok.ensures.ok c.write_all-3.ensures.err;
}
