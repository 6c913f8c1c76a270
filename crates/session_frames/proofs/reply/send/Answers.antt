use Rattle.host_traits.proofs.Prefixes.{prefix_first, prefix_second_err, appends_then_ok}
use Rattle.session_frames.proofs.reply.send.Goals as goal

pub returns-in-Err-clause-err : goal.returns-in-Err-clause-err
returns-in-Err-clause-err g c = prefix_first _ _ c.args.first.now c.args.second.now c.in-Err.ensures.err

pub returns-clause-ok : goal.returns-clause-ok
returns-clause-ok g c = appends_then_ok _ _ _ c.args.first.now c.args.second.now c.write_all-2.result c.in-Ok.ensures.ok c.write_all-2.ensures.ok

pub returns-clause-err : goal.returns-clause-err
returns-clause-err g c = prefix_second_err _ _ _ c.args.first.now c.args.second.now c.write_all-2.result c.in-Ok.ensures.ok c.write_all-2.ensures.err
