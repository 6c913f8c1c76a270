use Rattle.std.proofs.Common.{List, ℕ, ◌++◌}
use Rattle.std.specs.Prelude.{codes}
use Rattle.text_lines.specs.Ends.{line_feed}
use Rattle.host_traits.proofs.Prefixes.{appends_then, appends_then_ok, prefix_first, prefix_second, prefix_second_err}
use Rattle.text_lines.proofs.ends.write_file_end.Goals as goal

abbrev front : List ℕ
front = codes "end 3 file "

pub returns-in-Err-clause-err : goal.returns-in-Err-clause-err
returns-in-Err-clause-err g c = prefix_first _ _ front (c.args.name.now ++ line_feed) c.in-Err.ensures.err

pub returns-in-Err-write_all-clause-err : goal.returns-in-Err-write_all-clause-err
returns-in-Err-write_all-clause-err g c = prefix_second _ _ _ front (c.args.name.now ++ line_feed) c.in-Ok.ensures.ok (prefix_first _ _ c.args.name.now line_feed (rw c.as_bytes.ensures.value at c.in-Err-write_all.ensures.err))

pub returns-clause-ok : goal.returns-clause-ok
returns-clause-ok g c = appends_then_ok _ _ _ (front ++ c.args.name.now) line_feed c.write_all-3.result (appends_then _ _ _ front c.args.name.now c.in-Ok.ensures.ok (rw c.as_bytes.ensures.value at c.in-Ok-write_all.ensures.ok)) c.write_all-3.ensures.ok

pub returns-clause-err : goal.returns-clause-err
returns-clause-err g c = prefix_second_err _ _ _ (front ++ c.args.name.now) line_feed c.write_all-3.result (appends_then _ _ _ front c.args.name.now c.in-Ok.ensures.ok (rw c.as_bytes.ensures.value at c.in-Ok-write_all.ensures.ok)) c.write_all-3.ensures.err
