use Rattle.std.proofs.Common.{◌++◌, ◌∙◌, subst}
use Rattle.host_traits.specs.Streams.{SomePrefix}
use Rattle.guest_boot.specs.Wording.{front, named, line_feed}
use Rattle.host_traits.proofs.Prefixes.{prefix_first, prefix_second}
use Rattle.guest_boot.proofs.Wordings.{whole_end, three_ok, three_err}
use Rattle.guest_boot.proofs.words.write_boot_end.Goals as goal

pub returns-in-Err-clause-err : goal.returns-in-Err-clause-err
returns-in-Err-clause-err g c =
    subst (SomePrefix _ _) (whole_end c.args.fault.now)
    (prefix_first _ _ (front c.args.fault.now) (named c.args.fault.now.why ++ line_feed) (rw (c.bytes.ensures ∙ c.front_of-row.ensures.value) at c.in-Err.ensures.err))

pub returns-in-Err-write_all-clause-err : goal.returns-in-Err-write_all-clause-err
returns-in-Err-write_all-clause-err g c =
    subst (SomePrefix _ _) (whole_end c.args.fault.now)
    (prefix_second _ _ _ (front c.args.fault.now) (named c.args.fault.now.why ++ line_feed) (rw (c.bytes.ensures ∙ c.front_of-row.ensures.value) at c.in-Ok.ensures.ok)
    (prefix_first _ _ (named c.args.fault.now.why) line_feed (rw c.named.ensures at c.in-Err-write_all.ensures.err)))

pub returns-clause-ok : goal.returns-clause-ok
returns-clause-ok g c =
    three_ok _ _ _ _ c.args.fault.now _ _ c.write_all-3.result (c.bytes.ensures ∙ c.front_of-row.ensures.value) c.named.ensures c.in-Ok.ensures.ok c.in-Ok-write_all.ensures.ok c.write_all-3.ensures.ok

pub returns-clause-err : goal.returns-clause-err
returns-clause-err g c =
    three_err _ _ _ _ c.args.fault.now _ _ c.write_all-3.result (c.bytes.ensures ∙ c.front_of-row.ensures.value) c.named.ensures c.in-Ok.ensures.ok c.in-Ok-write_all.ensures.ok c.write_all-3.ensures.err
