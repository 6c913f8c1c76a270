use Rattle.std.proofs.Common.{rules, ◌≡◌, ◌+◌, ◌*◌, ◌∙◌, ap, sym, length, arith}
use Rattle.std.proofs.lemmas.List.{places, take_all}
use Rattle.std.proofs.lemmas.Slice.{take-put_mid}
use Rattle.aes_core.specs.Inner.{outer}
use Rattle.aes_core.proofs.Mixing.{keys_more}
use Rattle.aes_core.proofs.lanes.prepared.Goals as goal

pub loop-r-preserved : goal.loop-r-preserved
loop-r-preserved c =
    let keys = c.args.keys.now in
    let all = c.loop-r.all in
    let r = c.loop-r.r in
    let v = c.copy_from_slice.new.self in
    let long : length v ≡ 16 = omega arith in
    let is = ap outer c.copy_from_slice.ensures.after ∙ c.inner.ensures ∙ c.key_of.ensures in (
      search (rules, places),
      ap outer (take-put_mid (16 * r) _ all v (16 * (r + 1)) (omega arith) (omega (arith, c.loop-r.invariant.0)))
          ∙ keys_more keys all v r c.loop-r.invariant.1 is,
    )

pub returns-clause-inner : goal.returns-clause-inner
returns-clause-inner c =
    let keys = c.args.keys.now in
    let all = c.loop-r.all in
    let end : 16 * c.loop-r.r ≡ 240 = omega (arith, c.loop-r.auto.r-end) in
    ap outer (sym (take_all (16 * c.loop-r.r) all (omega (arith, c.loop-r.invariant.0)))) ∙ c.loop-r.invariant.1 ∙ take_all (16 * c.loop-r.r) keys (omega arith)
