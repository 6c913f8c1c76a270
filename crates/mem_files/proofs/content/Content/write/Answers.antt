use Rattle.std.proofs.Common.{◌≡◌, ◌∙◌, ◌++◌, ◌+◌, ◌-◌, min, length, take, drop, ap, arith}
use Rattle.std.proofs.lemmas.List.{take_rest}
use Rattle.host_traits.specs.Held.{over}
use Rattle.mem_files.proofs.Parts.{over_parts}
use Rattle.mem_files.proofs.content.Content.write.Goals as goal

pub returns-clause-ok : goal.returns-clause-ok
returns-clause-ok c =
    let h = c.self.inside.front.items in
    let t = c.self.inside.back in
    let bytes = c.args.bytes.now in
    let at = c.args.at in
    let from = c.min-from.result in
    let cut = c.min-cut.result in
    let from_is : from ≡ min at (length h) = omega arith in
    let cut_is : cut ≡ min (length bytes) (length h - from) = omega arith in
    let past : c.saturating_sub.result ≡ at - length h = omega arith in
    let front : c.overwrite.new.bytes.items ≡ take from h ++ take cut bytes ++ drop (from + length (take cut bytes)) h = c.overwrite.ensures.put in
    let back : c.write.new.self ≡ over t (at - length h) (drop cut bytes) = rw (past, take_rest) at c.in-Ok.ensures.ok in
    ap (λ z. z ++ c.write.new.self) front ∙ ap (λ z. (take from h ++ take cut bytes ++ drop (from + length (take cut bytes)) h) ++ z) back
    ∙ over_parts h t at from cut bytes from_is cut_is ∙ ap (λ z. over z at bytes) c.self.view_is
