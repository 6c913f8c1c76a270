use Rattle.std.proofs.Common.{◌≡◌, ◌∙◌, ◌++◌, ◌+◌, ◌-◌, min, length, take, drop, ap, arith}
use Rattle.mem_files.proofs.Parts.{read_parts}
use Rattle.mem_files.proofs.content.fill.Goals as goal

pub returns : goal.returns
returns c =
    let h = c.args.front.now in
    let t = c.args.back.now in
    let n = length c.args.out.now in
    let at = c.args.at in
    let from = c.min-from.result in
    let cut = c.min-cut.result in
    let from_is : from ≡ min at (length h) = omega arith in
    let cut_is : cut ≡ min n (length h - from) = omega arith in
    let past : c.saturating_sub.result ≡ at - length h = omega arith in
    let piece : (from + cut) - from ≡ cut = omega arith in
    let rest : length c.split_at_mut-head.result.1.now ≡ n - cut = omega (arith, c.split_at_mut-head.ensures.back_len) in
    let head : c.copy_from_slice.new.self ≡ take cut (drop from h) = c.copy_from_slice.ensures.after ∙ ap (λ k. take k (drop from h)) piece in
    let tail : c.fill.new.out ≡ take (n - cut) (drop (at - length h) t) =
    c.fill.ensures ∙ ap (λ k. take k (drop c.saturating_sub.result t)) rest ∙ ap (λ k. take (n - cut) (drop k t)) past in
    ap (λ z. z ++ c.fill.new.out) head ∙ ap (λ z. take cut (drop from h) ++ z) tail ∙ read_parts h t at n from cut c.requires from_is cut_is
