use Rattle.std.proofs.Common.{◌≡◌, ℕ, ◌+◌, ◌≤◌, List, ◌++◌, length, take, drop, arith, sym, take-append-drop, length-take, length-drop, length-append}
use Rattle.std.proofs.lemmas.List.{drop_all}
use Rattle.std.proofs.Math.Seq.{take-append_seam}
use Rattle.std.proofs.lemmas.Grind.{common_steps}
use Rattle.host_traits.proofs.memory.MemSourceSource.read.Goals as goal

given : (bytes copied rest : List ℕ) (at n : ℕ) → copied ≡ take n (drop at bytes) → length copied ≡ n → drop at bytes ≡ take n (copied ++ rest) ++ drop (at + n) bytes
given bytes copied rest at n is len =
    let front : take n (copied ++ rest) ≡ copied = rw (← len) (take-append_seam copied rest) in
    let back : drop (at + n) bytes ≡ drop n (drop at bytes) = grind (arith, common_steps) in
    rw (front, back, is) (sym (take-append-drop n (drop at bytes)))

pub returns-clause-given : goal.returns-clause-given
returns-clause-given c =
    let n = c.min-n.result in
    let copied : c.copy_from_slice.new.self ≡ take n (drop c.self.inside.at c.self.inside.bytes.items) = grind (arith, common_steps, c.copy_from_slice.ensures.after, c.deref.ensures.value) in
    let len : length c.copy_from_slice.new.self ≡ n = omega (arith, c.copy_from_slice.ensures.len, length-take n c.args.out.now, c.min-n.ensures) in
    rw (← c.self.view_is) (given c.self.inside.bytes.items c.copy_from_slice.new.self _ c.self.inside.at n copied len, λ none some. let all : length c.self.inside.bytes.items ≤ c.self.inside.at + n = omega (arith, none, c.min-n.ensures, c.min.ensures, c.self.invariant, length-append c.copy_from_slice.new.self (drop n c.args.out.now), length-drop n c.args.out.now, some, len) in drop_all (c.self.inside.at + n) c.self.inside.bytes.items all)
