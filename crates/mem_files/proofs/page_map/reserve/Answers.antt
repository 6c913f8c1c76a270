use Rattle.std.proofs.Common.{◌≡◌, ◌∙◌, ℕ, List, Some, None, Option, false, refl, sym}
use Rattle.std.specs.Prelude.{replicate, is_some}
use Rattle.mem_files.specs.Files.{at, Puts}
use Rattle.mem_files.proofs.Kept.{zeros_put}
use Rattle.mem_files.proofs.page_map.reserve.Goals as goal

none_of : (o : Option (List ℕ)) → is_some o ≡ false → o ≡ None
none_of None e = refl
none_of (Some x) e = absurd (cc)

pub returns-clause-same : goal.returns-clause-same
returns-clause-same c = λ place.
    let old = c.args.pages.now.entries in
    let none : at old c.args.page ≡ None = none_of (at old c.args.page) (sym c.contains_key.ensures ∙ c.if-contains_key.false) in
    let zeros : c.in-Ok.zeros ≡ replicate 4096 0 = c.in-Ok.ensures in
    let puts : Puts old c.insert.new.self.entries c.args.page c.in-Ok.zeros = c.in-Ok-insert.ensures.updates.0 in
    zeros_put old c.insert.new.self.entries c.args.page none (rw (← zeros) puts) place
