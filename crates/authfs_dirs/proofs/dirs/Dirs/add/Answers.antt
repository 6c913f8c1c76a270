use Rattle.std.proofs.Common.{◌≡◌, ◌<◌, ◌+◌, ap, arith}
use Rattle.std.proofs.lemmas.Bool.Decides.{nat_tests}
use Rattle.authfs_dirs.specs.Names.{Names}
use Rattle.authfs_dirs.proofs.MayLemmas.{may_new, may_add_is}
use Rattle.authfs_dirs.proofs.dirs.Dirs.add.Goals as goal

pub add_name-requires-clause-new : goal.add_name-requires-clause-new
add_name-requires-clause-new c = may_new c.args.self.now c.self.inside.nodes.entries c.args.parent c.args.name (ap (λ (s : Names). s.nodes) c.self.view_is) c.requires.may

pub invariant_of-self : goal.invariant_of-self
invariant_of-self c =
    let is = may_add_is c.args.self.now c.args.parent c.args.name c.requires.may in
    let made : c.self.inside.made ≡ c.args.self.now.made = ap (λ (s : Names). s.made) c.self.view_is in
    let below : c.args.self.now.made < 2147483648 = grind (arith, nat_tests, is.made) in
    let to = c.add_name.ensures.cookies in
    record {
      last = let is = c.self.invariant.last in omega arith;
      made = omega arith;
      cookies = c.add_node.ensures.cookies (c.self.inside.last + 1 + 2) (rw c.new.ensures.next (omega arith)) (record { below = λ q x e. let h = to.below q x e in omega arith });
      space = λ parent e. absurd cc;
      room = λ parent e. absurd cc;
    }
