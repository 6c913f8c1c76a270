use Rattle.std.proofs.Common.{◌≡◌, ◌<◌, ◌+◌, ap, ◌∙◌, arith}
use Rattle.std.proofs.lemmas.Bool.Decides.{nat_tests}
use Rattle.authfs_dirs.specs.Names.{Names}
use Rattle.authfs_dirs.proofs.MayLemmas.{plant_new, may_plant_is}
use Rattle.authfs_dirs.proofs.dirs.Dirs.plant.Goals as goal

pub add_name-requires-clause-new : goal.add_name-requires-clause-new
add_name-requires-clause-new c = rw c.in-Ok.ensures (plant_new c.args.self.now c.make_room.new.nodes.entries c.args.name.now (c.make_room.ensures.nodes ∙ ap (λ (s : Names). s.nodes) c.self.view_is) c.requires.may)

pub invariant_of-self-2 : goal.invariant_of-self-2
invariant_of-self-2 c =
    let may = may_plant_is c.args.self.now c.args.name.now c.requires.may in
    let last : c.self.inside.last ≡ c.args.self.now.last = ap (λ (s : Names). s.last) c.self.view_is in
    let below : c.args.self.now.last < 65536 = grind (arith, nat_tests, may.1) in
    let to = c.add_name.ensures.cookies in
    record {
      last = omega arith;
      made = c.self.invariant.made;
      cookies = c.add_node.ensures.cookies (c.self.inside.last + 1 + 2) (rw c.new-3.ensures.next (omega arith)) (record { below = λ q x e. let h = to.below q x e in omega arith });
      space = λ parent e. absurd cc;
      room = λ parent e. absurd cc;
    }
