use Rattle.std.proofs.Common.{rules, ◌≡◌, ◌∙◌, ap, length, arith}
use Rattle.host_traits.specs.Mem.{place_in}
use Rattle.host_traits.proofs.Places.{load_fails}
use Rattle.host_traits.proofs.mem_folder.MemFolder.find.Goals as goal

pub returns-then-not-next-clause-counted : goal.returns-then-not-next-clause-counted
returns-then-not-next-clause-counted c =
    let at = c.place_of-at.ensures ∙ ap (λ f. place_in f c.args.name.now) c.deref.ensures.value in
    let len : c.len.result ≡ length c.self.inside.files.items = omega (arith, c.len.ensures) in
    (rw (← c.self.view_is) (load_fails _ c.args.name.now _ _ _ _ at len c.if-not-next.ensures.answer), search rules)

pub returns-clause-counted : goal.returns-clause-counted
returns-clause-counted c =
    let at = c.place_of-at.ensures ∙ ap (λ f. place_in f c.args.name.now) c.deref.ensures.value in
    let len : c.len.result ≡ length c.self.inside.files.items = omega (arith, c.len.ensures) in
    (rw (← c.self.view_is) (load_fails _ c.args.name.now _ _ _ _ at len c.if-not-next.ensures.answer), search rules)
