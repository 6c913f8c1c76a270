use Rattle.std.proofs.Common.{◌≡◌, arith, sym, ap, ◌∙◌}
use Rattle.host_traits.proofs.Places.{found_there, found_not}
use Rattle.host_traits.specs.Mem.{place_in}
use Rattle.host_traits.proofs.mem_folder.MemFolder.get.Goals as goal

pub returns-then-at-len : goal.returns-then-at-len
returns-then-at-len c =
    let files = c.deref.ensures.value in
    let at : c.place_of-at.result ≡ place_in c.self.inside.files.items c.args.name.now = c.place_of-at.ensures ∙ ap (λ f. place_in f c.args.name.now) files in
    let found = found_there c.self.inside.files.items c.args.name.now c.place_of-at.result c.index.result.now at (omega (arith, c.if-at-len.true, c.len.ensures)) c.index.ensures in
    rw (← c.self.view_is, c.bytes.ensures) (sym found)

pub returns : goal.returns
returns c =
    let files = c.deref.ensures.value in
    let at : c.place_of-at.result ≡ place_in c.self.inside.files.items c.args.name.now = c.place_of-at.ensures ∙ ap (λ f. place_in f c.args.name.now) files in
    rw (← c.self.view_is) (sym (found_not c.self.inside.files.items c.args.name.now (omega (arith, at, c.if-at-len.false, c.len.ensures))))
