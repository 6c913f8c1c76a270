use Rattle.std.proofs.Common.{◌∙◌, ℕ, List, Option, sym, subst, arith}
use Rattle.host_traits.specs.Folders.{Files}
use Rattle.guest_images.specs.Feeding.{IsChunk}
use Rattle.guest_images.proofs.Fronts.{fed_then, fed_whole}
use Rattle.guest_images.proofs.feeding.feed_file.Goals as goal

pub returns-then-at-le-FILE_LIMIT-clause-ok : goal.returns-then-at-le-FILE_LIMIT-clause-ok
returns-then-at-le-FILE_LIMIT-clause-ok g c =
    let files : Option Files = g.F.Folder.files c.args.folder.now in
    let here : IsChunk files c.args.name.now c.chunks.at c.in-Ok.chunk.items = subst (λ (z : Option Files). IsChunk z c.args.name.now c.chunks.at c.in-Ok.chunk.items) c.chunks.invariant.files c.in-Ok.ensures.ok in
    let chunk : IsChunk files c.args.name.now c.chunks.at c.deref.result.now = subst (λ (p : List ℕ). IsChunk files c.args.name.now c.chunks.at p) (sym c.deref.ensures.value) here in
    fed_whole files c.args.name.now c.deref.result.now c.chunks.at c.len-len.result _ _ c.chunks.invariant.fed chunk (omega (arith, c.len-len.ensures, c.deref.ensures.len)) c.in-Ok-feed.ensures.fed
    (omega (arith, c.if-len-lt-CHUNK.true)) (omega (arith, c.if-at-le-FILE_LIMIT.true))

pub chunks-preserved : goal.chunks-preserved
chunks-preserved g c =
    let files : Option Files = g.F.Folder.files c.args.folder.now in
    let here : IsChunk files c.args.name.now c.chunks.at c.in-Ok.chunk.items = subst (λ (z : Option Files). IsChunk z c.args.name.now c.chunks.at c.in-Ok.chunk.items) c.chunks.invariant.files c.in-Ok.ensures.ok in
    let chunk : IsChunk files c.args.name.now c.chunks.at c.deref.result.now = subst (λ (p : List ℕ). IsChunk files c.args.name.now c.chunks.at p) (sym c.deref.ensures.value) here in
    record {
      fed = fed_then files c.args.name.now c.deref.result.now c.chunks.at c.len-len.result _ _ c.chunks.invariant.fed chunk (omega (arith, c.len-len.ensures, c.deref.ensures.len)) c.in-Ok-feed.ensures.fed;
      salt = c.in-Ok-feed.ensures.salt ∙ c.chunks.invariant.salt;
      files = c.in-Ok.ensures.files ∙ c.chunks.invariant.files;
      faults = omega (arith, c.chunks.invariant.faults, c.in-Ok.ensures.cause);
    }
