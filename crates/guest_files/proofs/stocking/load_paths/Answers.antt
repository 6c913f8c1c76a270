use Rattle.std.proofs.Common.{Option, ◌≡◌, ◌+◌, ◌++◌, ◌∷◌, [], ℕ, List, take, map, sym, subst, ap, ◌∙◌, arith}
use Rattle.std.proofs.lemmas.List.{map-append}
use Rattle.host_traits.specs.Folders.{Files}
use Rattle.block_map.specs.Disk.{contents}
use Rattle.guest_files.specs.Files.{IsLoaded}
use Rattle.guest_files.specs.Stocking.{paths_of}
use Rattle.guest_files.specs.declared.load.Refusal.TheVariants.{Memory}
use Rattle.guest_files.proofs.Cuts.{take_here}
use Rattle.guest_files.proofs.Refusals.{path_here, path_inside, paths_fail}
use Rattle.guest_files.proofs.Stocks.{loaded_then}
use Rattle.guest_files.proofs.stocking.load_paths.Goals as goal

pub returns-in-Err-push-clause-err : goal.returns-in-Err-push-clause-err
returns-in-Err-push-clause-err g c =
    let here = path_here c.args.map.now c.spec.result.now.components.items c.loop-index.index c.index.result.now c.loop-index.invariant.same c.index.ensures in
    let name = rw (← c.as_str.ensures.value) at here in
    let low = path_inside c.args.map.now c.spec.result.now.components.items c.loop-index.index c.loop-index.invariant.same (omega (arith, c.loop-index-test.true)) in
    paths_fail _ _ _ c.as_str.result.now c.loop-index.index _ c.loop-index.loaded _ Memory c.loop-index.invariant.files low name c.loop-index.invariant.loaded tt

pub returns-in-Err-clause-err : goal.returns-in-Err-clause-err
returns-in-Err-clause-err g c =
    let here = path_here c.args.map.now c.spec.result.now.components.items c.loop-index.index c.index.result.now c.loop-index.invariant.same c.index.ensures in
    let name = rw (← c.as_str.ensures.value) at here in
    let low = path_inside c.args.map.now c.spec.result.now.components.items c.loop-index.index c.loop-index.invariant.same (omega (arith, c.loop-index-test.true)) in
    paths_fail _ _ _ c.as_str.result.now c.loop-index.index _ c.loop-index.loaded _ c.in-Err.refusal c.loop-index.invariant.files low name c.loop-index.invariant.loaded c.in-Err.ensures.err

pub loop-index-preserved : goal.loop-index-preserved
loop-index-preserved g c =
    let i = c.loop-index.index in
    let files : Option Files = g.F.Folder.files c.args.folder.now in
    let names : List (List ℕ) = paths_of c.args.map.now in
    let here = path_here c.args.map.now c.spec.result.now.components.items i c.index.result.now c.loop-index.invariant.same c.index.ensures in
    let name = rw (← c.as_str.ensures.value) at here in
    let low = path_inside c.args.map.now c.spec.result.now.components.items i c.loop-index.invariant.same (omega (arith, c.loop-index-test.true)) in
    let one : IsLoaded files c.as_str.result.now c.loop-index.loaded c.load_file.new.loaded c.in-Ok.bytes.items =
    subst (λ (z : Option Files). IsLoaded z c.as_str.result.now c.loop-index.loaded c.load_file.new.loaded c.in-Ok.bytes.items) c.loop-index.invariant.files c.in-Ok.ensures.ok in
    let more = loaded_then files (take i names) c.as_str.result.now _ _ _ (contents c.loop-index.files.items) c.in-Ok.bytes.items c.loop-index.invariant.loaded one in
    let items : contents c.push.new.self.items ≡ contents c.loop-index.files.items ++ c.in-Ok.bytes.items ∷ [] =
    ap contents c.in-Ok-push.ensures.items ∙ map-append (λ v. v.items) c.loop-index.files.items (c.in-Ok.bytes ∷ []) in
    record {
      inside = omega (arith, c.loop-index-test.true);
      same = c.loop-index.invariant.same;
      loaded = rw (take_here names i c.as_str.result.now low name, items) more;
      limit = omega (arith, one.all);
      files = c.in-Ok.ensures.files ∙ c.loop-index.invariant.files;
      faults = omega (arith, c.loop-index.invariant.faults, c.in-Ok.ensures.cause);
    }
