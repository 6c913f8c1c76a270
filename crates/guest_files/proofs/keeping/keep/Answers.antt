use Rattle.std.proofs.Common.{◌≡◌, ◌+◌, ◌++◌, ◌∷◌, [], ℕ, List, suc, take, drop, sym, subst, ap, ◌∙◌, arith, append-nil}
use Rattle.host_mem.specs.Mem.{mem_held}
use Rattle.guest_plan.specs.declared.store.StoreLine.{StoreLine}
use Rattle.guest_files.specs.Keeping.{Parcel, AreStored, StoringStops, kept_by, kept_of}
use Rattle.guest_files.proofs.Cuts.{cut_here, take_here}
use Rattle.guest_files.proofs.Stores.{stored_both, stops_within, kept_both}
use Rattle.guest_files.proofs.keeping.keep.Goals as goal

pub returns-in-Err-clause-err : goal.returns-in-Err-clause-err
returns-in-Err-clause-err g c =
    let h = mem_held c.args.host.now in
    let i = c.loop-index.index in
    let line : StoreLine = c.index-lines-index.result in
    let lines : List StoreLine = c.args.lines.now in
    let cut : lines ≡ take i lines ++ line ∷ drop (suc i) lines = cut_here lines i line c.loop-index-test.true c.index-lines-index.is in
    let parcels : kept_of h lines ≡ kept_of h (take i lines) ++ (kept_by h line ++ kept_of h (drop (suc i) lines)) = ap (kept_of h) cut ∙ kept_both h (take i lines) (line ∷ drop (suc i) lines) in
    subst (λ (z : List Parcel). StoringStops (g.F.Folder.files c.args.folder.now) z (g.F.Folder.files c.keep_line.new.folder) c.in-Err.refusal) (sym parcels)
    (stops_within _ (g.F.Folder.files c.loop-index.folder) _ (kept_of h (take i lines)) (kept_by h line) (kept_of h (drop (suc i) lines)) c.in-Err.refusal c.loop-index.invariant.stored c.in-Err.ensures.err)

pub loop-index-preserved : goal.loop-index-preserved
loop-index-preserved g c =
    let h = mem_held c.args.host.now in
    let i = c.loop-index.index in
    let line : StoreLine = c.index-lines-index.result in
    let lines : List StoreLine = c.args.lines.now in
    let both = stored_both _ (g.F.Folder.files c.loop-index.folder) _ (kept_of h (take i lines)) (kept_by h line) c.loop-index.invariant.stored c.in-Ok.ensures.ok in
    let parcels : kept_of h (take (i + 1) lines) ≡ kept_of h (take i lines) ++ kept_by h line =
    ap (kept_of h) (take_here lines i line c.loop-index-test.true c.index-lines-index.is) ∙ kept_both h (take i lines) (line ∷ []) ∙ ap (λ (z : List Parcel). kept_of h (take i lines) ++ z) (append-nil (kept_by h line)) in
    record {
      inside = omega (arith, c.loop-index-test.true);
      stored = rw parcels both;
      faults = omega (arith, c.loop-index.invariant.faults, c.in-Ok.ensures.cause);
    }
