use Rattle.std.proofs.Common.{List, suc, length, take, drop, ap, refl, sym, subst, ◌∙◌}
use Rattle.guest_boot.proofs.Runs.{split_at, take_next}
use Rattle.guest_plan.specs.declared.plan.PlanLine.{PlanLine}
use Rattle.guest_names.specs.Standing.{file_in, files_in, read_only}
use Rattle.guest_names.specs.Planted.{Planted, planted_of, stood_after, ArePlantable}
use Rattle.guest_names.proofs.Stepping.{may_next, short_next, within_next, stepped}
use Rattle.guest_names.proofs.planting.plant_all.Goals as goal

pub plant_line-requires-clause-may : goal.plant_line-requires-clause-may
plant_line-requires-clause-may c =
    let i = c.loop-index.index in
    let l = c.index-lines-index.result in
    let cut = split_at c.args.lines.now i l c.loop-index-test.true c.index-lines-index.is in
    may_next (take i c.args.lines.now) (drop (suc i) c.args.lines.now) l (subst (λ (ls : List PlanLine). ArePlantable (files_in ls)) cut c.requires.plantable)
    (file_in l) refl c.loop-index.to.dirs (ap (λ (p : Planted). p.names) c.loop-index.invariant)

pub plant_line-requires-clause-short : goal.plant_line-requires-clause-short
plant_line-requires-clause-short c =
    let i = c.loop-index.index in
    let l = c.index-lines-index.result in
    let cut = split_at c.args.lines.now i l c.loop-index-test.true c.index-lines-index.is in
    short_next (take i c.args.lines.now) (drop (suc i) c.args.lines.now) l (subst (λ (ls : List PlanLine). ArePlantable (files_in ls)) cut c.requires.plantable) (file_in l) refl

pub plant_line-requires-clause-within : goal.plant_line-requires-clause-within
plant_line-requires-clause-within c =
    let i = c.loop-index.index in
    let l = c.index-lines-index.result in
    let cut = split_at c.args.lines.now i l c.loop-index-test.true c.index-lines-index.is in
    within_next (take i c.args.lines.now) (drop (suc i) c.args.lines.now) l (subst (λ (ls : List PlanLine). ArePlantable (files_in ls)) cut c.requires.plantable) (file_in l) refl
    c.loop-index.to.stood (length c.args.opened.now) (ap (λ (p : Planted). p.stood) c.loop-index.invariant) (c.requires.opened ∙ ap (λ (ls : List PlanLine). length (read_only (files_in ls))) cut)

pub loop-index-preserved : goal.loop-index-preserved
loop-index-preserved c =
    let i = c.loop-index.index in
    let l = c.index-lines-index.result in
    let next = take_next c.args.lines.now i l c.loop-index-test.true c.index-lines-index.is in
    stepped c.args.opened.now (take i c.args.lines.now) l (planted_of c.loop-index.to) _ c.loop-index.invariant c.in_ok-plant_line.ensures
    ∙ ap (λ (ls : List PlanLine). stood_after c.args.opened.now (files_in ls)) (sym next)
