use Rattle.std.proofs.Common.{◌≡◌, List, subst, rules}
use Rattle.guest_plan.specs.declared.plan.PlanLine.{PlanLine}
use Rattle.guest_names.specs.Standing.{files_in}
use Rattle.guest_names.specs.Planted.{ArePlantable}
use Rattle.guest_names.proofs.Apart.{plan_plantable}
use Rattle.guest_names.proofs.planting.plant_lines.Goals as goal

pub plant_all-requires-clause-plantable : goal.plant_all-requires-clause-plantable
plant_all-requires-clause-plantable c =
    let same : c.args.plan.now.lines.items ≡ c.deref.result.now = search rules in
    subst (λ (ls : List PlanLine). ArePlantable (files_in ls)) same (plan_plantable c.requires.plan.0 _ c.requires.plan.1)
