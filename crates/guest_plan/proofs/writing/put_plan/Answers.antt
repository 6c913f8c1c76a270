use Rattle.std.proofs.Common.{◌++◌, List, ℕ, ap, ◌∙◌}
use Rattle.std.specs.List.{flat_map}
use Rattle.text_lines.specs.Spelling.{ended}
use Rattle.guest_plan.specs.declared.plan.PlanLine.{PlanLine}
use Rattle.guest_plan.specs.Plans.{known}
use Rattle.guest_plan.specs.Spelling.{line_text, item_text, secret_items, salt_items}
use Rattle.guest_plan.proofs.Written.{whole_text}
use Rattle.guest_plan.proofs.writing.put_plan.Goals as goal

pub returns : goal.returns
returns c =
    let plan = c.args.plan.now in
    let head = c.in_ok-extend_from_slice.ensures.items in
    let one = c.in_ok-put_secret.ensures ∙ ap (λ (x : List ℕ). x ++ flat_map (λ i. ended (item_text i)) (secret_items plan.secret)) head in
    let two = c.in_ok-put_instance_salt.ensures ∙ ap (λ (x : List ℕ). x ++ flat_map (λ i. ended (item_text i)) (salt_items plan.salt)) one in
    c.in_ok-put_lines.ensures ∙ ap (λ (x : List PlanLine). c.put_instance_salt.new.out.items ++ flat_map (λ l. ended (line_text l)) x) c.deref.ensures.value
    ∙ ap (λ (x : List ℕ). x ++ flat_map (λ l. ended (line_text l)) plan.lines.items) two ∙ whole_text c.args.out.now.items (known plan)
