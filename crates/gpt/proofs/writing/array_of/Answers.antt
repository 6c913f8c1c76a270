use Rattle.std.proofs.Common.{◌++◌, ap, ◌∙◌, List, ℕ}
use Rattle.gpt.specs.Entries.{array_text}
use Rattle.gpt.specs.Image.{placed}
use Rattle.gpt.proofs.ImageLaws.{array_done}
use Rattle.gpt.proofs.Written.{all_entries-fit}
use Rattle.gpt.proofs.writing.array_of.Goals as goal

pub returns-clause-text : goal.returns-clause-text
returns-clause-text c =
    let text = array_text (placed 40 c.args.parts.now) in
    array_done c.put_zeros.new.out.items c.put_parts.new.out.items c.args.parts.now
    (c.in_ok-put_parts.ensures.text ∙ ap (λ (o : List ℕ). o ++ text) c.new-out.ensures.items)
    c.in_ok-put_zeros.ensures

pub returns-clause-fit : goal.returns-clause-fit
returns-clause-fit c = all_entries-fit c.args.parts.now c.in_ok-put_parts.ensures.fit
