use Rattle.std.proofs.Common.{ap, sym, ◌∙◌, length, drop}
use Rattle.std.proofs.lemmas.List.{take_rest}
use Rattle.host_tape.specs.Reading.{items_in}
use Rattle.host_tape.proofs.Steps.{front_is, item_of}
use Rattle.host_tape.proofs.tape.Tape.next.Goals as goal

pub returns-in-Some : goal.returns-in-Some
returns-in-Some c =
    let records = items_in c.self.inside.count (drop 13 c.self.inside.text.items) in
    let found = rw (c.deref.ensures.value, take_rest) at c.in-Some.ensures.found in
    rw (← c.self.view_is) (sym (ap item_of found) ∙ front_is (drop c.self.inside.at c.self.inside.text.items) records (length c.self.inside.calls.items) c.self.invariant.ahead)

pub returns-in-None : goal.returns-in-None
returns-in-None c =
    let records = items_in c.self.inside.count (drop 13 c.self.inside.text.items) in
    let found = rw (c.deref.ensures.value, take_rest) at c.in-None.ensures.found in
    rw (← c.self.view_is) (sym (ap item_of found) ∙ front_is (drop c.self.inside.at c.self.inside.text.items) records (length c.self.inside.calls.items) c.self.invariant.ahead)
