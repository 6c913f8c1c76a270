use Rattle.std.proofs.Common.{◌≡◌, [], ◌∷◌, ◌++◌, List, length, drop, arith}
use Rattle.std.proofs.lemmas.Grind.{common_steps}
use Rattle.host_traits.specs.declared.calls.TapeItem.{TapeItem}
use Rattle.host_tape.specs.Reading.{items_in}
use Rattle.host_tape.specs.Played.{Played, Refuses}
use Rattle.host_tape.proofs.PlayedLemmas.{counted-refusal, refusing, played-refusal, played-late, failures-most}
use Rattle.host_tape.proofs.Steps.{next_ahead}
use Rattle.host_tape.proofs.tape.Tape.fail.Goals as goal

pub overflow_add-self : goal.overflow_add-self
overflow_add-self c =
    let most = failures-most c.self.inside.calls.items (items_in c.self.inside.count (drop 13 c.self.inside.text.items)) in
    omega (arith, c.self.invariant.played.refusals, most)

pub invariant_of-self : goal.invariant_of-self
invariant_of-self c =
    let records : List TapeItem = items_in c.self.inside.count (drop 13 c.self.inside.text.items) in
    let pushed : c.push.new.self.items ≡ c.self.inside.calls.items ++ c.args.call ∷ [] = grind (arith, common_steps) in
    let refuses : Refuses records (length c.self.inside.calls.items) c.args.call = rw (← c.self.view_is) at c.requires in
    let p : Played = record { records = records; calls = c.self.inside.calls.items; late = c.self.inside.late; last_late = c.self.inside.last_late } in
    let r = refusing p c.args.call (omega (arith, c.self.invariant.counted)) refuses in
    let counted = counted-refusal records c.self.inside.calls.items _ _ _ _ c.args.call r.0 c.self.invariant.played r.1 r.2 in
    let ahead = next_ahead c.self.inside.text.items c.self.inside.at records c.self.inside.calls.items c.args.call r.0 c.self.invariant.ahead r.1 in
    rw (pushed, c.behind-self-inside.ensures.place, c.deref.ensures.value) (record {
      played = record { fits = counted.fits; spare = omega (arith, c.push.ensures.capacity, counted.spare); refusals = counted.refusals; early = counted.early; sizes = counted.sizes };
      counted = c.self.invariant.counted;
      within = rw (c.behind-self-inside.ensures.place, c.deref.ensures.value) at c.behind-self-inside.ensures.within;
      ahead = ahead;
    })

pub returns-then-len-self : goal.returns-then-len-self
returns-then-len-self c =
    let records : List TapeItem = items_in c.self.inside.count (drop 13 c.self.inside.text.items) in
    let pushed : c.push.new.self.items ≡ c.self.inside.calls.items ++ c.args.call ∷ [] = grind (arith, common_steps) in
    let refuses : Refuses records (length c.self.inside.calls.items) c.args.call = rw (← c.self.view_is) at c.requires in
    let p : Played = record { records = records; calls = c.self.inside.calls.items; late = c.self.inside.late; last_late = c.self.inside.last_late } in
    let r = refusing p c.args.call (omega (arith, c.self.invariant.counted)) refuses in
    rw (← c.self.view_is, pushed) (λ given. played-refusal p c.args.call given r.0 (c.self.invariant.played.early (omega (arith, c.self.invariant.counted))) r.1 r.2)

pub returns-else-len-self : goal.returns-else-len-self
returns-else-len-self c =
    let records : List TapeItem = items_in c.self.inside.count (drop 13 c.self.inside.text.items) in
    let p : Played = record { records = records; calls = c.self.inside.calls.items; late = c.self.inside.late; last_late = c.self.inside.last_late } in
    rw (← c.self.view_is, c.saturating_add-self-inside.ensures) (λ given. played-late p c.args.call given (omega (arith, c.self.invariant.counted)))
