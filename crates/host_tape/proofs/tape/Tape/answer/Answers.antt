use Rattle.host_tape.specs.Reading.{items_in}
use Rattle.std.proofs.Common.{◌≡◌, [], ◌∷◌, ◌++◌, List, length, drop, arith, refl, Some}
use Rattle.std.specs.Prelude.{slice_get}
use Rattle.std.proofs.lemmas.Grind.{common_steps}
use Rattle.std.proofs.lemmas.Option.{slice_get_within}
use Rattle.host_traits.specs.declared.calls.TapeItem.{TapeItem}
use Rattle.host_tape.proofs.PlayedLemmas.{counted-answer}
use Rattle.host_tape.proofs.Steps.{next_ahead}
use Rattle.host_tape.proofs.tape.Tape.answer.Goals as goal

pub invariant_of-self : goal.invariant_of-self
invariant_of-self c =
    let records : List TapeItem = items_in c.self.inside.count (drop 13 c.self.inside.text.items) in
    let at : slice_get records (length c.self.inside.calls.items) ≡ Some c.requires.answer = rw (← c.self.view_is) at c.requires.at in
    let lt = slice_get_within records (length c.self.inside.calls.items) c.requires.answer at in
    let pushed : c.push.new.self.items ≡ c.self.inside.calls.items ++ c.args.call ∷ [] = grind (arith, common_steps) in
    let counted = counted-answer records c.self.inside.calls.items _ _ _ c.args.size _ c.args.call c.requires.answer c.requires.said c.self.invariant.played at c.requires.answers c.requires.size_is in
    let ahead = next_ahead c.self.inside.text.items c.self.inside.at records c.self.inside.calls.items c.args.call c.requires.answer c.self.invariant.ahead at in
    rw (pushed, c.saturating_add-self-inside.ensures, c.behind-self-inside.ensures.place, c.deref.ensures.value) (record {
      played = record { fits = counted.fits; spare = omega (arith, c.push.ensures.capacity, counted.spare); refusals = counted.refusals; early = counted.early; sizes = counted.sizes };
      counted = c.self.invariant.counted;
      within = rw (c.behind-self-inside.ensures.place, c.deref.ensures.value) at c.behind-self-inside.ensures.within;
      ahead = ahead;
    })

pub returns : goal.returns
returns c =
    let records : List TapeItem = items_in c.self.inside.count (drop 13 c.self.inside.text.items) in
    let at : slice_get records (length c.self.inside.calls.items) ≡ Some c.requires.answer = rw (← c.self.view_is) at c.requires.at in
    let lt = slice_get_within records (length c.self.inside.calls.items) c.requires.answer at in
    let pushed : c.push.new.self.items ≡ c.self.inside.calls.items ++ c.args.call ∷ [] = grind (arith, common_steps) in
    rw (← c.self.view_is, pushed) refl
