use Rattle.std.proofs.Common.{◌≡◌, ◌+◌, ◌++◌, ◌∷◌, [], List, ℕ, map, drop, get_or, None, ap, sym, subst, ◌∙◌, arith, length-drop, Some}
use Rattle.std.proofs.lemmas.List.{map-append, length-map}
use Rattle.composite_spec.specs.declared.stated.Stated.{Stated}
use Rattle.composite_spec.specs.Said.{Placed, placed}
use Rattle.composite_spec.specs.Reading.{Part, part_by, all_placed}
use Rattle.composite_spec.proofs.Rules.{joined, front_more, front_stops, front_ends, split_at}
use Rattle.composite_spec.proofs.reading.all_placed.Goals as goal

abbrev none : Stated
none = record { path = record { ref_ptr = (0, 0); now = [] }; offset = 0; capability = 0 }

pub returns-in-Err : goal.returns-in-Err
returns-in-Err c =
    let parts : List Part = map part_by c.args.parts.now in
    let i : ℕ = c.loop-index.index in
    let front : List Placed = map placed c.loop-index.components.items in
    let p : Part = part_by (get_or c.args.parts.now i none) in
    let here = split_at c.args.parts.now i none c.loop-index-test.true in
    front_stops front i c.loop-index.before p (drop (i + 1) parts) c.in-Err.fault (all_placed 0 None parts) c.in-Err.ensures
    (ap (λ (x : List Part). joined front (all_placed i c.loop-index.before x)) (sym here) ∙ c.loop-index.invariant.same)

pub loop-index-preserved : goal.loop-index-preserved
loop-index-preserved c =
    let parts : List Part = map part_by c.args.parts.now in
    let i : ℕ = c.loop-index.index in
    let front : List Placed = map placed c.loop-index.components.items in
    let p : Part = part_by (get_or c.args.parts.now i none) in
    let here = split_at c.args.parts.now i none c.loop-index-test.true in
    let more = front_more front i c.loop-index.before p (drop (i + 1) parts) (placed c.in-Ok.component) (all_placed 0 None parts) c.in-Ok.ensures
    (ap (λ (x : List Part). joined front (all_placed i c.loop-index.before x)) (sym here) ∙ c.loop-index.invariant.same) in
    let items : map placed c.push.new.self.items ≡ front ++ placed c.in-Ok.component ∷ [] = ap (map placed) c.in_ok-push-in-Ok.ensures.items ∙ map-append placed c.loop-index.components.items (c.in-Ok.component ∷ []) in
    record {
      inside = omega arith;
      same = subst (λ (x : List Placed). joined x (all_placed (i + 1) (Some p.offset) (drop (i + 1) parts)) ≡ all_placed 0 None parts) (sym items) more;
    }

pub returns : goal.returns
returns c =
    let parts : List Part = map part_by c.args.parts.now in
    front_ends (map placed c.loop-index.components.items) c.loop-index.index c.loop-index.before (drop c.loop-index.index parts) (all_placed 0 None parts) (omega (arith, length-drop c.loop-index.index parts, length-map c.args.parts.now part_by)) c.loop-index.invariant.same
