use Rattle.std.proofs.Common.{◌≡◌, ◌∙◌, ◌+◌, ◌∷◌, ℕ, List, Some, drop, refl, sym, ap}
use Rattle.std.proofs.lemmas.Bool.{eq-eqb}
use Rattle.std.proofs.lemmas.List.{drop_more}
use Rattle.host_bent.specs.declared.bends.Bend.{Bend}
use Rattle.host_bent.specs.Bent.{bend_at}
use Rattle.host_bent.proofs.bends.find.Goals as goal

-- the first of these bends is that of the number
first_is : (e : ℕ × Bend) (bends : List (ℕ × Bend)) (number : ℕ) → e.0 ≡ number → Some e.1 ≡ bend_at (e ∷ bends) number
first_is e bends number is = rw (eq-eqb e.0 number is) refl

pub returns-then-entry-number : goal.returns-then-entry-number
returns-then-entry-number c =
    let bends = c.args.bends.now in
    let e = c.index-bends-at.result in
    let rest = drop (c.loop-at.at + 1) bends in
    let front : drop c.loop-at.at bends ≡ e ∷ rest = drop_more bends c.loop-at.at e c.loop-at-test.true ∙ ap (λ (x : ℕ × Bend). x ∷ rest) (sym c.index-bends-at.is) in
    first_is e rest c.args.number c.if-entry-number.true ∙ ap (λ z. bend_at z c.args.number) (sym front) ∙ c.loop-at.invariant
