-- Cutting at a byte, one byte at a time, and lines by cuts.
use Rattle.std.proofs.Common.{◌≡◌, ℕ, List, [], ◌∷◌, ◌++◌, Bool, true, false, cond, eqb, Option, Some, None, refl, ap, ◌∙◌}
use Rattle.text_lines.specs.Fields.{cut, with_first}
use Rattle.text_lines.specs.Lines.{lines_of, on_front}

-- what a cut of the rest gives, with bytes in front of it
abbrev pub behind : List ℕ → Option (List ℕ × List ℕ) → Option (List ℕ × List ℕ)
behind front None = None
behind front (Some p) = Some (front ++ p.0, p.1)

abbrev some : List ℕ × List ℕ → Option (List ℕ × List ℕ)
some p = Some p

some_is : (p q : List ℕ × List ℕ) → some p ≡ some q → p ≡ q
some_is p q e = cc

abbrev Lines : Type 0
Lines = List (List ℕ) × List ℕ

abbrev HasLine : List ℕ → List ℕ × List ℕ → Type 0
HasLine bs p = let made : Lines = (p.0 ∷ (lines_of p.1).0, (lines_of p.1).1) in lines_of bs ≡ made

-- the next byte b of a line, where the rest is cut so
next_cut : (b : ℕ) (bs : List ℕ) (o : Option (List ℕ × List ℕ)) (p : List ℕ × List ℕ) → ((q : List ℕ × List ℕ) → o ≡ some q → HasLine bs q) → with_first b o ≡ some p
    → let made : Lines = (p.0 ∷ (lines_of p.1).0, (lines_of p.1).1) in on_front b (lines_of bs).0 (lines_of bs).1 ≡ made
next_cut b bs None p known e = absurd cc
next_cut b bs (Some q) p known e =
    let is : (b ∷ q.0, q.1) ≡ p = some_is (b ∷ q.0, q.1) p e in
    let made : List ℕ × List ℕ → Lines = λ x. (x.0 ∷ (lines_of x.1).0, (lines_of x.1).1) in
    ap (λ (x : Lines). on_front b x.0 x.1) (known q refl) ∙ ap made is

first_cut : (t : Bool) (b : ℕ) (bs : List ℕ) (p : List ℕ × List ℕ) → ((q : List ℕ × List ℕ) → cut 10 bs ≡ some q → HasLine bs q) → cond t (some ([], bs)) (with_first b (cut 10 bs)) ≡ some p
    → let made : Lines = (p.0 ∷ (lines_of p.1).0, (lines_of p.1).1) in let ended : Lines = ([] ∷ (lines_of bs).0, (lines_of bs).1) in cond t ended (on_front b (lines_of bs).0 (lines_of bs).1) ≡ made
first_cut true b bs p known e =
    let made : List ℕ × List ℕ → Lines = λ x. (x.0 ∷ (lines_of x.1).0, (lines_of x.1).1) in
    ap made (some_is ([], bs) p e)
first_cut false b bs p known e = next_cut b bs (cut 10 bs) p known e

pub line_is : (bs : List ℕ) (p : List ℕ × List ℕ) → cut 10 bs ≡ some p → HasLine bs p
line_is [] p e = absurd cc
line_is (b ∷ bs) p e = first_cut (eqb b 10) b bs p (λ q h. line_is bs q h) e

-- and where there is no line feed

abbrev IsRest : List ℕ → Type 0
IsRest bs = let made : Lines = ([], bs) in lines_of bs ≡ made

with_first_none : (b : ℕ) (o : Option (List ℕ × List ℕ)) → with_first b o ≡ None → o ≡ None
with_first_none b None e = refl
with_first_none b (Some q) e = absurd cc

first_uncut : (t : Bool) (b : ℕ) (bs : List ℕ) → (cut 10 bs ≡ None → IsRest bs) → cond t (some ([], bs)) (with_first b (cut 10 bs)) ≡ None
    → let made : Lines = ([], b ∷ bs) in let ended : Lines = ([] ∷ (lines_of bs).0, (lines_of bs).1) in cond t ended (on_front b (lines_of bs).0 (lines_of bs).1) ≡ made
first_uncut true b bs known e = absurd cc
first_uncut false b bs known e = ap (λ (x : Lines). on_front b x.0 x.1) (known (with_first_none b (cut 10 bs) e))

pub rest_is : (bs : List ℕ) → cut 10 bs ≡ None → IsRest bs
rest_is [] e = refl
rest_is (b ∷ bs) e = first_uncut (eqb b 10) b bs (λ h. rest_is bs h) e
