-- Reading a text line by line, as the loop does.
use Rattle.std.proofs.Common.{◌≡◌, ℕ, ◌+◌, List, true, false, Some, None, Result, Ok, Err, refl, sym, ap, ◌∙◌}
use Rattle.text_lines.specs.declared.kinds.PlanKind.{PlanKind}
use Rattle.text_lines.specs.declared.kinds.PlanKind.TheVariants as kinds
use Rattle.text_lines.specs.declared.kinds.LineFault.{LineFault}
use Rattle.text_lines.specs.declared.kinds.LineFault.TheVariants as line_faults
use Rattle.text_lines.specs.Fields.{Fails, cut}
use Rattle.text_lines.specs.Lines.{numbered, lines_of, located, walk, is_end, at_line, Refuses}
use Rattle.text_lines.proofs.Cuts.{line_is, rest_is}

abbrev pub Total : Type 0 → Type 0
Total K = Result K (ℕ × PlanKind)

abbrev pub Step : Type 0 → Type 0
Step K = K → ℕ → List ℕ → Result K PlanKind

abbrev pub from : {K : Type 0} → List ℕ → Step K → ℕ → K → List ℕ → Total K
from header step n k rest = walk header step n k (lines_of rest).0 (lines_of rest).1

one_line : {K : Type 0} (header : List ℕ) (step : Step K) (n : ℕ) (k : K) (rest line after : List ℕ) → cut 10 rest ≡ Some (line, after) →
    from header step n k rest ≡ located n (numbered header step k n line) (λ later. from header step (n + 1) later after)
unfolding walk
one_line header step n k rest line after e = ap (λ (x : List (List ℕ) × List ℕ). walk header step n k x.0 x.1) (line_is rest (line, after) e)

pub goes_on : {K : Type 0} (header : List ℕ) (step : Step K) (n : ℕ) (k later : K) (rest line after : List ℕ) (total : Total K) → cut 10 rest ≡ Some (line, after) → numbered header step k n line ≡ Ok later →
    from header step n k rest ≡ total → from header step (n + 1) later after ≡ total
goes_on {K} header step n k later rest line after total e s so_far =
    sym (one_line header step n k rest line after e ∙ ap (λ (r : Result K PlanKind). located n r (λ x. from header step (n + 1) x after)) s) ∙ so_far

pub fails_at : {K : Type 0} (header : List ℕ) (step : Step K) (n : ℕ) (k : K) (rest line after : List ℕ) (total : Total K) (f : LineFault) → cut 10 rest ≡ Some (line, after) → Fails f (numbered header step k n line) →
    from header step n k rest ≡ total → Refuses (at_line n f) total
fails_at {K} header step n k rest line after total (line_faults.Kind kind) e s so_far =
    sym so_far ∙ one_line header step n k rest line after e ∙ ap (λ (r : Result K PlanKind). located n r (λ x. from header step (n + 1) x after)) s
fails_at header step n k rest line after total line_faults.Memory e s so_far = tt

pub ends : {K : Type 0} (header : List ℕ) (step : Step K) (n : ℕ) (k : K) (rest : List ℕ) (total : Total K) → cut 10 rest ≡ None → is_end rest n ≡ true → from header step n k rest ≡ total → total ≡ Ok k
unfolding walk
ends header step n k rest total e test so_far =
    sym so_far ∙ ap (λ (x : List (List ℕ) × List ℕ). walk header step n k x.0 x.1) (rest_is rest e) ∙ rw test refl

pub ends_badly : {K : Type 0} (header : List ℕ) (step : Step K) (n : ℕ) (k : K) (rest : List ℕ) (total : Total K) → cut 10 rest ≡ None → is_end rest n ≡ false → from header step n k rest ≡ total → total ≡ Err (n, kinds.End)
unfolding walk
ends_badly header step n k rest total e test so_far =
    sym so_far ∙ ap (λ (x : List (List ℕ) × List ℕ). walk header step n k x.0 x.1) (rest_is rest e) ∙ rw test refl
