-- A text cut into its lines, and read line by line: the first line that breaks a rule.
use Rattle.std.specs.Prelude.{◌≡◌, ℕ, ◌+◌, List, [], ◌∷◌, length, Bool, ◌&&◌, Result, Ok, Err, ◌==◌, nat_lt, if◌then◌else◌}
use Rattle.std.specs.Str.{bytes_eq}
use Rattle.text_lines.specs.declared.kinds.PlanKind.{PlanKind}
use Rattle.text_lines.specs.declared.kinds.PlanKind.TheVariants as kinds
use Rattle.text_lines.specs.declared.kinds.PlanFault.{PlanFault}
use Rattle.text_lines.specs.declared.kinds.PlanFault.TheVariants as faults
use Rattle.text_lines.specs.declared.kinds.LineFault.{LineFault}
use Rattle.text_lines.specs.declared.kinds.LineFault.TheVariants as line_faults
use Rattle.text_lines.specs.Fields.{◌>>=◌}
use Rattle.text_lines.specs.Values.{check}

-- the lines that end in a line feed, and what stands behind the last one

abbrev pub on_front : ℕ → List (List ℕ) → List ℕ → List (List ℕ) × List ℕ
on_front b [] rest = ([], b ∷ rest)
on_front b (line ∷ lines) rest = ((b ∷ line) ∷ lines, rest)

abbrev pub line_feed : ℕ
line_feed = 10

abbrev pub lines_of : List ℕ → List (List ℕ) × List ℕ
lines_of [] = ([], [])
lines_of (b ∷ bs) = if b == line_feed then ([] ∷ (lines_of bs).0, (lines_of bs).1) else on_front b (lines_of bs).0 (lines_of bs).1

-- a text may end where nothing is left, and not before its first line
abbrev pub is_end : List ℕ → ℕ → Bool
is_end rest n = (length rest == 0) && nat_lt 1 n

-- what the later lines make, or the fault of the line n
abbrev pub located : {K V : Type 0} → ℕ → Result K PlanKind → (K → Result V (ℕ × PlanKind)) → Result V (ℕ × PlanKind)
located n (Ok k) later = later k
located n (Err kind) later = Err (n, kind)

-- The line n, which ends in a line feed: at most 4,096 of them, the first one the header, and each
-- other one as `step` reads it.
unfoldable pub numbered : {K : Type 0} → List ℕ → (K → ℕ → List ℕ → Result K PlanKind) → K → ℕ → List ℕ → Result K PlanKind
numbered header step k n line =
    if nat_lt 4096 n then Err kinds.Lines
    else if n == 1 then check (bytes_eq line header) kinds.Header k
    else step k n line

-- the lines from the line n on
unfoldable pub walk : {K : Type 0} → List ℕ → (K → ℕ → List ℕ → Result K PlanKind) → ℕ → K → List (List ℕ) → List ℕ → Result K (ℕ × PlanKind)
walk header step n k [] rest = if is_end rest n then Ok k else Err (n, kinds.End)
walk header step n k (line ∷ lines) rest = located n (numbered header step k n line) (λ later. walk header step (n + 1) later lines rest)

-- what a whole text says, or the first bad line with the first thing wrong with it
abbrev pub text_of : {K : Type 0} → List ℕ → (K → ℕ → List ℕ → Result K PlanKind) → K → List ℕ → Result K (ℕ × PlanKind)
text_of header step k bytes = walk header step 1 k (lines_of bytes).0 (lines_of bytes).1

-- a line that says an item, which is added to what was said so far
abbrev pub adds : {I K : Type 0} → (List ℕ → Result I PlanKind) → (K → ℕ → I → Result K PlanKind) → K → ℕ → List ℕ → Result K PlanKind
adds item_of add k n line = item_of line >>= λ item. add k n item

-- the fault of a call is the one that reading gives, unless memory ran out
abbrev pub Refuses : {K : Type 0} → PlanFault → Result K (ℕ × PlanKind) → Type 0
Refuses (faults.At line kind) read = read ≡ Err (line, kind)
Refuses faults.Memory read = Unit {0}

abbrev pub at_line : ℕ → LineFault → PlanFault
at_line line (line_faults.Kind kind) = faults.At line kind
at_line line line_faults.Memory = faults.Memory
