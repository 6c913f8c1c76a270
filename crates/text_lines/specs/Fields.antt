-- A line cut into its fields at single spaces, and the first fault that is met.
use Rattle.std.specs.Prelude.{◌≡◌, ℕ, List, [], ◌∷◌, Option, Some, None, Result, Ok, Err, ◌==◌, if◌then◌else◌}
use Rattle.text_lines.specs.declared.kinds.PlanKind.{PlanKind}
use Rattle.text_lines.specs.declared.kinds.PlanKind.TheVariants as kinds
use Rattle.text_lines.specs.declared.kinds.LineFault.{LineFault}
use Rattle.text_lines.specs.declared.kinds.LineFault.TheVariants as faults

infixl 10 ◌>>=◌
abbrev pub ◌>>=◌ : {A B : Type 0} → Result A PlanKind → (A → Result B PlanKind) → Result B PlanKind
(Ok x) >>= f = f x
(Err e) >>= f = Err e

-- What a function returned, seen by view, is what reading gives, unless memory ran out.
abbrev pub Fails : {Y : Type 0} → LineFault → Result Y PlanKind → Type 0
Fails (faults.Kind k) read = read ≡ Err k
Fails faults.Memory read = Unit {0}

-- it is the kind of a line: memory didn't run out
abbrev pub IsKind : LineFault → Type 0
IsKind (faults.Kind k) = Unit {0}
IsKind faults.Memory = ⊥

abbrev pub Gives : {X Y : Type 0} → (X → Y) → Result X LineFault → Result Y PlanKind → Type 0
Gives view (Ok x) read = read ≡ Ok (view x)
Gives view (Err e) read = Fails e read

-- before the first `at`, and behind it
abbrev pub with_first : ℕ → Option (List ℕ × List ℕ) → Option (List ℕ × List ℕ)
with_first b None = None
with_first b (Some p) = Some (b ∷ p.0, p.1)

abbrev pub cut : ℕ → List ℕ → Option (List ℕ × List ℕ)
cut at [] = None
cut at (b ∷ bs) = if b == at then Some ([], bs) else with_first b (cut at bs)

abbrev pub space : ℕ
space = 32

abbrev pub first_or : List ℕ → Option (List ℕ × List ℕ) → List ℕ
first_or line None = line
first_or line (Some p) = p.0

unfoldable pub first_field : List ℕ → List ℕ
first_field line = first_or line (cut space line)

abbrev pub field_from : Option (List ℕ × List ℕ) → Result (List ℕ × List ℕ) PlanKind
field_from None = Err kinds.Fields
field_from (Some p) = Ok p

unfoldable pub field : List ℕ → Result (List ℕ × List ℕ) PlanKind
field rest = field_from (cut space rest)

abbrev pub last_from : List ℕ → Option (List ℕ × List ℕ) → Result (List ℕ) PlanKind
last_from rest None = Ok rest
last_from rest (Some p) = Err kinds.Fields

unfoldable pub last_field : List ℕ → Result (List ℕ) PlanKind
last_field rest = last_from rest (cut space rest)

unfoldable pub two_fields : List ℕ → Result (List ℕ × List ℕ) PlanKind
two_fields line = do
  word ← field line
  first ← last_field word.1
  Ok (word.0, first)

unfoldable pub three_fields : List ℕ → Result (List ℕ × List ℕ × List ℕ) PlanKind
three_fields line = do
  word ← field line
  rest ← two_fields word.1
  Ok (word.0, rest.0, rest.1)

unfoldable pub four_fields : List ℕ → Result (List ℕ × List ℕ × List ℕ × List ℕ) PlanKind
four_fields line = do
  word ← field line
  rest ← three_fields word.1
  Ok (word.0, rest.0, rest.1, rest.2)

unfoldable pub five_fields : List ℕ → Result (List ℕ × List ℕ × List ℕ × List ℕ × List ℕ) PlanKind
five_fields line = do
  word ← field line
  rest ← four_fields word.1
  Ok (word.0, rest.0, rest.1, rest.2, rest.3)
