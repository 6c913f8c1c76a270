-- The first line of a plan that asks for what isn't served yet.
use Rattle.std.specs.Prelude.{ℕ, List, [], ◌∷◌, Bool, true, false, Option, Some, None, if◌then◌else◌}
use Rattle.guest_plan.specs.declared.plan.PlanLine.{PlanLine}
use Rattle.guest_plan.specs.declared.plan.PlanLine.TheVariants as line
use Rattle.guest_plan.specs.Plans.{Known}

-- any but a directory that is written
abbrev pub is_built : PlanLine → Bool
is_built (line.Instance disk part) = true
is_built (line.Blob file m) = true
is_built (line.Apk disk apk idsig how) = true
is_built (line.File name file digest) = true
is_built (line.Write name file) = true
is_built (line.WriteDir name file) = false

-- the number of the first of these lines that isn't
abbrev pub unbuilt_in : List PlanLine → List ℕ → Option ℕ
unbuilt_in [] numbers = None
unbuilt_in (l ∷ lines) [] = None
unbuilt_in (l ∷ lines) (n ∷ numbers) = if is_built l then unbuilt_in lines numbers else Some n

abbrev pub first_unbuilt : Known → Option ℕ
first_unbuilt k = unbuilt_in k.lines k.numbers
