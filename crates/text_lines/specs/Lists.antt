-- Lists: texts in which each line is an item, and some items may not stand beside others.
use Rattle.std.specs.Prelude.{◌≡◌, ℕ, List, [], ◌∷◌, ◌++◌, Bool, Option, Some, None, Result, Ok, Err, if◌then◌else◌}
use Rattle.std.specs.List.{list_any}
use Rattle.std.specs.declared.vec.Vec.{Vec}
use Rattle.std.specs.declared.alloc.Global.{Global}
use Rattle.text_lines.specs.declared.kinds.PlanKind.{PlanKind}
use Rattle.text_lines.specs.declared.kinds.PlanKind.TheVariants as kinds
use Rattle.text_lines.specs.declared.kinds.PlanFault.{PlanFault}
use Rattle.text_lines.specs.Lines.{adds, text_of, Refuses}

-- one item more: it may not clash with an earlier one
unfoldable pub add_apart : {I : Type 0} → (I → I → Bool) → List I → ℕ → I → Result (List I) PlanKind
add_apart clash items n item = if list_any (clash item) items then Err kinds.Twice else Ok (items ++ item ∷ [])

-- what a text says, or the first bad line with the first thing wrong with it
abbrev pub list_of : {I : Type 0} → List ℕ → (List ℕ → Result I PlanKind) → (I → I → Bool) → List ℕ → Result (List I) (ℕ × PlanKind)
list_of header item_of clash bytes = text_of header (adds item_of (add_apart clash)) [] bytes

-- what reading a list returned, unless memory ran out
abbrev pub TellsList : {I : Type 0} → Result (Vec I Global) PlanFault → Result (List I) (ℕ × PlanKind) → Type 0
TellsList (Ok items) read = read ≡ Ok items.items
TellsList (Err fault) read = Refuses fault read

-- ---- texts of which a line may lack what no line says

abbrev pub complete_by : {K : Type 0} → K → Option ℕ → Result K (ℕ × PlanKind)
complete_by k None = Ok k
complete_by k (Some n) = Err (n, kinds.Missing)

-- what a text says, or the first line of it that lacks something
abbrev pub completed : {K : Type 0} → (K → Option ℕ) → Result K (ℕ × PlanKind) → Result K (ℕ × PlanKind)
completed missing (Ok k) = complete_by k (missing k)
completed missing (Err fault) = Err fault
