-- What the lines of a plan say together: what may stand once, and what a line needs.
use Rattle.std.specs.Prelude.{◌≡◌, ℕ, List, [], ◌∷◌, ◌++◌, Bool, true, false, not, ◌&&◌, ◌||◌, Option, Some, None, is_some, Result, Ok, Err, ◌==◌, if◌then◌else◌, codes}
use Rattle.std.specs.List.{list_any}
use Rattle.std.specs.Str.{bytes_eq}
use Rattle.text_lines.specs.declared.kinds.PlanKind.{PlanKind}
use Rattle.text_lines.specs.declared.kinds.PlanKind.TheVariants as kinds
use Rattle.text_lines.specs.declared.kinds.PlanFault.{PlanFault}
use Rattle.text_lines.specs.Lines.{adds, text_of, Refuses}
use Rattle.text_lines.specs.Lists.{completed}
use Rattle.guest_plan.specs.declared.plan.How.{How}
use Rattle.guest_plan.specs.declared.plan.How.TheVariants.{Fixed, First, Kept}
use Rattle.guest_plan.specs.declared.plan.PlanLine.{PlanLine}
use Rattle.guest_plan.specs.declared.plan.PlanLine.TheVariants as planned
use Rattle.guest_plan.specs.declared.plan.Item.{Item}
use Rattle.guest_plan.specs.declared.plan.Item.TheVariants.{Secret, InstanceSalt, Line}
use Rattle.guest_plan.specs.declared.plan.Plan.{Plan}
use Rattle.guest_plan.specs.Items.{item_of}

-- what a plan says, without where it lies in memory
pub record Known : Type 0 where
  pub secret : Option (List ℕ)
  pub salt : Option (List ℕ)
  pub lines : List PlanLine
  pub numbers : List ℕ

abbrev pub known : Plan → Known
known p = record { secret = p.secret; salt = p.salt; lines = p.lines.items; numbers = p.numbers.items }

abbrev pub nothing : Known
nothing = record { secret = None; salt = None; lines = []; numbers = [] }

-- ---- what may stand once

abbrev pub name_in : PlanLine → Option (List ℕ)
name_in (planned.File name file digest) = Some name
name_in (planned.Write name file) = Some name
name_in (planned.WriteDir name file) = Some name
name_in line = None

abbrev pub file_in : PlanLine → Option ℕ
file_in (planned.Blob file measure) = Some file
file_in (planned.File name file digest) = Some file
file_in (planned.Write name file) = Some file
file_in (planned.WriteDir name file) = Some file
file_in line = None

abbrev pub is_instance : PlanLine → Bool
is_instance (planned.Instance disk part) = true
is_instance line = false

abbrev pub same_name : Option (List ℕ) → Option (List ℕ) → Bool
same_name None other = false
same_name (Some a) None = false
same_name (Some a) (Some b) = bytes_eq a b

abbrev pub same_file : Option ℕ → Option ℕ → Bool
same_file None other = false
same_file (Some a) None = false
same_file (Some a) (Some b) = a == b

-- two lines that may not stand in one plan: they have one file's number or one name, or both are the instance's
abbrev pub clash : PlanLine → PlanLine → Bool
clash a b = same_file (file_in a) (file_in b) || same_name (name_in a) (name_in b) || (is_instance a && is_instance b)

-- one item more, from the line n
unfoldable pub add : Known → ℕ → Item → Result Known PlanKind
add k n (Secret bytes) = if is_some k.secret then Err kinds.Twice else Ok (record k { secret = Some bytes })
add k n (InstanceSalt bytes) = if is_some k.salt then Err kinds.Twice else Ok (record k { salt = Some bytes })
add k n (Line l) = if list_any (clash l) k.lines then Err kinds.Twice else Ok (record k { lines = k.lines ++ l ∷ []; numbers = k.numbers ++ n ∷ [] })

-- ---- what a line needs

abbrev pub is_kept : How → Bool
is_kept (Fixed m) = false
is_kept First = false
is_kept (Kept g) = true

-- an instance needs the secret and the salt, and a record the instance
abbrev pub lacks : Bool → Bool → PlanLine → Bool
lacks keyed there (planned.Instance disk part) = not keyed
lacks keyed there (planned.Apk disk apk idsig how) = is_kept how && not there
lacks keyed there line = false

abbrev pub has_keys : Known → Bool
has_keys k = is_some k.secret && is_some k.salt

abbrev pub has_instance : Known → Bool
has_instance k = list_any is_instance k.lines

-- the number of the first line that lacks something
abbrev pub first_lacking : Bool → Bool → List PlanLine → List ℕ → Option ℕ
first_lacking keyed there [] numbers = None
first_lacking keyed there (l ∷ lines) [] = None
first_lacking keyed there (l ∷ lines) (n ∷ numbers) = if lacks keyed there l then Some n else first_lacking keyed there lines numbers

abbrev pub missing : Known → Option ℕ
missing k = first_lacking (has_keys k) (has_instance k) k.lines k.numbers

-- ---- the whole text

abbrev pub plan_header : List ℕ
plan_header = codes "plan 1"

-- what a text says, or the first bad line with the first thing wrong with it
abbrev pub plan_of : List ℕ → Result Known (ℕ × PlanKind)
plan_of bytes = completed missing (text_of plan_header (adds item_of add) nothing bytes)

-- what `read_plan` returned, unless memory ran out
abbrev pub Tells : Result Plan PlanFault → Result Known (ℕ × PlanKind) → Type 0
Tells (Ok p) read = read ≡ Ok (known p)
Tells (Err fault) read = Refuses fault read
