-- A component read from the program's list, and from what the description says.
use Rattle.std.proofs.Common.{◌≡◌, ◌<◌, ℕ, List, [], length, map, get_or, sym, ap, ◌∙◌, arith}
use Rattle.std.proofs.lemmas.List.{get_or-map, length-map}
use Rattle.composite_spec.specs.declared.kinds.Component.{Component}
use Rattle.std.specs.Global.{Vec}
use Rattle.composite_spec.specs.Said.{Placed, placed}
use Rattle.block_map.specs.Disk.{contents}

pub at_placed : {Y : Type 0} (f : Placed → Y) (cs : List Component) (i : ℕ) (c : Component) (e : Y) → i < length cs → c ≡ get_or cs i c → get_or (map f (map placed cs)) i e ≡ f (placed c)
at_placed f cs i c e lt is =
    get_or-map f (map placed cs) i (placed c) e (omega (arith, length-map cs placed))
    ∙ ap f (get_or-map placed cs i c (placed c) lt ∙ ap placed (sym is))

pub same_count : (cs : List Component) → length (map placed cs) ≡ length cs
same_count cs = length-map cs placed

pub files_count : (files : List (Vec ℕ)) → length (contents files) ≡ length files
files_count files = length-map files (λ (v : Vec ℕ). v.items)

pub file_at : (files : List (Vec ℕ)) (i : ℕ) (v : Vec ℕ) → i < length files → v ≡ get_or files i v → get_or (contents files) i [] ≡ v.items
file_at files i v lt is = get_or-map (λ (x : Vec ℕ). x.items) files i v [] lt ∙ ap (λ (x : Vec ℕ). x.items) (sym is)
