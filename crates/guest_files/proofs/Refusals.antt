-- Why a line of a store list was not carried out.
use Rattle.std.proofs.Common.{◌≡◌, ℕ, ◌+◌, ◌<◌, List, [], ◌∷◌, ◌++◌, length, map, take, drop, zero, suc, get_or, refl, ap, sym, subst, ◌∙◌, arith, inl, inr, Option, Result, Ok, Err}
use Rattle.std.specs.Prelude.{IfErr, string_bytes}
use Rattle.std.proofs.lemmas.List.{length-map}
use Rattle.host_traits.specs.Folders.{Files}
use Rattle.composite_spec.specs.declared.kinds.Component.{Component}
use Rattle.composite_spec.specs.Said.{Placed, Composite, placed}
use Rattle.block_map.specs.Disk.{path_of}
use Rattle.text_lines.specs.declared.kinds.PlanKind.TheVariants as kinds
use Rattle.guest_plan.specs.declared.store.StoreLine.{StoreLine}
use Rattle.guest_plan.specs.declared.store.StoreLine.TheVariants as stored
use Rattle.guest_files.specs.declared.load.Refusal.{Refusal}
use Rattle.guest_files.specs.declared.load.Refusal.TheVariants.{File, Line, TooMuch, Memory}
use Rattle.guest_files.specs.Files.{AreLoaded, LoadFails}
use Rattle.guest_files.specs.Stocking.{Stock, LineStops, DiskStops, CompositeStops, PathsFail, StockFails, Stocked, paths_of}
use Rattle.guest_files.proofs.Cuts.{cut_here}

-- ---- lines by their word

disk_stops_by : (files : Option Files) (n : ℕ) (file : List ℕ) (before number : ℕ) (r : Refusal) → DiskStops files file before number r → LineStops files (stored.Disk n file) before number r
disk_stops_by files n file before number (File name) s = (before, (s, refl))
disk_stops_by files n file before number (Line at kinds.Length) s = s
disk_stops_by files n file before number (Line at kind) s = absurd s
disk_stops_by files n file before number TooMuch s = (file, before, (refl, refl), s)
disk_stops_by files n file before number Memory s = tt

pub disk_stops : (files : Option Files) (n : ℕ) (file : List ℕ) (before number : ℕ) (r : Result (Unit {0}) Refusal) → IfErr r (DiskStops files file before number) → IfErr r (LineStops files (stored.Disk n file) before number)
disk_stops files n file before number (Ok u) s = s
disk_stops files n file before number (Err r) s = disk_stops_by files n file before number r s

composite_stops_by : (files : Option Files) (n : ℕ) (file : List ℕ) (before number : ℕ) (r : Refusal) → CompositeStops files file before number r → LineStops files (stored.Composite n file) before number r
composite_stops_by files n file before number (File name) (inl e) = (before, inl (e, refl))
composite_stops_by files n file before number (File name) (inr d) = (d.0, inr d.1)
composite_stops_by files n file before number (Line at kinds.Length) s = s
composite_stops_by files n file before number (Line at kinds.Spec) s = s
composite_stops_by files n file before number (Line at kind) s = absurd s
composite_stops_by files n file before number TooMuch (inl p) = (file, before, inl (refl, refl), p)
composite_stops_by files n file before number TooMuch (inr d) = (d.0, d.1, inr d.2, d.3)
composite_stops_by files n file before number Memory s = tt

pub composite_stops : (files : Option Files) (n : ℕ) (file : List ℕ) (before number : ℕ) (r : Result (Unit {0}) Refusal) → IfErr r (CompositeStops files file before number) → IfErr r (LineStops files (stored.Composite n file) before number)
composite_stops files n file before number (Ok u) s = s
composite_stops files n file before number (Err r) s = composite_stops_by files n file before number r s

verity_stops_by : (files : Option Files) (n : ℕ) (file salt : List ℕ) (before number : ℕ) (r : Refusal) → LoadFails files file before r → LineStops files (stored.Verity n file salt) before number r
verity_stops_by files n file salt before number (File name) s = (before, (s, refl))
verity_stops_by files n file salt before number (Line at kind) s = absurd s
verity_stops_by files n file salt before number TooMuch s = (file, before, (refl, refl), s)
verity_stops_by files n file salt before number Memory s = tt

pub verity_stops : (files : Option Files) (n : ℕ) (file salt : List ℕ) (before number : ℕ) (r : Result (Unit {0}) Refusal) → IfErr r (LoadFails files file before) → IfErr r (LineStops files (stored.Verity n file salt) before number)
verity_stops files n file salt before number (Ok u) s = s
verity_stops files n file salt before number (Err r) s = verity_stops_by files n file salt before number r s

-- ---- paths

path_in : (xs : List Component) (i : ℕ) (x : Component) → x ≡ get_or xs i x → string_bytes x.path ≡ get_or (map path_of (map placed xs)) i (string_bytes x.path)
path_in [] i x is = refl
path_in (y ∷ xs) zero x is = ap (λ (c : Component). string_bytes c.path) is
path_in (y ∷ xs) (suc i) x is = path_in xs i x is

pub path_here : (spec : Composite) (xs : List Component) (i : ℕ) (x : Component) → map placed xs ≡ spec.components → x ≡ get_or xs i x → string_bytes x.path ≡ get_or (paths_of spec) i (string_bytes x.path)
path_here spec xs i x same is = subst (λ (z : List Placed). string_bytes x.path ≡ get_or (map path_of z) i (string_bytes x.path)) same (path_in xs i x is)

pub path_inside : (spec : Composite) (xs : List Component) (i : ℕ) → map placed xs ≡ spec.components → i < length xs → i < length (paths_of spec)
path_inside spec xs i same low = subst (λ (z : List Placed). i < length (map path_of z)) same (omega (arith, low, length-map (map placed xs) path_of, length-map xs placed))

pub paths_len : (spec : Composite) (xs : List Component) → map placed xs ≡ spec.components → length (paths_of spec) ≡ length xs
paths_len spec xs same = subst (λ (z : List Placed). length (map path_of z) ≡ length xs) same (length-map (map placed xs) path_of ∙ length-map xs placed)

pub paths_fail : (files files_now : Option Files) (names : List (List ℕ)) (name : List ℕ) (i before now : ℕ) (contents : List (List ℕ)) (r : Refusal) → files_now ≡ files → i < length names → name ≡ get_or names i name
    → AreLoaded files (take i names) before now contents → LoadFails files_now name now r → PathsFail files names before r
paths_fail files files_now names name i before now contents r same low here loaded fails = record {
  front = take i names;
  name = name;
  rest = drop (suc i) names;
  cut = cut_here names i name low here;
  now = now;
  contents = contents;
  loaded = loaded;
  fails = subst (λ (z : Option Files). LoadFails z name now r) same fails;
}

pub loaded_len : (files : Option Files) (names : List (List ℕ)) (before now : ℕ) (contents : List (List ℕ)) → AreLoaded files names before now contents → length contents ≡ length names
loaded_len files [] before now contents d = ap length d.1
loaded_len files (name ∷ names) before now contents d =
    let more = loaded_len files names d.1 now d.2 d.4 in
    ap length d.5 ∙ (omega (arith, more))

-- ---- lines

pub stock_fails : (files files_now : Option Files) (lines : List StoreLine) (line : StoreLine) (i number : ℕ) (old mid : Stock) (r : Refusal) → files_now ≡ files → i < length lines → line ≡ get_or lines i line
    → length (take i lines) + 2 ≡ number → Stocked files (take i lines) old mid → LineStops files_now line mid.loaded number r → StockFails files lines old r
stock_fails files files_now lines line i number old mid r same low here count done stops = record {
  front = take i lines;
  line = line;
  rest = drop (suc i) lines;
  cut = cut_here lines i line low here;
  mid = mid;
  done = done;
  stops = subst (λ (n : ℕ). LineStops files line mid.loaded n r) (sym count) (subst (λ (z : Option Files). LineStops z line mid.loaded number r) same stops);
}
