-- A file that was loaded, or passes a limit.
use Rattle.std.proofs.Common.{◌≡◌, ℕ, ◌+◌, ◌<◌, ◌≤◌, List, length, sym, ap, ◌∙◌, arith, Option, Some, None, Ok, inl, inr, Vec, Global, length-take}
use Rattle.std.proofs.lemmas.List.{take_all}
use Rattle.host_traits.specs.Folders.{Files, Loaded}
use Rattle.guest_files.specs.Files.{IsThere, IsLoaded, Passes}

module _ (name : List ℕ) (bytes : Vec ℕ Global) where
  pub long_file : (files : Option Files) (before : ℕ) → Loaded files name 1073741824 (Ok bytes) → 1073741824 < length bytes.items → Passes files name before
  long_file None before l long = record { content = bytes.items; there = tt; past = inl (omega (arith, long)) }
  long_file (Some f) before l long = record { content = l.0; there = l.1; past = inl (omega (arith, long, ap length l.2, length-take (1073741824 + 1) l.0)) }

  pub past_file : (files : Option Files) (before : ℕ) → Loaded files name 1073741824 (Ok bytes) → 2147483648 < before + length bytes.items → Passes files name before
  past_file None before l past = record { content = bytes.items; there = tt; past = inr (omega (arith, past)) }
  past_file (Some f) before l past = record { content = l.0; there = l.1; past = inr (omega (arith, past, ap length l.2, length-take (1073741824 + 1) l.0)) }

  whole_file : (files : Option Files) → Loaded files name 1073741824 (Ok bytes) → length bytes.items ≤ 1073741824 → IsThere files name bytes.items
  whole_file None l few = tt
  whole_file (Some f) l few =
      let short : length l.0 ≤ 1073741824 + 1 = omega (arith, few, ap length l.2, length-take (1073741824 + 1) l.0) in
      l.1 ∙ ap Some (sym (l.2 ∙ take_all (1073741824 + 1) l.0 short))

  pub loaded_file : (files : Option Files) (before now : ℕ) → Loaded files name 1073741824 (Ok bytes) → length bytes.items ≤ 1073741824 → now ≡ before + length bytes.items → now ≤ 2147483648 → IsLoaded files name before now bytes.items
  loaded_file files before now l few count all = record { there = whole_file files l few; few = omega (arith, few); count = count; all = omega (arith, all) }
