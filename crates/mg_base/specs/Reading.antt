-- What a cursor reads next.
use Rattle.std.specs.Prelude.{◌≡◌, ℕ, ◌+◌, ◌<◌, ◌≤◌, List, length, take, drop, Result, Ok, Err}
use Rattle.mg_base.specs.declared.cursor.Truncated.{Truncated}

-- the place of a cursor in its bytes, and the bytes from there on
pub record Reading : Type 0 where
  pub at : ℕ
  pub left : List ℕ

-- the cursor n bytes on
abbrev pub past : ℕ → Reading → Reading
past n r = record { at = r.at + n; left = drop n r.left }

-- n bytes were read, and the value is made of them; or fewer are left, and the cursor stands where it was
abbrev pub Reads : {T : Type 0} → ℕ → (List ℕ → T → Type 0) → Reading → Reading → Result T Truncated → Type 0
Reads n Is old new (Ok x) = (n ≤ length old.left) × Is (take n old.left) x × (new ≡ past n old)
Reads n Is old new (Err e) = (length old.left < n) × (e ≡ record { at = old.at; wanted = n }) × (new ≡ old)
