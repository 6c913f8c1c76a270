use Rattle.std.proofs.Common.{◌≡◌, ◌<◌, List, ℕ, length, true, false, Bool, ◌&&◌, refl, rules}
use Rattle.std.specs.Str.{IsUtf8}
use Rattle.std.proofs.lemmas.Str.{is_utf8-from_IsUtf8, IsUtf8-from_is_utf8}
use Rattle.std.proofs.lemmas.Bool.{lt-ltb, and_parts, false_from_ne_true}
use Rattle.composite_spec.specs.Reading.{is_path}
use Rattle.composite_spec.proofs.reading.path_text.Goals as goal

path_is : (path : List ℕ) → 0 < length path → length path < 256 → IsUtf8 path → is_path path ≡ true
unfolding is_path
path_is path some few text = rw (lt-ltb _ _ some, lt-ltb _ _ few, is_utf8-from_IsUtf8 path text) refl

no_path : (path : List ℕ) → (IsUtf8 path → ⊥) → is_path path ≡ false
unfolding is_path
no_path path h = false_from_ne_true _ (λ e. h (IsUtf8-from_is_utf8 path (and_parts _ _ e).1))

pub returns-in-Ok : goal.returns-in-Ok
returns-in-Ok c = (c.in-Ok.ensures.cases.0, path_is c.args.path.now (search rules) (search rules) c.in-Ok.ensures.cases.1)

pub returns-in-Err : goal.returns-in-Err
returns-in-Err c = no_path c.args.path.now c.in-Err.ensures.cases.0
