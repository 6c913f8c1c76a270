use Rattle.std.proofs.Common.{◌≡◌, length, drop}
use Rattle.std.specs.List.{flat_map}
use Rattle.std.specs.Str.{bytes_eq, chars}
use Rattle.std.specs.Char.Escape.{encode_utf16}
use Rattle.gpt.specs.Names.{name_units, text_units}
use Rattle.gpt.proofs.names.is_named.Given as goal

abbrev pub invariant-loop-c : goal.invariant-loop-c
invariant-loop-c l =
    bytes_eq (name_units l.rest) (flat_map encode_utf16 (drop (length l.yielded) (chars l.text))) ≡ bytes_eq (name_units l.field) (text_units l.text)
