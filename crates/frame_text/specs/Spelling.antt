-- The lines of requests, channel by channel.
use Rattle.std.specs.Prelude.{ℕ, List, [], ◌∷◌, codes}
use Rattle.std.specs.Fmt.{decimal}
use Rattle.hex.specs.Hex.{encode_lower}
use Rattle.guid_crc.specs.Guids.{guid_text}
use Rattle.text_lines.specs.Spelling.{◌then◌}
use Rattle.guest_rules.specs.Machine.{ItemRead}

-- HEX: two digits a byte in lower case, or `-` for no bytes
abbrev pub bytes_text : List ℕ → List ℕ
bytes_text [] = codes "-"
bytes_text (b ∷ bytes) = encode_lower (b ∷ bytes)

-- `message HEX`
abbrev pub message_line : List ℕ → List ℕ
message_line bytes = codes "message" then bytes_text bytes

-- `read ITEM OFFSET SIZE`
abbrev pub read_line : ItemRead → List ℕ
read_line r = codes "read" then decimal r.item then decimal r.offset then decimal r.size

-- `get UUID`
abbrev pub get_line : List ℕ → List ℕ
get_line uuid = codes "get" then guid_text uuid

-- `put UUID HEX`
abbrev pub put_line : List ℕ → List ℕ → List ℕ
put_line uuid text = codes "put" then guid_text uuid then bytes_text text
