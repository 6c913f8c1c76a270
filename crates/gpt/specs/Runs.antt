-- A header's fields, in three runs.
use Rattle.std.specs.Prelude.{List, ℕ, ◌++◌}
use Rattle.guid_crc.specs.Guids.{disk_form}
use Rattle.gpt.specs.declared.header.Header.{Header}
use Rattle.gpt.specs.Header.{le32, le64, signature}

unfoldable pub header_front : Header → List ℕ
header_front h = signature ++ (le32 h.revision ++ (le32 h.size ++ (le32 h.crc ++ le32 h.reserved)))

unfoldable pub header_places : Header → List ℕ
header_places h = le64 h.own ++ (le64 h.other ++ (le64 h.first_usable ++ le64 h.last_usable))

unfoldable pub header_back : Header → List ℕ
header_back h = disk_form h.disk.0 ++ (le64 h.array ++ (le32 h.count ++ (le32 h.entry_size ++ le32 h.array_crc)))
