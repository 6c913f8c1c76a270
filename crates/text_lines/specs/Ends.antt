-- The words of the line with which a run ends.
use Rattle.std.specs.Prelude.{ℕ, List, ◌++◌, codes}
use Rattle.std.specs.Fmt.{decimal}
use Rattle.text_lines.specs.declared.kinds.PlanKind.{PlanKind}
use Rattle.text_lines.specs.declared.kinds.PlanKind.TheVariants as kind

abbrev pub space : List ℕ
space = codes " "

abbrev pub line_feed : List ℕ
line_feed = codes "\n"

abbrev pub kind_word : PlanKind → List ℕ
kind_word kind.Header = codes "header"
kind_word kind.End = codes "end"
kind_word kind.Lines = codes "lines"
kind_word kind.Word = codes "word"
kind_word kind.Fields = codes "fields"
kind_word kind.Number = codes "number"
kind_word kind.Hex = codes "hex"
kind_word kind.Name = codes "name"
kind_word kind.Uuid = codes "uuid"
kind_word kind.Range = codes "range"
kind_word kind.Twice = codes "twice"
kind_word kind.Missing = codes "missing"
kind_word kind.Length = codes "length"
kind_word kind.Spec = codes "spec"

-- a line's number, and what is wrong with it
abbrev pub fault_words : ℕ → PlanKind → List ℕ
fault_words line k = decimal line ++ space ++ kind_word k

-- the end line that names a file
abbrev pub file_end : List ℕ → List ℕ
file_end name = codes "end 3 file " ++ name ++ line_feed
