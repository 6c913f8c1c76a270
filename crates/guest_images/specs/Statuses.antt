-- Statuses: their numbers, and the line of the log that a run ends with.
use Rattle.std.specs.Prelude.{ℕ, List, [], ◌++◌, string_bytes, codes}
use Rattle.text_lines.specs.Ends.{fault_words, file_end, line_feed}
use Rattle.guest_images.specs.declared.status.UnfitKind.{UnfitKind}
use Rattle.guest_images.specs.declared.status.UnfitKind.TheVariants.{TooFewBlocks, Empty, Uneven, TooMany, NoParts}
use Rattle.guest_images.specs.declared.status.Status.{Status}
use Rattle.guest_images.specs.declared.status.Status.TheVariants.{Done, Usage, ListFault, FileFault, WriteFault, TooMuch, Memory, Unfit}

abbrev pub status_number : Status → ℕ
status_number Done = 0
status_number Usage = 1
status_number (ListFault line k) = 2
status_number (FileFault name) = 3
status_number WriteFault = 6
status_number TooMuch = 9
status_number Memory = 10
status_number (Unfit k) = 11

abbrev pub unfit_word : UnfitKind → List ℕ
unfit_word TooFewBlocks = codes "toofewblocks"
unfit_word Empty = codes "empty"
unfit_word Uneven = codes "uneven"
unfit_word TooMany = codes "toomany"
unfit_word NoParts = codes "noparts"

-- the end line without its line feed, of a status whose line has no name
abbrev pub end_words : Status → List ℕ
end_words Usage = codes "end 1 usage"
end_words (ListFault line k) = codes "end 2 list " ++ fault_words line k
end_words TooMuch = codes "end 9 much"
end_words Memory = codes "end 10 memory"
end_words (Unfit k) = codes "end 11 unfit " ++ unfit_word k
end_words Done = []
end_words (FileFault name) = []
end_words WriteFault = []

-- the end line: none after 0 and 6
abbrev pub end_line : Status → List ℕ
end_line Done = []
end_line WriteFault = []
end_line (FileFault name) = file_end (string_bytes name)
end_line other = end_words other ++ line_feed
