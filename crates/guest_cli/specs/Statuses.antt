-- Statuses: their numbers, and the line of the log that a run ends with.
use Rattle.std.specs.Prelude.{ℕ, List, [], ◌++◌, string_bytes, codes}
use Rattle.std.specs.Fmt.{decimal}
use Rattle.text_lines.specs.Ends.{fault_words, file_end}
use Rattle.guest_boot.specs.Wording.{boot_end}
use Rattle.guest_rules.specs.Run.{space, line_feed}
use Rattle.guest_cli.specs.declared.status.Form.{Form}
use Rattle.guest_cli.specs.declared.status.Form.TheVariants.{Command, Plan}
use Rattle.guest_cli.specs.declared.status.Status.{Status}
use Rattle.guest_cli.specs.declared.status.Status.TheVariants.{Done, Usage, PlanFault, FileFault, TapeFault, StoreFault, ReadFault, WriteFault, BadFrame, BootFault, TooMuch, Memory, Unbuilt}

abbrev pub status_number : Status → ℕ
status_number Done = 0
status_number Usage = 1
status_number (PlanFault line k) = 2
status_number (FileFault name) = 3
status_number (TapeFault at) = 4
status_number (StoreFault line k) = 4
status_number ReadFault = 5
status_number WriteFault = 6
status_number (BadFrame at) = 7
status_number (BootFault fault) = 8
status_number TooMuch = 9
status_number Memory = 10
status_number (Unbuilt form at) = 12

abbrev pub form_word : Form → List ℕ
form_word Command = codes "command"
form_word Plan = codes "plan"

-- the end line without its line feed, of a status whose line has no name
abbrev pub end_words : Status → List ℕ
end_words Usage = codes "end 1 usage"
end_words (PlanFault line k) = codes "end 2 plan " ++ fault_words line k
end_words (TapeFault at) = codes "end 4 tape " ++ decimal at
end_words (StoreFault line k) = codes "end 4 store " ++ fault_words line k
end_words ReadFault = codes "end 5 read"
end_words (BadFrame at) = codes "end 7 frame " ++ decimal at
end_words TooMuch = codes "end 9 much"
end_words Memory = codes "end 10 memory"
end_words (Unbuilt form at) = codes "end 12 unbuilt " ++ form_word form ++ space ++ decimal at
end_words other = []

-- the end line: none after 0 and 6
abbrev pub end_line : Status → List ℕ
end_line Done = []
end_line WriteFault = []
end_line (FileFault name) = file_end (string_bytes name)
end_line (BootFault fault) = boot_end fault
end_line other = end_words other ++ line_feed
