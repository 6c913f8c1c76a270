use Rattle.std.proofs.Common.{◌≡◌, ◌∙◌, sym, length, map}
use Rattle.std.proofs.lemmas.List.{length-map}
use Rattle.block_map.specs.Disk.{path_of}
use Rattle.guest_files.proofs.Refusals.{loaded_len}
use Rattle.guest_files.proofs.stocking.add_composite.Goals as goal

pub add_map-requires-clause-files : goal.add_map-requires-clause-files
add_map-requires-clause-files g c =
    sym (length-map c.in-Ok-load_paths.files.items (λ v. v.items)) ∙ loaded_len _ _ _ _ _ c.in-Ok-load_paths.ensures.ok ∙ length-map c.in-Ok-described.map.components path_of
