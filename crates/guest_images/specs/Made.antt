-- A whole run of `mkguest`: what the words ask for, how it ends, and what each status says.
use Rattle.std.specs.Prelude.{◌≡◌, ℕ, List, Option, Some, None, ◌⊎◌}
use Rattle.std.specs.Io.KnownBytes.{Appends}
use Rattle.host_traits.specs.Streams.{SomePrefix}
use Rattle.guest_images.specs.declared.status.Status.{Status}
use Rattle.guest_images.specs.declared.status.Status.TheVariants.{Usage, WriteFault, Memory}
use Rattle.guest_images.specs.Words.{Wish, idsig_of, measure_of, composite_of, instance_of}
use Rattle.guest_images.specs.Statuses.{end_line}
use Rattle.guest_images.specs.Composed.{Composes}
use Rattle.guest_images.specs.Imaging.{Images}
use Rattle.guest_images.specs.Measuring.{FolderRun, LogRun, Untouched, Measures, Signs}

-- what each status says, before the end line; want of memory may come before anything else does
abbrev pub Makes : Option Wish → FolderRun → LogRun → Status → Type 0
Makes None folder log status = ((status ≡ Usage) ⊎ (status ≡ Memory)) × Untouched folder log
Makes (Some (idsig_of file salt out)) folder log status = Signs folder log file salt out status
Makes (Some (measure_of file salt)) folder log status = Measures folder log file salt status
Makes (Some (composite_of list out)) folder log status = Composes folder log list out status
Makes (Some (instance_of list out)) folder log status = Images folder log list out status

-- The end line was written after a status that has one, and else nothing; or its writing failed, which is the status 6.
abbrev pub Finishes : LogRun → Status → Status → Type 0
Finishes log inner status = ((status ≡ inner) × Appends log.old log.new (end_line inner)) ⊎ ((status ≡ WriteFault) × SomePrefix log.old log.new (end_line inner))

-- a whole run
pub record Mkguest (wish : Option Wish) (folder : FolderRun) (log : LogRun) (status : Status) : Type 0 where
  pub inner : Status
  pub mid : Option (List ℕ)
  pub makes : Makes wish folder (record { old = log.old; new = mid }) inner
  pub finishes : Finishes (record { old = mid; new = log.new }) inner status
