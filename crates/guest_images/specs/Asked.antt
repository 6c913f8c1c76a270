-- What a request that was read says.
use Rattle.std.specs.Prelude.{◌≡◌, ◌≤◌, length, ℕ, List, Option, Some, None, Result, Ok, Err}
use Rattle.text_lines.specs.declared.kinds.PlanKind.{PlanKind}
use Rattle.text_lines.specs.Values.{page_salt}
use Rattle.guest_images.specs.declared.status.Status.{Status}
use Rattle.guest_images.specs.declared.status.Status.TheVariants.{Usage, Memory}
use Rattle.guest_images.specs.declared.words.Request.{Request}
use Rattle.guest_images.specs.declared.words.Request.TheVariants.{Idsig, Measure, Composite, Instance}
use Rattle.guest_images.specs.Words.{Wish, idsig_of, measure_of, composite_of, instance_of}

abbrev pub asked_by : Request → Wish
asked_by (Idsig file salt out) = idsig_of file.now salt out.now
asked_by (Measure file salt) = measure_of file.now salt
asked_by (Composite list out) = composite_of list.now out.now
asked_by (Instance list out) = instance_of list.now out.now

-- what became of a word that is to be a salt
abbrev pub SaltRead : Result (List ℕ) Status → List ℕ → Type 0
SaltRead (Ok salt) text = page_salt text ≡ Ok salt
SaltRead (Err Usage) text = (kind : PlanKind) × (page_salt text ≡ Err kind)
SaltRead (Err Memory) text = Unit {0}
SaltRead (Err other) text = ⊥

-- what became of the words
abbrev pub WordsRead : Result Request Status → Option Wish → Type 0
WordsRead (Ok request) wish = wish ≡ Some (asked_by request)
WordsRead (Err Usage) wish = wish ≡ None
WordsRead (Err Memory) wish = Unit {0}
WordsRead (Err other) wish = ⊥

-- the name of a composite disk has room for the endings of its other files
abbrev pub HasRoom : Request → Type 0
HasRoom (Composite list out) = length out.now ≤ 250
HasRoom (Idsig file salt out) = Unit {0}
HasRoom (Measure file salt) = Unit {0}
HasRoom (Instance list out) = Unit {0}
