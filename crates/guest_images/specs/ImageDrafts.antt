-- What the lines of an image's list said so far, without where it lies in memory.
use Rattle.guest_images.specs.declared.image_lists.Draft.{Draft}
use Rattle.guest_images.specs.ImageLists.{ImageSaid}

abbrev pub drafted : Draft → ImageSaid
drafted d = record { salt = d.salt; parts = d.parts.items }
