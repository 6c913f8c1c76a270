use Rattle.std.proofs.Common.{subst}
use Rattle.guest_images.specs.ImageLists.{TellsImage}
use Rattle.guest_images.proofs.ImageListed.{list_found, list_again}
use Rattle.guest_images.proofs.image_lists.read_image_list.Goals as goal

pub returns-clause-found : goal.returns-clause-found
returns-clause-found c = list_found c.args.bytes.now c.read.result c.read.ensures

pub returns-clause-only : goal.returns-clause-only
returns-clause-only c = λ salt parts h. subst (TellsImage c.read.result) (list_again c.args.bytes.now salt parts h) c.read.ensures
