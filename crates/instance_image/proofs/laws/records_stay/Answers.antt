use Rattle.instance_image.proofs.Others.{sizes_kept, others_kept, records_kept}
use Rattle.instance_image.proofs.Swapping.{images_kept, writable_kept}
use Rattle.instance_image.proofs.laws.records_stay.Goals as goal

pub returns-clause-size : goal.returns-clause-size
returns-clause-size c = sizes_kept

pub returns-clause-sizes : goal.returns-clause-sizes
returns-clause-sizes c = others_kept

pub returns-clause-all : goal.returns-clause-all
returns-clause-all c = records_kept

pub returns-clause-image : goal.returns-clause-image
returns-clause-image c = images_kept

pub returns-clause-writable : goal.returns-clause-writable
returns-clause-writable c = writable_kept
