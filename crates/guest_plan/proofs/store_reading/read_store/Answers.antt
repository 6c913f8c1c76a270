use Rattle.std.proofs.Common.{subst}
use Rattle.guest_plan.specs.Stores.{TellsStore}
use Rattle.guest_plan.proofs.Stored.{store_found, store_again}
use Rattle.guest_plan.proofs.store_reading.read_store.Goals as goal

pub returns-clause-found : goal.returns-clause-found
returns-clause-found c = store_found c.args.bytes.now c.read.result c.read.ensures

pub returns-clause-only : goal.returns-clause-only
returns-clause-only c = λ k h. subst (TellsStore c.read.result) (store_again c.args.bytes.now k h) c.read.ensures
