-- The calls of a read of a device on a disk.
use Rattle.std.proofs.Common.{◌≡◌, ℕ, ◌+◌, ◌*◌, ◌/◌, ◌%◌, true, false, List, [], Some, refl, sym, subst, ◌∙◌}
use Rattle.std.specs.Prelude.{◌==◌, if◌then◌else◌, slice_get}
use Rattle.host_traits.specs.declared.calls.Call.{Call}
use Rattle.host_traits.specs.declared.calls.Call.TheVariants.{BlockRead}
use Rattle.host_traits.specs.Held.{Held}
use Rattle.host_traits.specs.Told.{heard_of}
use Rattle.host_traits.proofs.Doing.{each_heard}
use Rattle.guest_rules.proofs.Holding.{AreServed}
use Rattle.sha_tree.specs.Tree.{ancestor}
use Rattle.verity_path.specs.Calls.{call_for, tree_byte}
use Rattle.verity_path.specs.declared.device.Device.{Device}
use Rattle.verity_path.specs.declared.walk.Layout.{Layout}
use Rattle.verity_path.specs.declared.walk.Layout.TheVariants.{Parts}
use Rattle.guest_rules.specs.Machine.{Setting, State, World, Moment, Turn, ItemRead, Request, request_of, read_of}
use Rattle.guest_rules.specs.ItemRow.{IsForItem}
use Rattle.guest_rules.specs.Step.{Step, IsFor}
use Rattle.guest_laws.specs.Fitting.{IsOfDisk, AreTrue}

-- the call for a page of a device in parts of a disk asks for that disk
of_disk : (disk first tree count level i : ℕ) → IsOfDisk disk (call_for (Parts disk first tree) count level i)
of_disk disk first tree count level i =
    let at : ℕ = tree_byte tree count level i in
    elim (level == 0) as (λ v. IsOfDisk disk (if v then BlockRead disk (first + 8 * i) 8 else BlockRead disk (at / 512) (if at % 512 == 0 then 8 else 9)))
    [ true ↦ refl | false ↦ refl ]

same_item : (a b : Device) → Some a ≡ Some b → a ≡ b
same_item a b e = cc

-- the calls of a read are those for its item
calls_of : (g : Setting) (s : State) (request : Request) (r : ItemRead) (it : Device) (call : Call) (given : List ℕ) → request ≡ read_of r → slice_get g.items r.item ≡ Some it → IsFor g s request call given → IsForItem it r call
calls_of g s request r it call given e at f =
    let there = subst (λ q. IsFor g s q call given) e f in
    subst (λ (z : Device). IsForItem z r call) (same_item there.0 it (sym there.1 ∙ at)) there.2.0

for_disk : (disk first tree : ℕ) (it : Device) (r : ItemRead) (call : Call) → it.layout ≡ Parts disk first tree → IsForItem it r call → IsOfDisk disk call
for_disk disk first tree it r call is f =
    let level = f.path.level in
    let i = ancestor f.block level in
    let here : IsOfDisk disk (call_for it.layout it.measure.blocks level i) = subst (λ (l : Layout). IsOfDisk disk (call_for l it.measure.blocks level i)) (sym is) (of_disk disk first tree it.measure.blocks level i) in
    subst (IsOfDisk disk) (sym f.path.call_is) here

pub read_serves : (g : Setting) (world : World) (old : Moment) (turn : Turn) (new : Moment) (h : Held) (r : ItemRead) (it : Device) (disk first tree : ℕ)
    → Step g world old turn new → request_of turn.frame ≡ read_of r → slice_get g.items r.item ≡ Some it → it.layout ≡ Parts disk first tree → AreTrue h disk (heard_of turn.own) → AreServed h (heard_of turn.own)
read_serves g world old turn new h r it disk first tree step request at layout heard = record {
  each = λ call said i.
      let for = each_heard (IsFor g old.state (request_of turn.frame)) turn.own step.calls call said i in
      ([], heard call said i (for_disk disk first tree it r call layout (calls_of g old.state _ r it call for.0 request at for.1)));
}
