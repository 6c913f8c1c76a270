-- What a lent record says.
use Rattle.host_traits.specs.declared.calls.TapeItem.{TapeItem}
use Rattle.host_traits.specs.declared.calls.TapeItem.TheVariants.{Failed, Done, Number, Bytes}
use Rattle.host_tape.specs.declared.next.Next.{Next}
use Rattle.host_tape.specs.declared.next.Next.TheVariants as lent

abbrev pub item_by : Next → TapeItem
item_by lent.Failed = Failed
item_by lent.Done = Done
item_by (lent.Number n) = Number n
item_by (lent.Bytes bytes) = Bytes bytes.now
