use Rattle.std.proofs.Common.{◌≡◌, ◌+◌, ◌-◌, ◌≤◌, length}
use Rattle.host_traits.specs.Did.{Did}
use Rattle.instance_image.specs.Records.{IsLaid}
use Rattle.instance_image.specs.Opening.{opening, IsImageCall}
use Rattle.instance_image.proofs.Laying.{end_of}
use Rattle.instance_image.proofs.Openings.{Headed}
use Rattle.instance_image.proofs.opening.read_image.Given as goal

abbrev pub invariant-headers : goal.invariant-headers
invariant-headers g l = record {
  low : 1 ≤ l.next;
  high : l.next ≤ l.span.sectors;
  few : length l.parts.items ≤ 256;
  end : l.next ≡ end_of 1 l.parts.items;
  laid : IsLaid (record { disk = l.disk; first = l.span.first; salt = l.salt; parts = l.parts.items });
  did : Did (IsImageCall (opening l.disk l.span l.salt)) (length l.parts.items + 1) (g.H.Host.told l.fn.host) (g.H.Host.told l.host)
      (Headed (opening l.disk l.span l.salt) (record { parts = l.parts.items; next = l.next }));
}

abbrev pub decreases-headers : goal.decreases-headers
decreases-headers g l = l.span.sectors - l.next
