use Rattle.std.proofs.Common.{[], refl, inl, inr, arith}
use Rattle.host_traits.proofs.Doing.{did_none}
use Rattle.guest_boot.proofs.Recording.{did_as, did_reading}
use Rattle.guest_boot.specs.Booting.{means_of}
use Rattle.guest_names.proofs.Making.{counted}
use Rattle.guest_plan.specs.Plans.{known}
use Rattle.guest_cli.proofs.Booting.{none_done}
use Rattle.guest_cli.proofs.boot.boot.Goals as goal

pub returns-in-Err-open_lines-clause-booted : goal.returns-in-Err-open_lines-clause-booted
returns-in-Err-open_lines-clause-booted g c =
    let d = c.in-Err-open_lines.ensures.booted in
    record { writings = d.writings; did = did_as _ _ _ _ _ _ _ _ d.did (λ call given x. x) (omega arith) (λ t h. inr h) }

pub new-requires : goal.new-requires
new-requires g c = λ k it at. let i = c.in-Ok-open_lines.ensures.items k it at in record { least = i.least; most = i.most; suits = i.suits }

pub plant_lines-requires-clause-opened : goal.plant_lines-requires-clause-opened
plant_lines-requires-clause-opened g c =
    let d = c.in-Ok-open_lines.ensures.booted in
    rw c.deref.ensures.value (counted (means_of (known c.args.plan.now) c.args.entropy) c.args.plan.now.lines.items _ _ d.did.outcome.2)

pub returns-in-Err-clause-booted : goal.returns-in-Err-clause-booted
returns-in-Err-clause-booted g c = none_done _ _ _ _ (rw c.no_memory.ensures (inl (refl, refl, inl (refl, refl))))

pub returns-clause-booted : goal.returns-clause-booted
returns-clause-booted g c =
    let d = c.in-Ok-open_lines.ensures.booted in
    record {
      writings = d.writings;
      did = did_as _ _ _ _ _ _ _ _ d.did (λ call given x. x) (omega arith) (λ t h. rw c.new.ensures (
        h.0,
        record {
          opened = record { items = c.in-Ok-open_lines.opened.items.items; files = c.in-Ok-open_lines.opened.files.items; image = c.in-Ok-open_lines.opened.image; left = c.in-Ok-open_lines.opened.entropy; writings = d.writings };
          opens = record { tables = h.1; boots = h.2 };
          written = refl;
          setting = rw c.records_of-records.ensures refl;
          state = rw (c.in-Ok-plant_lines.ensures, c.deref.ensures.value, c.records_of-records.ensures) refl;
        },
      ));
    }

pub returns-in-Err-plant_lines-clause-booted : goal.returns-in-Err-plant_lines-clause-booted
returns-in-Err-plant_lines-clause-booted g c =
    let d = c.in-Ok-open_lines.ensures.booted in
    record {
      writings = d.writings;
      did = did_as _ _ _ _ _ _ _ _ d.did (λ call given x. x) (omega arith) (λ t h. rw c.no_memory-in-Err-plant_lines.ensures (inl (refl, h.0, inr (record { items = c.in-Ok-open_lines.opened.items.items; files = c.in-Ok-open_lines.opened.files.items; image = c.in-Ok-open_lines.opened.image; left = c.in-Ok-open_lines.opened.entropy; writings = d.writings }, record { tables = h.1; boots = h.2 }, refl))));
    }
