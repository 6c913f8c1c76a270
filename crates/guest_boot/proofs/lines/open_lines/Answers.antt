use Rattle.std.proofs.Common.{◌≡◌, ◌<◌, ◌≤◌, ◌∙◌, List, [], length, take, refl, ap, sym, subst, arith}
use Rattle.verity_path.specs.declared.device.Device.{Device}
use Rattle.ro_file.specs.Files.{MeasuredFile}
use Rattle.std.proofs.lemmas.Option.{slice_get_read}
use Rattle.guest_plan.specs.Plans.{known}
use Rattle.guest_boot.specs.Booting.{Booted, AreItems, instance_in, means_of}
use Rattle.guest_boot.proofs.Plans.{plan_served, plan_numbered, plan_recorded, served_at}
use Rattle.guest_boot.proofs.Runs.{image_there, not_begun, begins, goes_on, stops, ends}
use Rattle.guest_boot.proofs.lines.open_lines.Goals as goal

pub returns-in-Err-clause-booted : goal.returns-in-Err-clause-booted
returns-in-Err-clause-booted g c =
    not_begun (means_of (known c.args.plan.now) c.args.entropy) c.args.plan.now.lines.items c.args.plan.now.numbers.items _ _ c.open_instance.new.tables.items c.in-Err.fault c.in-Err.ensures

pub loop-index-init : goal.loop-index-init
loop-index-init g c =
    let secret = c.args.plan.now.secret in
    let made : List Device → List MeasuredFile → Booted = λ items files. record {
      tables = c.open_instance.new.tables.items;
      items = items;
      files = files;
      image = c.in-Ok.image;
      secret = secret;
      entropy = c.args.entropy;
      writings = [];
    } in
    record {
      booted = begins (means_of (known c.args.plan.now) c.args.entropy) c.args.plan.now.lines.items c.args.plan.now.numbers.items _ _ c.open_instance.new.tables.items (record { tables = c.open_instance.new.tables; items = c.new.result; files = c.new-2.result; image = c.in-Ok.image; entropy = c.args.entropy }) c.in-Ok.image
          (ap (λ (items : List Device). made items c.new-2.result.items) c.new.ensures.items ∙ ap (λ (files : List MeasuredFile). made [] files) c.new-2.ensures.items) c.in-Ok.ensures;
      items = subst AreItems (sym c.new.ensures.items) (λ k it at. cc);
    }

pub boot_line-requires-clause-served : goal.boot_line-requires-clause-served
boot_line-requires-clause-served g c =
    let inside : c.loop-index.index < length c.args.plan.now.lines.items = omega (arith, c.args.plan.now.lines.ok, c.loop-index-test.true) in
    served_at c.args.plan.now.lines.items c.loop-index.index c.index.result.now (plan_served c.requires.plan.0 (known c.args.plan.now) c.requires.plan.1) inside c.index.ensures

pub boot_line-requires-clause-records : goal.boot_line-requires-clause-records
boot_line-requires-clause-records g c = λ e.
    let inside : c.loop-index.index < length c.args.plan.now.lines.items = omega (arith, c.args.plan.now.lines.ok, c.loop-index-test.true) in
    let p = plan_recorded c.requires.plan.0 (known c.args.plan.now) c.loop-index.index c.index.result.now c.requires.plan.1 inside c.index.ensures e in
    (p.0, image_there (instance_in c.args.plan.now.lines.items) (means_of (known c.args.plan.now) c.args.entropy) (take c.loop-index.index c.args.plan.now.lines.items) _ _ p.1.0 p.1.1 c.loop-index.invariant.booted.did.outcome.1)

pub index-line-requires : goal.index-line-requires
index-line-requires g c =
    let even = plan_numbered c.requires.plan.0 (known c.args.plan.now) c.requires.plan.1 in
    omega (arith, even, c.args.plan.now.numbers.ok, c.args.plan.now.lines.ok, c.loop-index-test.true)

pub returns-in-Err-boot_line-clause-booted : goal.returns-in-Err-boot_line-clause-booted
returns-in-Err-boot_line-clause-booted g c =
    let lines = c.args.plan.now.lines.items in
    let numbers = c.args.plan.now.numbers.items in
    let even : length numbers ≡ length lines = plan_numbered c.requires.plan.0 (known c.args.plan.now) c.requires.plan.1 in
    let inside : c.loop-index.index < length lines = omega (arith, c.args.plan.now.lines.ok, c.loop-index-test.true) in
    stops (means_of (known c.args.plan.now) c.args.entropy) lines c.loop-index.index c.index.result.now inside c.index.ensures _ _ _ c.loop-index.boot c.loop-index.invariant.booted
    numbers c.index-line.result.now c.in-Err-boot_line.why c.boot_line.new.boot (slice_get_read numbers (length numbers) c.loop-index.index c.index-line.result.now refl (omega (arith, even, inside)) c.index-line.ensures) c.in-Err-boot_line.ensures.did

pub loop-index-preserved : goal.loop-index-preserved
loop-index-preserved g c =
    let lines = c.args.plan.now.lines.items in
    let inside : c.loop-index.index < length lines = omega (arith, c.args.plan.now.lines.ok, c.loop-index-test.true) in
    record {
      booted = goes_on (means_of (known c.args.plan.now) c.args.entropy) lines c.loop-index.index c.index.result.now inside c.index.ensures _ _ _ c.loop-index.boot c.loop-index.invariant.booted c.boot_line.new.boot _ c.in-Ok-boot_line.ensures.did;
      items = c.in-Ok-boot_line.ensures.items;
    }

pub returns-clause-booted : goal.returns-clause-booted
returns-clause-booted g c =
    let lines = c.args.plan.now.lines.items in
    let all : length lines ≤ c.loop-index.index = omega (arith, c.args.plan.now.lines.ok, c.loop-index-test.false) in
    ends (means_of (known c.args.plan.now) c.args.entropy) lines c.args.plan.now.numbers.items _ _ c.loop-index.boot c.loop-index.index all c.loop-index.invariant.booted
