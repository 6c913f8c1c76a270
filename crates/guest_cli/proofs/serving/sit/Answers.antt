use Rattle.std.proofs.Common.{refl, ap, ◌∙◌, inr, Ok, Err}
use Rattle.host_rec.specs.Recorded.{told_with}
use Rattle.host_mem.specs.Mem.{mem_told}
use Rattle.guest_plan.specs.Plans.{known}
use Rattle.guest_cli.specs.Outside.{status_of}
use Rattle.host_traits.specs.Told.{heard_of}
use Rattle.guest_cli.proofs.Opening.{opened_first}
use Rattle.guest_cli.proofs.Headline.{booted_over}
use Rattle.guest_cli.proofs.Served.{sat_over, unserved}
use Rattle.guest_cli.proofs.serving.sit.Goals as goal

pub returns-in-Err-clause-sat : goal.returns-in-Err-clause-sat
returns-in-Err-clause-sat g c =
    unserved (known c.args.plan.now) c.args.host c.args.entropy c.new-host.result (told_with (mem_told c.boot.new.host.host) c.boot.new.host.kept) c.in-Err.fault _ _ _ c.boot_status.ensures c.new-host.ensures.host c.new-host.ensures.kept c.requires.fresh
    (record { out = refl; log = refl }) c.in-Err.ensures.booted

pub returns-in-Ok-ended-clause-sat : goal.returns-in-Ok-ended-clause-sat
returns-in-Ok-ended-clause-sat g c = (
  _,
  sat_over c.in-Ok.ensures.booted.did.outcome.1.opened _ _ c.args.entropy c.args.host c.in-Ok.ensures.booted.did.own c.session-ended.new.engine.state c.new-host.result c.boot.new.host c.session-ended.new.host _ _ (Ok tt) (known c.args.plan.now) c.in-Ok.ensures.booted.did.outcome.1.setting c.in-Ok.ensures.booted.did.outcome.1.state c.new-host.ensures.host c.new-host.ensures.kept c.requires.fresh
      (booted_over (known c.args.plan.now) c.args.entropy _ _ c.in-Ok.machine c.in-Ok.ensures.booted)
      (opened_first c.requires.plan.0 (known c.args.plan.now) (heard_of c.in-Ok.ensures.booted.did.own) c.in-Ok.ensures.booted.did.outcome.1.opened c.args.entropy c.requires.plan.1 c.in-Ok.ensures.booted.did.outcome.1.opens) c.in-Ok-ended.ensures.run,
)

pub returns-in-Err-ended-clause-sat : goal.returns-in-Err-ended-clause-sat
returns-in-Err-ended-clause-sat g c = inr (inr (
  c.in-Err-ended.field-0,
  c.made_status.ensures ∙ ap status_of c.in-Err-ended.is,
  c.session-ended.new.host,
  _,
  sat_over c.in-Ok.ensures.booted.did.outcome.1.opened _ _ c.args.entropy c.args.host c.in-Ok.ensures.booted.did.own c.session-ended.new.engine.state c.new-host.result c.boot.new.host c.session-ended.new.host _ _ (Err c.in-Err-ended.field-0) (known c.args.plan.now) c.in-Ok.ensures.booted.did.outcome.1.setting c.in-Ok.ensures.booted.did.outcome.1.state c.new-host.ensures.host c.new-host.ensures.kept c.requires.fresh
      (booted_over (known c.args.plan.now) c.args.entropy _ _ c.in-Ok.machine c.in-Ok.ensures.booted)
      (opened_first c.requires.plan.0 (known c.args.plan.now) (heard_of c.in-Ok.ensures.booted.did.own) c.in-Ok.ensures.booted.did.outcome.1.opened c.args.entropy c.requires.plan.1 c.in-Ok.ensures.booted.did.outcome.1.opens) c.in-Err-ended.ensures.run,
))
