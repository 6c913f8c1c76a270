use Rattle.std.proofs.Common.{inr, refl}
use Rattle.host_tape.specs.Played.{tape_told}
use Rattle.guest_plan.specs.Plans.{known}
use Rattle.host_traits.specs.Told.{heard_of}
use Rattle.guest_cli.proofs.Opening.{opened_first}
use Rattle.guest_cli.proofs.Headline.{boot_fails, booted_over, tape_session, unplayed_by}
use Rattle.guest_cli.proofs.replaying.play.Goals as goal

pub returns-in-Err-clause-played : goal.returns-in-Err-clause-played
returns-in-Err-clause-played g c =
    unplayed_by _ c.args.inputs.tape _ c.in-Err.fault _ _ _ c.boot_status.ensures (record { out = refl; log = refl }) (boot_fails _ c.args.inputs.entropy _ (tape_told c.boot.new.host) c.in-Err.fault c.in-Err.ensures.booted)

pub returns-clause-played : goal.returns-clause-played
returns-clause-played g c =
    let d = c.in-Ok.ensures.booted in
    let m = d.did.outcome.1 in
    inr (inr (record {
      opened = m.opened;
      booted = d.did.own;
      mid = tape_told c.boot.new.host;
      boots = booted_over (known c.args.inputs.plan) c.args.inputs.entropy _ _ c.in-Ok.machine d;
      finish = tape_told c.session-ended.new.host;
      ended = c.session-ended.result;
      status_is = c.made_status.ensures;
      session = tape_session c.in-Ok.machine.engine.setting _ _ _ _ c.args.inputs.tape d.did.own c.session-ended.new.engine.state (tape_told c.boot.new.host) (tape_told c.session-ended.new.host) _ _ c.session-ended.result m.setting m.state c.requires.fresh d.did.talked
          (opened_first c.requires.plan.0 (known c.args.inputs.plan) (heard_of d.did.own) m.opened c.args.inputs.entropy c.requires.plan.1 m.opens) c.session-ended.ensures.run;
    }))
