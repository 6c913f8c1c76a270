use Rattle.std.proofs.Common.{[], ◌∙◌, refl, ap, arith, length}
use Rattle.session_frames.specs.Frames.{Held}
use Rattle.session_frames.proofs.Heads.{length_of_held}
use Rattle.guest_cli.proofs.Sessions.{is_early, held_start, held_next, held_stop}
use Rattle.guest_cli.proofs.session.answer_held.Goals as goal

pub loop-channel-init : goal.loop-channel-init
loop-channel-init g c = record { setting = refl; answered = ([], held_start _ _ _ _ _ _); outs = omega arith; logs = omega arith }

pub returns-in-Err-clause-held : goal.returns-in-Err-clause-held
returns-in-Err-clause-held g c =
    let so = c.loop-channel.invariant.answered in
    let f = c.in-Frame.ensures in
    let few = is_early (g.H.Host.told c.loop-channel.host) c.heard_bytes.result c.heard_bytes.ensures c.if-heard_bytes-ge-LIMIT.false in
    held_stop _ _ _ _ _ _ _ _ _ _ _ so.0 so.1 _ _ _ _ c.in-Frame.channel c.in-Frame.payload.now f.0 f.1 few (rw (c.loop-channel.invariant.setting, c.at.ensures) at c.in-Err.ensures.turn)

pub loop-channel-smaller : goal.loop-channel-smaller
loop-channel-smaller g c =
    let f = c.in-Frame.ensures in
    let done = c.done.ensures c.in-Frame.channel c.in-Frame.payload.now f.0 f.1 in
    let len = length_of_held _ c.in-Frame.channel c.in-Frame.payload.now f.0 f.1 in
    omega (arith, ap (λ (h : Held). length h.held) done, len)

pub loop-channel-preserved : goal.loop-channel-preserved
loop-channel-preserved g c =
    let so = c.loop-channel.invariant.answered in
    let f = c.in-Frame.ensures in
    let done = c.done.ensures c.in-Frame.channel c.in-Frame.payload.now f.0 f.1 in
    let few = is_early (g.H.Host.told c.loop-channel.host) c.heard_bytes.result c.heard_bytes.ensures c.if-heard_bytes-ge-LIMIT.false in
    record {
      setting = c.in-Ok.ensures.setting ∙ c.loop-channel.invariant.setting;
      answered = held_next _ _ _ _ _ _ _ _ _ _ _ so.0 so.1 _ _ _ _ _ c.in-Frame.channel c.in-Frame.payload.now f.0 f.1 done few (rw (c.loop-channel.invariant.setting, c.at.ensures) at c.in-Ok.ensures.turn);
      outs = omega (arith, c.loop-channel.invariant.outs, c.in-Ok.ensures.out);
      logs = omega (arith, c.loop-channel.invariant.logs, c.in-Ok.ensures.log);
    }

pub turn-requires : goal.turn-requires
turn-requires g c = c.in-Frame.ensures.1.suits
