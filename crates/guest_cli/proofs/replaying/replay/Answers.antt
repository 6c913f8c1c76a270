use Rattle.std.specs.Prelude.{refl}
use Rattle.guest_cli.proofs.Headline.{fails_replay, play_replays}
use Rattle.guest_cli.proofs.replaying.replay.Goals as goal

pub returns-in-Ok-clause-replays : goal.returns-in-Ok-clause-replays
returns-in-Ok-clause-replays g c = play_replays _ c.args.plan.now c.args.tape.now c.args.entropy.now _ _ _ _ _ c.play.result c.in-Ok.ensures.ok c.play.ensures.played

pub returns-in-Err-clause-replays : goal.returns-in-Err-clause-replays
returns-in-Err-clause-replays g c =
    fails_replay _ c.args.plan.now c.args.tape.now c.args.entropy.now _ _ c.in-Err.status c.in-Err.ensures.err (record { out = refl; log = refl })
