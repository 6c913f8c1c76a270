-- What a command that was read says.
use Rattle.guest_cli.specs.declared.words.Command.{Command}
use Rattle.guest_cli.specs.declared.words.Command.TheVariants.{Replay, Serve, Soak}
use Rattle.guest_cli.specs.Words.{Command as Asked, replay_of, serve_of, soak}

abbrev pub asked_by : Command → Asked
asked_by (Replay plan tape entropy) = replay_of plan.now tape.now entropy.now
asked_by (Serve plan store entropy tape_out) = serve_of plan.now store.now entropy.now tape_out.now
asked_by Soak = soak
