use Rattle.guest_names.proofs.Sound.{boots_sound}
use Rattle.guest_names.proofs.laws.server_is_sound.Goals as goal

pub returns : goal.returns
returns c = boots_sound
