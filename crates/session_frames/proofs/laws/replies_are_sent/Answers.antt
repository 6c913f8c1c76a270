use Rattle.session_frames.proofs.Replies.{message_of, bytes_of_frame}
use Rattle.session_frames.proofs.laws.replies_are_sent.Goals as goal

pub returns : goal.returns
returns c = record { message = message_of; bytes = bytes_of_frame }
