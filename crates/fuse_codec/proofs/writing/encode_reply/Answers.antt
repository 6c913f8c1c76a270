use Rattle.fuse_codec.proofs.Replies.{never_silent}
use Rattle.fuse_codec.proofs.writing.encode_reply.Goals as goal

pub returns-clause-never_silent : goal.returns-clause-never_silent
returns-clause-never_silent g c = never_silent c.args.reply.now c.args.served.now
