-- The bytes of a reply: those of what it answers.
use Rattle.std.specs.Prelude.{ℕ, List, [], Option, Some, None}
use Rattle.fuse_codec.specs.declared.reply.FuseReply.{FuseReply}
use Rattle.fuse_codec.specs.declared.reply.FuseReply.TheVariants as reply
use Rattle.fuse_codec.specs.Reply as answers
use Rattle.fuse_codec.specs.Reply.{Answer, refused, empty, attributes, opened, created, written, statfs_out, inited, bytes_out, reply_bytes}

-- the number of the message that it replies to
abbrev pub unique_of : FuseReply → ℕ
unique_of (reply.Error unique errno) = unique
unique_of (reply.Empty unique) = unique
unique_of (reply.Entry unique entry) = unique
unique_of (reply.Attr unique attr) = unique
unique_of (reply.Opened unique handle) = unique
unique_of (reply.Created unique entry handle) = unique
unique_of (reply.Written unique count) = unique
unique_of (reply.Statfs unique) = unique
unique_of (reply.Init unique init) = unique
unique_of (reply.Bytes unique) = unique
unique_of (reply.Names unique listing) = unique

-- what it answers, where these bytes are served
abbrev pub answer_of : FuseReply → List ℕ → Answer
answer_of (reply.Error unique errno) served = refused errno
answer_of (reply.Empty unique) served = empty
answer_of (reply.Entry unique entry) served = answers.entry entry
answer_of (reply.Attr unique attr) served = attributes attr
answer_of (reply.Opened unique handle) served = opened handle
answer_of (reply.Created unique entry handle) served = created entry handle
answer_of (reply.Written unique count) served = written count
answer_of (reply.Statfs unique) served = statfs_out
answer_of (reply.Init unique init) served = inited init
answer_of (reply.Bytes unique) served = bytes_out served
answer_of (reply.Names unique listing) served = bytes_out listing

-- the bytes of its answer
abbrev pub answered : FuseReply → List ℕ → Option (List ℕ)
answered r served = reply_bytes (unique_of r) (answer_of r served)

abbrev pub bytes_if : Option (List ℕ) → List ℕ
bytes_if None = []
bytes_if (Some bytes) = bytes

-- the bytes that are sent
unfoldable pub sent : FuseReply → List ℕ → List ℕ
sent r served = bytes_if (answered r served)
