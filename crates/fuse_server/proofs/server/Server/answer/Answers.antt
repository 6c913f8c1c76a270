use Rattle.std.proofs.Common.{refl, sym}
use Rattle.fuse_codec.specs.Reading.{decoded}
use Rattle.fuse_codec.specs.Said.{message_of}
use Rattle.fuse_server.proofs.Asking.{few_spelled}
use Rattle.fuse_server.proofs.Plain.{bad_did}
use Rattle.fuse_server.proofs.server.Server.answer.Goals as goal

pub answer_request-requires-clause-few : goal.answer_request-requires-clause-few
answer_request-requires-clause-few g c = few_spelled c.args.message.now (message_of c.in-Ok.request) (c.in-Ok.ensures.found (message_of c.in-Ok.request) refl)

pub returns-in-Err-clause-did : goal.returns-in-Err-clause-did
returns-in-Err-clause-did g c = rw c.answer_bad.ensures (bad_did c.args.self.now c.in-Err.bad _ (decoded c.args.message.now) _ (sym c.in-Err.ensures.exact))
