use Rattle.std.proofs.Common.{◌≡◌, List, ℕ, subst, Option, Result, OnOk, OnErr}
use Rattle.std.specs.Io.KnownBytes.{Appends}
use Rattle.host_traits.specs.Streams.{SomePrefix}
use Rattle.fuse_codec.specs.Sent.{sent}
use Rattle.host_traits.proofs.Prefixes.{prefix_first, prefix_second_err, appends_then_ok}
use Rattle.session_frames.proofs.Replies.{whole}
use Rattle.session_frames.proofs.reply.write_message.Goals as goal

some_at : (a b : Option (List ℕ)) (x y : List ℕ) → x ≡ y → SomePrefix a b x → SomePrefix a b y
some_at a b x y e = subst (λ (t : List ℕ). SomePrefix a b t) e

ok_at : {T E : Type 0} (r : Result T E) (a b : Option (List ℕ)) (x y : List ℕ) → x ≡ y → OnOk r (Appends a b x) → OnOk r (Appends a b y)
ok_at r a b x y e = subst (λ (t : List ℕ). OnOk r (Appends a b t)) e

err_at : {T E : Type 0} (r : Result T E) (a b : Option (List ℕ)) (x y : List ℕ) → x ≡ y → OnErr r (SomePrefix a b x) → OnErr r (SomePrefix a b y)
err_at r a b x y e = subst (λ (t : List ℕ). OnErr r (SomePrefix a b t)) e

pub returns-in-Err-clause-err : goal.returns-in-Err-clause-err
returns-in-Err-clause-err g c = some_at _ _ _ _ (whole c.args.reply.now c.args.served.now _ _ c.message_head-front.ensures c.reply_len.ensures.value) (prefix_first _ _ c.message_head-front.result (sent c.args.reply.now c.args.served.now) c.in-Err.ensures.err)

pub returns-clause-ok : goal.returns-clause-ok
returns-clause-ok g c = ok_at c.encode_reply.result _ _ _ _ (whole c.args.reply.now c.args.served.now _ _ c.message_head-front.ensures c.reply_len.ensures.value) (appends_then_ok _ _ _ c.message_head-front.result (sent c.args.reply.now c.args.served.now) c.encode_reply.result c.in-Ok.ensures.ok c.encode_reply.ensures.writes.ok)

pub returns-clause-err : goal.returns-clause-err
returns-clause-err g c = err_at c.encode_reply.result _ _ _ _ (whole c.args.reply.now c.args.served.now _ _ c.message_head-front.ensures c.reply_len.ensures.value) (prefix_second_err _ _ _ c.message_head-front.result (sent c.args.reply.now c.args.served.now) c.encode_reply.result c.in-Ok.ensures.ok c.encode_reply.ensures.writes.err)
