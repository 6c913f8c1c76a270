-- The bytes of a reply, from its pieces.
use Rattle.std.proofs.Common.{◌≡◌, ℕ, ◌+◌, List, [], ◌++◌, length, Some, refl, sym, ap, ◌∙◌, append_assoc, append-nil}
use Rattle.std.proofs.lemmas.List.{length-append}
use Rattle.fuse_codec.specs.declared.reply.FuseReply.{FuseReply}
use Rattle.fuse_codec.specs.declared.reply.FuseReply.TheVariants as reply
use Rattle.fuse_codec.specs.Words.{le32, le64}
use Rattle.fuse_codec.specs.Reply.{headed, attr_out_bytes, entry_bytes, opened_bytes, written_bytes, init_bytes, statfs_bytes}
use Rattle.fuse_codec.specs.Sent.{unique_of, answered, sent}
use Rattle.fuse_codec.specs.Pieces.{error_field, fixed_part, tail_of, sent_body}

-- a reply is never silent
pub never_silent : (r : FuseReply) (served : List ℕ) → answered r served ≡ Some (sent r served)
unfolding sent
never_silent (reply.Error unique errno) served = refl
never_silent other served = refl

alone : (unique error : ℕ) (x : List ℕ) → headed unique error x ≡ headed unique error (x ++ [])
alone unique error x = ap (λ (t : List ℕ). headed unique error t) (sym (append-nil x))

pub sent_as : (r : FuseReply) (served : List ℕ) → sent r served ≡ headed (unique_of r) (error_field r) (sent_body r served)
unfolding sent
sent_as (reply.Error unique errno) served = refl
sent_as (reply.Empty unique) served = refl
sent_as (reply.Entry unique entry) served = alone unique 0 (entry_bytes entry)
sent_as (reply.Attr unique attr) served = alone unique 0 (attr_out_bytes attr)
sent_as (reply.Opened unique handle) served = alone unique 0 (opened_bytes handle)
sent_as (reply.Created unique entry handle) served = alone unique 0 (entry_bytes entry ++ opened_bytes handle)
sent_as (reply.Written unique count) served = alone unique 0 (written_bytes count)
sent_as (reply.Statfs unique) served = alone unique 0 statfs_bytes
sent_as (reply.Init unique init) served = alone unique 0 (init_bytes init)
sent_as (reply.Bytes unique) served = refl
sent_as (reply.Names unique listing) served = refl

-- what was put, and the bytes behind it
pub whole : (r : FuseReply) (served : List ℕ) (l e u : ℕ) (start a b c room : List ℕ) → start ≡ [] → a ≡ start ++ le32 l → b ≡ a ++ le32 e → c ≡ b ++ le64 u → room ≡ c ++ fixed_part r
    → l ≡ 16 + length (sent_body r served) → e ≡ error_field r → u ≡ unique_of r → room ++ tail_of r served ≡ sent r served
whole r served l e u start a b c room start-is a-is b-is c-is room-is l-is e-is u-is =
    let header : c ≡ le32 (16 + length (sent_body r served)) ++ le32 (error_field r) ++ le64 (unique_of r) = rw (c-is, b-is, a-is, start-is, l-is, e-is, u-is) refl in
    ap (λ (t : List ℕ). t ++ tail_of r served) room-is ∙ append_assoc c (fixed_part r) (tail_of r served)
    ∙ ap (λ (t : List ℕ). t ++ sent_body r served) header ∙ sym (sent_as r served)

pub sent_length : (r : FuseReply) (served : List ℕ) → length (sent r served) ≡ 16 + length (sent_body r served)
sent_length r served =
    ap (λ (t : List ℕ). length t) (sent_as r served)
    ∙ length-append (le32 (16 + length (sent_body r served)) ++ le32 (error_field r) ++ le64 (unique_of r)) (sent_body r served)
