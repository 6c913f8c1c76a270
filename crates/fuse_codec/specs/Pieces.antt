-- Words of the contracts inside: the pieces in which a reply is put together, and what a writer does.
use Rattle.std.specs.Prelude.{◌≡◌, ℕ, ◌-◌, ◌^◌, true, List, [], ◌++◌, Option, Result, OnOk, OnErr}
use Rattle.std.specs.Io.KnownBytes.{Appends}
use Rattle.host_traits.specs.Streams.{SomePrefix}
use Rattle.mg_base.specs.Errnos.{errno_number}
use Rattle.fuse_codec.specs.declared.reply.FuseReply.{FuseReply}
use Rattle.fuse_codec.specs.declared.reply.FuseReply.TheVariants as reply
use Rattle.fuse_codec.specs.Reply.{attr_out_bytes, entry_bytes, opened_bytes, written_bytes, init_bytes, statfs_bytes}
use Rattle.fuse_codec.specs.Reading.{ends_in_name, name_in}

-- the negative error number in 32 bits, or 0
abbrev pub error_field : FuseReply → ℕ
error_field (reply.Error unique errno) = 2 ^ 32 - errno_number errno
error_field (reply.Empty unique) = 0
error_field (reply.Entry unique entry) = 0
error_field (reply.Attr unique attr) = 0
error_field (reply.Opened unique handle) = 0
error_field (reply.Created unique entry handle) = 0
error_field (reply.Written unique count) = 0
error_field (reply.Statfs unique) = 0
error_field (reply.Init unique init) = 0
error_field (reply.Bytes unique) = 0
error_field (reply.Names unique listing) = 0

-- the fields behind the header
abbrev pub fixed_part : FuseReply → List ℕ
fixed_part (reply.Error unique errno) = []
fixed_part (reply.Empty unique) = []
fixed_part (reply.Entry unique entry) = entry_bytes entry
fixed_part (reply.Attr unique attr) = attr_out_bytes attr
fixed_part (reply.Opened unique handle) = opened_bytes handle
fixed_part (reply.Created unique entry handle) = entry_bytes entry ++ opened_bytes handle
fixed_part (reply.Written unique count) = written_bytes count
fixed_part (reply.Statfs unique) = statfs_bytes
fixed_part (reply.Init unique init) = init_bytes init
fixed_part (reply.Bytes unique) = []
fixed_part (reply.Names unique listing) = []

-- and the bytes behind these: those that are served, or a listing
abbrev pub tail_of : FuseReply → List ℕ → List ℕ
tail_of (reply.Error unique errno) served = []
tail_of (reply.Empty unique) served = []
tail_of (reply.Entry unique entry) served = []
tail_of (reply.Attr unique attr) served = []
tail_of (reply.Opened unique handle) served = []
tail_of (reply.Created unique entry handle) served = []
tail_of (reply.Written unique count) served = []
tail_of (reply.Statfs unique) served = []
tail_of (reply.Init unique init) served = []
tail_of (reply.Bytes unique) served = served
tail_of (reply.Names unique listing) served = listing

abbrev pub sent_body : FuseReply → List ℕ → List ℕ
sent_body r served = fixed_part r ++ tail_of r served

-- a body that ends in this name and one zero byte
abbrev pub EndsIn : List ℕ → List ℕ → Type 0
EndsIn name body = (ends_in_name body ≡ true) × (name ≡ name_in body)

-- a call that is to write these bytes: after Ok they stand behind what was there, after Err a front part of them does
pub record Writes {T E : Type 0} (old new : Option (List ℕ)) (bytes : List ℕ) (result : Result T E) : Type 0 where
  pub ok : OnOk result (Appends old new bytes)
  pub err : OnErr result (SomePrefix old new bytes)
