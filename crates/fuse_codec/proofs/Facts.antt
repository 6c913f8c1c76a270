-- Messages and replies by their bytes.
use Rattle.std.proofs.Common.{◌≡◌, ℕ, List, [], ◌∷◌, ◌++◌, refl, Some, None, Ok, Err}
use Rattle.std.specs.Prelude.{replicate}
use Rattle.mg_base.specs.declared.errno.Errno.TheVariants.{Eproto}
use Rattle.fuse_codec.specs.Message.{init, lookup, read, batch_forget, quiet, bad_length, bad_opcode, bad_sizes}
use Rattle.fuse_codec.specs.Reading.{decoded, judged, asked_in, pairs_in}
use Rattle.fuse_codec.specs.Reply.{refused, silent, created, inited, reply_bytes, attr_bytes, init_bytes}
use Rattle.fuse_codec.specs.Words.{le32, le64, zeros}

-- a header of 40 bytes
abbrev head : ℕ → ℕ → ℕ → ℕ → List ℕ
head len op unique node = le32 len ++ le32 op ++ le64 unique ++ le64 node ++ zeros 16

-- INIT 7.38 with max_readahead 131,072 and flags 0x20
init_read : decoded (head 56 26 1 0 ++ le32 7 ++ le32 38 ++ le32 131072 ++ le32 32) ≡ Ok (record { unique = 1; node = 0; asked = init 7 38 131072 32 })
unfolding decoded judged asked_in pairs_in zeros
init_read = refl

-- its reply
init_said : reply_bytes 1 (inited (record { major = 7; minor = 31; max_readahead = 131072; flags = 32; max_background = 16; congestion_threshold = 12; max_write = 131072; time_gran = 1 }))
    ≡ Some (80 ∷ 0 ∷ 0 ∷ 0 ∷ 0 ∷ 0 ∷ 0 ∷ 0 ∷ 1 ∷ 0 ∷ 0 ∷ 0 ∷ 0 ∷ 0 ∷ 0 ∷ 0
    ∷ 7 ∷ 0 ∷ 0 ∷ 0 ∷ 31 ∷ 0 ∷ 0 ∷ 0 ∷ 0 ∷ 0 ∷ 2 ∷ 0 ∷ 32 ∷ 0 ∷ 0 ∷ 0 ∷ 16 ∷ 0 ∷ 12 ∷ 0 ∷ 0 ∷ 0 ∷ 2 ∷ 0 ∷ 1 ∷ 0 ∷ 0 ∷ 0 ∷ replicate 36 0)
unfolding init_bytes zeros
init_said = refl

-- a node that was made and opened, of 1,025 bytes: three blocks of 512
created_said : reply_bytes 7 (created (record { node = 2; attr = record { ino = 2; size = 1025; mode = 33188 } }) 258)
    ≡ Some (le32 160 ++ le32 0 ++ le64 7
    ++ le64 2 ++ zeros 32
    ++ le64 2 ++ le64 1025 ++ le64 3 ++ zeros 36 ++ le32 33188 ++ le32 1 ++ zeros 12 ++ le32 4096 ++ zeros 4
    ++ le64 258 ++ zeros 8)
unfolding attr_bytes zeros
created_said = refl

-- FORGET and its kin have none
none_said : reply_bytes 7 silent ≡ None
none_said = refl

-- a refusal has the negative errno
refusal_said : reply_bytes 7 (refused Eproto) ≡ Some (16 ∷ 0 ∷ 0 ∷ 0 ∷ 185 ∷ 255 ∷ 255 ∷ 255 ∷ 7 ∷ 0 ∷ 0 ∷ 0 ∷ 0 ∷ 0 ∷ 0 ∷ 0 ∷ [])
refusal_said = refl

-- opcode 999; a length of 41 in 40 bytes; BATCH_FORGET with a count of 4,294,967,295 and no pair
other_opcode : decoded (head 40 999 3 1) ≡ Err (bad_opcode 3 999)
unfolding decoded judged zeros
other_opcode = refl

other_length : decoded (head 41 17 3 1) ≡ Err (bad_length 3)
unfolding decoded judged zeros
other_length = refl

no_pairs : decoded (head 48 42 3 1 ++ le32 4294967295 ++ le32 0) ≡ Err quiet
unfolding decoded judged asked_in pairs_in zeros
no_pairs = refl

-- READ of 131,073 bytes, and of 131,072
large_read : decoded (head 80 15 3 2 ++ le64 1 ++ le64 0 ++ le32 131073 ++ zeros 20) ≡ Err (bad_sizes 3)
unfolding decoded judged asked_in pairs_in zeros
large_read = refl

whole_read : decoded (head 80 15 3 2 ++ le64 1 ++ le64 65536 ++ le32 131072 ++ zeros 20) ≡ Ok (record { unique = 3; node = 2; asked = read 1 65536 131072 })
unfolding decoded judged asked_in pairs_in zeros
whole_read = refl

-- LOOKUP of `..`, of `a`, and of `a` without its zero byte
dots_lookup : decoded (head 43 1 3 1 ++ 46 ∷ 46 ∷ 0 ∷ []) ≡ Err (bad_sizes 3)
unfolding decoded judged asked_in pairs_in zeros
dots_lookup = refl

a_lookup : decoded (head 42 1 3 1 ++ 97 ∷ 0 ∷ []) ≡ Ok (record { unique = 3; node = 1; asked = lookup (97 ∷ []) })
unfolding decoded judged asked_in pairs_in zeros
a_lookup = refl

open_lookup : decoded (head 41 1 3 1 ++ 97 ∷ []) ≡ Err (bad_sizes 3)
unfolding decoded judged asked_in pairs_in zeros
open_lookup = refl

-- WRITE of 4,294,967,295 bytes and none, and a LOOKUP whose name has a zero in it
no_bytes : decoded (head 80 16 3 2 ++ le64 1 ++ le64 0 ++ le32 4294967295 ++ zeros 20) ≡ Err (bad_sizes 3)
unfolding decoded judged asked_in zeros
no_bytes = refl

two_zeros : decoded (head 43 1 3 1 ++ 97 ∷ 0 ∷ 0 ∷ []) ≡ Err (bad_sizes 3)
unfolding decoded judged asked_in zeros
two_zeros = refl

-- BATCH_FORGET of one pair
one_pair : decoded (head 64 42 3 0 ++ le32 1 ++ le32 0 ++ le64 2 ++ le64 5) ≡ Ok (record { unique = 3; node = 0; asked = batch_forget ((2, 5) ∷ []) })
unfolding decoded judged asked_in pairs_in zeros
one_pair = refl
