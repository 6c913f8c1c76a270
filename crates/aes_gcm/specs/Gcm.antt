-- AES-256-GCM with a nonce of 96 bits and a tag of 128 (SP 800-38D, sections 6.5 and 7).
use Rattle.std.specs.Prelude.{◌≡◌, ℕ, zero, suc, ◌+◌, ◌*◌, ◌<◌, List, [], ◌++◌, length, replicate}
use Rattle.std.specs.List.{All}
use Rattle.std.specs.Int.{w32, w64, w128, from_be_bytes, to_be_bytes}
use Rattle.aes_core.specs.Aes.{cipher, xor_bytes}
use Rattle.aes_gcm.specs.Ghash.{block_count, ghash, padded}

-- the counter block with this nonce and number: the nonce, and the number in 32 bits
abbrev pub counter_block : List ℕ → ℕ → List ℕ
counter_block n i = n ++ to_be_bytes w32 i

-- the blocks of the key stream from number i on, b of them (6.5)
unfoldable pub key_stream : List ℕ → List ℕ → ℕ → ℕ → List ℕ
key_stream k n i zero = []
key_stream k n i (suc b) = key_stream k n i b ++ cipher k (counter_block n (i + b))

-- a text under the key stream from number 2 on (6.5, and 7.1, step 3)
abbrev pub under_stream : List ℕ → List ℕ → List ℕ → List ℕ
under_stream k n t = xor_bytes t (key_stream k n 2 (block_count (length t)))

-- the lengths of head and ciphertext, in bits
abbrev pub lengths : List ℕ → List ℕ → List ℕ
lengths a c = to_be_bytes w64 (8 * length a) ++ to_be_bytes w64 (8 * length c)

-- the hash subkey H (7.1, step 1)
abbrev pub hash_key : List ℕ → ℕ
hash_key k = from_be_bytes w128 (cipher k (replicate 16 0))

-- the tag of a head and a ciphertext (7.1, steps 5 and 6)
unfoldable pub tag : List ℕ → List ℕ → List ℕ → List ℕ → List ℕ
tag k n a c = xor_bytes (to_be_bytes w128 (ghash (hash_key k) (padded a ++ padded c ++ lengths a c))) (cipher k (counter_block n 1))

-- the ciphertext of a text (7.1, step 3)
unfoldable pub ciphertext : List ℕ → List ℕ → List ℕ → List ℕ
ciphertext k n t = under_stream k n t

-- what sealing gives: the ciphertext, then the tag (7.1)
abbrev pub seal : List ℕ → List ℕ → List ℕ → List ℕ → List ℕ
seal k n a t = ciphertext k n t ++ tag k n a (ciphertext k n t)

-- the text t seals to b
abbrev pub Opens : List ℕ → List ℕ → List ℕ → List ℕ → List ℕ → Type 0
Opens k n a b t = seal k n a t ≡ b

-- each is a number below 256
abbrev pub AreBytes : List ℕ → Type 0
AreBytes xs = All (λ b. b < 256) xs

-- c is the ciphertext of the text t, and of no other
pub record IsOnlyText (k n c t : List ℕ) : Type 0 where
  pub bytes : AreBytes t
  pub sealed : ciphertext k n t ≡ c
  pub only : (u : List ℕ) → ciphertext k n u ≡ c → u ≡ t
