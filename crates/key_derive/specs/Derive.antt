-- HMAC with SHA-256 (RFC 2104) and HKDF with SHA-256 (RFC 5869).
use Rattle.std.specs.Prelude.{ℕ, zero, suc, ◌+◌, ◌-◌, ◌/◌, ◌∷◌, [], ◌++◌, List, length, map, take, replicate, bit_xor, nat_lt, if◌then◌else◌}
use Rattle.sha2.specs.Sha256.{sha256}

-- the key, or its digest where it is longer than a block of 64 bytes
abbrev pub short_key : List ℕ → List ℕ
short_key key = if nat_lt 64 (length key) then sha256 key else key

-- the key as a block, with zeros after it (RFC 2104, section 2, step 1)
abbrev pub key_block : List ℕ → List ℕ
key_block key = short_key key ++ replicate (64 - length (short_key key)) 0

-- each byte with c added, as 64 bytes of the pad c would be
abbrev pub with_each : ℕ → List ℕ → List ℕ
with_each c xs = map (λ b. bit_xor b c) xs

-- HMAC, with the inner pad 0x36 and the outer pad 0x5C (RFC 2104, section 2)
unfoldable pub hmac : List ℕ → List ℕ → List ℕ
hmac key text = sha256 (with_each 0x5C (key_block key) ++ sha256 (with_each 0x36 (key_block key) ++ text))

-- HKDF-Extract: a pseudorandom key (RFC 5869, section 2.2)
abbrev pub extract : List ℕ → List ℕ → List ℕ
extract salt key = hmac salt key

-- T(n) of HKDF-Expand: T(0) is empty, and each other is made of the one before it, the info and its
-- number (RFC 5869, section 2.3)
unfoldable pub expand_block : List ℕ → List ℕ → ℕ → List ℕ
expand_block prk info zero = []
expand_block prk info (suc n) = hmac prk (expand_block prk info n ++ info ++ suc n ∷ [])

-- T(1) to T(n), one after the other
unfoldable pub expand_blocks : List ℕ → List ℕ → ℕ → List ℕ
expand_blocks prk info zero = []
expand_blocks prk info (suc n) = expand_blocks prk info n ++ expand_block prk info (suc n)

-- HKDF-Expand to so many bytes (RFC 5869, section 2.3)
abbrev pub expand : List ℕ → List ℕ → ℕ → List ℕ
expand prk info bytes = take bytes (expand_blocks prk info ((bytes + 31) / 32))

-- HKDF (RFC 5869, section 2)
unfoldable pub hkdf : List ℕ → List ℕ → List ℕ → ℕ → List ℕ
hkdf salt key info bytes = expand (extract salt key) info bytes
