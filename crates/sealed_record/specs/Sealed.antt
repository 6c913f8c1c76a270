-- Sealed forms of texts: a nonce of 12 bytes, a ciphertext and a tag of 16 bytes, under AES-256-GCM (NIST SP 800-38D). The
-- associated data is a header of 512 bytes and a salt of 64.
use Rattle.std.specs.Prelude.{◌≡◌, ℕ, ◌+◌, ◌-◌, ◌≤◌, List, ◌++◌, length, take, drop}
use Rattle.aes_gcm.specs.Gcm.{seal, tag}

-- the sealed form of a text under a key: the nonce, and what sealing gives with the associated data
abbrev pub sealed_form : List ℕ → List ℕ → List ℕ → List ℕ → List ℕ → List ℕ
sealed_form key nonce header salt text = nonce ++ seal key nonce (header ++ salt) text

-- this is the sealed form of the text, with a nonce of 12 bytes
pub record IsSealed (key header salt sealed text : List ℕ) : Type 0 where
  pub nonce : List ℕ
  pub nonce_len : length nonce ≡ 12
  pub is : sealed_form key nonce header salt text ≡ sealed

-- the parts of a sealed form: its nonce, its ciphertext and its tag
abbrev pub nonce_in : List ℕ → List ℕ
nonce_in sealed = take 12 sealed

abbrev pub cipher_in : List ℕ → List ℕ
cipher_in sealed = take (length sealed - 28) (drop 12 sealed)

abbrev pub tag_in : List ℕ → List ℕ
tag_in sealed = drop (length sealed - 16) sealed

-- the tag that its nonce and its ciphertext have under the key and the associated data
abbrev pub right_tag : List ℕ → List ℕ → List ℕ → List ℕ
right_tag key head sealed = tag key (nonce_in sealed) head (cipher_in sealed)

-- the same with a header and a salt
abbrev pub tag_for : List ℕ → List ℕ → List ℕ → List ℕ → List ℕ
tag_for key header salt sealed = right_tag key (header ++ salt) sealed

-- how many bytes a sealed form has: those of a text of at most 65,536, and 28 more
pub record IsSealedLength (n : ℕ) : Type 0 where
  pub least : 28 ≤ n
  pub most : n ≤ 65564

-- Under one key, header and salt this is the sealed form of one text.
abbrev pub TextsAreOne : Type 0
TextsAreOne = (key header salt sealed text other : List ℕ) → length key ≡ 32 →
    IsSealed key header salt sealed text → IsSealed key header salt sealed other → text ≡ other

-- A sealed form has 28 bytes more than its text.
abbrev pub FormsAreLonger : Type 0
FormsAreLonger = (key nonce header salt text : List ℕ) → length key ≡ 32 → length nonce ≡ 12 →
    length (sealed_form key nonce header salt text) ≡ 28 + length text
