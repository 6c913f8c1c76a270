-- Sealed forms: one text each, and how long they are.
use Rattle.std.proofs.Common.{◌≡◌, ℕ, List, ◌++◌, length, length-append, take, drop, ap, sym, ◌∙◌, arith}
use Rattle.std.proofs.lemmas.List.{drop_at, take_at}
use Rattle.aes_core.proofs.Words.{length-xor_bytes}
use Rattle.aes_gcm.specs.Gcm.{seal as gcm_seal, tag, ciphertext, key_stream}
use Rattle.aes_gcm.specs.Ghash.{block_count}
use Rattle.aes_gcm.proofs.Streams.{opened_once, length-key_stream, length-tag}
use Rattle.sealed_record.specs.Sealed.{TextsAreOne, FormsAreLonger}

pub texts_are_one : TextsAreOne
texts_are_one key header salt sealed text other long s o =
    let head = header ++ salt in
    let front : s.nonce ≡ o.nonce = sym (take_at s.nonce (gcm_seal key s.nonce head text) 12 s.nonce_len) ∙ ap (take 12) (s.is ∙ sym o.is) ∙ take_at o.nonce (gcm_seal key o.nonce head other) 12 o.nonce_len in
    let mine : gcm_seal key s.nonce head text ≡ drop 12 sealed = sym (drop_at s.nonce (gcm_seal key s.nonce head text) 12 s.nonce_len) ∙ ap (drop 12) s.is in
    let its : gcm_seal key o.nonce head other ≡ drop 12 sealed = sym (drop_at o.nonce (gcm_seal key o.nonce head other) 12 o.nonce_len) ∙ ap (drop 12) o.is in
    opened_once key o.nonce head (drop 12 sealed) text other long (ap (λ (n : List ℕ). gcm_seal key n head text) (sym front) ∙ mine) its

length-cipher_text : (k n t : List ℕ) → length k ≡ 32 → length (ciphertext k n t) ≡ length t
unfolding ciphertext
length-cipher_text k n t key =
    omega (arith, length-xor_bytes t (key_stream k n 2 (block_count (length t))), length-key_stream k n 2 (block_count (length t)) key)

pub forms_are_longer : FormsAreLonger
forms_are_longer key nonce header salt text lk ln =
    let c = ciphertext key nonce text in
    let f = tag key nonce (header ++ salt) c in
    length-append nonce (c ++ f) ∙ omega (arith, ln, length-append c f, length-cipher_text key nonce text lk, length-tag key nonce (header ++ salt) c lk)
