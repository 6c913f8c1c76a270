use Rattle.std.proofs.Common.{◌++◌, ℕ, List, ap}
use Rattle.aes_gcm.specs.Gcm.{tag, under_stream}
use Rattle.aes_gcm.proofs.Streams.{only_text, opened_once}
use Rattle.aes_gcm.proofs.one_text_each.Goals as goal

pub returns-clause-ciphertext : goal.returns-clause-ciphertext
returns-clause-ciphertext c = λ k n x key nonce bk bx. (under_stream k n x, only_text k n x key bk bx)

pub returns-clause-tag : goal.returns-clause-tag
returns-clause-tag c = λ k n head x t e. ap (λ (l : List ℕ). l ++ tag k n head l) e

pub returns-clause-seal : goal.returns-clause-seal
returns-clause-seal c = opened_once
