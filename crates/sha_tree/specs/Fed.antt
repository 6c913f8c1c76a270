-- What a builder was fed.
use Rattle.std.specs.Prelude.{◌≡◌, ℕ, ◌<◌, List, ◌++◌, length, map, All}
use Rattle.std.specs.List.{flat_map}
use Rattle.mg_base.specs.declared.values.Digest.{Digest}
use Rattle.sha_tree.specs.Tree.{page_hash}

-- the digests of the whole pages so far, and the bytes after them
pub record Fed : Type 0 where
  pub salt : List ℕ
  pub size : ℕ
  pub leaves : List Digest
  pub rest : List ℕ

-- whole pages with these digests, and the rest after them, make the bytes
pub record IsCut (salt : List ℕ) (leaves : List Digest) (rest bytes : List ℕ) : Type 0 where
  pub pages : List (List ℕ)
  pub whole : All (λ p. length p ≡ 4096) pages
  pub hashes : map (λ d. d.0) leaves ≡ map (page_hash salt) pages
  pub joined : flat_map (λ p. p) pages ++ rest ≡ bytes
  pub short : length rest < 4096

-- the builder was fed these bytes
pub record IsFed (fed : Fed) (bytes : List ℕ) : Type 0 where
  pub size : fed.size ≡ length bytes
  pub cut : IsCut fed.salt fed.leaves fed.rest bytes
