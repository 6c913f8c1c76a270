-- The tree written out, and the digest of a file.
use Rattle.std.proofs.Common.{◌≡◌, ℕ, ◌≤◌, ◌∙◌, List, [], length, Result, Ok, Err, ap, subst, arith}
use Rattle.sha2.specs.Sha256.{sha256}
use Rattle.mg_base.specs.declared.values.Digest.{Digest}
use Rattle.host_traits.specs.Told.{Told, heard_of}
use Rattle.leaf_tree.specs.Worked.{Worked, HandsPage}
use Rattle.leaf_tree.proofs.Working.{worked_as, worked_so}
use Rattle.sha_tree.specs.Tree.{block_count, root}
use Rattle.verity_path.specs.declared.walk.WalkFault.{WalkFault}
use Rattle.verity_descriptor.specs.declared.Descriptor.{Descriptor}
use Rattle.verity_descriptor.specs.Spelling.{descriptor_bytes}
use Rattle.leaf_tree.specs.Leaves.{leaf, tree_root}
use Rattle.leaf_tree.specs.Outcomes.{Standing, IsTreeCall, TreeOutcome}
use Rattle.leaf_tree.proofs.Trees.{bytes-root}
use Rattle.rw_file.specs.Contents.{IsContent, meaning, digests_of, described}
use Rattle.rw_file.specs.Rows.{because, IsKept, SyncOutcome}
use Rattle.rw_file.proofs.Bytes.{length-digests}
use Rattle.rw_file.proofs.Holding.{still_trees}
use Rattle.rw_file.proofs.Hashed.{kept_by, leaves_of}
use Rattle.rw_file.proofs.Bringing.{tree_kept}
use Rattle.rw_file.proofs.Serving.{says_because}

module _ (is_local : Type 0) (file size count : ℕ) (same : count ≡ block_count size) (stands stands2 : Standing) (x y : Told) where
  at_size : (r : Result (Unit {0}) WalkFault) →
      Worked HandsPage 0 (IsTreeCall is_local file count count) 0 x y (TreeOutcome file (IsTreeCall is_local file count count) stands stands2 x.held y.held (λ ds. ds) r) →
      Worked HandsPage 0 (IsTreeCall is_local file (block_count size) (block_count size)) 0 x y (TreeOutcome file (IsTreeCall is_local file (block_count size) (block_count size)) stands stands2 x.held y.held (λ ds. ds) r)
  at_size r d = subst (λ (n : ℕ). Worked HandsPage 0 (IsTreeCall is_local file n n) 0 x y (TreeOutcome file (IsTreeCall is_local file n n) stands stands2 x.held y.held (λ ds. ds) r)) same d

  pub sync_bad : (w : WalkFault) → (is_local → ⊥) →
      Worked HandsPage 0 (IsTreeCall is_local file count count) 0 x y (TreeOutcome file (IsTreeCall is_local file count count) stands stands2 x.held y.held (λ ds. ds) (Err w)) →
      Worked HandsPage 0 (IsTreeCall is_local file (block_count size) (block_count size)) 0 x y (SyncOutcome is_local file size (IsTreeCall is_local file (block_count size) (block_count size)) (meaning size stands) (meaning size stands2) x.held y.held (Err (because w)))
  sync_bad w far d =
      worked_so _ _ _ _ _ _ x y _ _ (tree_kept is_local file size (block_count size) (block_count size) 0 0 (IsTreeCall is_local file (block_count size) (block_count size)) stands stands2 (λ ds. ds) x y w far (omega arith) (λ call c. c) (at_size (Err w) d))
      (λ call c. c) (omega arith) (λ t q. says_because (IsKept is_local file (IsTreeCall is_local file (block_count size) (block_count size)) [] (meaning size stands) (meaning size stands2) x.held y.held t) _ _ w q)

  pub sync_ok : (u : Unit {0}) →
      Worked HandsPage 0 (IsTreeCall is_local file count count) 0 x y (TreeOutcome file (IsTreeCall is_local file count count) stands stands2 x.held y.held (λ ds. ds) (Ok u)) →
      Worked HandsPage 0 (IsTreeCall is_local file (block_count size) (block_count size)) 0 x y (SyncOutcome is_local file size (IsTreeCall is_local file (block_count size) (block_count size)) (meaning size stands) (meaning size stands2) x.held y.held (Ok u))
  sync_ok u d =
      let e = at_size (Ok u) d in
      worked_as _ _ _ _ 0 0 x y _ _ e (λ call c. c) (omega arith) (e.outcome.0, kept_by size stands stands2 file x.held y.held (heard_of e.own) e.outcome.1 (still_trees is_local file (block_count size) (block_count size) 0 x y _ e))

pub digest_is : (size : ℕ) (stands : List Digest → Type 0) (top salt digest : List ℕ) → size ≤ 4294967296 →
    ((ds : List Digest) → stands ds → top ≡ tree_root (leaf ds) (length ds)) → salt ≡ [] →
    digest ≡ sha256 (descriptor_bytes (let d : Descriptor = record { size = size; root = record { 0 = top }; salt = salt } in d)) →
    (content : List ℕ) → IsContent size stands content → digest ≡ sha256 (descriptor_bytes (described content))
digest_is size stands top salt digest few tree none is content c =
    let long : length content ≤ 4294967296 = omega (arith, few, c.size_is) in
    let whole : top ≡ root content [] = tree (digests_of content) c.tree ∙ ap (tree_root (leaf (digests_of content))) (length-digests content) ∙ bytes-root content (leaf (digests_of content)) (leaves_of content) long in
    is
    ∙ ap (λ (s : ℕ). sha256 (descriptor_bytes (let d : Descriptor = record { size = s; root = record { 0 = top }; salt = salt } in d))) c.size_is
    ∙ ap (λ (r : List ℕ). sha256 (descriptor_bytes (let d : Descriptor = record { size = length content; root = record { 0 = r }; salt = salt } in d))) whole
    ∙ ap (λ (z : List ℕ). sha256 (descriptor_bytes (let d : Descriptor = record { size = length content; root = record { 0 = root content [] }; salt = z } in d))) none
