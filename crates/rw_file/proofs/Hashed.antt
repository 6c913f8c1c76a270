-- What is hashed for a content, and what a tree says of the contents that it stands for.
use Rattle.std.proofs.Common.{◌≡◌, ℕ, zero, suc, ◌<◌, ◌≤◌, ◌∙◌, List, [], length, Option, refl, ap, subst, arith, inl, inr}
use Rattle.mg_base.specs.declared.values.Digest.{Digest}
use Rattle.host_traits.specs.declared.calls.Call.{Call}
use Rattle.host_traits.specs.declared.calls.Call.TheVariants.{TreeRead}
use Rattle.host_traits.specs.declared.calls.Said.{Said}
use Rattle.host_traits.specs.declared.calls.Said.TheVariants.{Bytes}
use Rattle.host_traits.specs.Held.{Held}
use Rattle.host_traits.specs.Told.{Exchanges}
use Rattle.host_traits.specs.Did.{Trace, IsIn}
use Rattle.sha_tree.specs.Tree.{hash_input, page_hash, page, pages_at, block, block_count, top}
use Rattle.sha_tree.specs.Path.{IsInput, NoClash}
use Rattle.verity_path.specs.Pieces.{IsPiece, IsSeen}
use Rattle.verity_path.specs.declared.states.Mismatch.{Mismatch}
use Rattle.leaf_tree.specs.Leaves.{leaf, no_digest, tree_page, digest_at, IsPlace, IsTreeHashed}
use Rattle.leaf_tree.specs.Outcomes.{Standing, Becomes, IsTreeCall, IsTreeMismatch}
use Rattle.leaf_tree.proofs.Trees.{bytes-digest, bytes-page}
use Rattle.rw_file.specs.Contents.{digests_of, meaning, Meaning, IsFileHashed, Only}
use Rattle.rw_file.specs.Blame.{Each, IsFileMismatch}
use Rattle.rw_file.specs.Rows.{IsNow}
use Rattle.rw_file.specs.Steps.{Still}
use Rattle.rw_file.proofs.Bytes.{length-digests, get_or-digests}
use Rattle.verity_path.proofs.Order.{last_in}

-- no clash among more is none among fewer
pub apart_fewer : (P Q : List ℕ → Type 0) → ((x : List ℕ) → P x → Q x) → NoClash Q → NoClash P
apart_fewer P Q f n = λ x y px py e. n x y (f x px) (f y py) e

pub leaves_of : (content : List ℕ) (j : ℕ) → j < block_count (length content) → leaf (digests_of content) j ≡ page_hash [] (block content j)
leaves_of content j lt = ap (λ (d : Digest). d.0) (get_or-digests content j no_digest lt)

tree_page_of : (content : List ℕ) (level i : ℕ) →
    tree_page (leaf (digests_of content)) (length (digests_of content)) (suc level) i ≡ page content [] (suc level) i
tree_page_of content level i =
    ap (λ (n : ℕ). tree_page (leaf (digests_of content)) n (suc level) i) (length-digests content)
    ∙ bytes-page content (leaf (digests_of content)) (leaves_of content) level i

pub digest_of : (content : List ℕ) (level i : ℕ) → i < pages_at (block_count (length content)) level →
    digest_at (leaf (digests_of content)) (length (digests_of content)) level i ≡ page_hash [] (page content [] level i)
digest_of content level i lt =
    ap (λ (n : ℕ). digest_at (leaf (digests_of content)) n level i) (length-digests content)
    ∙ bytes-digest content (leaf (digests_of content)) (leaves_of content) level i lt

pub place_of : (content : List ℕ) (level i : ℕ) → IsPlace (length (digests_of content)) level i →
    (level ≤ top (block_count (length content))) × (i < pages_at (block_count (length content)) level)
place_of content level i p =
    (subst (λ (n : ℕ). level ≤ top n) (length-digests content) p.within, subst (λ (n : ℕ). i < pages_at n level) (length-digests content) p.there)

tree_input : (content : List ℕ) (level i : ℕ) (x : List ℕ) → IsPlace (length (digests_of content)) level i →
    x ≡ hash_input [] (tree_page (leaf (digests_of content)) (length (digests_of content)) level i) → IsInput content [] x
tree_input content zero i x p is = absurd (let a = p.above in omega arith)
tree_input content (suc level) i x p is =
    let there = place_of content (suc level) i p in
    record { level = suc level; i = i; level_in = there.0; index = there.1; is = is ∙ ap (hash_input []) (tree_page_of content level i) }

-- pieces of a part are pieces of the whole
abbrev pub IsPart : Exchanges → Exchanges → Type 0
IsPart own whole = (p : List ℕ) → IsPiece own p → IsPiece whole p

pub seen_more : (own whole : Exchanges) (x : List ℕ) → IsPart own whole → IsSeen own [] x → IsSeen whole [] x
seen_more own whole x more s = record { p = s.p; piece = more s.p s.piece; is = s.is }

-- what is hashed for the tree of a version is hashed for the file
pub tree_hashed : (IsVersion : List ℕ → Type 0) (content : List ℕ) (own whole : Exchanges) → IsVersion content → IsPart own whole → (x : List ℕ) →
    IsTreeHashed (digests_of content) own x → IsFileHashed IsVersion whole x
tree_hashed IsVersion content own whole version more x (inl p) =
    inl (record { content = content; version = version; input = tree_input content p.level p.i x p.place p.is })
tree_hashed IsVersion content own whole version more x (inr (inl z)) = inr (inl z)
tree_hashed IsVersion content own whole version more x (inr (inr s)) = inr (inr (seen_more own whole x more s))

pub file_hashed : (V W : List ℕ → Type 0) (own whole : Exchanges) → ((v : List ℕ) → V v → W v) → IsPart own whole → (x : List ℕ) →
    IsFileHashed V own x → IsFileHashed W whole x
file_hashed V W own whole so more x (inl v) = inl (record { content = v.content; version = so v.content v.version; input = v.input })
file_hashed V W own whole so more x (inr (inl z)) = inr (inl z)
file_hashed V W own whole so more x (inr (inr s)) = inr (inr (seen_more own whole x more s))

-- what holds without clashes among fewer holds without clashes among more
pub each_more : (before : Meaning) (V W : List ℕ → List ℕ → Type 0) (own whole : Exchanges) (P : List ℕ → Type 0) →
    ((c v : List ℕ) → V c v → W c v) → IsPart own whole → Each before V own P → Each before W whole P
each_more before V W own whole P so more e =
    λ c b n. e c b (apart_fewer (IsFileHashed (V c) own) (IsFileHashed (W c) whole) (file_hashed (V c) (W c) own whole (so c) more) n)

-- a tree whose lists stay stands for the contents still
pub kept_by : (size : ℕ) (stands stands2 : Standing) (file : ℕ) (x y : Option Held) (own : Exchanges) → Becomes stands stands2 x y (λ ds. ds) own →
    Still file x y →
    Each (meaning size stands) Only own (λ c. IsNow (meaning size stands) (meaning size stands2) file x y c c)
kept_by size stands stands2 file x y own b still = λ c is n.
    let k = b (digests_of c) is.tree (apart_fewer (IsTreeHashed (digests_of c) own) (IsFileHashed (Only c) own) (tree_hashed (Only c) c own own refl (λ p q. q)) n) in
    record { now = record { size_is = is.size_is; tree = k.now }; agree = still c; backed = k.backed }

level_above : (is_local : Type 0) (file a b level i : ℕ) → IsTreeCall is_local file a b (TreeRead file level i) → 0 < level
level_above is_local file a b level i c = elim c.call_is [
  | inl r ↦ let same : level ≡ c.level = cc in let p = c.place.above in omega arith
  | inr w ↦ absurd cc
]

-- a page of the tree that was heard is not that of the contents
pub tree_mismatch : (is_local : Type 0) (file size a b : ℕ) (stands : Standing) (t : Trace) (x : Mismatch) →
    ((call : Call) (said : Said) → IsIn call said t.own → IsTreeCall is_local file a b call) →
    IsTreeMismatch file stands.stands t x → IsFileMismatch file (meaning size stands) Only (λ c. c) t x
tree_mismatch is_local file size a b stands t x calls m =
    let some = level_above is_local file a b x.level x.index (calls (TreeRead file x.level x.index) (Bytes m.bytes) (last_in (TreeRead file x.level x.index) (Bytes m.bytes) t.own m.own)) in
    record {
      failed = m.failed;
      differ = m.differ;
      bytes = m.bytes;
      call = TreeRead file x.level x.index;
      page = inr (some, refl);
      own = m.own;
      found = m.found;
      expected = λ c is n.
          let there = place_of c x.level x.index (m.place (digests_of c) is.tree) in
          record {
            level_in = there.0;
            index = there.1;
            is = m.expected (digests_of c) is.tree (apart_fewer (IsTreeHashed (digests_of c) t.own) (IsFileHashed (Only c) t.own) (tree_hashed (Only c) c t.own t.own refl (λ p q. q)) n)
                ∙ digest_of c x.level x.index there.1;
          };
    }
