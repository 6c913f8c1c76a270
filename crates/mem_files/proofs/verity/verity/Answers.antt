use Rattle.std.proofs.Common.{◌≡◌, ◌∙◌, List, ℕ, length, ap, arith, if◌then◌else◌}
use Rattle.sha_tree.specs.Tree.{block_count, root}
use Rattle.verity_descriptor.specs.Spelling.{descriptor_bytes}
use Rattle.std.specs.Prelude.{replicate}
use Rattle.mem_files.specs.FsVerity.{is_tree_page}
use Rattle.mem_files.specs.Files.{page_in, stored_page}
use Rattle.mem_files.proofs.Trees.{verity_is}
use Rattle.mem_files.proofs.verity.verity.Goals as goal

pub returns : goal.returns
returns c =
    let bytes = c.args.bytes.items in
    let salt = c.args.salt in
    let came : c.deref.result.now ≡ bytes = c.deref.ensures.value in
    let built = c.in-Ok.built in
    let same : c.with.result.bytes ≡ bytes = ap (λ f. f.bytes) c.with.ensures ∙ c.whole.ensures in
    let described : c.with.result.descriptor ≡ descriptor_bytes (record { size = built.size; root = built.root; salt = salt }) =
    ap (λ f. f.descriptor) c.with.ensures ∙ c.in_ok-descriptor.ensures.items ∙ c.encode-descriptor.ensures in
    let descriptor : c.with.result.descriptor ≡ descriptor_bytes (record { size = length bytes; root = record { 0 = root bytes salt }; salt = salt }) =
    described ∙ ap (λ n. descriptor_bytes (record { size = n; root = built.root; salt = salt })) (c.in-Ok.ensures.size ∙ ap length came)
    ∙ ap (λ hash. descriptor_bytes (record { size = length bytes; root = record { 0 = hash }; salt = salt })) (c.in-Ok.ensures.root ∙ ap (λ xs. root xs salt) came) in
    let count : c.in-Some.geometry ≡ block_count (length bytes) = omega (arith, c.in-Some.ensures.value, c.div_ceil.ensures, c.in-Ok.ensures.size, ap length came) in
    let stored : c.deref-2.result.now ≡ built.stored.items = c.deref-2.ensures.value in
    verity_is bytes salt built.stored.items c.with.result same descriptor (rw came at c.in-Ok.ensures.places) (λ l i.
    ap (λ f. page_in f.pages l i) c.with.ensures ∙ c.in_ok-tree.ensures l i
    ∙ ap (λ (n : ℕ). if is_tree_page n l i then stored_page n c.deref-2.result.now l i else replicate 4096 0) count
    ∙ ap (λ (s : List ℕ). if is_tree_page (block_count (length bytes)) l i then stored_page (block_count (length bytes)) s l i else replicate 4096 0) stored)
