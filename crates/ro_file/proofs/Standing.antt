-- What an opened file says of a content that has its digest.
use Rattle.std.proofs.Common.{◌≡◌, ℕ, zero, suc, ◌<◌, ◌≤◌, ◌∙◌, List, [], ◌∷◌, ◌++◌, length, get_or, Result, Ok, refl, sym, ap, subst, inl, inr, arith}
use Rattle.std.specs.Prelude.{nat_eq, not, false}
use Rattle.std.specs.Cmp.Lexicographic.{pointwise}
use Rattle.std.proofs.lemmas.List.{length-append, length-replicate}
use Rattle.sha2.specs.Sha256.{sha256}
use Rattle.mg_base.specs.declared.values.Digest.{Digest}
use Rattle.host_traits.specs.Told.{Exchanges}
use Rattle.host_traits.specs.Did.{Trace}
use Rattle.host_traits.proofs.Doing.{in_left, in_right}
use Rattle.sha_tree.specs.Tree.{block_count, root, page, pages_at}
use Rattle.sha_tree.specs.Path.{NoClash}
use Rattle.sha_tree.proofs.Pages.{length-page_hash}
use Rattle.verity_path.specs.Pieces.{IsHashed}
use Rattle.verity_path.proofs.Ranges.{cut_content}
use Rattle.verity_path.proofs.Blaming.{mismatch_lies}
use Rattle.verity_descriptor.specs.declared.Descriptor.{Descriptor}
use Rattle.verity_descriptor.specs.declared.DescriptorFault.{DescriptorFault}
use Rattle.verity_descriptor.specs.Spelling.{IsDescriptor, descriptor_bytes, decoded}
use Rattle.verity_descriptor.proofs.Laws.{again}
use Rattle.ro_file.specs.Files.{MeasuredFile, layout_of, file_of}
use Rattle.ro_file.specs.Opening.{WasOpened}
use Rattle.ro_file.proofs.Rules.{same_bytes, good}
use Rattle.ro_file.specs.Contents.{AreAmong, descriptor_of, IsFileMeasured, IsFileHashed, IsContentOf, IsFileContent, FilesAreMeasured, FileReadsAreSlices, FileMismatchesLie, DescriptorsOpen}

-- descriptors that are spelled alike are one
ok_same : (d e : Descriptor) (f : Result Descriptor DescriptorFault) → f ≡ Ok d → f ≡ Ok e → d ≡ e
ok_same d e f p q = cc

one_descriptor : (d e : Descriptor) → IsDescriptor d → IsDescriptor e → descriptor_bytes d ≡ descriptor_bytes e → d ≡ e
one_descriptor d e p q same = ok_same d e (decoded (descriptor_bytes d)) (again d p) (ap decoded same ∙ again e q)

-- the fourth byte says the salt's length
salt_size : (d : Descriptor) → get_or (descriptor_bytes d) 3 0 ≡ length d.salt
unfolding descriptor_bytes
salt_size d = refl

length-root : (content salt : List ℕ) → length (root content salt) ≡ 32
unfolding root
length-root [] salt = refl
length-root (b ∷ bs) salt = length-page_hash salt _

pub length-descriptor : (d : Descriptor) → IsDescriptor d → length (descriptor_bytes d) ≡ 256
unfolding descriptor_bytes
length-descriptor d h =
    let r = h.root in
    let s = h.salt in
    simp (length-append, length-replicate) (omega arith)

-- a content's descriptor that is spelled like a sound one is sound
sound_of : (digest : Digest) (d : Descriptor) (content salt : List ℕ) → IsDescriptor d → IsFileMeasured digest content salt
    → descriptor_bytes d ≡ descriptor_bytes (descriptor_of content salt) → IsDescriptor (descriptor_of content salt)
sound_of digest d content salt h m same = record {
  size = m.size;
  root = length-root content salt;
  salt = omega (arith, h.salt, salt_size d, salt_size (descriptor_of content salt), ap (λ (b : List ℕ). get_or b 3 0) same);
}

-- the file of a content's descriptor is the content's
file_is : (file : ℕ) (digest : Digest) (d : Descriptor) (content salt : List ℕ) → d ≡ descriptor_of content salt → IsContentOf (file_of file digest d) content salt
file_is file digest d content salt is = record {
  size = ap (λ (e : Descriptor). e.size) is;
  salt_is = ap (λ (e : Descriptor). e.salt) is;
  tree = record {
    blocks = sym (ap (λ (e : Descriptor). block_count e.size) is);
    root = ap (λ (s : List ℕ). root content s) (ap (λ (e : Descriptor). e.salt) is) ∙ sym (ap (λ (e : Descriptor). e.root.0) is);
  };
}

pub are_measured : FilesAreMeasured
are_measured file digest heard f content salt w c =
    let d = w.describes.descriptor in
    let h = w.describes.sound in
    let bytes : List ℕ = w.bytes in
    let theirs : List ℕ = descriptor_bytes (descriptor_of content salt) in
    let long : length bytes ≡ 256 = ap length w.describes.spelled ∙ length-descriptor d h in
    let one : sha256 bytes ≡ sha256 theirs = w.describes.digest_is ∙ sym c.measured.digest_is in
    let same : bytes ≡ theirs = c.no_clash bytes theirs (inr (inl (record { file = file; was_heard = w.was_heard; whole = long }))) (inr (inr (inr refl))) one in
    let alike : descriptor_bytes d ≡ theirs = sym w.describes.spelled ∙ same in
    let is : d ≡ descriptor_of content salt = one_descriptor d (descriptor_of content salt) h (sound_of digest d content salt h c.measured alike) alike in
    subst (λ (g : MeasuredFile). IsContentOf g content salt) (sym w.describes.file_is) (file_is file digest d content salt is)

-- what is hashed where the pages are read is hashed where the file is opened and read
pages_apart : (digest : Digest) (own heard : Exchanges) (f : MeasuredFile) (content salt : List ℕ) → AreAmong own heard → IsContentOf f content salt → IsFileContent digest heard f content salt
    → NoClash (IsHashed own content f.measure.salt)
pages_apart digest own heard f content salt among is c = λ x y hx hy. c.no_clash x y (hashed x hx) (hashed y hy) where
  hashed : (x : List ℕ) → IsHashed own content f.measure.salt x → IsFileHashed heard f.measure.salt content salt x
  hashed x (inl seen) =
      let p = seen.piece in
      inl (record { p = seen.p; piece = record { call = p.call; said = p.said; was_heard = among p.call p.said p.was_heard; piece = p.piece }; is = seen.is })
  hashed x (inr input) = inr (inr (inl (rw is.salt_is at input)))

pub reads_are_slices : FileReadsAreSlices
reads_are_slices file digest heard f content salt w c own among offset len bytes cut =
    let is = are_measured file digest heard f content salt w c in
    cut_content f.measure own content f.size offset len bytes is.tree (pages_apart digest own heard f content salt among is c) is.size cut

-- there are no pages over no blocks
no_pages : (level : ℕ) → pages_at 0 level ≡ 0
unfolding pages_at
no_pages zero = refl
no_pages (suc level) = rw (no_pages level) refl

pub some_blocks : (blocks level i : ℕ) → i < pages_at blocks level → 0 < blocks
some_blocks zero level i h = absurd (omega (arith, no_pages level))
some_blocks (suc n) level i h = omega arith

pub lies : FileMismatchesLie
lies file digest heard f content salt w c t among x m =
    let is = are_measured file digest heard f content salt w c in
    let some : 0 < f.measure.blocks = some_blocks f.measure.blocks x.level x.index m.expected.index in
    let other = mismatch_lies (layout_of f) f.measure t x content is.tree some (pages_apart digest t.heard heard f content salt among is c) m in
    λ same. other (same ∙ ap (λ (s : List ℕ). page content s x.level x.index) (sym is.salt_is))

pub open_whole : DescriptorsOpen
open_whole file digest d h few same =
    let whole : 256 ≤ length (descriptor_bytes d) = omega (arith, length-descriptor d h) in
    let passes : false ≡ not (pointwise nat_eq (sha256 (descriptor_bytes d)) digest.0) = rw (same_bytes _ _ (sym same)) refl in
    sym (good file digest (descriptor_bytes d) (descriptor_bytes d) (sha256 (descriptor_bytes d)) whole refl refl passes d h refl few)

-- a file that was opened was opened by more that was heard
pub opened_left : (file : ℕ) (digest : Digest) (x y : Exchanges) (f : MeasuredFile) → WasOpened file digest x f → WasOpened file digest (x ++ y) f
opened_left file digest x y f w = record { bytes = w.bytes; was_heard = in_left _ _ x y w.was_heard; describes = w.describes }

pub opened_right : (file : ℕ) (digest : Digest) (x y : Exchanges) (f : MeasuredFile) → WasOpened file digest y f → WasOpened file digest (x ++ y) f
opened_right file digest x y f w = record { bytes = w.bytes; was_heard = in_right _ _ x y w.was_heard; describes = w.describes }
