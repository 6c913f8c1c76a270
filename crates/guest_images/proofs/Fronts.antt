-- A file that is read chunk by chunk.
use Rattle.std.proofs.Common.{◌≡◌, ◌≤◌, ◌<◌, ◌+◌, ◌^◌, ◌∙◌, ℕ, List, [], ◌++◌, length, take, drop, min, refl, ap, sym, subst, arith, inl, inr, Option, Some, None}
use Rattle.std.proofs.lemmas.List.{length-append, length-take, take_all, take_min, take-append-drop}
use Rattle.sha_tree.specs.Fed.{Fed, IsFed}
use Rattle.sha_tree.proofs.Cuts.{take-more}
use Rattle.host_traits.specs.Folders.{Files}
use Rattle.guest_files.specs.Files.{IsThere, Passes}
use Rattle.guest_images.specs.Feeding.{IsChunk, Begins, IsFedTo, IsFedFile}

-- what is cut behind so many bytes is cut behind as many as it has
own : (m : ℕ) (xs chunk : List ℕ) → chunk ≡ take m xs → chunk ≡ take (length chunk) xs
own m xs chunk is =
    let len : min m (length xs) ≡ length chunk = sym (ap length is ∙ length-take m xs) in
    is ∙ sym (take_min m xs) ∙ ap (λ (k : ℕ). take k xs) len

-- a chunk that is shorter than it might be is all
short : (m : ℕ) (xs chunk : List ℕ) → chunk ≡ take m xs → length chunk < m → chunk ≡ xs
short m xs chunk is less =
    let len : length chunk ≡ min m (length xs) = ap length is ∙ length-take m xs in
    is ∙ take_all m xs (omega (arith, len, less))

-- the first bytes, and those behind them
joined : (m : ℕ) (content bytes chunk : List ℕ) → bytes ≡ take (length bytes) content → chunk ≡ take m (drop (length bytes) content) → bytes ++ chunk ≡ take (length (bytes ++ chunk)) content
joined m content bytes chunk front is =
    let n = length bytes in
    let more : bytes ++ chunk ≡ take (n + length chunk) content =
    ap (λ (b : List ℕ). b ++ chunk) front ∙ ap (λ (p : List ℕ). take n content ++ p) (own m (drop n content) chunk is) ∙ sym (take-more content n (length chunk)) in
    subst (λ (k : ℕ). bytes ++ chunk ≡ take k content) (sym (length-append bytes chunk)) more

-- no bytes are the first ones
none_yet : (content bytes : List ℕ) → bytes ≡ [] → bytes ≡ take (length bytes) content
none_yet content bytes none = subst (λ (b : List ℕ). b ≡ take (length b) content) (sym none) refl

same_content : (a b : List ℕ) → Some a ≡ Some b → a ≡ b
same_content a b e = cc

-- those that were read are the first ones of the file that a chunk is of
the_front : (files : Files) (name bytes content : List ℕ) → Begins (Some files) name bytes → files name ≡ Some content → bytes ≡ take (length bytes) content
the_front files name bytes content (inl none) there = none_yet content bytes none
the_front files name bytes content (inr front) there =
    subst (λ (o : List ℕ). bytes ≡ take (length bytes) o) (same_content front.0 content (sym front.1 ∙ there)) front.2

pub front_then : (files : Option Files) (name bytes chunk : List ℕ) → Begins files name bytes → IsChunk files name (length bytes) chunk → Begins files name (bytes ++ chunk)
front_then None name bytes chunk front is = tt
front_then (Some files) name bytes chunk front is =
    inr (is.0, is.1, joined (2 ^ 20) is.0 bytes chunk (the_front files name bytes is.0 front is.1) is.2)

pub whole_there : (files : Option Files) (name bytes chunk : List ℕ) → Begins files name bytes → IsChunk files name (length bytes) chunk → length chunk < 2 ^ 20 → IsThere files name (bytes ++ chunk)
whole_there None name bytes chunk front is less = tt
whole_there (Some files) name bytes chunk front is less =
    let n = length bytes in
    let all : bytes ++ chunk ≡ is.0 =
    ap (λ (b : List ℕ). b ++ chunk) (the_front files name bytes is.0 front is.1) ∙ ap (λ (p : List ℕ). take n is.0 ++ p) (short (2 ^ 20) (drop n is.0) chunk is.2 less) ∙ take-append-drop n is.0 in
    is.1 ∙ ap (λ (c : List ℕ). Some c) (sym all)

pub front_passes : (files : Option Files) (name bytes : List ℕ) → Begins files name bytes → 2 ^ 30 < length bytes → Passes files name 0
front_passes None name bytes front past = record { content = bytes; there = tt; past = inl past }
front_passes (Some files) name bytes (inl none) past = let len : length bytes ≡ 0 = ap length none in absurd (omega (arith, len, past))
front_passes (Some files) name bytes (inr front) past =
    let len : length bytes ≡ min (length bytes) (length front.0) = ap length front.2 ∙ length-take (length bytes) front.0 in
    record { content = front.0; there = front.1; past = inl (omega (arith, len, past)) }

-- a builder that was fed one chunk more
pub fed_then : (files : Option Files) (name chunk : List ℕ) (at len : ℕ) (old new : Fed) → IsFedTo files name at old → IsChunk files name at chunk → len ≡ length chunk → ((before : List ℕ) → IsFed old before → IsFed new (before ++ chunk))
    → IsFedTo files name (at + len) new
fed_then files name chunk at len old new f is long feed =
    let count = f.count in
    record {
      bytes = f.bytes ++ chunk;
      fed = feed f.bytes f.fed;
      count = omega (arith, count, long, length-append f.bytes chunk);
      front = front_then files name f.bytes chunk f.front (subst (λ (n : ℕ). IsChunk files name n chunk) (sym count) is);
    }

-- and that one was the last
pub fed_whole : (files : Option Files) (name chunk : List ℕ) (at len : ℕ) (old new : Fed) → IsFedTo files name at old → IsChunk files name at chunk → len ≡ length chunk → ((before : List ℕ) → IsFed old before → IsFed new (before ++ chunk))
    → len < 2 ^ 20 → at + len ≤ 2 ^ 30 → IsFedFile files name new
fed_whole files name chunk at len old new f is long feed less few =
    let count = f.count in
    record {
      content = f.bytes ++ chunk;
      input = record {
        there = whole_there files name f.bytes chunk f.front (subst (λ (n : ℕ). IsChunk files name n chunk) (sym count) is) (omega (arith, long, less));
        few = omega (arith, count, long, few, length-append f.bytes chunk);
      };
      fed = feed f.bytes f.fed;
    }
