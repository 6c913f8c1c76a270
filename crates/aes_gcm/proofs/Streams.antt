-- Texts under a key stream, and the parts of a tag.
use Rattle.std.proofs.Common.{◌≡◌, ℕ, zero, suc, ◌+◌, ◌-◌, ◌*◌, ◌/◌, ◌%◌, ◌<◌, ◌≤◌, List, [], ◌∷◌, ◌++◌, length, take, drop, get_or, min, replicate, bit_xor, refl, ap, sym, subst, ◌∙◌, arith}
use Rattle.std.specs.Int.{w128, to_be_bytes}
use Rattle.std.specs.Int.Bits.{xor_assoc, xor_self, xor_zero_r}
use Rattle.std.proofs.lemmas.List.{append-nil, append_assoc, drop_all, drop_at, drop-drop, drop_min, length-append, length-drop, length-replicate, length-take, take_all, take_at, take_min}
use Rattle.std.proofs.Math.Seq.{take-add}
use borrow.Rule.Slice.PartMut.{put_mid}
use Rattle.aes_core.specs.Aes.{cipher, xor_bytes}
use Rattle.aes_core.proofs.Bytes.{All-from, HasBytes, HasBytes-append, HasBytes-cipher, HasBytes-from, HasBytes-xor_bytes}
use Rattle.aes_core.proofs.Words.{length-cipher, length-xor_bytes}
use Rattle.aes_gcm.specs.Ghash.{block_count, ghash, ghash_from, padded}
use Rattle.aes_gcm.specs.Gcm.{AreBytes, IsOnlyText, ciphertext, counter_block, hash_key, key_stream, lengths, seal, tag, under_stream}
use Rattle.aes_gcm.specs.Parts.{IsUnder}
use Rattle.aes_gcm.proofs.Strings.{ghash-append, ghash-whole}

-- a list written in two parts
pub two_parts : (p q z : List ℕ) (a k : ℕ) → length p ≡ a → length z ≡ k → put_mid a k (p ++ z) q ≡ p ++ q
two_parts p q z a k ep ez =
    let post : drop k (drop a (p ++ z)) ≡ [] = ap (drop k) (drop_at p z a ep) ∙ drop_all k z (omega arith) in
    (λ i. take_at p z a ep i ++ (q ++ post i)) ∙ ap (λ (l : List ℕ). p ++ l) (append-nil q)

pub get_or-xor_bytes : (xs ys : List ℕ) (k : ℕ) → k < length xs → k < length ys
    → get_or (xor_bytes xs ys) k 0 ≡ bit_xor (get_or xs k 0) (get_or ys k 0)
get_or-xor_bytes [] ys k lx ly = absurd (omega arith)
get_or-xor_bytes (x ∷ xs) [] k lx ly = absurd (omega arith)
get_or-xor_bytes (x ∷ xs) (y ∷ ys) zero lx ly = refl
get_or-xor_bytes (x ∷ xs) (y ∷ ys) (suc k) lx ly = get_or-xor_bytes xs ys k (omega arith) (omega arith)

pub xor_bytes-append : (p q s t : List ℕ) → length p ≡ length s → xor_bytes (p ++ q) (s ++ t) ≡ xor_bytes p s ++ xor_bytes q t
xor_bytes-append [] q [] t e = refl
xor_bytes-append [] q (y ∷ s) t e = absurd (omega arith)
xor_bytes-append (x ∷ p) q [] t e = absurd (omega arith)
xor_bytes-append (x ∷ p) q (y ∷ s) t e = ap (λ (l : List ℕ). bit_xor x y ∷ l) (xor_bytes-append p q s t (omega arith))

-- to add the same bytes twice
pub xor_bytes-twice : (t s : List ℕ) → length t ≤ length s → xor_bytes (xor_bytes t s) s ≡ t
xor_bytes-twice [] s le = refl
xor_bytes-twice (x ∷ t) [] le = absurd (omega arith)
xor_bytes-twice (x ∷ t) (y ∷ s) le =
    let once : bit_xor (bit_xor x y) y ≡ x = xor_assoc x y y ∙ ap (bit_xor x) (xor_self y) ∙ xor_zero_r x in
    λ i. once i ∷ xor_bytes-twice t s (omega arith) i

pub length-key_stream : (k n : List ℕ) (i b : ℕ) → length k ≡ 32 → length (key_stream k n i b) ≡ 16 * b
unfolding key_stream
length-key_stream k n i zero e = refl
length-key_stream k n i (suc b) e =
    let before = length-key_stream k n i b e in
    let block = length-cipher k (counter_block n (i + b)) e in
    omega (arith, before, block, length-append (key_stream k n i b) (cipher k (counter_block n (i + b))))

-- one block more under the stream, or the rest of the text where it is shorter
pub stream_more : (k n xs text part block : List ℕ) (i e : ℕ)
    → length (key_stream k n 2 i) ≡ 16 * i → 16 * i < length xs → e ≡ min (16 * i + 16) (length xs)
    → text ≡ xor_bytes (take (16 * i) xs) (key_stream k n 2 i) ++ drop (16 * i) xs
    → block ≡ cipher k (counter_block n (i + 2))
    → part ≡ xor_bytes (take (e - 16 * i) (drop (16 * i) text)) block
    → put_mid (16 * i) (e - 16 * i) text part ≡ xor_bytes (take (16 * (i + 1)) xs) (key_stream k n 2 (i + 1)) ++ drop (16 * (i + 1)) xs
unfolding key_stream
stream_more k n xs text part block i e ls lt ee et eb ep =
    let s = key_stream k n 2 i in
    let p = take (16 * i) xs in
    let w = xor_bytes p s in
    let d = drop (16 * i) xs in
    let m : ℕ = e - 16 * i in
    let lp : length p ≡ 16 * i = omega (arith, length-take (16 * i) xs) in
    let lw : length w ≡ 16 * i = omega (arith, length-xor_bytes p s) in
    let ld : length d ≡ length xs - 16 * i = length-drop (16 * i) xs in
    let em : m ≡ min 16 (length d) = omega arith in
    let front : take (16 * i) text ≡ w = ap (take (16 * i)) et ∙ take_at w d (16 * i) lw in
    let back : drop (16 * i) text ≡ d = ap (drop (16 * i)) et ∙ drop_at w d (16 * i) lw in
    let tm : take 16 d ≡ take m d = sym (take_min 16 d) ∙ ap (λ (j : ℕ). take j d) (sym em) in
    let dm : drop 16 d ≡ drop m d = sym (drop_min 16 d) ∙ ap (λ (j : ℕ). drop j d) (sym em) in
    let ei : 16 * (i + 1) ≡ 16 * i + 16 = omega arith in
    let tx : take (16 * (i + 1)) xs ≡ p ++ take m d = ap (λ (j : ℕ). take j xs) ei ∙ take-add (16 * i) 16 xs ∙ ap (λ (l : List ℕ). p ++ l) tm in
    let dx : drop (16 * (i + 1)) xs ≡ drop m d = ap (λ (j : ℕ). drop j xs) ei ∙ sym (drop-drop 16 (16 * i) xs) ∙ dm in
    let es : i + 1 ≡ suc i = omega arith in
    let e2 : i + 2 ≡ 2 + i = omega arith in
    let kx : key_stream k n 2 (i + 1) ≡ s ++ block = ap (key_stream k n 2) es ∙ ap (λ (l : List ℕ). s ++ l) (ap (λ (j : ℕ). cipher k (counter_block n j)) (sym e2) ∙ sym eb) in
    let mid : part ≡ xor_bytes (take m d) block = ep ∙ ap (λ (l : List ℕ). xor_bytes (take m l) block) back in
    (λ j. front j ++ (mid j ++ drop m (back j)))
    ∙ sym (append_assoc w (xor_bytes (take m d) block) (drop m d))
    ∙ ap (λ (l : List ℕ). l ++ drop m d) (sym (xor_bytes-append p (take m d) s block (omega arith)))
    ∙ sym (λ j. xor_bytes (tx j) (kx j) ++ dx j)

-- the whole text under the stream
pub stream_all : (k n xs text : List ℕ) (i : ℕ) → i ≡ block_count (length xs)
    → text ≡ xor_bytes (take (16 * i) xs) (key_stream k n 2 i) ++ drop (16 * i) xs → text ≡ under_stream k n xs
stream_all k n xs text i ei et =
    et ∙ (λ j. xor_bytes (take_all (16 * i) xs (omega arith) j) (key_stream k n 2 (ei j)) ++ drop_all (16 * i) xs (omega arith) j)
    ∙ append-nil (under_stream k n xs)

-- a text under the stream twice
pub stream_twice : (k n c : List ℕ) → length k ≡ 32 → under_stream k n (under_stream k n c) ≡ c
stream_twice k n c e =
    let s = key_stream k n 2 (block_count (length c)) in
    let ls = length-key_stream k n 2 (block_count (length c)) e in
    let lt : length (under_stream k n c) ≡ length c = omega (arith, ls, length-xor_bytes c s) in
    ap (λ (j : ℕ). xor_bytes (under_stream k n c) (key_stream k n 2 (block_count j))) lt ∙ xor_bytes-twice c s (omega arith)

pub length-padded : (xs : List ℕ) → length (padded xs) ≡ 16 * block_count (length xs)
length-padded xs =
    let zeros : ℕ = (16 - length xs % 16) % 16 in
    omega (arith, length-append xs (replicate zeros 0), length-replicate {A = ℕ} zeros 0)

-- GHASH of head, ciphertext and lengths, part by part
pub ghash-parts : (h : ℕ) (a c l : List ℕ) → length l ≡ 16
    → ghash_from h (ghash_from h (ghash_from h 0 (padded a) (block_count (length a))) (padded c) (block_count (length c))) (padded l) (block_count (length l))
    ≡ ghash h (padded a ++ padded c ++ l)
ghash-parts h a c l e =
    let m : ℕ = block_count (length a) in
    let n : ℕ = block_count (length c) in
    let la = length-padded a in
    let lc = length-padded c in
    let lb = length-append (padded a) (padded c) in
    let lall = length-append (padded a ++ padded c) l in
    let both : length (padded a ++ padded c) ≡ 16 * (m + n) = omega arith in
    let count : m + n + 1 ≡ length (padded a ++ padded c ++ l) / 16 = omega arith in
    let y = ghash_from h (ghash_from h 0 (padded a) m) (padded c) n in
    sym (ghash-whole h y l 1 (ghash_from h y l 1) (omega arith) refl)
    ∙ ap (λ (z : ℕ). ghash_from h z l 1) (sym (ghash-append h 0 (padded a) (padded c) m n la))
    ∙ sym (ghash-append h 0 (padded a ++ padded c) l (m + n) 1 both)
    ∙ ap (ghash_from h 0 (padded a ++ padded c ++ l)) count

-- the stream's length, from its blocks
pub length-key_stream_more : (k n block : List ℕ) (i : ℕ) → length (key_stream k n 2 i) ≡ 16 * i
    → block ≡ cipher k (counter_block n (i + 2)) → length block ≡ 16 → length (key_stream k n 2 (i + 1)) ≡ 16 * (i + 1)
unfolding key_stream
length-key_stream_more k n block i before is long =
    let es : i + 1 ≡ suc i = omega arith in
    let e2 : i + 2 ≡ 2 + i = omega arith in
    let last : length (cipher k (counter_block n (2 + i))) ≡ 16 =
    ap length (sym (is ∙ ap (λ (j : ℕ). cipher k (counter_block n j)) e2)) ∙ long in
    ap (λ (j : ℕ). length (key_stream k n 2 j)) es
    ∙ length-append (key_stream k n 2 i) (cipher k (counter_block n (2 + i))) ∙ omega arith

-- a step of one block
pub IsUnder-more : (k n xs text part block : List ℕ) (i e : ℕ) → IsUnder k n xs text i → length block ≡ 16
    → 16 * i < length xs → e ≡ min (16 * i + 16) (length xs) → block ≡ cipher k (counter_block n (i + 2))
    → part ≡ xor_bytes (take (e - 16 * i) (drop (16 * i) text)) block
    → IsUnder k n xs (put_mid (16 * i) (e - 16 * i) text part) (i + 1)
IsUnder-more k n xs text part block i e h long lt ee eb ep =
    (length-key_stream_more k n block i h.0 eb long, stream_more k n xs text part block i e h.0 lt ee h.1 eb ep)

-- the same at a place and an end that are written otherwise
pub IsUnder-at : (k n xs text part block : List ℕ) (i at e : ℕ) → at ≡ 16 * i → IsUnder k n xs text i → length block ≡ 16
    → at < length xs → e ≡ min (at + 16) (length xs) → block ≡ cipher k (counter_block n (i + 2))
    → part ≡ xor_bytes (take (e - at) (drop at text)) block
    → IsUnder k n xs (put_mid at (e - at) text part) (i + 1)
IsUnder-at k n xs text part block i at e place h long lt ee eb ep =
    let P : ℕ → Type 0 = λ a. a < length xs → e ≡ min (a + 16) (length xs) → part ≡ xor_bytes (take (e - a) (drop a text)) block
    → IsUnder k n xs (put_mid a (e - a) text part) (i + 1) in
    subst P (sym place) (λ lt2 ee2 ep2. IsUnder-more k n xs text part block i e h long lt2 ee2 eb ep2) lt ee ep

pub IsUnder-count : (k n xs text : List ℕ) (i j : ℕ) → i ≡ j → IsUnder k n xs text i → IsUnder k n xs text j
IsUnder-count k n xs text i j e h = let P : ℕ → Type 0 = λ a. IsUnder k n xs text a in subst P e h

pub length-tag : (k n a c : List ℕ) → length k ≡ 32 → length (tag k n a c) ≡ 16
unfolding tag
length-tag k n a c e =
    length-xor_bytes (to_be_bytes w128 (ghash (hash_key k) (padded a ++ padded c ++ lengths a c))) (cipher k (counter_block n 1))
    ∙ ap (min 16) (length-cipher k (counter_block n 1) e)

-- what opens has its ciphertext and tag
opens_parts : (k n a c f t : List ℕ) → length k ≡ 32 → length f ≡ 16 → seal k n a t ≡ c ++ f
    → (ciphertext k n t ≡ c) × (tag k n a (ciphertext k n t) ≡ f)
opens_parts k n a c f t e lf eq =
    let ct = ciphertext k n t in
    let tg = tag k n a ct in
    let lt = length-tag k n a ct e in
    let all = ap length eq in
    let lc : length ct ≡ length c = omega (arith, all, lt, lf, length-append ct tg, length-append c f) in (
      sym (take_at ct tg (length c) lc) ∙ ap (take (length c)) eq ∙ take_at c f (length c) refl,
      sym (drop_at ct tg (length c) lc) ∙ ap (drop (length c)) eq ∙ drop_at c f (length c) refl,
    )

pub opens_tag : (k n a c f t : List ℕ) → length k ≡ 32 → length f ≡ 16 → seal k n a t ≡ c ++ f → tag k n a c ≡ f
opens_tag k n a c f t e lf eq =
    let parts = opens_parts k n a c f t e lf eq in
    ap (tag k n a) (sym parts.0) ∙ parts.1

length-under : (k n t : List ℕ) → length k ≡ 32 → length (under_stream k n t) ≡ length t
length-under k n t e =
    let s = key_stream k n 2 (block_count (length t)) in
    omega (arith, length-key_stream k n 2 (block_count (length t)) e, length-xor_bytes t s)

-- a ciphertext is that of one text
HasBytes-key_stream : (k n : List ℕ) (i b : ℕ) → HasBytes k → HasBytes (key_stream k n i b)
unfolding key_stream
HasBytes-key_stream k n i zero h = tt
HasBytes-key_stream k n i (suc b) h =
    HasBytes-append (key_stream k n i b) (cipher k (counter_block n (i + b))) (HasBytes-key_stream k n i b h) (HasBytes-cipher k (counter_block n (i + b)) h)

pub only_text : (k n c : List ℕ) → length k ≡ 32 → AreBytes k → AreBytes c → IsOnlyText k n c (under_stream k n c)
unfolding ciphertext
only_text k n c e bk bc =
    let s = key_stream k n 2 (block_count (length c)) in
    let stream = HasBytes-key_stream k n 2 (block_count (length c)) (HasBytes-from k bk) in record {
      bytes = All-from (under_stream k n c) (HasBytes-xor_bytes c s (HasBytes-from c bc) stream);
      sealed = stream_twice k n c e;
      only = λ u eq. sym (stream_twice k n u e) ∙ ap (under_stream k n) eq;
    }

-- the texts of one seal are one
pub opened_once : (k n a b t u : List ℕ) → length k ≡ 32 → seal k n a t ≡ b → seal k n a u ≡ b → t ≡ u
unfolding ciphertext
opened_once k n a b t u e et eu =
    let same = et ∙ sym eu in
    let cu = under_stream k n u in
    let parts = opens_parts k n a cu (tag k n a cu) t e (length-tag k n a cu e) same in
    sym (stream_twice k n t e) ∙ ap (under_stream k n) parts.0 ∙ stream_twice k n u e
