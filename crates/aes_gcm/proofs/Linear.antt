-- Products of blocks are linear in both arguments, and a product with shifted v is the shifted product.
use Rattle.std.proofs.Common.{◌≡◌, ℕ, zero, suc, ◌+◌, ◌-◌, ◌*◌, ◌/◌, ◌%◌, ◌^◌, ◌<◌, ◌≤◌, bit_and, bit_xor, ◌≢◌, List, slice_index, refl, ap, sym, ◌∙◌, arith, inl, inr, ◌⊎◌}
use Rattle.std.specs.Int.{bit_at}
use Rattle.std.specs.Int.Bits.{xor_assoc, xor_self, xor_zero_l, xor_zero_r}
use Rattle.std.proofs.Math.Nat.{two-pow-succ}
use Rattle.std.proofs.lemmas.Bool.{cases_lt}
use Rattle.std.proofs.lemmas.Nat.{pow_pos, xor_block, xor_comm, xor_shr, shr-shr, shr_split}
use Rattle.std.proofs.lemmas.Nat.Bits.{bit_at_lowest, bit_at_xor, bit_at-lt, bit_at_cat_low, shr_and_one}
use Rattle.aes_gcm.specs.Ghash.{selected, shifted, product_steps}
use Rattle.aes_gcm.specs.Parts.{shifts}

-- the sum of two sums, by their first and their second parts
pub xor_swap : (a b c d : ℕ) → bit_xor (bit_xor a b) (bit_xor c d) ≡ bit_xor (bit_xor a c) (bit_xor b d)
xor_swap a b c d =
    xor_assoc a b (bit_xor c d)
    ∙ ap (bit_xor a) (sym (xor_assoc b c d) ∙ ap (λ (x : ℕ). bit_xor x d) (xor_comm b c) ∙ xor_assoc c b d)
    ∙ sym (xor_assoc a c (bit_xor b d))

bit_cases : (b : ℕ) → b < 2 → (b ≡ 0) ⊎ (b ≡ 1)
bit_cases zero lt = inl refl
bit_cases (suc zero) lt = inr refl
bit_cases (suc (suc b)) lt = absurd (omega arith)

selected_sum : (a b v : ℕ) → a < 2 → b < 2 → selected ((a + b) % 2) v ≡ bit_xor (selected a v) (selected b v)
selected_sum a b v la lb = elim (bit_cases a la) [
  | inl ea ↦ elim (bit_cases b lb) [
    | inl eb ↦ rw (ea, eb) refl
    | inr eb ↦ rw (ea, eb) refl
  ]
  | inr ea ↦ elim (bit_cases b lb) [
    | inl eb ↦ rw (ea, eb) (sym (xor_zero_r v))
    | inr eb ↦ rw (ea, eb) (sym (xor_self v))
  ]
]

selected_xor : (b v w : ℕ) → b < 2 → selected b (bit_xor v w) ≡ bit_xor (selected b v) (selected b w)
selected_xor b v w lt = elim (bit_cases b lt) [
  | inl e ↦ rw e refl
  | inr e ↦ rw e refl
]

low_bit_xor : (a b : ℕ) → bit_xor a b % 2 ≡ (a % 2 + b % 2) % 2
low_bit_xor a b = sym (bit_at_lowest (bit_xor a b)) ∙ bit_at_xor a b 0 ∙ (λ i. (bit_at_lowest a i + bit_at_lowest b i) % 2)

pub shifted-xor : (a b : ℕ) → shifted (bit_xor a b) ≡ bit_xor (shifted a) (shifted b)
unfolding shifted
shifted-xor a b =
    let r : ℕ = 0xE1 * 2 ^ 120 in
    (λ i. bit_xor (xor_shr a b 1 i) (selected (low_bit_xor a b i) r))
    ∙ ap (bit_xor (bit_xor (a / 2) (b / 2))) (selected_sum (a % 2) (b % 2) r (omega arith) (omega arith))
    ∙ xor_swap (a / 2) (b / 2) (selected (a % 2) r) (selected (b % 2) r)

shifted-zero : shifted 0 ≡ 0
unfolding shifted
shifted-zero = refl

shifted-selected : (b v : ℕ) → b < 2 → selected b (shifted v) ≡ shifted (selected b v)
shifted-selected b v lt = elim (bit_cases b lt) [
  | inl e ↦ rw e (sym shifted-zero)
  | inr e ↦ rw e refl
]

-- the product of shifted v is the shifted product
pub steps-shifted : (n x v : ℕ) → product_steps n x (shifted v) ≡ shifted (product_steps n x v)
unfolding product_steps
steps-shifted zero x v = sym shifted-zero
steps-shifted (suc n) x v =
    (λ i. bit_xor (shifted-selected (bit_at x n) v (bit_at-lt x n) i) (steps-shifted n x (shifted v) i))
    ∙ sym (shifted-xor (selected (bit_at x n) v) (product_steps n x (shifted v)))

-- the product of a sum
pub steps-xor : (n x y v : ℕ) → product_steps n (bit_xor x y) v ≡ bit_xor (product_steps n x v) (product_steps n y v)
unfolding product_steps
steps-xor zero x y v = refl
steps-xor (suc n) x y v =
    (λ i. bit_xor (selected (bit_at_xor x y n i) v) (steps-xor n x y (shifted v) i))
    ∙ ap (λ (s : ℕ). bit_xor s (bit_xor (product_steps n x (shifted v)) (product_steps n y (shifted v)))) (selected_sum (bit_at x n) (bit_at y n) v (bit_at-lt x n) (bit_at-lt y n))
    ∙ xor_swap (selected (bit_at x n) v) (selected (bit_at y n) v) (product_steps n x (shifted v)) (product_steps n y (shifted v))

pub shifts-xor : (n a b : ℕ) → shifts n (bit_xor a b) ≡ bit_xor (shifts n a) (shifts n b)
unfolding shifts
shifts-xor zero a b = refl
shifts-xor (suc n) a b = ap (shifts n) (shifted-xor a b) ∙ shifts-xor n (shifted a) (shifted b)

pub steps-shifts : (k n x v : ℕ) → product_steps n x (shifts k v) ≡ shifts k (product_steps n x v)
unfolding shifts
steps-shifts zero n x v = refl
steps-shifts (suc k) n x v = steps-shifts k n x (shifted v) ∙ ap (shifts k) (steps-shifted n x v)

-- the k high bits of x first, and then the m others
pub steps-split : (k m x v : ℕ) → product_steps (k + m) x v ≡ bit_xor (product_steps k (x / 2 ^ m) v) (product_steps m x (shifts k v))
unfolding product_steps shifts
steps-split zero m x v = let e : zero + m ≡ m = omega arith in rw e (sym (xor_zero_l (product_steps m x v)))
steps-split (suc k) m x v =
    let e : suc k + m ≡ suc (k + m) = omega arith in
    let bit : bit_at x (k + m) ≡ bit_at (x / 2 ^ m) k = sym (ap (λ (y : ℕ). y % 2) (shr-shr x m k ∙ ap (λ (j : ℕ). x / 2 ^ j) (omega arith))) in
    ap (λ (j : ℕ). product_steps j x v) e
    ∙ (λ i. bit_xor (selected (bit i) v) (steps-split k m x (shifted v) i))
    ∙ sym (xor_assoc (selected (bit_at (x / 2 ^ m) k) v) (product_steps k (x / 2 ^ m) (shifted v)) (product_steps m x (shifts k (shifted v))))

-- the steps read the low bits alone
pub steps-low : (n k x v : ℕ) → n ≤ k → product_steps n (x % 2 ^ k) v ≡ product_steps n x v
unfolding product_steps
steps-low zero k x v le = refl
steps-low (suc n) k x v le =
    let bit : bit_at (x % 2 ^ k) n ≡ bit_at x n = sym (bit_at_cat_low (x / 2 ^ k) k (x % 2 ^ k) n (omega arith)) ∙ ap (λ (y : ℕ). bit_at y n) (shr_split x k) in
    λ i. bit_xor (selected (bit i) v) (steps-low n k x (shifted v) (omega arith) i)

-- a step of eight bits: the product by the low m + 8 bits from that by the low m
pub steps-byte : (m x h : ℕ) → product_steps (8 + m) x h ≡ bit_xor (product_steps 8 (x / 2 ^ m % 256) h) (shifts 8 (product_steps m x h))
steps-byte m x h =
    steps-split 8 m x h
    ∙ (λ i. bit_xor (sym (steps-low 8 8 (x / 2 ^ m) h (omega arith)) i) (steps-shifts 8 m x h i))

-- plain steps: z has the steps taken, and the others go on from v
pub steps-more : (n i x v z p : ℕ) → i < n → bit_xor z (product_steps (n - i) x v) ≡ p
    → bit_xor (bit_xor z (selected (bit_at x (n - 1 - i)) v)) (product_steps (n - (i + 1)) x (shifted v)) ≡ p
unfolding product_steps
steps-more n i x v z p lt e =
    let top : n - i ≡ suc (n - (i + 1)) = omega arith in
    let same : n - (i + 1) ≡ n - 1 - i = omega arith in
    xor_assoc z (selected (bit_at x (n - 1 - i)) v) (product_steps (n - (i + 1)) x (shifted v))
    ∙ ap (λ (j : ℕ). bit_xor z (bit_xor (selected (bit_at x j) v) (product_steps (n - (i + 1)) x (shifted v)))) (sym same)
    ∙ ap (λ (j : ℕ). bit_xor z (product_steps j x v)) (sym top)
    ∙ e

-- a plain step at a 1 and at a 0
pub steps-one : (n i x v z p z' v' : ℕ) → i < n → bit_xor z (product_steps (n - i) x v) ≡ p
    → bit_and (x / 2 ^ (n - 1 - i)) 1 ≡ 1 → z' ≡ bit_xor z v → v' ≡ shifted v
    → bit_xor z' (product_steps (n - (i + 1)) x v') ≡ p
steps-one n i x v z p z' v' lt e one ez ev =
    let bit : bit_at x (n - 1 - i) ≡ 1 = sym (shr_and_one x (n - 1 - i)) ∙ one in
    let chosen : v ≡ selected (bit_at x (n - 1 - i)) v = rw bit refl in
    (λ j. bit_xor ((ez ∙ ap (bit_xor z) chosen) j) (product_steps (n - (i + 1)) x (ev j))) ∙ steps-more n i x v z p lt e

pub steps-none : (n i x v z p z' v' : ℕ) → i < n → bit_xor z (product_steps (n - i) x v) ≡ p
    → bit_and (x / 2 ^ (n - 1 - i)) 1 ≢ 1 → z' ≡ z → v' ≡ shifted v
    → bit_xor z' (product_steps (n - (i + 1)) x v') ≡ p
steps-none n i x v z p z' v' lt e none ez ev =
    let is : bit_and (x / 2 ^ (n - 1 - i)) 1 ≡ bit_at x (n - 1 - i) = shr_and_one x (n - 1 - i) in
    let low : bit_at x (n - 1 - i) < 2 = bit_at-lt x (n - 1 - i) in
    let bit : bit_at x (n - 1 - i) ≡ 0 = omega (arith, is, low, none) in
    let chosen : z ≡ bit_xor z (selected (bit_at x (n - 1 - i)) v) = rw bit (sym (xor_zero_r z)) in
    (λ j. bit_xor ((ez ∙ chosen) j) (product_steps (n - (i + 1)) x (ev j))) ∙ steps-more n i x v z p lt e

pub steps-start : (n x h p : ℕ) → product_steps n x h ≡ p → bit_xor 0 (product_steps n x h) ≡ p
steps-start n x h p e = e

pub steps-end : (k n x v z p : ℕ) → k ≡ 0 → bit_xor z (product_steps k x v) ≡ p → z ≡ p
unfolding product_steps
steps-end k n x v z p e inv = sym (xor_zero_r z) ∙ ap (λ (j : ℕ). bit_xor z (product_steps j x v)) (sym e) ∙ inv

-- the product by 2 ^ k + j, from those by each
steps-power : (n k j v : ℕ) → j < 2 ^ k → product_steps n (2 ^ k + j) v ≡ bit_xor (product_steps n (2 ^ k) v) (product_steps n j v)
steps-power n k j v lt =
    let some : 0 < 2 ^ k = omega (arith, pow_pos k) in
    let sum : bit_xor (1 * 2 ^ k + 0) (0 * 2 ^ k + j) ≡ 1 * 2 ^ k + j = xor_block k 1 0 0 j some lt in
    let left : 1 * 2 ^ k + 0 ≡ 2 ^ k = omega arith in
    let right : 0 * 2 ^ k + j ≡ j = omega arith in
    let whole : 1 * 2 ^ k + j ≡ 2 ^ k + j = omega arith in
    ap (λ (x : ℕ). product_steps n x v) (sym whole ∙ sym sum ∙ (λ i. bit_xor (left i) (right i)))
    ∙ steps-xor n (2 ^ k) j v

-- a table of the products by the numbers below 2 ^ k, doubled
pub doubled : (n h p k m count : ℕ) (old new : List ℕ) → m ≡ 2 ^ k → count ≡ 2 ^ k
    → ((j : ℕ) → j < 2 ^ k → slice_index old j ≡ product_steps n j h)
    → p ≡ product_steps n m h
    → ((j : ℕ) → j < count → slice_index new j ≡ slice_index old j)
    → ((j : ℕ) → j < count → slice_index new (count + j) ≡ bit_xor p (slice_index old j))
    → (j : ℕ) → j < 2 ^ (k + 1) → slice_index new j ≡ product_steps n j h
doubled n h p k m count old new em ec before is below above j lt = elim (cases_lt j (2 ^ k)) [
  | inl low ↦ below j (omega (arith, ec)) ∙ before j low
  | inr high ↦
      let i : ℕ = j - 2 ^ k in
      let twice : 2 ^ (k + 1) ≡ 2 ^ k + 2 ^ k = ap (λ (x : ℕ). 2 ^ x) (omega arith) ∙ two-pow-succ k in
      let place : count + i ≡ j = omega (arith, ec) in
      let at : 2 ^ k + i ≡ j = omega arith in
      let within : i < 2 ^ k = omega (arith, twice) in
      ap (slice_index new) (sym place) ∙ above i (omega (arith, ec, within))
      ∙ (λ q. bit_xor ((is ∙ ap (λ (x : ℕ). product_steps n x h) em) q) (before i within q))
      ∙ sym (steps-power n k i h within)
      ∙ ap (λ (x : ℕ). product_steps n x h) at
]

pub steps-none_of : (h : ℕ) → product_steps 8 0 h ≡ 0
unfolding product_steps
steps-none_of h = refl

-- one place more
shifts-more : (n v : ℕ) → shifts (n + 1) v ≡ shifted (shifts n v)
unfolding shifts
shifts-more zero v = refl
shifts-more (suc n) v = let e : suc n + 1 ≡ suc (n + 1) = omega arith in ap (λ (k : ℕ). shifts k v) e ∙ shifts-more n (shifted v)

pub shifts-next : (n v s t : ℕ) → s ≡ shifts n v → t ≡ shifted s → t ≡ shifts (n + 1) v
shifts-next n v s t es et = et ∙ ap shifted es ∙ sym (shifts-more n v)

-- the sums of four and of four more, by pairs
fours : (a b c d p q r s : ℕ) → bit_xor (bit_xor (bit_xor (bit_xor a b) c) d) (bit_xor (bit_xor (bit_xor p q) r) s)
    ≡ bit_xor (bit_xor (bit_xor (bit_xor a p) (bit_xor b q)) (bit_xor c r)) (bit_xor d s)
fours a b c d p q r s =
    xor_swap (bit_xor (bit_xor a b) c) d (bit_xor (bit_xor p q) r) s
    ∙ ap (λ (y : ℕ). bit_xor y (bit_xor d s)) (xor_swap (bit_xor a b) c (bit_xor p q) r
    ∙ ap (λ (y : ℕ). bit_xor y (bit_xor c r)) (xor_swap a b p q))

-- the four words of x, each with m of its low bits taken
abbrev pub four_words : ℕ → ℕ → ℕ → ℕ
four_words m x h =
    bit_xor (bit_xor (bit_xor (product_steps m (x / 2 ^ 96) h) (product_steps m (x / 2 ^ 64) (shifts 32 h)))
    (product_steps m (x / 2 ^ 32) (shifts 32 (shifts 32 h)))) (product_steps m x (shifts 32 (shifts 32 (shifts 32 h))))

-- a byte more of each word
pub four_words-more : (m x h z t s a b c d : ℕ) → z ≡ four_words m x h → s ≡ shifts 8 z
    → a ≡ product_steps 8 (x / 2 ^ (96 + m) % 256) h
    → b ≡ product_steps 8 (x / 2 ^ (64 + m) % 256) (shifts 32 h)
    → c ≡ product_steps 8 (x / 2 ^ (32 + m) % 256) (shifts 32 (shifts 32 h))
    → d ≡ product_steps 8 (x / 2 ^ m % 256) (shifts 32 (shifts 32 (shifts 32 h)))
    → t ≡ bit_xor s (bit_xor (bit_xor (bit_xor a b) c) d) → t ≡ four_words (8 + m) x h
four_words-more m x h z t s a b c d ez es ea eb ec ed et =
    let A = product_steps m (x / 2 ^ 96) h in
    let B = product_steps m (x / 2 ^ 64) (shifts 32 h) in
    let C = product_steps m (x / 2 ^ 32) (shifts 32 (shifts 32 h)) in
    let D = product_steps m x (shifts 32 (shifts 32 (shifts 32 h))) in
    let sums : s ≡ bit_xor (bit_xor (bit_xor (shifts 8 A) (shifts 8 B)) (shifts 8 C)) (shifts 8 D) =
    es ∙ ap (shifts 8) ez ∙ shifts-xor 8 (bit_xor (bit_xor A B) C) D
    ∙ ap (λ (y : ℕ). bit_xor y (shifts 8 D)) (shifts-xor 8 (bit_xor A B) C ∙ ap (λ (y : ℕ). bit_xor y (shifts 8 C)) (shifts-xor 8 A B)) in
    let wa = word_more m x 96 h a ea in
    let wb = word_more m x 64 (shifts 32 h) b eb in
    let wc = word_more m x 32 (shifts 32 (shifts 32 h)) c ec in
    let wd = last_more m x (shifts 32 (shifts 32 (shifts 32 h))) d ed in
    et ∙ ap (λ (y : ℕ). bit_xor y (bit_xor (bit_xor (bit_xor a b) c) d)) sums
    ∙ fours (shifts 8 A) (shifts 8 B) (shifts 8 C) (shifts 8 D) a b c d
    ∙ (λ i. bit_xor (bit_xor (bit_xor (wa i) (wb i)) (wc i)) (wd i))
  where
    last_more : (m x v d : ℕ) → d ≡ product_steps 8 (x / 2 ^ m % 256) v → bit_xor (shifts 8 (product_steps m x v)) d ≡ product_steps (8 + m) x v
    last_more m x v d e = ap (bit_xor (shifts 8 (product_steps m x v))) e ∙ xor_comm (shifts 8 (product_steps m x v)) (product_steps 8 (x / 2 ^ m % 256) v) ∙ sym (steps-byte m x v)

    word_more : (m x k v d : ℕ) → d ≡ product_steps 8 (x / 2 ^ (k + m) % 256) v → bit_xor (shifts 8 (product_steps m (x / 2 ^ k) v)) d ≡ product_steps (8 + m) (x / 2 ^ k) v
    word_more m x k v d e =
        let place : x / 2 ^ (k + m) ≡ x / 2 ^ k / 2 ^ m = sym (shr-shr x k m) in
        last_more m (x / 2 ^ k) v d (e ∙ ap (λ (y : ℕ). product_steps 8 (y % 256) v) place)

pub four_words-all : (x h z : ℕ) → z ≡ four_words 32 x h → z ≡ product_steps 128 x h
four_words-all x h z e =
    let g = shifts 32 h in
    let f = shifts 32 g in
    let A = product_steps 32 (x / 2 ^ 96) h in
    let B = product_steps 32 (x / 2 ^ 64) g in
    let C = product_steps 32 (x / 2 ^ 32) f in
    let D = product_steps 32 x (shifts 32 f) in
    e ∙ xor_assoc (bit_xor A B) C D
    ∙ ap (bit_xor (bit_xor A B)) (sym (steps-split 32 32 x f))
    ∙ xor_assoc A B (product_steps 64 x f)
    ∙ ap (bit_xor A) (sym (steps-split 32 64 x g))
    ∙ sym (steps-split 32 96 x h)
