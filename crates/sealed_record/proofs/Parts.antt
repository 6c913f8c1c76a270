-- The parts of a sealed form.
use Rattle.std.specs.Prelude.{IfOk, IsOk, OnErr}
use Rattle.std.proofs.Common.{Result, Ok, Err, ◌≡◌, ℕ, ◌-◌, ◌≤◌, List, [], ◌++◌, append-nil, append_assoc, length, take, drop, refl, ap, sym, ◌∙◌, arith}
use Rattle.std.proofs.lemmas.List.{append_cancel_left, drop_all, drop_at, length-drop, length-take, take-append-drop, take_at, drop-drop}
use borrow.Rule.Slice.PartMut.{put_mid}
use Rattle.aes_gcm.specs.Gcm.{seal as gcm_seal}

pub opened : (key head bs n t old tag : List ℕ) (k : ℕ) → 28 ≤ length bs → k ≡ length bs - 28
    → n ≡ take 12 bs → old ≡ take k (drop 12 bs) → tag ≡ drop (length bs - 16) bs → length t ≡ length old
    → gcm_seal key n head t ≡ old ++ tag
    → take 12 bs ++ gcm_seal key (take 12 bs) head (take (length bs - 28) (drop 12 (put_mid 12 k bs t))) ≡ bs
opened key head bs n t old tag k le ek en eo et long is =
    let l12 : length (take 12 bs) ≡ 12 = omega (arith, length-take 12 bs) in
    let lo : length old ≡ k = ap length eo ∙ length-take k (drop 12 bs) ∙ omega (arith, length-drop 12 bs) in
    let lt : length t ≡ length bs - 28 = omega arith in
    let rest = drop k (drop 12 bs) in
    let mid : take (length bs - 28) (drop 12 (put_mid 12 k bs t)) ≡ t =
    ap (take (length bs - 28)) (drop_at (take 12 bs) (t ++ rest) 12 l12) ∙ take_at t rest (length bs - 28) lt in
    let last : tag ≡ rest = et ∙ ap (λ (j : ℕ). drop j bs) (omega arith) ∙ sym (drop-drop k 12 bs) in
    ap (λ (l : List ℕ). take 12 bs ++ l) ((λ i. gcm_seal key (sym en i) head (mid i)) ∙ is ∙ (λ i. eo i ++ last i) ∙ take-append-drop k (drop 12 bs))
    ∙ take-append-drop 12 bs

-- a text that was put behind other bytes and a nonce, and sealed there
pub sealed_items : (old nonce head key text placed nb tag out rest : List ℕ) (at m : ℕ) → length (old ++ nonce) ≡ at → placed ≡ (old ++ nonce) ++ text
    → length nb ≡ m → out ≡ take m (nb ++ rest) ++ tag → nb ++ tag ≡ take at placed ++ gcm_seal key nonce head (drop at placed)
    → out ≡ old ++ (nonce ++ gcm_seal key nonce head text)
sealed_items old nonce head key text placed nb tag out rest at m la en lb eo es =
    eo ∙ ap (λ (l : List ℕ). l ++ tag) (take_at nb rest m lb) ∙ es
    ∙ (λ i. take at (en i) ++ gcm_seal key nonce head (drop at (en i)))
    ∙ (λ i. take_at (old ++ nonce) text at la i ++ gcm_seal key nonce head (drop_at (old ++ nonce) text at la i))
    ∙ append_assoc old nonce (gcm_seal key nonce head text)

-- a text that would make the sealed form would open
pub opens : (key head bs n t old tag : List ℕ) (k : ℕ) → 28 ≤ length bs → k ≡ length bs - 28
    → n ≡ take 12 bs → old ≡ take k (drop 12 bs) → tag ≡ drop (length bs - 16) bs
    → take 12 bs ++ gcm_seal key (take 12 bs) head t ≡ bs → gcm_seal key n head t ≡ old ++ tag
opens key head bs n t old tag k le ek en eo et is =
    let last : tag ≡ drop k (drop 12 bs) = et ∙ ap (λ (j : ℕ). drop j bs) (omega arith) ∙ sym (drop-drop k 12 bs) in
    let rest : old ++ tag ≡ drop 12 bs = (λ i. eo i ++ last i) ∙ take-append-drop k (drop 12 bs) in
    let whole : take 12 bs ++ (old ++ tag) ≡ bs = ap (λ (l : List ℕ). take 12 bs ++ l) rest ∙ take-append-drop 12 bs in
    (λ i. gcm_seal key (en i) head t)
    ∙ append_cancel_left (take 12 bs) (gcm_seal key (take 12 bs) head t) (old ++ tag) (is ∙ sym whole)

-- what follows where a result is Ok
pub any_ok : {A E : Type 0} (r : Result A E) (P : Type 0) → (IsOk r → P) → IfOk r (λ _. P)
any_ok (Ok x) P h = h refl
any_ok (Err e) P h = tt

-- and where it isn't, from what else is known there
pub any_err : {A E : Type 0} (r : Result A E) (Q P : Type 0) → (Q → P) → OnErr r Q → OnErr r P
any_err (Ok x) Q P f h = h
any_err (Err e) Q P f h = f h

-- a sealed form's nonce is what it begins with
pub nonce_is : (nonce rest sealed : List ℕ) → length nonce ≡ 12 → nonce ++ rest ≡ sealed → nonce ≡ take 12 sealed
nonce_is nonce rest sealed len is = sym (take_at nonce rest 12 len) ∙ ap (take 12) is

pub two_parts : (p q z : List ℕ) (a k : ℕ) → length p ≡ a → length z ≡ k → put_mid a k (p ++ z) q ≡ p ++ q
two_parts p q z a k ep ez =
    let post : drop k (drop a (p ++ z)) ≡ [] = ap (drop k) (drop_at p z a ep) ∙ drop_all k z (omega arith) in
    (λ i. take_at p z a ep i ++ (q ++ post i)) ∙ ap (λ (l : List ℕ). p ++ l) (append-nil q)
