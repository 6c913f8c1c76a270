-- The eight bytes before a payload, and what they say of the bytes that are held.
use Rattle.std.proofs.Common.{◌≡◌, ℕ, zero, suc, ◌+◌, ◌-◌, ◌^◌, ◌<◌, ◌≤◌, ◌%◌, ◌/◌, min, List, [], ◌∷◌, ◌++◌, length, get_or, take, drop, refl, sym, ap, lit<, ◌∙◌, append_assoc, append-nil, arith, inl, inr}
use Rattle.std.proofs.lemmas.Bool.{cases_lt}
use Rattle.std.proofs.lemmas.List.{take_all, drop_at, drop_all, length-append, length-take, length-drop, length-replicate, take-append-drop, get_or-drop}
use Rattle.std.proofs.lemmas.Nat.{le_bytes_4, from_le_bytes-to_le_bytes_4}
use lib.ListN.{replicate}
use Rattle.std.specs.Int.{w32, to_le_bytes, from_le_bytes}
use Rattle.std.specs.Prelude.{slice_index}
use Rattle.session_frames.specs.Frames.{IsPayload, Fronts, IsCutOff, BeginsNone, Held, frame}
use Rattle.session_frames.specs.Head.{IsHead, complete, some_head}

abbrev pub held_at : List ℕ → ℕ → Held
held_at h a = record { held = h; at = a }

abbrev pub IsBytes : List ℕ → Type 0
IsBytes bytes = (i : ℕ) → get_or bytes i 0 < 256

bytes_in_head : IsBytes some_head
bytes_in_head zero = lit< tt
bytes_in_head (suc zero) = lit< tt
bytes_in_head (suc (suc zero)) = lit< tt
bytes_in_head (suc (suc (suc zero))) = lit< tt
bytes_in_head (suc (suc (suc (suc zero)))) = lit< tt
bytes_in_head (suc (suc (suc (suc (suc zero))))) = lit< tt
bytes_in_head (suc (suc (suc (suc (suc (suc zero)))))) = lit< tt
bytes_in_head (suc (suc (suc (suc (suc (suc (suc zero))))))) = lit< tt
bytes_in_head (suc (suc (suc (suc (suc (suc (suc (suc i)))))))) = lit< tt

bytes_of_both : (xs ys : List ℕ) → IsBytes xs → IsBytes ys → IsBytes (xs ++ ys)
bytes_of_both [] ys p q i = q i
bytes_of_both (x ∷ xs) ys p q zero = p 0
bytes_of_both (x ∷ xs) ys p q (suc i) = bytes_of_both xs ys (λ k. p (suc k)) q i

bytes_of_take : (n : ℕ) (xs : List ℕ) → IsBytes xs → IsBytes (take n xs)
bytes_of_take zero xs p i = lit< tt
bytes_of_take (suc n) [] p i = lit< tt
bytes_of_take (suc n) (x ∷ xs) p zero = p 0
bytes_of_take (suc n) (x ∷ xs) p (suc i) = bytes_of_take n xs (λ k. p (suc k)) i

-- the completed head is bytes
pub complete_bytes : (held : List ℕ) → IsBytes held → IsBytes (complete held)
complete_bytes held p = bytes_of_both (take 8 held) (drop (length held) some_head) (bytes_of_take 8 held p) (λ i. rw get_or-drop (bytes_in_head (length held + i)))

-- the first eight bytes, by a number
pub completes : (held : List ℕ) (k : ℕ) → k ≡ min (length held) 8 → take k held ++ drop k some_head ≡ complete held
completes held k is =
    elim (cases_lt (length held) 8) [
      | inl lt ↦
          let k-is : k ≡ length held = omega arith in
          rw (k-is, take_all (length held) held (omega arith), take_all 8 held (omega arith)) refl
      | inr le ↦
          let k-is : k ≡ 8 = omega arith in
          let none : drop (length held) some_head ≡ [] = drop_all (length held) some_head le in
          rw (k-is, none) refl
    ]

suits_put : (m n : ℕ) → 16 ≤ n → n ≤ 135168 → m ≡ n → IsPayload 3 m
suits_put m n least most is = record { channels = omega arith; least = omega arith; most = omega arith; message = omega arith; item = omega arith; uuid = omega arith }

suits_long : (m : ℕ) → 65536 ≤ m → m < 131072 → IsPayload 3 m
suits_long m least most = record { channels = omega arith; least = omega arith; most = omega arith; message = omega arith; item = omega arith; uuid = omega arith }

suits_same : (c d m n : ℕ) → IsPayload c n → d ≡ c → m ≡ n → IsPayload d m
suits_same c d m n s e f = rw (e, f) s

-- the first four bytes of a frame are its payload's length
record SaysLength (a b c d len : ℕ) : Type 0 where
  first : a ≡ len % 256
  second : b ≡ len / 256 ^ 1 % 256
  third : c ≡ len / 256 ^ 2 % 256
  fourth : d ≡ len / 256 ^ 3 % 256

length_in : (a b c d : ℕ) (behind : List ℕ) (channel : ℕ) (payload rest : List ℕ) → Fronts (a ∷ b ∷ c ∷ d ∷ behind) channel payload rest → SaysLength a b c d (length payload)
length_in a b c d behind channel payload rest f = let w = f.whole in record { first = cc; second = cc; third = cc; fourth = cc }

-- a frame whose front the bytes are begins with their completed head
pub front_is_head : (held more : List ℕ) (channel : ℕ) (payload rest : List ℕ) → Fronts (held ++ more) channel payload rest → IsHead (complete held)
front_is_head [] more channel payload rest f = record { suits = suits_long _ (omega arith) (omega arith); first = refl; second = refl; third = refl }
front_is_head (a ∷ []) more channel payload rest f =
    let s = f.suits in
    let w = f.whole in
    let ea : a ≡ length payload % 256 = cc in
    record { suits = suits_long _ (omega arith) (omega arith); first = refl; second = refl; third = refl }
front_is_head (a ∷ b ∷ []) more channel payload rest f =
    let w = f.whole in
    let ea : a ≡ length payload % 256 = cc in
    let eb : b ≡ length payload / 256 ^ 1 % 256 = cc in
    record { suits = suits_long _ (omega arith) (omega arith); first = refl; second = refl; third = refl }
front_is_head (a ∷ b ∷ c ∷ []) more channel payload rest f =
    let w = f.whole in
    let s = f.suits in
    let ea : a ≡ length payload % 256 = cc in
    let eb : b ≡ length payload / 256 ^ 1 % 256 = cc in
    let ec : c ≡ length payload / 256 ^ 2 % 256 = cc in
    record { suits = suits_put _ (length payload) s.least s.most (omega arith); first = refl; second = refl; third = refl }
front_is_head (a ∷ b ∷ c ∷ d ∷ []) more channel payload rest f =
    let w = f.whole in
    let s = f.suits in
    let q = length_in a b c d _ channel payload rest f in
    record { suits = suits_put _ (length payload) s.least s.most (omega arith); first = refl; second = refl; third = refl }
front_is_head (a ∷ b ∷ c ∷ d ∷ e ∷ []) more channel payload rest f =
    let w = f.whole in
    let s = f.suits in
    let q = length_in a b c d _ channel payload rest f in
    record { suits = suits_same channel e _ (length payload) s (cc) (omega arith); first = refl; second = refl; third = refl }
front_is_head (a ∷ b ∷ c ∷ d ∷ e ∷ x ∷ []) more channel payload rest f =
    let w = f.whole in
    let s = f.suits in
    let q = length_in a b c d _ channel payload rest f in
    record { suits = suits_same channel e _ (length payload) s (cc) (omega arith); first = cc; second = refl; third = refl }
front_is_head (a ∷ b ∷ c ∷ d ∷ e ∷ x ∷ y ∷ []) more channel payload rest f =
    let w = f.whole in
    let s = f.suits in
    let q = length_in a b c d _ channel payload rest f in
    record { suits = suits_same channel e _ (length payload) s (cc) (omega arith); first = cc; second = cc; third = refl }
front_is_head (a ∷ b ∷ c ∷ d ∷ e ∷ x ∷ y ∷ z ∷ held) more channel payload rest f =
    let w = f.whole in
    let s = f.suits in
    let q = length_in a b c d _ channel payload rest f in
    record { suits = suits_same channel e _ (length payload) s (cc) (omega arith); first = cc; second = cc; third = cc }

pub begins_none : (held : List ℕ) → (IsHead (complete held) → ⊥) → BeginsNone held
begins_none held not more channel payload rest f = not (front_is_head held more channel payload rest f)

eight : (P : List ℕ → Type 0) → ((a b c d e x y z : ℕ) → P (a ∷ b ∷ c ∷ d ∷ e ∷ x ∷ y ∷ z ∷ [])) → (head : List ℕ) → length head ≡ 8 → P head
eight P p (a ∷ b ∷ c ∷ d ∷ e ∷ x ∷ y ∷ z ∷ []) len = p a b c d e x y z
eight P p _ len = absurd (omega arith)

-- a head and a payload of its length are a frame
head_frames : (head payload : List ℕ) → length head ≡ 8 → IsBytes head → IsHead head → length payload ≡ from_le_bytes w32 head → head ++ payload ≡ frame (slice_index head 4) payload
head_frames head payload len fits is same = eight (λ h. IsBytes h → IsHead h → length payload ≡ from_le_bytes w32 h → h ++ payload ≡ frame (slice_index h 4) payload)
    (λ a b c d e x y z fits is same.
    let four : (i : ℕ) → get_or (a ∷ b ∷ c ∷ d ∷ []) i 0 < 256 = firsts a b c d e x y z fits in
    let bytes : to_le_bytes w32 (length payload) ≡ a ∷ b ∷ c ∷ d ∷ [] = le_bytes_4 (a ∷ b ∷ c ∷ d ∷ []) (length payload) refl four same in
    let x-is : x ≡ 0 = is.first in
    let y-is : y ≡ 0 = is.second in
    let z-is : z ≡ 0 = is.third in
    ap (λ (t : List ℕ). a ∷ b ∷ c ∷ d ∷ e ∷ t) (rw (x-is, y-is, z-is) refl) ∙ sym (ap (λ (t : List ℕ). t ++ e ∷ 0 ∷ 0 ∷ 0 ∷ payload) bytes))
    head len fits is same where
      firsts : (a b c d e x y z : ℕ) → IsBytes (a ∷ b ∷ c ∷ d ∷ e ∷ x ∷ y ∷ z ∷ []) → (i : ℕ) → get_or (a ∷ b ∷ c ∷ d ∷ []) i 0 < 256
      firsts a b c d e x y z fits zero = fits 0
      firsts a b c d e x y z fits (suc zero) = fits 1
      firsts a b c d e x y z fits (suc (suc zero)) = fits 2
      firsts a b c d e x y z fits (suc (suc (suc zero))) = fits 3
      firsts a b c d e x y z fits (suc (suc (suc (suc i)))) = omega arith

head_suits : (head payload : List ℕ) → IsHead head → length payload ≡ from_le_bytes w32 head → IsPayload (slice_index head 4) (length payload)
head_suits head payload is same = rw same is.suits

-- fewer than eight bytes
pub cut_in_head : (held head : List ℕ) → length held < 8 → head ≡ complete held → length head ≡ 8 → IsBytes head → IsHead head → IsCutOff held
cut_in_head held head lt e len fits is =
    let payload : List ℕ = replicate (from_le_bytes w32 head) 0 in
    let same : length payload ≡ from_le_bytes w32 head = length-replicate (from_le_bytes w32 head) 0 in
    let all : take 8 held ≡ held = take_all 8 held (omega arith) in
    let head-is : head ≡ held ++ drop (length held) some_head = e ∙ ap (λ (t : List ℕ). t ++ drop (length held) some_head) all in
    record {
      channel = slice_index head 4;
      payload = payload;
      more = drop (length held) some_head ++ payload;
      some = omega (arith, length-append (drop (length held) some_head) payload, same, is.suits.least);
      fronts = record {
        suits = head_suits head payload is same;
        whole = sym (append_assoc held (drop (length held) some_head) payload) ∙ ap (λ (t : List ℕ). t ++ payload) (sym head-is) ∙ head_frames head payload len fits is same ∙ sym (append-nil (frame (slice_index head 4) payload));
      };
    }

complete_long : (held : List ℕ) → 8 ≤ length held → complete held ≡ take 8 held
complete_long held le =
    let none : drop (length held) some_head ≡ [] = drop_all (length held) some_head le in
    rw none (append-nil (take 8 held))

-- a payload of which bytes are missing
pub cut_in_payload : (held head : List ℕ) → 8 ≤ length held → head ≡ complete held → length head ≡ 8 → IsBytes head → IsHead head → length held < 8 + from_le_bytes w32 head → IsCutOff held
cut_in_payload held head le e len fits is short =
    let missing : List ℕ = replicate (8 + from_le_bytes w32 head - length held) 0 in
    let count : length missing ≡ 8 + from_le_bytes w32 head - length held = length-replicate (8 + from_le_bytes w32 head - length held) 0 in
    let payload : List ℕ = drop 8 held ++ missing in
    let same : length payload ≡ from_le_bytes w32 head = omega (arith, length-append (drop 8 held) missing, length-drop 8 held, count) in
    let head-is : head ≡ take 8 held = e ∙ complete_long held le in
    let parts : held ≡ head ++ drop 8 held = sym (take-append-drop 8 held) ∙ ap (λ (t : List ℕ). t ++ drop 8 held) (sym head-is) in
    record {
      channel = slice_index head 4;
      payload = payload;
      more = missing;
      some = omega arith;
      fronts = record {
        suits = head_suits head payload is same;
        whole = ap (λ (t : List ℕ). t ++ missing) parts ∙ append_assoc head (drop 8 held) missing ∙ head_frames head payload len fits is same ∙ sym (append-nil (frame (slice_index head 4) payload));
      };
    }

-- a frame is whole
pub is_whole : (held head : List ℕ) → 8 ≤ length held → head ≡ complete held → length head ≡ 8 → IsBytes head → IsHead head → 8 + from_le_bytes w32 head ≤ length held
    → Fronts held (slice_index head 4) (take (from_le_bytes w32 head) (drop 8 held)) (drop (from_le_bytes w32 head) (drop 8 held))
is_whole held head le e len fits is long =
    let n : ℕ = from_le_bytes w32 head in
    let payload : List ℕ = take n (drop 8 held) in
    let rest : List ℕ = drop n (drop 8 held) in
    let same : length payload ≡ from_le_bytes w32 head = omega (arith, length-take n (drop 8 held), length-drop 8 held) in
    let head-is : head ≡ take 8 held = e ∙ complete_long held le in
    let parts : held ≡ head ++ drop 8 held = sym (take-append-drop 8 held) ∙ ap (λ (t : List ℕ). t ++ drop 8 held) (sym head-is) in
    record {
      suits = head_suits head payload is same;
      whole = parts ∙ ap (λ (t : List ℕ). head ++ t) (sym (take-append-drop n (drop 8 held))) ∙ sym (append_assoc head payload rest) ∙ ap (λ (t : List ℕ). t ++ rest) (head_frames head payload len fits is same);
    }

-- the head of a frame has its payload's length
pub length_in_head : (held : List ℕ) (channel : ℕ) (payload rest : List ℕ) → Fronts held channel payload rest → from_le_bytes w32 (complete held) ≡ length payload
length_in_head held channel payload rest f =
    rw f.whole (from_le_bytes-to_le_bytes_4 (length payload) (omega (arith, f.suits.most)))

pub length_of_held : (held : List ℕ) (channel : ℕ) (payload rest : List ℕ) → Fronts held channel payload rest → length held ≡ 8 + length payload + length rest
length_of_held held channel payload rest f = ap length f.whole ∙ omega (arith, length-append payload rest)

pub rest_after : (held : List ℕ) (channel : ℕ) (payload rest : List ℕ) → Fronts held channel payload rest → drop (8 + length payload) held ≡ rest
rest_after held channel payload rest f = rw f.whole (drop_at (frame channel payload) rest (8 + length payload) (omega arith))

pub same_held : (h k : List ℕ) (a b : ℕ) → h ≡ k → a ≡ b → held_at h a ≡ held_at k b
same_held h k a b e f = rw (e, f) refl
