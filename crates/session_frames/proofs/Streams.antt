-- A stream is cut into frames in one way.
use Rattle.std.proofs.Common.{◌≡◌, ◌≢◌, ℕ, ◌+◌, ◌<◌, List, [], ◌∷◌, ◌++◌, length, take, drop, refl, sym, ap, subst, lit<, ◌∙◌, append_assoc, append-nil, arith}
use Rattle.std.proofs.lemmas.List.{take_at, length-append}
use lib.ListN.{replicate}
use Rattle.std.specs.Prelude.{slice_index}
use Rattle.session_frames.specs.Frames.{Fronts, IsCutOff, BeginsNone, Framed, Splits, AreFrames, frame, bytes_of}
use Rattle.session_frames.specs.Session.{NoFrameIn, OneWay}
use Rattle.session_frames.proofs.Heads.{length_in_head, rest_after}

abbrev pub framed : ℕ → List ℕ → Framed
framed c p = record { channel = c; payload = p }

-- ---- one frame at the front

channel_at : (bytes : List ℕ) (c : ℕ) (p u : List ℕ) → Fronts bytes c p u → slice_index bytes 4 ≡ c
channel_at bytes c p u f = ap (λ (t : List ℕ). slice_index t 4) f.whole

payload_at : (bytes : List ℕ) (c : ℕ) (p u : List ℕ) → Fronts bytes c p u → take (length p) (drop 8 bytes) ≡ p
payload_at bytes c p u f = ap (λ (t : List ℕ). take (length p) (drop 8 t)) f.whole ∙ take_at p u (length p) refl

same_framed : (c d : ℕ) (p q : List ℕ) → c ≡ d → p ≡ q → framed c p ≡ framed d q
same_framed c d p q e f = rw (e, f) refl

pub front_one : (bytes : List ℕ) (c d : ℕ) (p q u v : List ℕ) → Fronts bytes c p u → Fronts bytes d q v → (framed c p ≡ framed d q) × (u ≡ v)
front_one bytes c d p q u v f g =
    let len : length p ≡ length q = sym (length_in_head bytes c p u f) ∙ length_in_head bytes d q v g in
    let pay : p ≡ q = sym (payload_at bytes c p u f) ∙ ap (λ (n : ℕ). take n (drop 8 bytes)) len ∙ payload_at bytes d q v g in (
      same_framed c d p q (sym (channel_at bytes c p u f) ∙ channel_at bytes d q v g) pay,
      sym (rest_after bytes c p u f) ∙ ap (λ (n : ℕ). drop (8 + n) bytes) len ∙ rest_after bytes d q v g,
    )

-- ---- frames in a row

pub splits_none : (s : List ℕ) → Splits s [] s
splits_none s = record { each = tt; whole = refl }

first_of_splits : (s : List ℕ) (f : Framed) (a : List Framed) (x : List ℕ) → Splits s (f ∷ a) x → Fronts s f.channel f.payload (bytes_of a ++ x)
first_of_splits s f a x p = record { suits = p.each.0; whole = p.whole ∙ append_assoc (frame f.channel f.payload) (bytes_of a) x }

rest_of_splits : (s : List ℕ) (f : Framed) (a : List Framed) (x : List ℕ) → Splits s (f ∷ a) x → Splits (bytes_of a ++ x) a x
rest_of_splits s f a x p = record { each = p.each.1; whole = refl }

pub one_way : OneWay
one_way s [] [] x y p lacks q none = (refl, sym p.whole ∙ q.whole)
one_way s [] (g ∷ b) x y p lacks q none = absurd (lacks g.channel g.payload (bytes_of b ++ y) (subst (λ (t : List ℕ). Fronts t g.channel g.payload (bytes_of b ++ y)) p.whole (first_of_splits s g b y q)))
one_way s (f ∷ a) [] x y p lacks q none = absurd (none f.channel f.payload (bytes_of a ++ x) (subst (λ (t : List ℕ). Fronts t f.channel f.payload (bytes_of a ++ x)) q.whole (first_of_splits s f a x p)))
one_way s (f ∷ a) (g ∷ b) x y p lacks q none =
    let same = front_one s f.channel g.channel f.payload g.payload (bytes_of a ++ x) (bytes_of b ++ y) (first_of_splits s f a x p) (first_of_splits s g b y q) in
    let head : f ≡ g = same.0 in
    let rest = one_way (bytes_of a ++ x) a b x y (rest_of_splits s f a x p) lacks (subst (λ (t : List ℕ). Splits t b y) (sym same.1) (rest_of_splits s g b y q)) none in
    let tail : a ≡ b = rest.0 in
    (rw (head, tail) refl, rest.1)

bytes_of-append : (a b : List Framed) → bytes_of (a ++ b) ≡ bytes_of a ++ bytes_of b
bytes_of-append [] b = refl
bytes_of-append (f ∷ a) b = ap (λ (t : List ℕ). frame f.channel f.payload ++ t) (bytes_of-append a b) ∙ sym (append_assoc (frame f.channel f.payload) (bytes_of a) (bytes_of b))

are_frames-append : (a b : List Framed) → AreFrames a → AreFrames b → AreFrames (a ++ b)
are_frames-append [] b p q = q
are_frames-append (f ∷ a) b p q = (p.0, are_frames-append a b p.1 q)

-- more bytes, and more frames
pub splits_then : (s more x y : List ℕ) (a b : List Framed) → Splits s a x → Splits (x ++ more) b y → Splits (s ++ more) (a ++ b) y
splits_then s more x y a b p q = record {
  each = are_frames-append a b p.each q.each;
  whole = ap (λ (t : List ℕ). t ++ more) p.whole ∙ append_assoc (bytes_of a) x more ∙ ap (λ (t : List ℕ). bytes_of a ++ t) q.whole
      ∙ sym (append_assoc (bytes_of a) (bytes_of b) y) ∙ ap (λ (t : List ℕ). t ++ y) (sym (bytes_of-append a b));
}

pub splits_more : (s x : List ℕ) (a : List Framed) (c : ℕ) (p u : List ℕ) → Splits s a x → Fronts x c p u → Splits s (a ++ framed c p ∷ []) u
splits_more s x a c p u q f =
    let one : Splits (x ++ []) (framed c p ∷ []) u = record { each = (f.suits, tt); whole = append-nil x ∙ f.whole ∙ ap (λ (t : List ℕ). t ++ u) (sym (append-nil (frame c p))) } in
    subst (λ (t : List ℕ). Splits t (a ++ framed c p ∷ []) u) (append-nil s) (splits_then s [] x u a (framed c p ∷ []) q one)

-- the same stream with what follows
pub splits_on : (s more x : List ℕ) (a : List Framed) → Splits s a x → Splits (s ++ more) a (x ++ more)
splits_on s more x a p = record { each = p.each; whole = ap (λ (t : List ℕ). t ++ more) p.whole ∙ append_assoc (bytes_of a) x more }

pub length_of_bytes : (a b : List Framed) → length (bytes_of (a ++ b)) ≡ length (bytes_of a) + length (bytes_of b)
length_of_bytes a b = ap length (bytes_of-append a b) ∙ length-append (bytes_of a) (bytes_of b)

-- ---- a cut

pub cut_has_none : (bytes : List ℕ) → IsCutOff bytes → NoFrameIn bytes
cut_has_none bytes cut c p u f =
    let longer : Fronts (bytes ++ cut.more) c p (u ++ cut.more) = record { suits = f.suits; whole = ap (λ (t : List ℕ). t ++ cut.more) f.whole ∙ append_assoc (frame c p) u cut.more } in
    let same = front_one (bytes ++ cut.more) cut.channel c cut.payload p [] (u ++ cut.more) cut.fronts longer in
    let none : 0 ≡ length u + length cut.more = ap length same.1 ∙ length-append u cut.more in
    omega (arith, cut.some)

pub none_has_none : (bytes more : List ℕ) → BeginsNone bytes → NoFrameIn (bytes ++ more)
none_has_none bytes more none c p u f = none more c p u f

pub none_is_some : (bytes more : List ℕ) → BeginsNone bytes → bytes ++ more ≢ []
none_is_some (b ∷ bytes) more none e = absurd cc
none_is_some [] more none e = none (frame 1 (replicate 16 0)) 1 (replicate 16 0) [] (record {
  suits = record { channels = omega arith; least = omega arith; most = omega arith; message = λ no. absurd (omega arith); item = λ _. refl; uuid = λ no. absurd (omega arith) };
  whole = refl;
})

-- nothing is the front of a frame
pub nothing_is_cut : IsCutOff []
nothing_is_cut = record {
  channel = 1;
  payload = replicate 16 0;
  more = frame 1 (replicate 16 0);
  some = lit< tt;
  fronts = record {
    suits = record { channels = omega arith; least = omega arith; most = omega arith; message = λ no. absurd (omega arith); item = λ _. refl; uuid = λ no. absurd (omega arith) };
    whole = refl;
  };
}

-- what is cut off inside a frame is shorter than the longest
pub cut_fits : (bytes : List ℕ) → IsCutOff bytes → length bytes < 135176
cut_fits bytes cut =
    let whole : length (bytes ++ cut.more) ≡ length (frame cut.channel cut.payload ++ []) = ap length cut.fronts.whole in
    omega (arith, cut.some, cut.fronts.suits.most, whole, length-append bytes cut.more, length-append (frame cut.channel cut.payload) [])
