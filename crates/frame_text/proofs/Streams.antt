-- Streams of requests: a frame more, and that there is one way to split a stream.
use Rattle.std.proofs.Common.{◌≡◌, ◌≢◌, ◌<◌, ◌+◌, ◌*◌, ℕ, zero, suc, lit<, List, [], ◌∷◌, ◌++◌, length, Result, Ok, Err, refl, sym, ap, subst, ◌∙◌, append_assoc, append-nil, length-append, arith}
use Rattle.std.specs.Prelude.{IfOk, IfErr, MatchResult}
use Rattle.std.specs.Int.{w32, to_le_bytes}
use Rattle.hex.specs.Hex.{IsBytes}
use Rattle.session_frames.specs.Frames.{Framed, Fronts, IsCutOff, BeginsNone, Held, bytes_of, frame}
use Rattle.session_frames.proofs.Streams.{front_one, cut_has_none, none_is_some}
use Rattle.frame_text.specs.declared.faults.FrameKind.{FrameKind}
use Rattle.frame_text.specs.declared.faults.FrameKind.TheVariants as kinds
use Rattle.frame_text.specs.declared.faults.FrameFault.{FrameFault}
use Rattle.frame_text.specs.declared.faults.FrameFault.TheVariants as faults
use Rattle.frame_text.specs.Requests.{IsRequest, AreRequests, AreSame, frame_bytes, spelled}
use Rattle.frame_text.specs.Reading.{IsWrong, IsBadFrame, BreaksFrames, framed}
use Rattle.frame_text.proofs.Texts.{each_more, line_ended, more}

-- ---- a frame more

-- the frames so far and their lines
pub record Dumped (bytes rest out : List ℕ) (h : Held) : Type 0 where
  pub frames : List Framed
  pub each : AreRequests frames
  pub bytes_is : bytes ≡ bytes_of frames ++ (h.held ++ rest)
  pub text_is : out ≡ spelled frames
  pub at_is : h.at ≡ length (bytes_of frames)

pub dumped_none : (bytes : List ℕ) → Dumped bytes bytes [] (record { held = []; at = 0 })
dumped_none bytes = record { frames = []; each = tt; bytes_is = refl; text_is = refl; at_is = refl }

pub dumped_fed : (bytes rest later out : List ℕ) (h g : Held) → Dumped bytes rest out h → g.held ++ later ≡ h.held ++ rest → g.at ≡ h.at → Dumped bytes later out g
dumped_fed bytes rest later out h g d whole at = record {
  frames = d.frames;
  each = d.each;
  bytes_is = d.bytes_is ∙ ap (λ (t : List ℕ). bytes_of d.frames ++ t) (sym whole);
  text_is = d.text_is;
  at_is = at ∙ d.at_is;
}

behind_bytes : (xs ys : List ℕ) → IsBytes (xs ++ ys) → IsBytes ys
behind_bytes [] ys h i = h i
behind_bytes (x ∷ xs) ys h i = behind_bytes xs ys (λ k. h (suc k)) i

before_bytes : (xs ys : List ℕ) → IsBytes (xs ++ ys) → IsBytes xs
before_bytes [] ys h i = lit< tt
before_bytes (x ∷ xs) ys h zero = h 0
before_bytes (x ∷ xs) ys h (suc i) = before_bytes xs ys (λ k. h (suc k)) i

payload_bytes : (front : List ℕ) (f : Framed) (behind : List ℕ) → IsBytes (front ++ (frame_bytes f ++ behind)) → IsBytes f.payload
payload_bytes front f behind h = behind_bytes (to_le_bytes w32 (length f.payload) ++ f.channel ∷ 0 ∷ 0 ∷ 0 ∷ []) f.payload (before_bytes (frame_bytes f) behind (behind_bytes front (frame_bytes f ++ behind) h))

dumped_more : (bytes rest out behind : List ℕ) (f : Framed) (h : Held) → Dumped bytes rest out h → Fronts h.held f.channel f.payload behind → IsBytes bytes
    → Dumped bytes rest (out ++ line_ended f) (record { held = behind; at = h.at + length (frame_bytes f) })
dumped_more bytes rest out behind f h d first is =
    let whole : h.held ++ rest ≡ frame_bytes f ++ (behind ++ rest) = ap (λ (t : List ℕ). t ++ rest) first.whole ∙ append_assoc (frame_bytes f) behind rest in
    let joined = more frame_bytes d.frames f in
    let split : bytes ≡ bytes_of d.frames ++ (frame_bytes f ++ (behind ++ rest)) = d.bytes_is ∙ ap (λ (t : List ℕ). bytes_of d.frames ++ t) whole in
    let fits : IsBytes f.payload = payload_bytes (bytes_of d.frames) f (behind ++ rest) (subst IsBytes split is) in
    record {
      frames = d.frames ++ f ∷ [];
      each = each_more d.frames f d.each (record { suits = first.suits; bytes = fits });
      bytes_is = split ∙ sym (append_assoc (bytes_of d.frames) (frame_bytes f) (behind ++ rest))
          ∙ ap (λ (t : List ℕ). t ++ (behind ++ rest)) (sym joined);
      text_is = ap (λ (t : List ℕ). t ++ line_ended f) d.text_is ∙ sym (more line_ended d.frames f);
      at_is = ap (λ (n : ℕ). n + length (frame_bytes f)) d.at_is ∙ sym (length-append (bytes_of d.frames) (frame_bytes f)) ∙ sym (ap length joined);
    }

pub dumped_next : (bytes rest out new payload behind : List ℕ) (channel : ℕ) (h g : Held) → Dumped bytes rest out h → Fronts h.held channel payload behind → IsBytes bytes
    → new ≡ out ++ line_ended (framed channel payload) → g ≡ record { held = behind; at = h.at + length (frame channel payload) } → Dumped bytes rest new g
dumped_next bytes rest out new payload behind channel h g d f is new_is g_is = rw (new_is, g_is) (dumped_more bytes rest out behind (framed channel payload) h d f is)

pub dumped_all : (bytes rest out : List ℕ) (h : Held) → Dumped bytes rest out h → h.held ≡ [] → rest ≡ [] → AreSame out bytes
dumped_all bytes rest out h d held none = record {
  frames = d.frames;
  each = d.each;
  text_is = d.text_is;
  bytes_is = d.bytes_is ∙ ap (λ (t : List ℕ). bytes_of d.frames ++ (t ++ rest)) held ∙ ap (λ (t : List ℕ). bytes_of d.frames ++ t) none ∙ append-nil (bytes_of d.frames);
}

wrong : (bytes rest out : List ℕ) (h : Held) (kind : FrameKind) → Dumped bytes rest out h → 0 < length (h.held ++ rest) → IsWrong (h.held ++ rest) kind → IsBadFrame bytes h.at kind
wrong bytes rest out h kind d some fault = record { frames = d.frames; rest = h.held ++ rest; each = d.each; bytes_is = d.bytes_is; byte_is = d.at_is; some = some; fault = fault }

filled : (xs : List ℕ) → xs ≢ [] → 0 < length xs
filled [] h = absurd (h refl)
filled (x ∷ xs) h = omega arith

some_frame : (channel : ℕ) (payload : List ℕ) → frame channel payload ≢ []
some_frame channel payload e = absurd cc

pub smaller : (rest payload behind : List ℕ) (channel : ℕ) (h g : Held) → Fronts h.held channel payload behind → g ≡ record { held = behind; at = h.at + length (frame channel payload) }
    → 2 * length rest + length g.held < 2 * length rest + length h.held
smaller rest payload behind channel h g f is =
    let left : length g.held ≡ length behind = ap (λ (x : Held). length x.held) is in
    let all : length h.held ≡ length (frame channel payload) + length behind = ap length f.whole ∙ length-append (frame channel payload) behind in
    omega (arith, left, all, filled (frame channel payload) (some_frame channel payload))

pub wrong_start : (bytes rest out : List ℕ) (h : Held) → Dumped bytes rest out h → BeginsNone h.held → IsBadFrame bytes h.at kinds.Frame
wrong_start bytes rest out h d none =
    wrong bytes rest out h kinds.Frame d (filled (h.held ++ rest) (none_is_some h.held rest none))
    (λ further channel payload behind f. none (rest ++ further) channel payload behind (subst (λ (t : List ℕ). Fronts t channel payload behind) (append_assoc h.held rest further) f))

pub wrong_end : (bytes rest out : List ℕ) (h : Held) → Dumped bytes rest out h → rest ≡ [] → 0 < length h.held → IsCutOff h.held → IsBadFrame bytes h.at kinds.End
wrong_end bytes rest out h d none some cut =
    let same : h.held ++ rest ≡ h.held = ap (λ (t : List ℕ). h.held ++ t) none ∙ append-nil h.held in
    wrong bytes rest out h kinds.End d (subst (λ (t : List ℕ). 0 < length t) (sym same) some) (subst IsCutOff (sym same) cut)

-- ---- one way

front_is : (bytes : List ℕ) (f : Framed) (x : List ℕ) → IsRequest f → bytes ≡ frame_bytes f ++ x → Fronts bytes f.channel f.payload x
front_is bytes f x h e = record { suits = h.suits; whole = e }

streams_one : (fs gs : List Framed) (rest : List ℕ) → AreRequests fs → AreRequests gs → bytes_of fs ++ rest ≡ bytes_of gs → (behind : List Framed) × AreRequests behind × (gs ≡ fs ++ behind) × (rest ≡ bytes_of behind)
streams_one [] gs rest a b e = (gs, b, refl, e)
streams_one (f ∷ fs) [] rest a b e = absurd cc
streams_one (f ∷ fs) (g ∷ gs) rest a b e =
    let all : List ℕ = frame_bytes f ++ (bytes_of fs ++ rest) in
    let whole : all ≡ frame_bytes g ++ bytes_of gs = sym (append_assoc (frame_bytes f) (bytes_of fs) rest) ∙ e in
    let both = front_one all f.channel g.channel f.payload g.payload (bytes_of fs ++ rest) (bytes_of gs) (front_is all f (bytes_of fs ++ rest) a.0 refl) (front_is all g (bytes_of gs) b.0 whole) in
    let same : f ≡ g = both.0 in
    let t = streams_one fs gs rest a.1 b.1 both.1 in
    (t.0, t.1, ap (λ (x : Framed). x ∷ gs) (sym same) ∙ ap (λ (x : List Framed). f ∷ x) t.2, t.3)

none_behind : (fs : List Framed) → [] ≡ bytes_of fs → fs ≡ []
none_behind [] e = refl
none_behind (f ∷ fs) e = absurd cc

only_dumped : (out bytes : List ℕ) (gs : List Framed) → AreRequests gs → bytes ≡ bytes_of gs → AreSame out bytes → out ≡ spelled gs
only_dumped out bytes gs b e m =
    let t = streams_one m.frames gs [] m.each b (append-nil (bytes_of m.frames) ∙ sym m.bytes_is ∙ e) in
    let same : gs ≡ m.frames = t.2 ∙ ap (λ (x : List Framed). m.frames ++ x) (none_behind t.0 t.3) ∙ append-nil m.frames in
    m.text_is ∙ ap spelled (sym same)

right : (rest : List ℕ) (f : Framed) (behind : List ℕ) (kind : FrameKind) → Fronts rest f.channel f.payload behind → IsWrong rest kind → ⊥
right rest f behind kinds.End first w = cut_has_none rest w f.channel f.payload behind first
right rest f behind kinds.Frame first w = w [] f.channel f.payload behind (subst (λ (t : List ℕ). Fronts t f.channel f.payload behind) (sym (append-nil rest)) first)

bad_rest : (rest : List ℕ) (kind : FrameKind) (fs : List Framed) → AreRequests fs → rest ≡ bytes_of fs → 0 < length rest → IsWrong rest kind → ⊥
bad_rest rest kind [] a e some w = let none : length rest ≡ 0 = ap length e in omega arith
bad_rest rest kind (f ∷ fs) a e some w = right rest f (bytes_of fs) kind (front_is rest f (bytes_of fs) a.0 e) w

no_bad_frame : (bytes : List ℕ) (byte : ℕ) (kind : FrameKind) (gs : List Framed) → AreRequests gs → bytes ≡ bytes_of gs → IsBadFrame bytes byte kind → ⊥
no_bad_frame bytes byte kind gs b e m =
    let t = streams_one m.frames gs m.rest m.each b (sym m.bytes_is ∙ e) in
    bad_rest m.rest kind t.0 t.1 t.3 m.some m.fault

pub only_stream : {V : Type 0} (items : V → List ℕ) (bytes : List ℕ) (r : Result V FrameFault) → IfOk r (λ text. AreSame (items text) bytes) → IfErr r (λ e. BreaksFrames bytes e)
    → (gs : List Framed) → AreRequests gs → bytes ≡ bytes_of gs → MatchResult r (λ text. items text ≡ spelled gs) (λ e. e ≡ faults.Memory)
only_stream items bytes (Ok text) m f gs b e = only_dumped (items text) bytes gs b e m
only_stream items bytes (Err (faults.At byte kind)) m f gs b e = absurd (no_bad_frame bytes byte kind gs b e f)
only_stream items bytes (Err faults.Memory) m f gs b e = refl
