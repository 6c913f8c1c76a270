-- Frames dropped one by one, and a stream piece by piece.
use Rattle.std.proofs.Common.{◌≡◌, ℕ, ◌+◌, List, [], ◌∷◌, ◌++◌, length, refl, sym, ap, subst, ◌∙◌, append_assoc, append-nil, arith, Option, Some, None}
use Rattle.std.proofs.lemmas.List.{length-append}
use Rattle.std.specs.Io.KnownBytes.{Consumes}
use Rattle.session_frames.specs.Frames.{Fronts, IsCutOff, Framed, Splits, Held, frame, bytes_of}
use Rattle.session_frames.specs.Session.{Went, WentOver, Came, SoFar}
use Rattle.session_frames.proofs.Heads.{held_at}
use Rattle.session_frames.proofs.Streams.{framed, splits_none, splits_then, splits_more, length_of_bytes}

pub went_not : (o : Held) → Went o o []
went_not o = record { splits = splits_none o.held; at = omega arith }

-- one frame more
pub went_on : (o m n : Held) (frames : List Framed) (c : ℕ) (p rest : List ℕ) → Went o m frames → Fronts m.held c p rest → n ≡ held_at rest (m.at + length (frame c p)) → Went o n (frames ++ framed c p ∷ [])
went_on o m n frames c p rest w f is =
    let one : length (bytes_of (framed c p ∷ [])) ≡ length (frame c p) = ap length (append-nil (frame c p)) in
    rw is record {
      splits = splits_more o.held m.held frames c p rest w.splits f;
      at = omega (arith, w.at, length_of_bytes frames (framed c p ∷ []), one);
    }

-- where a splitter stands, its bytes counted
pub went_bound : (o n : Held) (frames : List Framed) → Went o n frames → n.at + length n.held ≡ o.at + length o.held
went_bound o n frames w = omega (arith, w.at, ap length w.splits.whole, length-append (bytes_of frames) n.held)

pub over_not : (o : Held) → WentOver o [] o []
over_not o = record { splits = subst (λ (t : List ℕ). Splits t [] o.held) (sym (append-nil o.held)) (splits_none o.held); at = omega arith }

-- a further part of a piece was taken, and its frames were dropped
pub over_on : (o m k n : Held) (a b : List Framed) (front part : List ℕ) → WentOver o front m a → k.held ≡ m.held ++ part → k.at ≡ m.at → Went k n b → WentOver o (front ++ part) n (a ++ b)
over_on o m k n a b front part w fed same v = record {
  splits = subst (λ (t : List ℕ). Splits t (a ++ b) n.held) (append_assoc o.held front part) (splits_then (o.held ++ front) part m.held n.held a b w.splits (subst (λ (t : List ℕ). Splits t b n.held) fed v.splits));
  at = omega (arith, w.at, v.at, length_of_bytes a b);
}

pub over_bound : (o n : Held) (a : List Framed) (front : List ℕ) → WentOver o front n a → n.at + length n.held ≡ o.at + (length o.held + length front)
over_bound o n a front w = omega (arith, w.at, ap length w.splits.whole, length-append (bytes_of a) n.held, length-append o.held front)

pub consumes_then : (a b c : Option (List ℕ)) (x y : List ℕ) → Consumes a b x → Consumes b c y → Consumes a c (x ++ y)
consumes_then None b c x y p q = tt
consumes_then (Some us) None c x y p q = absurd p
consumes_then (Some us) (Some bs) None x y p q = absurd q
consumes_then (Some us) (Some bs) (Some cs) x y p q = p ∙ ap (λ z. x ++ z) q ∙ sym (append_assoc x y cs)

pub consumes_none : (a : Option (List ℕ)) → Consumes a a []
consumes_none None = tt
consumes_none (Some xs) = refl

pub so_far_not : (left : Option (List ℕ)) (h : Held) → h ≡ held_at [] 0 → IsCutOff [] → SoFar left left h 0 []
so_far_not left h is cut = rw is record { bytes = []; came = record { read = consumes_none left; splits = splits_none [] }; at = refl; total_is = refl; cut = cut }

-- a piece more
pub came_on : (first left left2 : Option (List ℕ)) (h k : Held) (a b : List Framed) (bytes piece : List ℕ) → Came first left a bytes h.held → Consumes left left2 piece → WentOver h piece k b → Came first left2 (a ++ b) (bytes ++ piece) k.held
came_on first left left2 h k a b bytes piece so came w = record { read = consumes_then first left left2 bytes piece so.read came; splits = splits_then bytes piece h.held k.held a b so.splits w.splits }

pub so_on : (first left left2 : Option (List ℕ)) (h k : Held) (n m : ℕ) (a b : List Framed) (piece : List ℕ) → SoFar first left h n a → Consumes left left2 piece → WentOver h piece k b → IsCutOff k.held → m ≡ n + length piece → SoFar first left2 k m (a ++ b)
so_on first left left2 h k n m a b piece so came w cut is = record {
  bytes = so.bytes ++ piece;
  came = came_on first left left2 h k a b so.bytes piece so.came came w;
  at = omega (arith, w.at, so.at, length_of_bytes a b);
  total_is = omega (arith, is, so.total_is, length-append so.bytes piece);
  cut = cut;
}

pub so_bound : (first left : Option (List ℕ)) (h : Held) (n : ℕ) (a : List Framed) → SoFar first left h n a → h.at + length h.held ≡ n
so_bound first left h n a so = omega (arith, so.at, so.total_is, ap length so.came.splits.whole, length-append (bytes_of a) h.held)
