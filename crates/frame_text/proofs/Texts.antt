-- Texts of requests: a line more, and that there is one way to read a text.
use Rattle.std.proofs.Common.{◌≡◌, ◌<◌, ◌+◌, ℕ, List, [], ◌∷◌, ◌++◌, length, Option, Some, None, Result, Ok, Err, refl, sym, ap, ◌∙◌, append_assoc, append-nil, length-append, arith}
use Rattle.std.specs.Prelude.{IfOk, IfErr, MatchResult}
use Rattle.std.specs.List.{flat_map}
use Rattle.text_lines.specs.declared.kinds.PlanKind.{PlanKind}
use Rattle.text_lines.specs.declared.kinds.PlanFault.{PlanFault}
use Rattle.text_lines.specs.declared.kinds.PlanFault.TheVariants as faults
use Rattle.text_lines.specs.Fields.{cut}
use Rattle.text_lines.specs.Spelling.{ended}
use Rattle.text_lines.proofs.Fielded.{cut_joins, cut_again}
use Rattle.session_frames.specs.Frames.{Framed, bytes_of}
use Rattle.frame_text.specs.Requests.{IsRequest, AreRequests, AreSame, frame_bytes, line_of, spelled}
use Rattle.frame_text.specs.Reading.{frame_of, first_of, IsBadLine, BreaksText}
use Rattle.frame_text.proofs.Lines.{line_takes, line_again, line_one}

pub each_more : (fs : List Framed) (f : Framed) → AreRequests fs → IsRequest f → AreRequests (fs ++ f ∷ [])
each_more [] f a b = (b, tt)
each_more (g ∷ fs) f a b = (a.0, each_more fs f a.1 b)

pub more : {X : Type 0} (f : X → List ℕ) (xs : List X) (x : X) → flat_map f (xs ++ x ∷ []) ≡ flat_map f xs ++ f x
more f [] x = append-nil (f x)
more f (y ∷ xs) x = ap (λ (t : List ℕ). f y ++ t) (more f xs x) ∙ sym (append_assoc (f y) (flat_map f xs) (f x))

abbrev pub line_ended : Framed → List ℕ
line_ended f = ended (line_of f)

-- ---- a line more

-- the lines so far and their frames
pub record Made (text rest out : List ℕ) (number : ℕ) : Type 0 where
  pub frames : List Framed
  pub each : AreRequests frames
  pub text_is : text ≡ spelled frames ++ rest
  pub bytes_is : out ≡ bytes_of frames
  pub line_is : number ≡ length frames + 1

pub made_none : (text : List ℕ) → Made text text [] 1
made_none text = record { frames = []; each = tt; text_is = refl; bytes_is = refl; line_is = refl }

pub made_more : (text rest out line after : List ℕ) (f : Framed) (number : ℕ) → Made text rest out number → cut 10 rest ≡ Some (line, after) → frame_of line ≡ Ok f
    → Made text after (out ++ frame_bytes f) (number + 1)
made_more text rest out line after f number m cut_is reads =
    let joins : rest ≡ line ++ 10 ∷ after = cut_joins 10 rest (line, after) cut_is in
    let said = line_takes line f reads in
    let first : List ℕ = line_ended f in
    let one : rest ≡ first ++ after = joins ∙ sym (append_assoc line (10 ∷ []) after) ∙ ap (λ (x : List ℕ). ended x ++ after) said.spelled in
    record {
      frames = m.frames ++ f ∷ [];
      each = each_more m.frames f m.each said.is;
      text_is = m.text_is ∙ ap (λ (t : List ℕ). spelled m.frames ++ t) one ∙ sym (append_assoc (spelled m.frames) first after)
          ∙ ap (λ (t : List ℕ). t ++ after) (sym (more line_ended m.frames f));
      bytes_is = ap (λ (t : List ℕ). t ++ frame_bytes f) m.bytes_is ∙ sym (more frame_bytes m.frames f);
      line_is = omega (arith, m.line_is, length-append m.frames (f ∷ []));
    }

pub made_all : (text rest out : List ℕ) (number : ℕ) → Made text rest out number → rest ≡ [] → AreSame text out
made_all text rest out number m none = record {
  frames = m.frames;
  each = m.each;
  text_is = m.text_is ∙ ap (λ (t : List ℕ). spelled m.frames ++ t) none ∙ append-nil (spelled m.frames);
  bytes_is = m.bytes_is;
}

pub bad_at : (text rest out : List ℕ) (number : ℕ) (kind : PlanKind) → Made text rest out number → 0 < length rest → first_of (cut 10 rest) ≡ Err kind → IsBadLine text number kind
bad_at text rest out number kind m some fault = record { frames = m.frames; rest = rest; each = m.each; text_is = m.text_is; line_is = m.line_is; some = some; fault = fault }

-- ---- one way

abbrev Cut : Type 0
Cut = Option (List ℕ × List ℕ)

abbrev found : List ℕ × List ℕ → Cut
found p = Some p

found_is : (p q : List ℕ × List ℕ) → found p ≡ found q → p ≡ q
found_is p q e = cc

not_found : (p : List ℕ × List ℕ) → found p ≡ None → ⊥
not_found p e = absurd cc

abbrev reads : Framed → Result Framed PlanKind
reads f = Ok f

reads_is : (f g : Framed) → reads f ≡ reads g → f ≡ g
reads_is f g e = cc

reads_well : (f : Framed) (kind : PlanKind) → reads f ≡ Err kind → ⊥
reads_well f kind e = absurd cc

line_front : (f : Framed) → IsRequest f → (x : List ℕ) → cut 10 (line_ended f ++ x) ≡ found (line_of f, x)
line_front f h x = ap (cut 10) (append_assoc (line_of f) (10 ∷ []) x) ∙ cut_again 10 (line_of f) x (line_one f h)

texts_one : (fs gs : List Framed) (rest : List ℕ) → AreRequests fs → AreRequests gs → spelled fs ++ rest ≡ spelled gs → (behind : List Framed) × AreRequests behind × (gs ≡ fs ++ behind) × (rest ≡ spelled behind)
texts_one [] gs rest a b e = (gs, b, refl, e)
texts_one (f ∷ fs) [] rest a b e =
    let whole : line_ended f ++ (spelled fs ++ rest) ≡ [] = sym (append_assoc (line_ended f) (spelled fs) rest) ∙ e in
    absurd (not_found (line_of f, spelled fs ++ rest) (sym (line_front f a.0 (spelled fs ++ rest)) ∙ ap (cut 10) whole))
texts_one (f ∷ fs) (g ∷ gs) rest a b e =
    let whole : line_ended f ++ (spelled fs ++ rest) ≡ line_ended g ++ spelled gs = sym (append_assoc (line_ended f) (spelled fs) rest) ∙ e in
    let both = found_is (line_of f, spelled fs ++ rest) (line_of g, spelled gs) (sym (line_front f a.0 (spelled fs ++ rest)) ∙ ap (cut 10) whole ∙ line_front g b.0 (spelled gs)) in
    let lines : line_of f ≡ line_of g = ap (λ (x : List ℕ × List ℕ). x.0) both in
    let later : spelled fs ++ rest ≡ spelled gs = ap (λ (x : List ℕ × List ℕ). x.1) both in
    let same : f ≡ g = reads_is f g (sym (line_again f a.0) ∙ ap frame_of lines ∙ line_again g b.0) in
    let t = texts_one fs gs rest a.1 b.1 later in
    (t.0, t.1, ap (λ (x : Framed). x ∷ gs) (sym same) ∙ ap (λ (x : List Framed). f ∷ x) t.2, t.3)

none_behind : (fs : List Framed) → AreRequests fs → [] ≡ spelled fs → fs ≡ []
none_behind [] a e = refl
none_behind (f ∷ fs) a e = absurd (not_found (line_of f, spelled fs) (sym (line_front f a.0 (spelled fs)) ∙ ap (cut 10) (sym e)))

only_made : (text out : List ℕ) (gs : List Framed) → AreRequests gs → text ≡ spelled gs → AreSame text out → out ≡ bytes_of gs
only_made text out gs b e m =
    let t = texts_one m.frames gs [] m.each b (append-nil (spelled m.frames) ∙ sym m.text_is ∙ e) in
    let same : gs ≡ m.frames = t.2 ∙ ap (λ (x : List Framed). m.frames ++ x) (none_behind t.0 t.1 t.3) ∙ append-nil m.frames in
    m.bytes_is ∙ ap bytes_of (sym same)

bad_rest : (rest : List ℕ) (kind : PlanKind) (fs : List Framed) → AreRequests fs → rest ≡ spelled fs → 0 < length rest → first_of (cut 10 rest) ≡ Err kind → ⊥
bad_rest rest kind [] a e some fault = let none : length rest ≡ 0 = ap length e in omega arith
bad_rest rest kind (f ∷ fs) a e some fault =
    let c : cut 10 rest ≡ found (line_of f, spelled fs) = ap (cut 10) e ∙ line_front f a.0 (spelled fs) in
    reads_well f kind (sym (line_again f a.0) ∙ sym (ap first_of c) ∙ fault)

no_bad_line : (text : List ℕ) (number : ℕ) (kind : PlanKind) (gs : List Framed) → AreRequests gs → text ≡ spelled gs → IsBadLine text number kind → ⊥
no_bad_line text number kind gs b e m =
    let t = texts_one m.frames gs m.rest m.each b (sym m.text_is ∙ e) in
    bad_rest m.rest kind t.0 t.1 t.3 m.some m.fault

pub only_text : {V : Type 0} (items : V → List ℕ) (text : List ℕ) (r : Result V PlanFault) → IfOk r (λ out. AreSame text (items out)) → IfErr r (λ e. BreaksText text e)
    → (gs : List Framed) → AreRequests gs → text ≡ spelled gs → MatchResult r (λ out. items out ≡ bytes_of gs) (λ e. e ≡ faults.Memory)
only_text items text (Ok out) m f gs b e = only_made text (items out) gs b e m
only_text items text (Err (faults.At number kind)) m f gs b e = absurd (no_bad_line text number kind gs b e f)
only_text items text (Err faults.Memory) m f gs b e = refl
