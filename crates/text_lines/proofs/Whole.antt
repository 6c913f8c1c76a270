-- What is read line by line is a text of items, and a text of items is read.
use Rattle.std.proofs.Common.{◌≡◌, ◌<◌, ◌≤◌, ◌+◌, ℕ, zero, suc, List, [], ◌∷◌, ◌++◌, length, map, Bool, true, false, cond, ltb, eqb, Result, Ok, Err, refl, ap, ◌∙◌, arith, inl, inr}
use Rattle.std.proofs.lemmas.Bool.{lt-ltb, ltb-false, le-ltb, eqb-true, ne_eqb}
use Rattle.std.proofs.lemmas.List.{append-nil, nil_from_length}
use Rattle.std.specs.List.{flat_map, AllByRecursion}
use Rattle.std.specs.Str.{bytes_eq}
use Rattle.text_lines.specs.declared.kinds.PlanKind.{PlanKind}
use Rattle.text_lines.specs.declared.kinds.PlanKind.TheVariants as kinds
use Rattle.text_lines.specs.Fields.{◌>>=◌}
use Rattle.text_lines.specs.Values.{check}
use Rattle.text_lines.specs.Lines.{lines_of, located, is_end, numbered, walk, text_of, adds}
use Rattle.text_lines.specs.Spelling.{ended, spelled, collect, IsText}
use Rattle.text_lines.proofs.Spelled.{both}
use Rattle.text_lines.proofs.Numbers.{bind_ok, check_ok, chosen, text_is, same_text}
use Rattle.text_lines.proofs.Fielded.{OneLine, lines_join, lines_again}

-- a line is read as an item exactly where it is the item's text, and no item's text has a line feed
pub record IsRead {I : Type 0} (item_of : List ℕ → Result I PlanKind) (IsItem : I → Type 0) (item_text : I → List ℕ) : Type 0 where
  pub takes : (line : List ℕ) (item : I) → item_of line ≡ Ok item → IsItem item × (line ≡ item_text item)
  pub again : (item : I) → IsItem item → item_of (item_text item) ≡ Ok item
  pub one : (item : I) → IsItem item → OneLine (item_text item)

abbrev done : {K : Type 0} → K → Result K PlanKind
done x = Ok x

abbrev Total : Type 0 → Type 0
Total K = Result K (ℕ × PlanKind)

abbrev whole : {K : Type 0} → K → Total K
whole x = Ok x

done_is : {K : Type 0} (x y : K) → done x ≡ done y → x ≡ y
done_is x y e = cc

bounded : (n m : ℕ) → n ≤ 4096 → (0 < m → (n + 1) + m ≤ 4097) → n + suc m ≤ 4097
bounded n zero few h = omega arith
bounded n (suc m) few h = let k : (n + 1) + suc m ≤ 4097 = h (omega arith) in omega arith

bound_two : (m : ℕ) → (0 < m → 2 + m ≤ 4097) → m < 4096
bound_two zero h = omega arith
bound_two (suc m) h = let k : 2 + suc m ≤ 4097 = h (omega arith) in omega arith

located_ok : {K V : Type 0} (n : ℕ) (r : Result K PlanKind) (f : K → Total V) (y : V) → located n r f ≡ Ok y → (k : K) × (r ≡ Ok k) × (f k ≡ Ok y)
located_ok n (Ok k) f y e = (k, refl, e)
located_ok n (Err kind) f y e = absurd cc

step_takes : {I K : Type 0} (header : List ℕ) (item_of : List ℕ → Result I PlanKind) (add : K → ℕ → I → Result K PlanKind) (k later : K) (n : ℕ) (line : List ℕ) → 1 < n →
    numbered header (adds item_of add) k n line ≡ Ok later → (n ≤ 4096) × ((item : I) × (item_of line ≡ Ok item) × (add k n item ≡ Ok later))
unfolding numbered
step_takes header item_of add k later n line more e =
    elim (chosen (ltb 4096 n) (Err kinds.Lines) _ (done later) e) [
      | inl h ↦ absurd (cc (h.1))
      | inr h ↦ elim (chosen (eqb n 1) (check (bytes_eq line header) kinds.Header k) (item_of line >>= λ item. add k n item) (done later) h.1) [
        | inl g ↦ let first : n ≡ 1 = eqb-true n 1 g.0 in absurd (omega arith)
        | inr g ↦ (ltb-false 4096 n h.0, bind_ok (item_of line) (λ item. add k n item) later g.1)
      ]
    ]

ne_one : (n : ℕ) → 1 < n → eqb n 1 ≡ false
ne_one n h = ne_eqb n 1 (λ e. absurd (omega arith))

step_again : {I K : Type 0} (header : List ℕ) (item_of : List ℕ → Result I PlanKind) (add : K → ℕ → I → Result K PlanKind) (k later : K) (n : ℕ) (line : List ℕ) (item : I) → 1 < n → n ≤ 4096 →
    item_of line ≡ Ok item → add k n item ≡ Ok later → numbered header (adds item_of add) k n line ≡ Ok later
unfolding numbered
step_again header item_of add k later n line item more few h e =
    let t : ltb 4096 n ≡ false = le-ltb _ _ few in
    rw (t, ne_one n more, h) e

choose_ok : {K : Type 0} (b : Bool) (k later : K) (f : ℕ × PlanKind) → cond b (whole k) (Err f) ≡ whole later → (b ≡ true) × (k ≡ later)
choose_ok true k later f e = (refl, cc)
choose_ok false k later f e = absurd cc

record Collects {I K : Type 0} (IsItem : I → Type 0) (item_text : I → List ℕ) (add : K → ℕ → I → Result K PlanKind) (lines : List (List ℕ)) (rest : List ℕ) (n : ℕ) (k later : K) : Type 0 where
  items : List I
  texts : lines ≡ map item_text items
  each : AllByRecursion IsItem items
  ends : rest ≡ []
  says : collect add n k items ≡ Ok later
  few : 0 < length items → n + length items ≤ 4097

walk_takes : {I K : Type 0} (header : List ℕ) (item_of : List ℕ → Result I PlanKind) (add : K → ℕ → I → Result K PlanKind) (IsItem : I → Type 0) (item_text : I → List ℕ) → IsRead item_of IsItem item_text →
    (lines : List (List ℕ)) (rest : List ℕ) (n : ℕ) (k later : K) → 1 < n → walk header (adds item_of add) n k lines rest ≡ Ok later → Collects IsItem item_text add lines rest n k later
unfolding walk collect
walk_takes header item_of add IsItem item_text law [] rest n k later more e =
    let c = choose_ok (is_end rest n) k later (n, kinds.End) e in
    let none = both (eqb (length rest) 0) (ltb 1 n) c.0 in
    record { items = []; texts = refl; each = tt; ends = nil_from_length rest (eqb-true (length rest) 0 none.0); says = ap done c.1; few = λ h. absurd (omega arith) }
walk_takes {I} {K} header item_of add IsItem item_text law (line ∷ lines) rest n k later more e =
    let step = adds item_of add in
    let a = located_ok n (numbered header step k n line) (λ x. walk header step (n + 1) x lines rest) later e in
    let s = step_takes header item_of add k a.0 n line more a.1 in
    let item = s.1.0 in
    let is = law.takes line item s.1.1 in
    let others = walk_takes header item_of add IsItem item_text law lines rest (n + 1) a.0 later (omega arith) a.2 in
    record {
      items = item ∷ others.items;
      texts = ap (λ (x : List ℕ). x ∷ lines) is.1 ∙ ap (λ (x : List (List ℕ)). item_text item ∷ x) others.texts;
      each = (is.0, others.each);
      ends = others.ends;
      says = ap (λ (r : Result K PlanKind). r >>= λ x. collect add (n + 1) x others.items) s.1.2 ∙ others.says;
      few = λ h. bounded n (length others.items) s.0 others.few;
    }

walk_again : {I K : Type 0} (header : List ℕ) (item_of : List ℕ → Result I PlanKind) (add : K → ℕ → I → Result K PlanKind) (IsItem : I → Type 0) (item_text : I → List ℕ) → IsRead item_of IsItem item_text →
    (items : List I) (n : ℕ) (k later : K) → 1 < n → n + length items ≤ 4097 → AllByRecursion IsItem items → collect add n k items ≡ Ok later → walk header (adds item_of add) n k (map item_text items) [] ≡ Ok later
unfolding walk collect
walk_again header item_of add IsItem item_text law [] n k later more few each e =
    let t : ltb 1 n ≡ true = lt-ltb _ _ more in
    let same : k ≡ later = done_is k later e in
    rw t (ap whole same)
walk_again {I} {K} header item_of add IsItem item_text law (item ∷ items) n k later more few each e =
    let step = adds item_of add in
    let a = bind_ok (add k n item) (λ x. collect add (n + 1) x items) later e in
    ap (λ (r : Result K PlanKind). located n r (λ x. walk header step (n + 1) x (map item_text items) [])) (step_again header item_of add k a.0 n (item_text item) item more (omega arith) (law.again item each.0) a.1)
    ∙ walk_again header item_of add IsItem item_text law items (n + 1) a.0 later (omega arith) (omega arith) each.1 a.2

-- ---- texts

items_one : {I : Type 0} (item_of : List ℕ → Result I PlanKind) (IsItem : I → Type 0) (item_text : I → List ℕ) → IsRead item_of IsItem item_text → (items : List I) → AllByRecursion IsItem items → AllByRecursion OneLine (map item_text items)
items_one item_of IsItem item_text law [] h = tt
items_one item_of IsItem item_text law (item ∷ items) h = (law.one item h.0, items_one item_of IsItem item_text law items h.1)

abbrev Lines : Type 0
Lines = List (List ℕ) × List ℕ

all_lines : (lines : List (List ℕ)) → AllByRecursion OneLine lines → let made : Lines = (lines, []) in lines_of (flat_map ended lines) ≡ made
all_lines [] h = refl
all_lines (line ∷ lines) h =
    lines_again line (flat_map ended lines) h.0 ∙ ap (λ (x : Lines). let made : Lines = (line ∷ x.0, x.1) in made) (all_lines lines h.1)

record First {I K : Type 0} (header : List ℕ) (IsItem : I → Type 0) (item_text : I → List ℕ) (add : K → ℕ → I → Result K PlanKind) (start : K) (lines : List (List ℕ)) (rest : List ℕ) (later : K) : Type 0 where
  items : List I
  each : AllByRecursion IsItem items
  few : length items < 4096
  text_is : flat_map ended lines ++ rest ≡ spelled header item_text items
  says : collect add 2 start items ≡ Ok later

first_takes : {I K : Type 0} (header : List ℕ) (item_of : List ℕ → Result I PlanKind) (add : K → ℕ → I → Result K PlanKind) (IsItem : I → Type 0) (item_text : I → List ℕ) → IsRead item_of IsItem item_text →
    (start : K) (lines : List (List ℕ)) (rest : List ℕ) (later : K) → walk header (adds item_of add) 1 start lines rest ≡ Ok later → First header IsItem item_text add start lines rest later
unfolding walk numbered
first_takes header item_of add IsItem item_text law start [] rest later e =
    let c = choose_ok (is_end rest 1) start later (1, kinds.End) e in
    absurd (cc ((both (eqb (length rest) 0) false c.0).1))
first_takes {I} {K} header item_of add IsItem item_text law start (line ∷ lines) rest later e =
    let step = adds item_of add in
    let a = located_ok 1 (check (bytes_eq line header) kinds.Header start) (λ x. walk header step 2 x lines rest) later e in
    let c = check_ok (bytes_eq line header) kinds.Header start a.0 a.1 in
    let w = walk_takes header item_of add IsItem item_text law lines rest 2 start later (omega arith) (ap (λ (x : K). walk header step 2 x lines rest) c.1 ∙ a.2) in
    record {
      items = w.items;
      each = w.each;
      few = bound_two (length w.items) w.few;
      text_is = ap (λ (x : List ℕ). flat_map ended (line ∷ lines) ++ x) w.ends ∙ append-nil (flat_map ended (line ∷ lines)) ∙ ap (λ (x : List ℕ). flat_map ended (x ∷ lines)) (text_is line header c.0) ∙ ap (λ (x : List (List ℕ)). flat_map ended (header ∷ x)) w.texts;
      says = w.says;
    }

pub text_takes : {I K : Type 0} (header : List ℕ) (item_of : List ℕ → Result I PlanKind) (add : K → ℕ → I → Result K PlanKind) (IsItem : I → Type 0) (item_text : I → List ℕ) → IsRead item_of IsItem item_text →
    (start : K) (bytes : List ℕ) (later : K) → text_of header (adds item_of add) start bytes ≡ Ok later → IsText header IsItem item_text add start bytes later
text_takes header item_of add IsItem item_text law start bytes later e =
    let f = first_takes header item_of add IsItem item_text law start (lines_of bytes).0 (lines_of bytes).1 later e in
    record { items = f.items; each = f.each; few = f.few; text_is = lines_join bytes ∙ f.text_is; says = f.says }

pub text_again : {I K : Type 0} (header : List ℕ) (item_of : List ℕ → Result I PlanKind) (add : K → ℕ → I → Result K PlanKind) (IsItem : I → Type 0) (item_text : I → List ℕ) → IsRead item_of IsItem item_text → OneLine header →
    (start : K) (bytes : List ℕ) (k : K) → IsText header IsItem item_text add start bytes k → text_of header (adds item_of add) start bytes ≡ Ok k
unfolding walk numbered
text_again {I} {K} header item_of add IsItem item_text law plain start bytes k h =
    let step = adds item_of add in
    let lines : List (List ℕ) = map item_text h.items in
    let made : Lines = (header ∷ lines, []) in
    let cut_up : lines_of bytes ≡ made = ap lines_of h.text_is ∙ all_lines (header ∷ lines) (plain, items_one item_of IsItem item_text law h.items h.each) in
    let t : bytes_eq header header ≡ true = same_text header in
    ap (λ (x : Lines). walk header step 1 start x.0 x.1) cut_up
    ∙ ap (λ (b : Bool). located 1 (check b kinds.Header start) (λ x. walk header step 2 x lines [])) t
    ∙ walk_again header item_of add IsItem item_text law h.items 2 start k (omega arith) (omega (arith, h.few)) h.each h.says
