-- One record more, and one less.
use Rattle.std.proofs.Common.{◌≡◌, ℕ, zero, suc, ◌+◌, ◌≤◌, List, [], ◌∷◌, ◌++◌, length, length-append, drop, Option, Some, None, refl, sym, ap, subst, ◌∙◌, arith}
use Rattle.std.specs.Prelude.{slice_get, Ok, Bool, true, false, not, nat_eq}
use Rattle.std.proofs.lemmas.List.{drop-drop}
use Rattle.std.specs.Cmp.Lexicographic.{same_text}
use lib.Pointwise.{pointwise}
use Rattle.host_traits.specs.declared.calls.Call.{Call}
use Rattle.host_traits.specs.declared.calls.TapeItem.{TapeItem}
use Rattle.host_tape.specs.Reading.{record_of, behind_one, and_then, items_in, Reads, Counted, Finds, IsKept}
use Rattle.host_tape.proofs.PlayedLemmas.{drop_at}

pub Reads-push : (text : List ℕ) (records : List TapeItem) (rest : List ℕ) (item : TapeItem) (n : ℕ) → Reads text records rest → record_of rest ≡ Some (item, n) → Reads text (records ++ item ∷ []) (drop n rest)
Reads-push text [] rest item n h e = (n, ap record_of h ∙ e, ap (drop n) h)
Reads-push text (r ∷ records) rest item n h e = (h.0, h.1, Reads-push (drop h.0 text) records rest item n h.2 e)

pub one_counted : (text : List ℕ) (at n count : ℕ) (item : TapeItem) → Counted (drop 13 text) count (drop at text) → record_of (drop at text) ≡ Some (item, n) → Counted (drop 13 text) (count + 1) (drop (at + n) text)
one_counted text at n count item so_far found =
    let more = Reads-push (drop 13 text) so_far.items (drop at text) item n so_far.reads found in
    record {
      items = so_far.items ++ item ∷ [];
      are = length-append so_far.items (item ∷ []) ∙ omega (arith, so_far.are);
      reads = subst (λ (x : List ℕ). Reads (drop 13 text) (so_far.items ++ item ∷ []) x) (drop-drop n at text) more;
    }

-- the records that are read are those in front
pub all_read : (text : List ℕ) (items : List TapeItem) (rest : List ℕ) → Reads text items rest → items_in (length items) text ≡ items
all_read text [] rest h = refl
all_read text (item ∷ items) rest h =
    ap (λ (o : Option (TapeItem × ℕ)). and_then o (λ n. items_in (length items) (drop n text))) h.1
    ∙ ap (λ (x : List TapeItem). item ∷ x) (all_read (drop h.0 text) items rest h.2)

pub found_reads : (text : List ℕ) (count : ℕ) → Finds text (Ok count) → Reads (drop 13 text) (items_in count (drop 13 text)) []
found_reads text count f =
    let are : items_in count (drop 13 text) ≡ f.items = ap (λ k. items_in k (drop 13 text)) (sym f.are) ∙ all_read (drop 13 text) f.items [] f.reads in
    subst (λ (x : List TapeItem). Reads (drop 13 text) x []) (sym are) f.reads

pub found_count : (text : List ℕ) (count : ℕ) → Finds text (Ok count) → length (items_in count (drop 13 text)) ≡ count
found_count text count f = ap (λ k. length (items_in k (drop 13 text))) (sym f.are) ∙ ap length (all_read (drop 13 text) f.items [] f.reads) ∙ f.are

-- a tape that no call was made to
pub kept_new : (text : List ℕ) (count room : ℕ) → 13 ≤ length text → Finds text (Ok count) → count ≤ room → IsKept text count 13 [] room 0 0 None
kept_new text count room long f enough = record {
  played = record { fits = omega arith; spare = omega (arith, found_count text count f, enough); refusals = refl; early = λ _. refl; sizes = refl };
  counted = found_count text count f;
  within = long;
  ahead = found_reads text count f;
}

-- behind the next record the others are left
pub one_less : (text : List ℕ) (at : ℕ) (records : List TapeItem) (k : ℕ) (r : TapeItem) → Reads (drop at text) (drop k records) [] → slice_get records k ≡ Some r
    → Reads (drop (behind_one (record_of (drop at text)) at) text) (drop (suc k) records) []
one_less text at records k r h is =
    let left : Reads (drop at text) (r ∷ drop (suc k) records) [] = subst (λ (x : List TapeItem). Reads (drop at text) x []) (drop_at records k r is) h in
    let place : behind_one (record_of (drop at text)) at ≡ at + left.0 = ap (λ (o : Option (TapeItem × ℕ)). behind_one o at) left.1 in
    subst (λ (x : List ℕ). Reads x (drop (suc k) records) []) (drop-drop left.0 at text ∙ ap (λ (n : ℕ). drop n text) (sym place)) left.2

-- the record in front is the next one
abbrev first : List TapeItem → Option TapeItem
first [] = None
first (r ∷ records) = Some r

abbrev pub item_of : Option (TapeItem × ℕ) → Option TapeItem
item_of None = None
item_of (Some found) = Some found.0

first_left : (records : List TapeItem) (k : ℕ) → first (drop k records) ≡ slice_get records k
first_left [] zero = refl
first_left [] (suc k) = refl
first_left (r ∷ records) zero = refl
first_left (r ∷ records) (suc k) = first_left records k

no_record : item_of (record_of []) ≡ None
unfolding record_of
no_record = refl

front_first : (rest : List ℕ) (left : List TapeItem) → Reads rest left [] → item_of (record_of rest) ≡ first left
front_first rest [] h = ap (λ (x : List ℕ). item_of (record_of x)) h ∙ no_record
front_first rest (r ∷ left) h = ap item_of h.1

pub front_is : (rest : List ℕ) (records : List TapeItem) (k : ℕ) → Reads rest (drop k records) [] → item_of (record_of rest) ≡ slice_get records k
front_is rest records k h = front_first rest (drop k records) h ∙ first_left records k

-- after one call more the others are left
pub next_ahead : (text : List ℕ) (at : ℕ) (records : List TapeItem) (calls : List Call) (call : Call) (r : TapeItem) → Reads (drop at text) (drop (length calls) records) [] → slice_get records (length calls) ≡ Some r
    → Reads (drop (behind_one (record_of (drop at text)) at) text) (drop (length (calls ++ call ∷ [])) records) []
next_ahead text at records calls call r h is =
    let longer : length (calls ++ call ∷ []) ≡ suc (length calls) = length-append calls (call ∷ []) ∙ omega arith in
    subst (λ (k : ℕ). Reads (drop (behind_one (record_of (drop at text)) at) text) (drop k records) []) (sym longer) (one_less text at records (length calls) r h is)

-- what a comparison that was turned round has told
pub equal_text : (a b : List ℕ) → false ≡ not (pointwise nat_eq a b) → a ≡ b
equal_text a b e = same_text a b (turned (pointwise nat_eq a b) e)
  where
    turned : (b : Bool) → false ≡ not b → true ≡ b
    turned true e = refl
    turned false e = sym e
