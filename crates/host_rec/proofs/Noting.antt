-- One record more in the text.
use Rattle.std.proofs.Common.{◌≡◌, ◌<◌, ◌≤◌, ℕ, ◌+◌, ◌-◌, ◌^◌, min, List, [], ◌∷◌, ◌++◌, length, drop, ap, sym, subst, ◌∙◌, arith}
use Rattle.std.specs.List.{AllByRecursion}
use Rattle.std.proofs.lemmas.List.{length-append, flat_map_more}
use Rattle.host_traits.specs.declared.calls.Call.{Call}
use Rattle.host_traits.specs.declared.calls.TapeItem.{TapeItem}
use Rattle.host_traits.specs.declared.calls.TapeItem.TheVariants.{Failed, Done, Number, Bytes}
use Rattle.host_traits.specs.Told.{heard_size}
use Rattle.host_tape.specs.Tape.{IsItem, header, item_bytes}
use Rattle.host_tape.specs.Reading.{items_in}
use Rattle.host_tape.proofs.Grammar.{spelled_items}
use Rattle.host_rec.specs.Recorded.{exchange, failure}
use Rattle.host_rec.specs.Noted.{IsNoted, IsText, items_of, spare_behind}
use Rattle.host_rec.proofs.Recording.{failures-push, size-push}

each-push : (items : List TapeItem) (item : TapeItem) → AllByRecursion IsItem items → IsItem item → AllByRecursion IsItem (items ++ item ∷ [])
each-push [] item each is = (is, tt)
each-push (i ∷ items) item each is = (each.0, each-push items item each.1 is)

text-push : (text : List ℕ) (items : List TapeItem) (item : TapeItem) → 0 < length text → IsText text items → IsText (text ++ item_bytes item) (items ++ item ∷ [])
text-push [] items item some is = absurd (omega (arith, some))
text-push (b ∷ text) items item some is = ap (λ (x : List ℕ). x ++ item_bytes item) is ∙ flat_map_more item_bytes header items item

-- the records behind the header of their tape
tape_items : (text : List ℕ) (items : List TapeItem) → 0 < length text → AllByRecursion IsItem items → IsText text items → items_in (length items) (drop 13 text) ≡ items
tape_items [] items some each is = absurd (omega (arith, some))
tape_items (b ∷ text) items some each is = ap (λ (x : List ℕ). items_in (length items) (drop 13 x)) is ∙ spelled_items items each

-- the records, where one is put behind them
pub items-push : (calls : List Call) (text new : List ℕ) (size faults : ℕ) (call : Call) (item : TapeItem) → IsNoted calls text size faults → 0 < length text → IsItem item → new ≡ text ++ item_bytes item
    → items_of new (calls ++ call ∷ []) ≡ items_of text calls ++ item ∷ []
items-push calls text new size faults call item d some is longer =
    let items : List TapeItem = items_of text calls in
    let spelled : IsText new (items ++ item ∷ []) = subst (λ (x : List ℕ). IsText x (items ++ item ∷ [])) (sym longer) (text-push text items item some d.spelled) in
    let long : 0 < length new = omega (arith, some, ap length longer, length-append text (item_bytes item)) in
    let count : length (calls ++ call ∷ []) ≡ length (items ++ item ∷ []) = omega (arith, d.paired, length-append calls (call ∷ []), length-append items (item ∷ [])) in
    ap (λ (n : ℕ). items_in n (drop 13 new)) count ∙ tape_items new (items ++ item ∷ []) long (each-push items item d.each is) spelled

pub one_more : (calls : List Call) (text new : List ℕ) (size faults n m size' faults' : ℕ) (call : Call) (item : TapeItem) → IsNoted calls text size faults → 0 < length text
    → IsItem item → new ≡ text ++ item_bytes item
    → n ≡ heard_size (exchange call item) → m ≡ failure item → size' ≡ min (size + n) (2 ^ 64 - 1) → faults' ≡ min (faults + m) (2 ^ 64 - 1)
    → IsNoted (calls ++ call ∷ []) new size' faults'
one_more calls text new size faults n m size' faults' call item d some is longer heard failed sized counted =
    let items : List TapeItem = items_of text calls in
    let pushed : items_of new (calls ++ call ∷ []) ≡ items ++ item ∷ [] = items-push calls text new size faults call item d some is longer in
    record {
      spelled = rw (pushed, longer) (text-push text items item some d.spelled);
      each = rw pushed (each-push items item d.each is);
      paired = rw pushed (omega (arith, d.paired, length-append calls (call ∷ []), length-append items (item ∷ [])));
      sized = rw pushed (omega (arith, sized, heard, d.sized, size-push calls items call item d.paired));
      counted = rw pushed (omega (arith, counted, failed, d.counted, failures-push items item));
    }

item_some : (item : TapeItem) → 0 < length (item_bytes item)
unfolding item_bytes
item_some Failed = omega arith
item_some Done = omega arith
item_some (Number n) = omega arith
item_some (Bytes bytes) = omega arith

-- where a record fits, the text was begun
pub begun_some : (text : List ℕ) (capacity : ℕ) (item : TapeItem) → length (item_bytes item) ≤ spare_behind text capacity → 0 < length text
begun_some [] capacity item fits = absurd (omega (arith, fits, item_some item))
begun_some (b ∷ text) capacity item fits = omega arith
