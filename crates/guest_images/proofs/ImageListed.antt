-- What is read as a list of an image's partitions is in its grammar, and what is in the grammar is read.
use Rattle.std.proofs.Common.{◌≡◌, ◌≢◌, ◌<◌, ◌+◌, ℕ, List, [], ◌∷◌, ◌++◌, length, map, Bool, true, false, cond, ◌||◌, Option, Some, None, Result, Ok, Err, refl, sym, ap, subst, ◌∙◌, arith, append_assoc, append-nil}
use Rattle.std.specs.Prelude.{codes, IfOk, is_some, nat_lt, ◌==◌, if◌then◌else◌}
use Rattle.std.specs.List.{list_any, flat_map, AllByRecursion}
use Rattle.std.specs.Str.{bytes_eq}
use Rattle.std.proofs.lemmas.List.Folds.{list_any-append}
use Rattle.guid_crc.specs.Guids.{Guid}
use Rattle.text_lines.specs.declared.kinds.PlanKind.{PlanKind}
use Rattle.text_lines.specs.declared.kinds.PlanKind.TheVariants as kinds
use Rattle.text_lines.specs.declared.kinds.PlanFault.{PlanFault}
use Rattle.text_lines.specs.Fields.{◌>>=◌, first_field}
use Rattle.text_lines.specs.Values.{check}
use Rattle.text_lines.specs.Lines.{adds, located, lines_of, numbered, text_of, walk}
use Rattle.text_lines.specs.Lists.{completed}
use Rattle.text_lines.specs.Spelling.{collect, ended, IsText}
use Rattle.text_lines.proofs.Lists.{Apart, completed_ok}
use Rattle.text_lines.proofs.Numbers.{bind_ok}
use Rattle.text_lines.proofs.Whole.{text_takes, text_again}
use Rattle.guest_plan.proofs.Words.{by_word, made_of}
use Rattle.instance_image.specs.Grammar.{AreApart, AreNamed, IsNew, empty_slots}
use Rattle.guest_images.specs.declared.image_lists.ImageList.{ImageList}
use Rattle.guest_images.specs.ImageLists.{IsImageList, IsImagePart, ImageSaid, TellsImage, unsaid, same_uuid, add_image_part, begin_image, continue_image, image_step, image_header, image_list_of, image_part_of, image_part_text, image_salt_of, image_salt_text, image_said, lacking_salt}
use Rattle.guest_images.proofs.ImageLined.{Line, salt_line, part_line, IsLine, line_text, line_of, lines_read, salt_word, part_word, of_salt, of_part, other_text, text_other}

abbrev Part : Type 0
Part = Guid × ℕ

abbrev Parts : Type 0
Parts = List Part

abbrev pub said : List ℕ → List (Guid × ℕ) → ImageSaid
said salt parts = record { salt = Some salt; parts = parts }

-- ---- the same lines, each as an item that is added

abbrev add : ImageSaid → ℕ → Line → Result ImageSaid PlanKind
add k n (salt_line salt) = if is_some k.salt then Err kinds.Twice else Ok (record k { salt = Some salt })
add k n (part_line p) = if is_some k.salt then add_image_part k p else Err kinds.Word

abbrev Step : Type 0
Step = ImageSaid → ℕ → List ℕ → Result ImageSaid PlanKind

abbrev Follows : Step → Step → Type 0
Follows a b = (k later : ImageSaid) (n : ℕ) (line : List ℕ) → a k n line ≡ Ok later → b k n line ≡ Ok later

begin_adds : (k later : ImageSaid) (n : ℕ) (line : List ℕ) → is_some k.salt ≡ false → begin_image k line ≡ Ok later → adds line_of add k n line ≡ Ok later
unfolding begin_image
begin_adds k later n line none e =
    by_word (first_field line) (codes "salt") (image_salt_of line >>= λ salt. Ok (record k { salt = Some salt })) (Err kinds.Word) (Ok later)
    (λ word f.
    let m = made_of (image_salt_of line) (λ salt. let made : ImageSaid = record k { salt = Some salt } in made) later f in
    ap (λ (r : Result Line PlanKind). r >>= λ item. add k n item) (of_salt line m.0 word m.1) ∙ rw none (ap (λ (x : ImageSaid). Ok x) m.2))
    (λ f. absurd (cc (f))) e

continue_adds : (k later : ImageSaid) (n : ℕ) (line : List ℕ) → is_some k.salt ≡ true → continue_image k line ≡ Ok later → adds line_of add k n line ≡ Ok later
unfolding continue_image
continue_adds k later n line some e =
    by_word (first_field line) (codes "salt") (image_salt_of line >>= λ salt. Err kinds.Twice) _ (Ok later)
    (λ word f. let b = bind_ok (image_salt_of line) (λ salt. Err kinds.Twice) later f in absurd (cc (b.2)))
    (λ f. by_word (first_field line) (codes "part") (image_part_of line >>= λ p. add_image_part k p) (Err kinds.Word) (Ok later)
    (λ word g.
    let b = bind_ok (image_part_of line) (λ p. add_image_part k p) later g in
    ap (λ (r : Result Line PlanKind). r >>= λ item. add k n item) (of_part line b.0 word b.1) ∙ rw some b.2)
    (λ g. absurd (cc (g)))
    f) e

step_by : (k later : ImageSaid) (n : ℕ) (line : List ℕ) (b : Bool) → is_some k.salt ≡ b → cond b (continue_image k line) (begin_image k line) ≡ Ok later → adds line_of add k n line ≡ Ok later
step_by k later n line true some e = continue_adds k later n line some e
step_by k later n line false none e = begin_adds k later n line none e

step_adds : Follows image_step (adds line_of add)
step_adds k later n line e = step_by k later n line (is_some k.salt) refl e

salt_step : (k later : ImageSaid) (line salt : List ℕ) (b : Bool) → first_field line ≡ codes "salt" → image_salt_of line ≡ Ok salt → cond b (Err kinds.Twice) (Ok (record k { salt = Some salt })) ≡ Ok later
    → cond b (continue_image k line) (begin_image k line) ≡ Ok later
unfolding begin_image
salt_step k later line salt true word is e = absurd (cc (e))
salt_step k later line salt false word is e = rw (word, is) e

part_step : (k later : ImageSaid) (line : List ℕ) (p : Part) (b : Bool) → first_field line ≡ codes "part" → image_part_of line ≡ Ok p → cond b (add_image_part k p) (Err kinds.Word) ≡ Ok later
    → cond b (continue_image k line) (begin_image k line) ≡ Ok later
unfolding continue_image
part_step k later line p true word is e = rw (word, is) e
part_step k later line p false word is e = absurd (cc (e))

item_step : (k later : ImageSaid) (n : ℕ) (line : List ℕ) (item : Line) → line_of line ≡ Ok item → add k n item ≡ Ok later → image_step k n line ≡ Ok later
item_step k later n line (salt_line salt) is e = let w = salt_word line salt is in salt_step k later line salt (is_some k.salt) w.0 w.1 e
item_step k later n line (part_line p) is e = let w = part_word line p is in part_step k later line p (is_some k.salt) w.0 w.1 e

adds_step : Follows (adds line_of add) image_step
adds_step k later n line e = let a = bind_ok (line_of line) (λ item. add k n item) later e in item_step k later n line a.0 a.1 a.2

-- ---- texts that two ways of reading a line read alike

abbrev Total : Type 0
Total = Result ImageSaid (ℕ × PlanKind)

located_same : (n : ℕ) (r s : Result ImageSaid PlanKind) (f g : ImageSaid → Total) (y : ImageSaid) → ((x : ImageSaid) → r ≡ Ok x → s ≡ Ok x) → ((x : ImageSaid) → f x ≡ Ok y → g x ≡ Ok y)
    → located n r f ≡ Ok y → located n s g ≡ Ok y
located_same n (Ok x) s f g y same later e = ap (λ (r : Result ImageSaid PlanKind). located n r g) (same x refl) ∙ later x e
located_same n (Err kind) s f g y same later e = absurd cc

last_same : (a b : Bool) (x y r s : Result ImageSaid PlanKind) (later : ImageSaid) → (r ≡ Ok later → s ≡ Ok later) → cond a x (cond b y r) ≡ Ok later → cond a x (cond b y s) ≡ Ok later
last_same true b x y r s later same e = e
last_same false true x y r s later same e = e
last_same false false x y r s later same e = same e

numbered_same : (a b : Step) → Follows a b → (header : List ℕ) (k later : ImageSaid) (n : ℕ) (line : List ℕ) → numbered header a k n line ≡ Ok later → numbered header b k n line ≡ Ok later
unfolding numbered
numbered_same a b law header k later n line e =
    last_same (nat_lt 4096 n) (n == 1) (Err kinds.Lines) (check (bytes_eq line header) kinds.Header k) (a k n line) (b k n line) later (law k later n line) e

walk_same : (a b : Step) → Follows a b → (header : List ℕ) (n : ℕ) (k later : ImageSaid) (lines : List (List ℕ)) (rest : List ℕ) → walk header a n k lines rest ≡ Ok later → walk header b n k lines rest ≡ Ok later
unfolding walk
walk_same a b law header n k later [] rest e = e
walk_same a b law header n k later (line ∷ lines) rest e =
    located_same n (numbered header a k n line) (numbered header b k n line) (λ x. walk header a (n + 1) x lines rest) (λ x. walk header b (n + 1) x lines rest) later
    (λ x is. numbered_same a b law header k x n line is) (λ x is. walk_same a b law header (n + 1) x later lines rest is) e

text_same : (a b : Step) → Follows a b → (header : List ℕ) (start later : ImageSaid) (bytes : List ℕ) → text_of header a start bytes ≡ Ok later → text_of header b start bytes ≡ Ok later
text_same a b law header start later bytes e = walk_same a b law header 1 start later (lines_of bytes).0 (lines_of bytes).1 e

-- ---- no UUID twice

neither : (a b : Bool) → (a || b) ≡ false → (a ≡ false) × (b ≡ false)
neither true b e = absurd cc
neither false b e = (refl, e)

both_none : (a b : Bool) → a ≡ false → b ≡ false → (a || b) ≡ false
both_none true b e f = absurd cc
both_none false b e f = f

-- none of these UUIDs stands before
abbrev AreOther : Parts → Parts → Type 0
AreOther before parts = AllByRecursion (λ (q : Part). list_any (same_uuid q) before ≡ false) parts

other_than : (before : Parts) (p q : Part) → list_any (same_uuid q) (before ++ p ∷ []) ≡ false → (list_any (same_uuid q) before ≡ false) × (p.0.0 ≢ q.0.0)
other_than before p q e =
    let a = neither (list_any (same_uuid q) before) (list_any (same_uuid q) (p ∷ [])) (sym (list_any-append (same_uuid q) before (p ∷ [])) ∙ e) in
    let b = neither (same_uuid q p) false a.1 in
    (a.0, λ e. other_text q.0.0 p.0.0 b.0 (sym e))

than_other : (before : Parts) (p q : Part) → list_any (same_uuid q) before ≡ false → p.0.0 ≢ q.0.0 → list_any (same_uuid q) (before ++ p ∷ []) ≡ false
than_other before p q e other =
    list_any-append (same_uuid q) before (p ∷ [])
    ∙ both_none (list_any (same_uuid q) before) (list_any (same_uuid q) (p ∷ [])) e (both_none (same_uuid q p) false (text_other q.0.0 p.0.0 (λ f. other (sym f))) refl)

split_others : (before : Parts) (p : Part) (parts : Parts) → AreOther (before ++ p ∷ []) parts → IsNew p.0.0 (empty_slots parts) × AreOther before parts
unfolding empty_slots
split_others before p [] h = (tt, tt)
split_others before p (q ∷ parts) h =
    let one = other_than before p q h.0 in
    let more = split_others before p parts h.1 in
    ((one.1, more.0), (one.0, more.1))

join_others : (before : Parts) (p : Part) (parts : Parts) → IsNew p.0.0 (empty_slots parts) → AreOther before parts → AreOther (before ++ p ∷ []) parts
unfolding empty_slots
join_others before p [] new h = tt
join_others before p (q ∷ parts) new h = (than_other before p q h.0 new.0, join_others before p parts new.1 h.1)

apart_slots : (before parts : Parts) → Apart same_uuid before parts → AreApart (empty_slots parts) × AreOther before parts
unfolding empty_slots
apart_slots before [] h = (tt, tt)
apart_slots before (p ∷ parts) h =
    let more = apart_slots (before ++ p ∷ []) parts h.1 in
    let new = split_others before p parts more.1 in
    ((new.0, more.0), (h.0, new.1))

slots_apart : (before parts : Parts) → AreApart (empty_slots parts) → AreOther before parts → Apart same_uuid before parts
unfolding empty_slots
slots_apart before [] a h = tt
slots_apart before (p ∷ parts) a h = (h.0, slots_apart (before ++ p ∷ []) parts a.1 (join_others before p parts a.0 h.1))

none_before : (parts : Parts) → AreOther [] parts
none_before [] = tt
none_before (p ∷ parts) = (refl, none_before parts)

-- ---- lines that are collected

record Continued (items : List Line) (salt : List ℕ) (before : Parts) (later : ImageSaid) : Type 0 where
  parts : Parts
  texts : items ≡ map part_line parts
  is : later ≡ said salt (before ++ parts)
  apart : Apart same_uuid before parts

allowed : (b : Bool) (x later : ImageSaid) → (if b then Err kinds.Twice else Ok x) ≡ Ok later → (b ≡ false) × (later ≡ x)
allowed true x later e = absurd (cc (e))
allowed false x later e = (refl, cc)

part_added : (salt : List ℕ) (before : Parts) (p : Part) (later : ImageSaid) → add_image_part (said salt before) p ≡ Ok later → (list_any (same_uuid p) before ≡ false) × (later ≡ said salt (before ++ p ∷ []))
unfolding add_image_part
part_added salt before p later e = allowed (list_any (same_uuid p) before) (said salt (before ++ p ∷ [])) later e

part_again : (salt : List ℕ) (before : Parts) (p : Part) → list_any (same_uuid p) before ≡ false → add_image_part (said salt before) p ≡ Ok (said salt (before ++ p ∷ []))
unfolding add_image_part
part_again salt before p new = rw new refl

collected : (items : List Line) (n : ℕ) (salt : List ℕ) (before : Parts) (later : ImageSaid) → collect add n (said salt before) items ≡ Ok later → Continued items salt before later
unfolding collect
collected [] n salt before later e =
    let same : said salt before ≡ later = cc (e) in
    record { parts = []; texts = refl; is = sym same ∙ ap (said salt) (sym (append-nil before)); apart = tt }
collected (salt_line other ∷ items) n salt before later e = absurd (cc (e))
collected (part_line p ∷ items) n salt before later e =
    let b = bind_ok (add_image_part (said salt before) p) (λ x. collect add (n + 1) x items) later e in
    let one = part_added salt before p b.0 b.1 in
    let more = collected items (n + 1) salt (before ++ p ∷ []) later (ap (λ (x : ImageSaid). collect add (n + 1) x items) (sym one.1) ∙ b.2) in
    record {
      parts = p ∷ more.parts;
      texts = ap (λ (t : List Line). part_line p ∷ t) more.texts;
      is = more.is ∙ ap (said salt) (append_assoc before (p ∷ []) more.parts);
      apart = (one.0, more.apart);
    }

collect_again : (parts : Parts) (n : ℕ) (salt : List ℕ) (before : Parts) → Apart same_uuid before parts → collect add n (said salt before) (map part_line parts) ≡ Ok (said salt (before ++ parts))
unfolding collect
collect_again [] n salt before h = ap (λ (ps : Parts). Ok (said salt ps)) (sym (append-nil before))
collect_again (p ∷ parts) n salt before h =
    ap (λ (r : Result ImageSaid PlanKind). r >>= λ x. collect add (n + 1) x (map part_line parts)) (part_again salt before p h.0)
    ∙ collect_again parts (n + 1) salt (before ++ p ∷ []) h.1
    ∙ ap (λ (ps : Parts). Ok (said salt ps)) (append_assoc before (p ∷ []) parts)

record Begun (items : List Line) (k : ImageSaid) : Type 0 where
  salt : List ℕ
  parts : Parts
  texts : items ≡ salt_line salt ∷ map part_line parts
  is : k ≡ said salt parts
  apart : Apart same_uuid [] parts

begun : (items : List Line) (k : ImageSaid) → collect add 2 unsaid items ≡ Ok k → is_some k.salt ≡ true → Begun items k
unfolding collect
begun [] k e some = let same : unsaid ≡ k = cc (e) in let none : false ≡ true = ap (λ (x : ImageSaid). is_some x.salt) same ∙ some in absurd (cc (none))
begun (salt_line salt ∷ items) k e some =
    let more = collected items 3 salt [] k e in
    record { salt = salt; parts = more.parts; texts = ap (λ (t : List Line). salt_line salt ∷ t) more.texts; is = more.is; apart = more.apart }
begun (part_line p ∷ items) k e some = absurd (cc (e))

-- ---- the whole text

parts_each : (parts : Parts) → AllByRecursion IsLine (map part_line parts) → AllByRecursion IsImagePart parts
parts_each [] h = tt
parts_each (p ∷ parts) h = (h.0, parts_each parts h.1)

each_line : (parts : Parts) → AllByRecursion IsImagePart parts → AllByRecursion IsLine (map part_line parts)
each_line [] h = tt
each_line (p ∷ parts) h = (h.0, each_line parts h.1)

parts_count : (parts : Parts) → length (map part_line parts) ≡ length parts
parts_count [] = refl
parts_count (p ∷ parts) = omega (arith, parts_count parts)

parts_texts : (parts : Parts) → map line_text (map part_line parts) ≡ map image_part_text parts
parts_texts [] = refl
parts_texts (p ∷ parts) = ap (λ (t : List (List ℕ)). image_part_text p ∷ t) (parts_texts parts)

texts_are : (salt : List ℕ) (parts : Parts) → flat_map ended (image_header ∷ map line_text (salt_line salt ∷ map part_line parts)) ≡ flat_map ended (image_header ∷ image_salt_text salt ∷ map image_part_text parts)
texts_are salt parts = ap (λ (t : List (List ℕ)). flat_map ended (image_header ∷ image_salt_text salt ∷ t)) (parts_texts parts)

abbrev first_line : Option ℕ
first_line = Some 1

has_salt : (b : Bool) → (if b then None else first_line) ≡ None → b ≡ true
has_salt true e = refl
has_salt false e = absurd (cc (e))

record Listed (bytes : List ℕ) (k : ImageSaid) : Type 0 where
  salt : List ℕ
  parts : Parts
  is : k ≡ said salt parts
  list : IsImageList bytes salt parts

grammar : (bytes : List ℕ) (k : ImageSaid) (t : IsText image_header IsLine line_text add unsaid bytes k) → Begun t.items k → Listed bytes k
grammar bytes k t b =
    let each : AllByRecursion IsLine (salt_line b.salt ∷ map part_line b.parts) = subst (AllByRecursion IsLine) b.texts t.each in
    let few : length (salt_line b.salt ∷ map part_line b.parts) < 4096 = subst (λ (z : List Line). length z < 4096) b.texts t.few in
    let spelled = t.text_is ∙ ap (λ (z : List Line). flat_map ended (image_header ∷ map line_text z)) b.texts ∙ texts_are b.salt b.parts in
    record {
      salt = b.salt;
      parts = b.parts;
      is = b.is;
      list = record { hexed = each.0; each = parts_each b.parts each.1; apart = (apart_slots [] b.parts b.apart).0; few = omega (arith, few, parts_count b.parts); text_is = spelled };
    }

list_takes : (bytes : List ℕ) (k : ImageSaid) → image_list_of bytes ≡ Ok k → Listed bytes k
list_takes bytes k e =
    let c = completed_ok lacking_salt (text_of image_header image_step unsaid bytes) k e in
    let t = text_takes image_header line_of add IsLine line_text lines_read unsaid bytes k (text_same image_step (adds line_of add) step_adds image_header unsaid k bytes c.0) in
    grammar bytes k t (begun t.items k t.says (has_salt (is_some k.salt) c.1))

pub list_again : (bytes salt : List ℕ) (parts : List (Guid × ℕ)) → IsImageList bytes salt parts → image_list_of bytes ≡ Ok (said salt parts)
unfolding collect
list_again bytes salt parts h =
    let items : List Line = salt_line salt ∷ map part_line parts in
    let says : collect add 2 unsaid items ≡ Ok (said salt parts) = collect_again parts 3 salt [] (slots_apart [] parts h.apart (none_before parts)) in
    let text : IsText image_header IsLine line_text add unsaid bytes (said salt parts) = record {
      items = items;
      each = (h.hexed, each_line parts h.each);
      few = omega (arith, h.few, parts_count parts);
      text_is = h.text_is ∙ sym (texts_are salt parts);
      says = says;
    } in
    ap (completed lacking_salt) (text_same (adds line_of add) image_step adds_step image_header unsaid (said salt parts) bytes (text_again image_header line_of add IsLine line_text lines_read refl unsaid bytes (said salt parts) text))

same_list : (bytes : List ℕ) (l : ImageList) → Listed bytes (image_said l) → IsImageList bytes l.salt l.parts.items
same_list bytes l t =
    let salt : l.salt ≡ t.salt = let s : Some l.salt ≡ Some t.salt = ap (λ (x : ImageSaid). x.salt) t.is in cc (s) in
    let parts : l.parts.items ≡ t.parts = ap (λ (x : ImageSaid). x.parts) t.is in
    rw (salt, parts) t.list

pub list_found : (bytes : List ℕ) (r : Result ImageList PlanFault) → TellsImage r (image_list_of bytes) → IfOk r (λ l. IsImageList bytes l.salt l.parts.items)
list_found bytes (Ok l) told = same_list bytes l (list_takes bytes (image_said l) told)
list_found bytes (Err f) told = tt

pub parts_named : (parts : List (Guid × ℕ)) → AllByRecursion IsImagePart parts → AreNamed parts
parts_named [] h = tt
parts_named (p ∷ parts) h = (h.0.named, parts_named parts h.1)
