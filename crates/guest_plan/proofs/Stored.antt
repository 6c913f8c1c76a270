-- What is read as a store list is in its grammar, and what is in the grammar is read.
use Rattle.std.proofs.Common.{◌≡◌, ◌<◌, ℕ, List, [], true, Result, Ok, Err, refl, sym, ap, subst, ◌∙◌, arith}
use Rattle.std.specs.Prelude.{codes, IfOk}
use Rattle.std.specs.Fmt.{decimal}
use Rattle.text_lines.specs.declared.kinds.PlanKind.{PlanKind}
use Rattle.text_lines.specs.declared.kinds.PlanKind.TheVariants as kinds
use Rattle.text_lines.specs.declared.kinds.PlanFault.{PlanFault}
use Rattle.text_lines.specs.Fields.{◌>>=◌, first_field, two_fields, three_fields, four_fields}
use Rattle.text_lines.specs.Values.{page_salt, folder_name_of, is_folder_name}
use Rattle.text_lines.specs.Lists.{add_apart, complete_by, completed, list_of}
use Rattle.text_lines.proofs.Lists.{completed_ok}
use Rattle.text_lines.specs.Spelling.{◌then◌, salt_text}
use Rattle.text_lines.proofs.Numbers.{bind_ok, number_takes, number_again, salt_takes, salt_again, folder_name_takes, folder_name_again}
use Rattle.text_lines.proofs.Fielded.{Free, two_take, three_take, four_take, first_again, two_again, three_again, four_again, OneLine}
use Rattle.text_lines.proofs.Printed.{free, one, printed, then_one, salt_printed, decimal_printed, name_bytes_printed}
use Rattle.text_lines.proofs.Spelled.{folder_name_printed}
use Rattle.text_lines.proofs.Whole.{IsRead, text_takes, text_again}
use Rattle.guest_plan.specs.Items.{host_number}
use Rattle.guest_plan.proofs.Words.{by_word, made_of, ok_is}
use Rattle.guest_plan.specs.declared.store.StoreLine.{StoreLine}
use Rattle.guest_plan.specs.declared.store.StoreLine.TheVariants as stored
use Rattle.guest_plan.specs.declared.store.Store.{Store}
use Rattle.guest_plan.specs.StoreItems.{numbered_of, numbered_line_of, disk_of, composite_of, verity_of, empty_of, dir_of, keep_disk_of, keep_file_of, keep_by, keep_of, store_line_of}
use Rattle.guest_plan.specs.Stores.{IsStoreLine, store_text, store_clash, store_missing, store_header, store_of, IsStore, TellsStore}

abbrev Is : List ℕ → StoreLine → Type 0
Is line l = IsStoreLine l × (line ≡ store_text l)

-- ---- a number and a name

abbrev Named : Type 0
Named = ℕ × List ℕ

record AreNamed (n f : List ℕ) (p : Named) : Type 0 where
  number : p.0 < 2147483648
  name : is_folder_name p.1 ≡ true
  spelled : (n then f) ≡ (decimal p.0 then p.1)
  spelled_then : (rest : List ℕ) → (n then f then rest) ≡ (decimal p.0 then p.1 then rest)

numbered_take : (n f : List ℕ) (p : Named) → numbered_of n f ≡ Ok p → AreNamed n f p
unfolding numbered_of
numbered_take n f p e =
    let x = bind_ok (host_number n) (λ k. folder_name_of f >>= λ file. Ok (k, file)) p e in
    let y = bind_ok (folder_name_of f) (λ file. Ok (x.0, file)) p x.2 in
    let number = number_takes 0 2147483648 n x.0 (omega arith) x.1 in
    let name = folder_name_takes f y.0 y.1 in
    let made : Named = (x.0, y.0) in
    subst (AreNamed n f) (ok_is made p y.2) (record {
      number = number.2;
      name = name.1;
      spelled = ap (λ (t : List ℕ). t then f) number.0 ∙ ap (λ (t : List ℕ). decimal x.0 then t) name.0;
      spelled_then = λ rest. ap (λ (t : List ℕ). t then f then rest) number.0 ∙ ap (λ (t : List ℕ). decimal x.0 then t then rest) name.0;
    })

numbered_again : (n : ℕ) (file : List ℕ) → n < 2147483648 → is_folder_name file ≡ true → let p : Named = (n, file) in numbered_of (decimal n) file ≡ Ok p
unfolding numbered_of
numbered_again n file few name = rw (number_again 0 2147483648 n (omega arith) (omega arith) few, folder_name_again file name) refl

-- what a line is, behind its word, that reads as this number and name
record HasNumbered (line word : List ℕ) (p : Named) : Type 0 where
  number : p.0 < 2147483648
  name : is_folder_name p.1 ≡ true
  whole : line ≡ (word then decimal p.0 then p.1)

numbered_line_takes : (line word : List ℕ) (p : Named) → first_field line ≡ word → numbered_line_of line ≡ Ok p → HasNumbered line word p
unfolding numbered_line_of
numbered_line_takes line word p first e =
    let a = bind_ok (three_fields line) (λ f. numbered_of f.1 f.2) p e in
    let f = a.0 in
    let is = numbered_take f.1 f.2 p a.2 in
    let h = three_take line f a.1 in
    record { number = is.number; name = is.name; whole = h.0 ∙ ap (λ (w : List ℕ). w then f.1 then f.2) (sym h.1 ∙ first) ∙ ap (λ (t : List ℕ). word then t) is.spelled }

-- a line of a word, a number and a name
named_line_takes : (line word : List ℕ) (make : Named → StoreLine) (l : StoreLine) → ((p : Named) → HasNumbered line word p → Is line (make p)) → first_field line ≡ word → (numbered_line_of line >>= λ p. Ok (make p)) ≡ Ok l → Is line l
named_line_takes line word make l is first e =
    let a = made_of (numbered_line_of line) make l e in
    subst (Is line) a.2 (is a.0 (numbered_line_takes line word a.0 first a.1))

disk_takes : (line : List ℕ) (l : StoreLine) → first_field line ≡ codes "disk" → disk_of line ≡ Ok l → Is line l
unfolding disk_of
disk_takes line l word e = named_line_takes line (codes "disk") (λ p. stored.Disk p.0 p.1) l (λ p h. ((h.number, h.name), h.whole)) word e

composite_takes : (line : List ℕ) (l : StoreLine) → first_field line ≡ codes "composite" → composite_of line ≡ Ok l → Is line l
unfolding composite_of
composite_takes line l word e = named_line_takes line (codes "composite") (λ p. stored.Composite p.0 p.1) l (λ p h. ((h.number, h.name), h.whole)) word e

abbrev verity : ℕ → List ℕ → List ℕ → StoreLine
verity n file salt = stored.Verity n file salt

verity_takes : (line : List ℕ) (l : StoreLine) → first_field line ≡ codes "verity" → verity_of line ≡ Ok l → Is line l
unfolding verity_of
verity_takes line l word e =
    let a = bind_ok (four_fields line) (λ f. numbered_of f.1 f.2 >>= λ p. page_salt f.3 >>= λ salt. Ok (verity p.0 p.1 salt)) l e in
    let f = a.0 in
    let b = bind_ok (numbered_of f.1 f.2) (λ p. page_salt f.3 >>= λ salt. Ok (verity p.0 p.1 salt)) l a.2 in
    let p = b.0 in
    let d = bind_ok (page_salt f.3) (λ salt. Ok (verity p.0 p.1 salt)) l b.2 in
    let h = four_take line f a.1 in
    let is = numbered_take f.1 f.2 p b.1 in
    let salt = salt_takes f.3 d.0 d.1 in
    let spelled : line ≡ store_text (verity p.0 p.1 d.0) =
    h.0 ∙ ap (λ (w : List ℕ). w then f.1 then f.2 then f.3) (sym h.1 ∙ word)
    ∙ ap (λ (t : List ℕ). codes "verity" then f.1 then f.2 then t) salt.0
    ∙ ap (λ (t : List ℕ). codes "verity" then t) (is.spelled_then (salt_text d.0)) in
    subst (Is line) (ok_is (verity p.0 p.1 d.0) l d.2) ((is.number, is.name, (salt.1, salt.2)), spelled)

-- a word and a number
two_takes : (line word : List ℕ) (make : ℕ → StoreLine) (l : StoreLine) → first_field line ≡ word → (two_fields line >>= λ f. host_number f.1 >>= λ n. Ok (make n)) ≡ Ok l
    → (n : ℕ) × (n < 2147483648) × (line ≡ (word then decimal n)) × (make n ≡ l)
two_takes line word make l first e =
    let a = bind_ok (two_fields line) (λ f. host_number f.1 >>= λ n. Ok (make n)) l e in
    let f = a.0 in
    let b = bind_ok (host_number f.1) (λ n. Ok (make n)) l a.2 in
    let h = two_take line f a.1 in
    let number = number_takes 0 2147483648 f.1 b.0 (omega arith) b.1 in
    (b.0, number.2, h.0 ∙ ap (λ (w : List ℕ). w then f.1) (sym h.1 ∙ first) ∙ ap (λ (t : List ℕ). word then t) number.0, ok_is (make b.0) l b.2)

empty_takes : (line : List ℕ) (l : StoreLine) → first_field line ≡ codes "empty" → empty_of line ≡ Ok l → Is line l
unfolding empty_of
empty_takes line l word e = let is = two_takes line (codes "empty") stored.Empty l word e in subst (Is line) is.3 (is.1, is.2)

dir_takes : (line : List ℕ) (l : StoreLine) → first_field line ≡ codes "dir" → dir_of line ≡ Ok l → Is line l
unfolding dir_of
dir_takes line l word e = let is = two_takes line (codes "dir") stored.Dir l word e in subst (Is line) is.3 (is.1, is.2)

abbrev Four : Type 0
Four = List ℕ × List ℕ × List ℕ × List ℕ

-- what the fields of a line are that keeps this
abbrev IsKept : Four → StoreLine → Type 0
IsKept f l = IsStoreLine l × ((codes "keep" then f.1 then f.2 then f.3) ≡ store_text l)

keeps : (f : Four) (what : List ℕ) (make : Named → StoreLine) (l : StoreLine) → f.1 ≡ what → (numbered_of f.2 f.3 >>= λ p. Ok (make p)) ≡ Ok l
    → (p : Named) × (p.0 < 2147483648) × (is_folder_name p.1 ≡ true) × ((codes "keep" then f.1 then f.2 then f.3) ≡ (codes "keep" then what then decimal p.0 then p.1)) × (make p ≡ l)
keeps f what make l is e =
    let b = bind_ok (numbered_of f.2 f.3) (λ p. Ok (make p)) l e in
    let h = numbered_take f.2 f.3 b.0 b.1 in
    (b.0, h.number, h.name, ap (λ (w : List ℕ). codes "keep" then w then f.2 then f.3) is ∙ ap (λ (t : List ℕ). codes "keep" then what then t) h.spelled, ok_is (make b.0) l b.2)

keep_disk_takes : (f : Four) (l : StoreLine) → f.1 ≡ codes "disk" → keep_disk_of f.2 f.3 ≡ Ok l → IsKept f l
unfolding keep_disk_of
keep_disk_takes f l what e = let is = keeps f (codes "disk") (λ p. stored.KeepDisk p.0 p.1) l what e in subst (IsKept f) is.4 ((is.1, is.2), is.3)

keep_file_takes : (f : Four) (l : StoreLine) → f.1 ≡ codes "file" → keep_file_of f.2 f.3 ≡ Ok l → IsKept f l
unfolding keep_file_of
keep_file_takes f l what e = let is = keeps f (codes "file") (λ p. stored.KeepFile p.0 p.1) l what e in subst (IsKept f) is.4 ((is.1, is.2), is.3)

abbrev line_done : StoreLine → Result StoreLine PlanKind
line_done x = Ok x

keep_by_takes : (f : Four) (l : StoreLine) → keep_by f ≡ Ok l → IsKept f l
unfolding keep_by
keep_by_takes f l e =
    by_word f.1 (codes "disk") (keep_disk_of f.2 f.3) _ (line_done l) (keep_disk_takes f l) (
    by_word f.1 (codes "file") (keep_file_of f.2 f.3) (Err kinds.Word) (line_done l) (keep_file_takes f l) (λ r. absurd (cc (r)))) e

keep_takes : (line : List ℕ) (l : StoreLine) → first_field line ≡ codes "keep" → keep_of line ≡ Ok l → Is line l
unfolding keep_of
keep_takes line l word e =
    let a = bind_ok (four_fields line) keep_by l e in
    let f = a.0 in
    let h = four_take line f a.1 in
    let is = keep_by_takes f l a.2 in
    (is.0, h.0 ∙ ap (λ (w : List ℕ). w then f.1 then f.2 then f.3) (sym h.1 ∙ word) ∙ is.1)

line_takes : (line : List ℕ) (l : StoreLine) → store_line_of line ≡ Ok l → Is line l
unfolding store_line_of
line_takes line l e =
    let w : List ℕ = first_field line in
    by_word w (codes "disk") (disk_of line) _ (line_done l) (disk_takes line l) (
    by_word w (codes "composite") (composite_of line) _ (line_done l) (composite_takes line l) (
    by_word w (codes "verity") (verity_of line) _ (line_done l) (verity_takes line l) (
    by_word w (codes "empty") (empty_of line) _ (line_done l) (empty_takes line l) (
    by_word w (codes "dir") (dir_of line) _ (line_done l) (dir_takes line l) (
    by_word w (codes "keep") (keep_of line) (Err kinds.Word) (line_done l) (keep_takes line l) (λ r. absurd (cc (r)))))))) e

-- ---- what is spelled so is read

name_free : (x : List ℕ) → is_folder_name x ≡ true → printed x ≡ true
name_free x h = name_bytes_printed x (folder_name_printed x h)

number_free : (n : ℕ) → n < 2147483648 → printed (decimal n) ≡ true
number_free n h = decimal_printed n (omega arith)

numbered_line_again : (word : List ℕ) (n : ℕ) (file : List ℕ) → Free word → n < 2147483648 → is_folder_name file ≡ true → let p : Named = (n, file) in numbered_line_of (word then decimal n then file) ≡ Ok p
unfolding numbered_line_of
numbered_line_again word n file plain few name =
    let d : List ℕ = decimal n in
    rw (three_again word d file plain (free d (number_free n few)) (free file (name_free file name))) (numbered_again n file few name)

disk_again : (n : ℕ) (file : List ℕ) → IsStoreLine (stored.Disk n file) → store_line_of (store_text (stored.Disk n file)) ≡ Ok (stored.Disk n file)
unfolding store_line_of disk_of
disk_again n file h = rw (first_again (codes "disk") (decimal n then file) refl, numbered_line_again (codes "disk") n file refl h.0 h.1) refl

composite_again : (n : ℕ) (file : List ℕ) → IsStoreLine (stored.Composite n file) → store_line_of (store_text (stored.Composite n file)) ≡ Ok (stored.Composite n file)
unfolding store_line_of composite_of
composite_again n file h = rw (first_again (codes "composite") (decimal n then file) refl, numbered_line_again (codes "composite") n file refl h.0 h.1) refl

verity_again : (n : ℕ) (file salt : List ℕ) → IsStoreLine (verity n file salt) → store_line_of (store_text (verity n file salt)) ≡ Ok (verity n file salt)
unfolding store_line_of verity_of
verity_again n file salt h =
    let d : List ℕ = decimal n in
    let s : List ℕ = salt_text salt in
    rw (first_again (codes "verity") (d then file then s) refl, four_again (codes "verity") d file s refl (free d (number_free n h.0)) (free file (name_free file h.1)) (free s (salt_printed salt h.2.1)), numbered_again n file h.0 h.1, salt_again salt h.2.0 h.2.1) refl

empty_again : (n : ℕ) → IsStoreLine (stored.Empty n) → store_line_of (store_text (stored.Empty n)) ≡ Ok (stored.Empty n)
unfolding store_line_of empty_of
empty_again n h =
    let d : List ℕ = decimal n in
    rw (first_again (codes "empty") d refl, two_again (codes "empty") d refl (free d (number_free n h)), number_again 0 2147483648 n (omega arith) (omega arith) h) refl

dir_again : (n : ℕ) → IsStoreLine (stored.Dir n) → store_line_of (store_text (stored.Dir n)) ≡ Ok (stored.Dir n)
unfolding store_line_of dir_of
dir_again n h =
    let d : List ℕ = decimal n in
    rw (first_again (codes "dir") d refl, two_again (codes "dir") d refl (free d (number_free n h)), number_again 0 2147483648 n (omega arith) (omega arith) h) refl

keep_disk_again : (n : ℕ) (file : List ℕ) → IsStoreLine (stored.KeepDisk n file) → store_line_of (store_text (stored.KeepDisk n file)) ≡ Ok (stored.KeepDisk n file)
unfolding store_line_of keep_of keep_by keep_disk_of
keep_disk_again n file h =
    let d : List ℕ = decimal n in
    rw (first_again (codes "keep") (codes "disk" then d then file) refl, four_again (codes "keep") (codes "disk") d file refl refl (free d (number_free n h.0)) (free file (name_free file h.1)), numbered_again n file h.0 h.1) refl

keep_file_again : (n : ℕ) (file : List ℕ) → IsStoreLine (stored.KeepFile n file) → store_line_of (store_text (stored.KeepFile n file)) ≡ Ok (stored.KeepFile n file)
unfolding store_line_of keep_of keep_by keep_file_of
keep_file_again n file h =
    let d : List ℕ = decimal n in
    rw (first_again (codes "keep") (codes "file" then d then file) refl, four_again (codes "keep") (codes "file") d file refl refl (free d (number_free n h.0)) (free file (name_free file h.1)), numbered_again n file h.0 h.1) refl

line_again : (l : StoreLine) → IsStoreLine l → store_line_of (store_text l) ≡ Ok l
line_again (stored.Disk n file) h = disk_again n file h
line_again (stored.Composite n file) h = composite_again n file h
line_again (stored.Verity n file salt) h = verity_again n file salt h
line_again (stored.Empty n) h = empty_again n h
line_again (stored.Dir n) h = dir_again n h
line_again (stored.KeepDisk n file) h = keep_disk_again n file h
line_again (stored.KeepFile n file) h = keep_file_again n file h

named_one : (n : ℕ) (file : List ℕ) → n < 2147483648 → is_folder_name file ≡ true → OneLine (decimal n then file)
named_one n file h k = let d : List ℕ = decimal n in then_one d file (one d (number_free n h)) (one file (name_free file k))

line_one : (l : StoreLine) → IsStoreLine l → OneLine (store_text l)
line_one (stored.Disk n file) h = then_one (codes "disk") (decimal n then file) refl (named_one n file h.0 h.1)
line_one (stored.Composite n file) h = then_one (codes "composite") (decimal n then file) refl (named_one n file h.0 h.1)
line_one (stored.Verity n file salt) h =
    let d : List ℕ = decimal n in let s : List ℕ = salt_text salt in
    then_one (codes "verity") (d then file then s) refl (then_one d (file then s) (one d (number_free n h.0)) (then_one file s (one file (name_free file h.1)) (one s (salt_printed salt h.2.1))))
line_one (stored.Empty n) h = let d : List ℕ = decimal n in then_one (codes "empty") d refl (one d (number_free n h))
line_one (stored.Dir n) h = let d : List ℕ = decimal n in then_one (codes "dir") d refl (one d (number_free n h))
line_one (stored.KeepDisk n file) h = then_one (codes "keep") (codes "disk" then decimal n then file) refl (then_one (codes "disk") (decimal n then file) refl (named_one n file h.0 h.1))
line_one (stored.KeepFile n file) h = then_one (codes "keep") (codes "file" then decimal n then file) refl (then_one (codes "file") (decimal n then file) refl (named_one n file h.0 h.1))

lines_read : IsRead store_line_of IsStoreLine store_text
lines_read = record { takes = line_takes; again = line_again; one = line_one }

-- ---- the whole text

abbrev Lines : Type 0
Lines = List StoreLine

store_takes : (bytes : List ℕ) (k : Lines) → store_of bytes ≡ Ok k → IsStore bytes k
store_takes bytes k e =
    let c = completed_ok store_missing (list_of store_header store_line_of store_clash bytes) k e in
    record { items = text_takes store_header store_line_of (add_apart store_clash) IsStoreLine store_text lines_read [] bytes k c.0; complete = c.1 }

pub store_again : (bytes : List ℕ) (k : Lines) → IsStore bytes k → store_of bytes ≡ Ok k
store_again bytes k h =
    ap (completed store_missing) (text_again store_header store_line_of (add_apart store_clash) IsStoreLine store_text lines_read refl [] bytes k h.items) ∙ ap (complete_by k) h.complete

pub store_found : (bytes : List ℕ) (r : Result Store PlanFault) → TellsStore r (store_of bytes) → IfOk r (λ s. IsStore bytes s.lines.items)
store_found bytes (Ok s) told = store_takes bytes s.lines.items told
store_found bytes (Err f) told = tt
