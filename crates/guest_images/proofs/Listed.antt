-- What is read as a list of parts is in its grammar, and what is in the grammar is read.
use Rattle.std.proofs.Common.{◌≡◌, ◌<◌, ℕ, List, [], length, Bool, true, false, Result, Ok, Err, refl, sym, ap, subst, ◌∙◌, arith, inl, inr}
use Rattle.std.specs.Prelude.{codes, IfOk, nat_lt, if◌then◌else◌}
use Rattle.std.specs.List.{AllByRecursion}
use Rattle.std.specs.Str.{bytes_eq}
use Rattle.std.specs.declared.vec.Vec.{Vec}
use Rattle.std.specs.declared.alloc.Global.{Global}
use Rattle.text_lines.specs.declared.kinds.PlanKind.{PlanKind}
use Rattle.text_lines.specs.declared.kinds.PlanKind.TheVariants as kinds
use Rattle.text_lines.specs.declared.kinds.PlanFault.{PlanFault}
use Rattle.text_lines.specs.Fields.{◌>>=◌, first_field, four_fields}
use Rattle.text_lines.specs.Values.{folder_name_of, is_name, is_folder_name, name_of}
use Rattle.text_lines.specs.Lists.{TellsList, add_apart}
use Rattle.text_lines.specs.Spelling.{◌then◌}
use Rattle.text_lines.proofs.Lists.{collected}
use Rattle.text_lines.proofs.Numbers.{bind_ok, chosen, text_is, name_takes, name_again, folder_name_takes, folder_name_again}
use Rattle.text_lines.proofs.Fielded.{four_take, first_again, four_again, OneLine}
use Rattle.text_lines.proofs.Printed.{free, name_bytes_printed, one, printed, then_one}
use Rattle.text_lines.proofs.Spelled.{name_printed, folder_name_printed}
use Rattle.text_lines.proofs.Whole.{IsRead, text_takes, text_again}
use Rattle.guest_images.specs.declared.parts.PartLine.{PartLine}
use Rattle.guest_images.specs.Parts.{IsPartLine, IsParts, mode_text, part_text, part_name_of, mode_of, made_line, part_fields_of, part_line_of, same_name, parts_header, parts_of}

abbrev Is : List ℕ → PartLine → Type 0
Is line p = IsPartLine p × (line ≡ part_text p)

ok_is : {A : Type 0} (x y : A) → let r : Result A PlanKind = Ok x in r ≡ Ok y → x ≡ y
ok_is x y e = cc

-- ---- a name and a mode

short_name : (text name : List ℕ) → part_name_of text ≡ Ok name → (text ≡ name) × (is_name name ≡ true) × (length name < 37)
unfolding part_name_of
short_name text name e =
    let ok : Result (List ℕ) PlanKind = Ok name in
    elim (chosen (nat_lt 36 (length text)) (Err kinds.Name) (name_of text) ok e) [
      | inl h ↦ absurd (cc (h.1))
      | inr h ↦ let n = name_takes text name h.1 in (n.0, n.1, subst (λ (z : List ℕ). length z < 37) n.0 (few h.0))
    ] where
      few : nat_lt 36 (length text) ≡ false → length text < 37
      few h = grind arith

short_again : (name : List ℕ) → is_name name ≡ true → length name < 37 → part_name_of name ≡ Ok name
unfolding part_name_of
short_again name is few = rw (past few) (name_again name is) where
  past : length name < 37 → nat_lt 36 (length name) ≡ false
  past h = grind arith

mode_takes : (text : List ℕ) (write : Bool) → mode_of text ≡ Ok write → text ≡ mode_text write
unfolding mode_of
mode_takes text write e =
    let ok : Result Bool PlanKind = Ok write in
    elim (chosen (bytes_eq text (codes "ro")) (Ok false) _ ok e) [
      | inl h ↦ text_is text (codes "ro") h.0 ∙ ap mode_text (ok_is false write h.1)
      | inr r ↦ elim (chosen (bytes_eq text (codes "rw")) (Ok true) (Err kinds.Word) ok r.1) [
        | inl h ↦ text_is text (codes "rw") h.0 ∙ ap mode_text (ok_is true write h.1)
        | inr s ↦ absurd (cc (s.1))
      ]
    ]

mode_again : (write : Bool) → mode_of (mode_text write) ≡ Ok write
unfolding mode_of
mode_again false = refl
mode_again true = refl

-- ---- a line

fields_take : (line : List ℕ) (p : PartLine) → first_field line ≡ codes "part" → part_fields_of line ≡ Ok p → Is line p
unfolding part_fields_of
fields_take line p word e =
    let a = bind_ok (four_fields line) (λ f. part_name_of f.1 >>= λ name. mode_of f.2 >>= λ write. folder_name_of f.3 >>= λ file. Ok (made_line name write file)) p e in
    let f = a.0 in
    let b = bind_ok (part_name_of f.1) (λ name. mode_of f.2 >>= λ write. folder_name_of f.3 >>= λ file. Ok (made_line name write file)) p a.2 in
    let c = bind_ok (mode_of f.2) (λ write. folder_name_of f.3 >>= λ file. Ok (made_line b.0 write file)) p b.2 in
    let d = bind_ok (folder_name_of f.3) (λ file. Ok (made_line b.0 c.0 file)) p c.2 in
    let h = four_take line f a.1 in
    let name = short_name f.1 b.0 b.1 in
    let mode = mode_takes f.2 c.0 c.1 in
    let file = folder_name_takes f.3 d.0 d.1 in
    let is : IsPartLine (made_line b.0 c.0 d.0) = record { name = name.1; short = name.2; file = file.1 } in
    let spelled : line ≡ part_text (made_line b.0 c.0 d.0) =
    h.0 ∙ ap (λ (w : List ℕ). w then f.1 then f.2 then f.3) (sym h.1 ∙ word)
    ∙ ap (λ (t : List ℕ). codes "part" then t then f.2 then f.3) name.0
    ∙ ap (λ (t : List ℕ). codes "part" then b.0 then t then f.3) mode
    ∙ ap (λ (t : List ℕ). codes "part" then b.0 then mode_text c.0 then t) file.0 in
    subst (Is line) (ok_is (made_line b.0 c.0 d.0) p d.2) (is, spelled)

line_takes : (line : List ℕ) (p : PartLine) → part_line_of line ≡ Ok p → Is line p
unfolding part_line_of
line_takes line p e =
    let w : List ℕ = first_field line in
    let ok : Result PartLine PlanKind = Ok p in
    elim (chosen (bytes_eq w (codes "part")) (part_fields_of line) (Err kinds.Word) ok e) [
      | inl h ↦ fields_take line p (text_is w (codes "part") h.0) h.1
      | inr r ↦ absurd (cc (r.1))
    ]

mode_printed : (write : Bool) → printed (mode_text write) ≡ true
mode_printed false = refl
mode_printed true = refl

named_printed : (x : List ℕ) → is_name x ≡ true → printed x ≡ true
named_printed x h = name_bytes_printed x (name_printed x h)

file_printed : (x : List ℕ) → is_folder_name x ≡ true → printed x ≡ true
file_printed x h = name_bytes_printed x (folder_name_printed x h)

line_again : (p : PartLine) → IsPartLine p → part_line_of (part_text p) ≡ Ok p
unfolding part_line_of part_fields_of
line_again p h =
    let m : List ℕ = mode_text p.write in
    rw (
      first_again (codes "part") (p.name then m then p.file) refl,
      four_again (codes "part") p.name m p.file refl (free p.name (named_printed p.name h.name)) (free m (mode_printed p.write)) (free p.file (file_printed p.file h.file)),
      short_again p.name h.name h.short,
      mode_again p.write,
      folder_name_again p.file h.file,
    ) refl

line_one : (p : PartLine) → IsPartLine p → OneLine (part_text p)
line_one p h =
    let m : List ℕ = mode_text p.write in
    then_one (codes "part") (p.name then m then p.file) refl
    (then_one p.name (m then p.file) (one p.name (named_printed p.name h.name)) (then_one m p.file (one m (mode_printed p.write)) (one p.file (file_printed p.file h.file))))

lines_read : IsRead part_line_of IsPartLine part_text
lines_read = record { takes = line_takes; again = line_again; one = line_one }

-- ---- the whole text

abbrev Lines : Type 0
Lines = List PartLine

parts_take : (bytes : List ℕ) (k : Lines) → parts_of bytes ≡ Ok k → IsParts bytes k
parts_take bytes k e = text_takes parts_header part_line_of (add_apart same_name) IsPartLine part_text lines_read [] bytes k e

pub parts_again : (bytes : List ℕ) (k : Lines) → IsParts bytes k → parts_of bytes ≡ Ok k
parts_again bytes k h = text_again parts_header part_line_of (add_apart same_name) IsPartLine part_text lines_read refl [] bytes k h

pub parts_found : (bytes : List ℕ) (r : Result (Vec PartLine Global) PlanFault) → TellsList r (parts_of bytes) → IfOk r (λ v. IsParts bytes v.items)
parts_found bytes (Ok v) told = parts_take bytes v.items told
parts_found bytes (Err f) told = tt

-- ---- the lines are those that were collected

each_of : (bytes : List ℕ) (k : Lines) → IsParts bytes k → AllByRecursion IsPartLine k
each_of bytes k h = subst (AllByRecursion IsPartLine) (sym ((collected same_name h.items 2 [] k h.says).0)) h.each

pub parts_each : (bytes : List ℕ) (r : Result (Vec PartLine Global) PlanFault) → TellsList r (parts_of bytes) → IfOk r (λ v. AllByRecursion IsPartLine v.items)
parts_each bytes (Ok v) told = each_of bytes v.items (parts_take bytes v.items told)
parts_each bytes (Err f) told = tt
