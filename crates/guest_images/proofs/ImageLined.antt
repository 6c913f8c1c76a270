-- A line of an image's list: what is read is spelled so, and what is spelled so is read.
use Rattle.std.proofs.Common.{◌≡◌, ◌≢◌, ◌<◌, ℕ, List, true, false, not, Result, Some, Ok, Err, refl, sym, ap, subst, ◌∙◌, arith}
use Rattle.std.specs.Prelude.{codes, if◌then◌else◌}
use Rattle.std.specs.Fmt.{decimal}
use Rattle.std.specs.Str.{bytes_eq}
use Rattle.std.proofs.lemmas.Bool.{not-true, false_from_ne_true}
use Rattle.std.proofs.lemmas.Slice.Eq.{bytes_eq-Decides}
use Rattle.hex.specs.Hex.{encode_lower}
use Rattle.guid_crc.specs.Guids.{Guid, guid_of, guid_text}
use Rattle.text_lines.specs.declared.kinds.PlanKind.{PlanKind}
use Rattle.text_lines.specs.declared.kinds.PlanKind.TheVariants as kinds
use Rattle.text_lines.specs.Fields.{◌>>=◌, first_field, two_fields, three_fields}
use Rattle.text_lines.specs.Values.{check, hex_of, number_in}
use Rattle.text_lines.specs.Spelling.{◌then◌, IsHexed}
use Rattle.text_lines.proofs.Numbers.{bind_ok, check_ok, number_takes, number_again, hex_takes, hex_again}
use Rattle.text_lines.proofs.Fielded.{two_take, three_take, first_again, two_again, three_again, OneLine}
use Rattle.text_lines.proofs.Printed.{free, hex_printed, one, printed, then_one, decimal_printed, name_bytes_printed}
use Rattle.text_lines.proofs.Whole.{IsRead}
use Rattle.guest_plan.specs.Items.{uuid_of}
use Rattle.guest_plan.proofs.Words.{by_word, made_of, ok_is}
use Rattle.guest_plan.proofs.Uuids.{uuid_takes, uuid_again, guid_printed}
use Rattle.instance_image.specs.Records.{zeros}
use Rattle.guest_images.specs.ImageLists.{IsImagePart, image_part_text, image_salt_text, named_uuid_of, image_part_of, image_salt_of}

-- what a line says: the salt, or a partition
pub data Line : Type 0 where
  salt_line : List ℕ → Line
  part_line : Guid × ℕ → Line

abbrev pub IsLine : Line → Type 0
IsLine (salt_line salt) = IsHexed 64 salt
IsLine (part_line p) = IsImagePart p

abbrev pub line_text : Line → List ℕ
line_text (salt_line salt) = image_salt_text salt
line_text (part_line p) = image_part_text p

unfoldable pub line_of : List ℕ → Result Line PlanKind
line_of line =
    if bytes_eq (first_field line) (codes "salt") then (image_salt_of line >>= λ salt. Ok (salt_line salt))
    else if bytes_eq (first_field line) (codes "part") then (image_part_of line >>= λ p. Ok (part_line p))
    else Err kinds.Word

abbrev Is : List ℕ → Line → Type 0
Is line item = IsLine item × (line ≡ line_text item)

-- ---- a UUID that isn't nil

pub other_text : (a b : List ℕ) → bytes_eq a b ≡ false → a ≢ b
other_text a b h = λ e. let t : bytes_eq a b ≡ true = (bytes_eq-Decides a b).1 e in absurd cc

pub text_other : (a b : List ℕ) → a ≢ b → bytes_eq a b ≡ false
text_other a b h = false_from_ne_true (bytes_eq a b) (λ e. h ((bytes_eq-Decides a b).0 e))

abbrev NamedBy : List ℕ → Guid → Type 0
NamedBy text g = (text ≡ guid_text g.0) × (guid_of (guid_text g.0) ≡ Some g) × (g.0 ≢ zeros 16)

named_takes : (text : List ℕ) (g : Guid) → named_uuid_of text ≡ Ok g → NamedBy text g
unfolding named_uuid_of
named_takes text g e =
    let a = bind_ok (uuid_of text) (λ u. check (not (bytes_eq u.0 (zeros 16))) kinds.Range u) g e in
    let c = check_ok (not (bytes_eq a.0.0 (zeros 16))) kinds.Range a.0 g a.2 in
    let u = uuid_takes text a.0 a.1 in
    subst (NamedBy text) c.1 (u.0, u.1, other_text a.0.0 (zeros 16) (not-true (bytes_eq a.0.0 (zeros 16)) c.0))

named_again : (g : Guid) → guid_of (guid_text g.0) ≡ Some g → g.0 ≢ zeros 16 → named_uuid_of (guid_text g.0) ≡ Ok g
unfolding named_uuid_of
named_again g is named = rw (uuid_again g is, text_other g.0 (zeros 16) named) refl

-- ---- what is read is spelled so

salt_takes : (line salt : List ℕ) → first_field line ≡ codes "salt" → image_salt_of line ≡ Ok salt → Is line (salt_line salt)
unfolding image_salt_of
salt_takes line salt word e =
    let a = bind_ok (two_fields line) (λ f. hex_of 64 f.1) salt e in
    let f = two_take line a.0 a.1 in
    let h = hex_takes 64 a.0.1 salt a.2 in
    (h.1, f.0 ∙ ap (λ (w : List ℕ). w then a.0.1) (sym f.1 ∙ word) ∙ ap (λ (t : List ℕ). codes "salt" then t) h.0)

abbrev Part : Type 0
Part = Guid × ℕ

part_takes : (line : List ℕ) (p : Part) → first_field line ≡ codes "part" → image_part_of line ≡ Ok p → Is line (part_line p)
unfolding image_part_of
part_takes line p word e =
    let a = bind_ok (three_fields line) (λ f. named_uuid_of f.1 >>= λ uuid. number_in 1 1048577 f.2 >>= λ sectors. Ok (uuid, sectors)) p e in
    let f = a.0 in
    let b = bind_ok (named_uuid_of f.1) (λ uuid. number_in 1 1048577 f.2 >>= λ sectors. Ok (uuid, sectors)) p a.2 in
    let c = bind_ok (number_in 1 1048577 f.2) (λ sectors. Ok (b.0, sectors)) p b.2 in
    let made : Part = (b.0, c.0) in
    let h = three_take line f a.1 in
    let uuid = named_takes f.1 b.0 b.1 in
    let sectors = number_takes 1 1048577 f.2 c.0 (omega arith) c.1 in
    let is : IsImagePart made = record { uuid = uuid.1; named = uuid.2; some = sectors.1; few = sectors.2 } in
    let spelled : line ≡ image_part_text made =
    h.0 ∙ ap (λ (w : List ℕ). w then f.1 then f.2) (sym h.1 ∙ word)
    ∙ ap (λ (t : List ℕ). codes "part" then t then f.2) uuid.0
    ∙ ap (λ (t : List ℕ). codes "part" then guid_text b.0.0 then t) sectors.0 in
    subst (λ (q : Part). Is line (part_line q)) (ok_is made p c.2) (is, spelled)

line_takes : (line : List ℕ) (item : Line) → line_of line ≡ Ok item → Is line item
unfolding line_of
line_takes line item e =
    by_word (first_field line) (codes "salt") (image_salt_of line >>= λ salt. Ok (salt_line salt)) _ (Ok item)
    (λ word f. let m = made_of (image_salt_of line) salt_line item f in subst (Is line) m.2 (salt_takes line m.0 word m.1))
    (λ f. by_word (first_field line) (codes "part") (image_part_of line >>= λ p. Ok (part_line p)) (Err kinds.Word) (Ok item)
    (λ word g. let m = made_of (image_part_of line) part_line item g in subst (Is line) m.2 (part_takes line m.0 word m.1))
    (λ g. absurd (cc (g)))
    f) e

-- ---- what is spelled so is read

uuid_printed : (g : Guid) → printed (guid_text g.0) ≡ true
uuid_printed g = name_bytes_printed (guid_text g.0) (guid_printed g.0)

sectors_printed : (n : ℕ) → n < 1048577 → printed (decimal n) ≡ true
sectors_printed n few = decimal_printed n (omega arith)

line_again : (item : Line) → IsLine item → line_of (line_text item) ≡ Ok item
unfolding line_of image_salt_of image_part_of
line_again (salt_line salt) h =
    let t : List ℕ = encode_lower salt in
    rw (first_again (codes "salt") t refl, two_again (codes "salt") t refl (free t (hex_printed salt h.1)), hex_again 64 salt h) refl
line_again (part_line p) h =
    let u : List ℕ = guid_text p.0.0 in
    let d : List ℕ = decimal p.1 in
    rw (
      first_again (codes "part") (u then d) refl,
      three_again (codes "part") u d refl (free u (uuid_printed p.0)) (free d (sectors_printed p.1 h.few)),
      named_again p.0 h.uuid h.named,
      number_again 1 1048577 p.1 (omega arith) h.some h.few,
    ) refl

line_one : (item : Line) → IsLine item → OneLine (line_text item)
line_one (salt_line salt) h = let t : List ℕ = encode_lower salt in then_one (codes "salt") t refl (one t (hex_printed salt h.1))
line_one (part_line p) h =
    let u : List ℕ = guid_text p.0.0 in
    let d : List ℕ = decimal p.1 in
    then_one (codes "part") (u then d) refl (then_one u d (one u (uuid_printed p.0)) (one d (sectors_printed p.1 h.few)))

pub lines_read : IsRead line_of IsLine line_text
lines_read = record { takes = line_takes; again = line_again; one = line_one }

-- a line that says the salt begins with its word
pub salt_word : (line : List ℕ) (salt : List ℕ) → line_of line ≡ Ok (salt_line salt) → (first_field line ≡ codes "salt") × (image_salt_of line ≡ Ok salt)
unfolding line_of
salt_word line salt e =
    by_word (first_field line) (codes "salt") (image_salt_of line >>= λ s. Ok (salt_line s)) _ (Ok (salt_line salt))
    (λ word f. let m = made_of (image_salt_of line) salt_line (salt_line salt) f in let same : m.0 ≡ salt = cc (m.2) in (word, m.1 ∙ ap (λ (s : List ℕ). Ok s) same))
    (λ f. by_word (first_field line) (codes "part") (image_part_of line >>= λ p. Ok (part_line p)) (Err kinds.Word) (Ok (salt_line salt))
    (λ word g. let m = made_of (image_part_of line) part_line (salt_line salt) g in absurd (cc (m.2)))
    (λ g. absurd (cc (g)))
    f) e

-- and one that says a partition with its own
pub part_word : (line : List ℕ) (p : Guid × ℕ) → line_of line ≡ Ok (part_line p) → (first_field line ≡ codes "part") × (image_part_of line ≡ Ok p)
unfolding line_of
part_word line p e =
    by_word (first_field line) (codes "salt") (image_salt_of line >>= λ s. Ok (salt_line s)) _ (Ok (part_line p))
    (λ word f. let m = made_of (image_salt_of line) salt_line (part_line p) f in absurd (cc (m.2)))
    (λ f. by_word (first_field line) (codes "part") (image_part_of line >>= λ q. Ok (part_line q)) (Err kinds.Word) (Ok (part_line p))
    (λ word g. let m = made_of (image_part_of line) part_line (part_line p) g in let same : m.0 ≡ p = cc (m.2) in (word, m.1 ∙ ap (λ (q : Guid × ℕ). Ok q) same))
    (λ g. absurd (cc (g)))
    f) e

pub of_salt : (line salt : List ℕ) → first_field line ≡ codes "salt" → image_salt_of line ≡ Ok salt → line_of line ≡ Ok (salt_line salt)
unfolding line_of
of_salt line salt word e = rw (word, e) refl

pub of_part : (line : List ℕ) (p : Guid × ℕ) → first_field line ≡ codes "part" → image_part_of line ≡ Ok p → line_of line ≡ Ok (part_line p)
unfolding line_of
of_part line p word e = rw (word, e) refl
