-- What is read is in the grammar, and what is in the grammar is read.
use Rattle.std.proofs.Common.{◌≡◌, ℕ, List, true, Option, Some, None, Result, Ok, Err, refl, sym, ap, subst, ◌∙◌, arith}
use Rattle.std.specs.Prelude.{codes, IfOk}
use Rattle.std.specs.Fmt.{decimal}
use Rattle.hex.specs.Hex.{encode_lower}
use Rattle.mg_base.specs.declared.values.Guid.{Guid}
use Rattle.sha_tree.specs.declared.measure.Measure.{Measure}
use Rattle.guid_crc.specs.Guids.{guid_of, guid_text}
use Rattle.text_lines.specs.declared.kinds.PlanKind.{PlanKind}
use Rattle.text_lines.specs.declared.kinds.PlanKind.TheVariants as kinds
use Rattle.text_lines.specs.declared.kinds.PlanFault.{PlanFault}
use Rattle.text_lines.specs.declared.kinds.LineFault.{LineFault}
use Rattle.text_lines.specs.declared.kinds.LineFault.TheVariants as fault
use Rattle.text_lines.specs.Fields.{◌>>=◌, Fails, IsKind, cut, first_field, first_or, field, last_field, last_from, two_fields, three_fields, four_fields, five_fields}
use Rattle.text_lines.specs.Values.{number_in, hex_of, page_salt, name_of, part_of, is_name, is_part}
use Rattle.text_lines.specs.Lines.{adds, text_of}
use Rattle.text_lines.specs.Lists.{complete_by, completed}
use Rattle.text_lines.proofs.Lists.{completed_ok}
use Rattle.text_lines.specs.Spelling.{◌then◌, salt_text, IsHexed}
use Rattle.text_lines.proofs.Numbers.{bind_ok, number_takes, number_again, hex_takes, hex_again, salt_takes, salt_again, name_takes, name_again, part_takes, part_again}
use Rattle.text_lines.proofs.Fielded.{Free, field_takes, field_again, two_take, three_take, four_take, five_take, first_again, two_again, three_again, four_again, five_again, OneLine}
use Rattle.text_lines.proofs.Printed.{free, hex_printed, one, printed, then_one, salt_printed, decimal_printed, name_bytes_printed}
use Rattle.text_lines.proofs.Spelled.{name_printed, part_printed}
use Rattle.text_lines.proofs.Whole.{IsRead, text_takes, text_again}
use Rattle.guest_plan.specs.declared.plan.How.{How}
use Rattle.guest_plan.specs.declared.plan.How.TheVariants.{Fixed, First, Kept}
use Rattle.guest_plan.specs.declared.plan.PlanLine.TheVariants as planned
use Rattle.guest_plan.specs.declared.plan.Item.{Item}
use Rattle.guest_plan.specs.declared.plan.Item.TheVariants.{Secret, InstanceSalt, Line}
use Rattle.guest_plan.specs.declared.plan.Plan.{Plan}
use Rattle.guest_plan.specs.Items.{host_number, uuid_of, measure_of, measure_in, secret_of, instance_salt_of, instance_of, blob_of, file_of, named_file_of, write_of, writedir_of, apk_fields, places_of, apk_fixed_of, apk_first_of, apk_kept_of, apk_by, apk_of, item_of}
use Rattle.guest_plan.specs.Plans.{Known, nothing, add, missing, plan_header, plan_of, known, Tells}
use Rattle.guest_plan.specs.Measures.{IsMeasureText, SaysMeasure}
use Rattle.guest_plan.specs.Spelling.{IsDevice, IsMeasuredBy, IsHostNumber, IsItem, measure_text, how_text, item_text, IsPlan}
use Rattle.guest_plan.proofs.Words.{by_word, made_of, ok_is}
use Rattle.guest_plan.proofs.Uuids.{uuid_takes, uuid_again, guid_printed}

-- what a line is that reads as this item
abbrev Is : List ℕ → Item → Type 0
Is line item = IsItem item × (line ≡ item_text item)

-- ---- measures

abbrev measure : ℕ → List ℕ → List ℕ → Measure
measure blocks salt root = record { blocks = blocks; salt = salt; root = record { 0 = root } }

measure_takes : (b s r : List ℕ) (m : Measure) → measure_of b s r ≡ Ok m → IsMeasureText (b then s then r) m
unfolding measure_of
measure_takes b s r m e =
    let x = bind_ok (number_in 2 1048577 b) (λ blocks. page_salt s >>= λ salt. hex_of 32 r >>= λ root. Ok (measure blocks salt root)) m e in
    let y = bind_ok (page_salt s) (λ salt. hex_of 32 r >>= λ root. Ok (measure x.0 salt root)) m x.2 in
    let z = bind_ok (hex_of 32 r) (λ root. Ok (measure x.0 y.0 root)) m y.2 in
    let blocks = number_takes 2 1048577 b x.0 (omega arith) x.1 in
    let salt = salt_takes s y.0 y.1 in
    let root = hex_takes 32 r z.0 z.1 in
    subst (IsMeasureText (b then s then r)) (ok_is (measure x.0 y.0 z.0) m z.2) (record {
      device = record { low = blocks.1; high = blocks.2; salt = (salt.1, salt.2); root = root.1 };
      spelled = ap (λ (t : List ℕ). t then s then r) blocks.0 ∙ ap (λ (t : List ℕ). decimal x.0 then t then r) salt.0 ∙ ap (λ (t : List ℕ). decimal x.0 then salt_text y.0 then t) root.0;
    })

measure_again : (m : Measure) → IsDevice m → measure_of (decimal m.blocks) (salt_text m.salt) (encode_lower m.root.0) ≡ Ok m
unfolding measure_of
measure_again m h = rw (number_again 2 1048577 m.blocks (omega arith) h.low h.high, salt_again m.salt h.salt.0 h.salt.1, hex_again 32 m.root.0 h.root) refl

-- ---- what is read is spelled so

-- a word and the digits of n bytes
hexed_takes : (line word : List ℕ) (n : ℕ) (make : List ℕ → Item) (item : Item) → first_field line ≡ word → (two_fields line >>= λ f. hex_of n f.1 >>= λ bytes. Ok (make bytes)) ≡ Ok item
    → (bytes : List ℕ) × IsHexed n bytes × (line ≡ (word then encode_lower bytes)) × (make bytes ≡ item)
hexed_takes line word n make item first e =
    let a = bind_ok (two_fields line) (λ f. hex_of n f.1 >>= λ bytes. Ok (make bytes)) item e in
    let b = bind_ok (hex_of n a.0.1) (λ bytes. Ok (make bytes)) item a.2 in
    let f = two_take line a.0 a.1 in
    let h = hex_takes n a.0.1 b.0 b.1 in
    (b.0, h.1, f.0 ∙ ap (λ (w : List ℕ). w then a.0.1) (sym f.1 ∙ first) ∙ ap (λ (t : List ℕ). word then t) h.0, ok_is (make b.0) item b.2)

secret_takes : (line : List ℕ) (item : Item) → first_field line ≡ codes "secret" → secret_of line ≡ Ok item → Is line item
unfolding secret_of
secret_takes line item word e = let is = hexed_takes line (codes "secret") 32 Secret item word e in subst (Is line) is.3 (is.1, is.2)

instance_salt_takes : (line : List ℕ) (item : Item) → first_field line ≡ codes "salt" → instance_salt_of line ≡ Ok item → Is line item
unfolding instance_salt_of
instance_salt_takes line item word e = let is = hexed_takes line (codes "salt") 64 InstanceSalt item word e in subst (Is line) is.3 (is.1, is.2)

abbrev instance_item : ℕ → List ℕ → Item
instance_item disk part = Line (planned.Instance disk part)

instance_takes : (line : List ℕ) (item : Item) → first_field line ≡ codes "instance" → instance_of line ≡ Ok item → Is line item
unfolding instance_of
instance_takes line item word e =
    let a = bind_ok (three_fields line) (λ f. host_number f.1 >>= λ disk. part_of f.2 >>= λ part. Ok (instance_item disk part)) item e in
    let f = a.0 in
    let b = bind_ok (host_number f.1) (λ disk. part_of f.2 >>= λ part. Ok (instance_item disk part)) item a.2 in
    let c = bind_ok (part_of f.2) (λ part. Ok (instance_item b.0 part)) item b.2 in
    let h = three_take line f a.1 in
    let disk = number_takes 0 2147483648 f.1 b.0 (omega arith) b.1 in
    let part = part_takes f.2 c.0 c.1 in
    let spelled : line ≡ item_text (instance_item b.0 c.0) =
    h.0 ∙ ap (λ (w : List ℕ). w then f.1 then f.2) (sym h.1 ∙ word)
    ∙ ap (λ (t : List ℕ). codes "instance" then t then f.2) disk.0
    ∙ ap (λ (t : List ℕ). codes "instance" then decimal b.0 then t) part.0 in
    subst (Is line) (ok_is (instance_item b.0 c.0) item c.2) ((disk.2, part.1), spelled)

abbrev blob : ℕ → Measure → Item
blob file m = Line (planned.Blob file m)

blob_takes : (line : List ℕ) (item : Item) → first_field line ≡ codes "blob" → blob_of line ≡ Ok item → Is line item
unfolding blob_of
blob_takes line item word e =
    let a = bind_ok (five_fields line) (λ f. host_number f.1 >>= λ file. measure_of f.2 f.3 f.4 >>= λ m. Ok (blob file m)) item e in
    let f = a.0 in
    let b = bind_ok (host_number f.1) (λ file. measure_of f.2 f.3 f.4 >>= λ m. Ok (blob file m)) item a.2 in
    let c = bind_ok (measure_of f.2 f.3 f.4) (λ m. Ok (blob b.0 m)) item b.2 in
    let h = five_take line f a.1 in
    let file = number_takes 0 2147483648 f.1 b.0 (omega arith) b.1 in
    let m = measure_takes f.2 f.3 f.4 c.0 c.1 in
    let spelled : line ≡ item_text (blob b.0 c.0) =
    h.0 ∙ ap (λ (w : List ℕ). w then f.1 then f.2 then f.3 then f.4) (sym h.1 ∙ word)
    ∙ ap (λ (t : List ℕ). codes "blob" then t then f.2 then f.3 then f.4) file.0
    ∙ ap (λ (t : List ℕ). codes "blob" then decimal b.0 then t) m.spelled in
    subst (Is line) (ok_is (blob b.0 c.0) item c.2) ((file.2, m.device), spelled)

abbrev file_item : List ℕ → ℕ → List ℕ → Item
file_item name file digest = Line (planned.File name file (record { 0 = digest }))

file_takes : (line : List ℕ) (item : Item) → first_field line ≡ codes "file" → file_of line ≡ Ok item → Is line item
unfolding file_of
file_takes line item word e =
    let a = bind_ok (four_fields line) (λ f. name_of f.1 >>= λ name. host_number f.2 >>= λ file. hex_of 32 f.3 >>= λ digest. Ok (file_item name file digest)) item e in
    let f = a.0 in
    let b = bind_ok (name_of f.1) (λ name. host_number f.2 >>= λ file. hex_of 32 f.3 >>= λ digest. Ok (file_item name file digest)) item a.2 in
    let c = bind_ok (host_number f.2) (λ file. hex_of 32 f.3 >>= λ digest. Ok (file_item b.0 file digest)) item b.2 in
    let d = bind_ok (hex_of 32 f.3) (λ digest. Ok (file_item b.0 c.0 digest)) item c.2 in
    let h = four_take line f a.1 in
    let name = name_takes f.1 b.0 b.1 in
    let file = number_takes 0 2147483648 f.2 c.0 (omega arith) c.1 in
    let digest = hex_takes 32 f.3 d.0 d.1 in
    let spelled : line ≡ item_text (file_item b.0 c.0 d.0) =
    h.0 ∙ ap (λ (w : List ℕ). w then f.1 then f.2 then f.3) (sym h.1 ∙ word)
    ∙ ap (λ (t : List ℕ). codes "file" then t then f.2 then f.3) name.0
    ∙ ap (λ (t : List ℕ). codes "file" then b.0 then t then f.3) file.0
    ∙ ap (λ (t : List ℕ). codes "file" then b.0 then decimal c.0 then t) digest.0 in
    subst (Is line) (ok_is (file_item b.0 c.0 d.0) item d.2) ((name.1, file.2, digest.1), spelled)

abbrev NamedFile : Type 0
NamedFile = List ℕ × ℕ

-- what a line is, behind its word, that reads as this name and number
record HasNamed (line word : List ℕ) (f : NamedFile) : Type 0 where
  name : is_name f.0 ≡ true
  number : IsHostNumber f.1
  whole : line ≡ (word then f.0 then decimal f.1)

named_takes : (line word : List ℕ) (f : NamedFile) → first_field line ≡ word → named_file_of line ≡ Ok f → HasNamed line word f
unfolding named_file_of
named_takes line word p first e =
    let a = bind_ok (three_fields line) (λ f. name_of f.1 >>= λ name. host_number f.2 >>= λ file. Ok (name, file)) p e in
    let f = a.0 in
    let b = bind_ok (name_of f.1) (λ name. host_number f.2 >>= λ file. Ok (name, file)) p a.2 in
    let c = bind_ok (host_number f.2) (λ file. Ok (b.0, file)) p b.2 in
    let h = three_take line f a.1 in
    let name = name_takes f.1 b.0 b.1 in
    let file = number_takes 0 2147483648 f.2 c.0 (omega arith) c.1 in
    let made : NamedFile = (b.0, c.0) in
    subst (HasNamed line word) (ok_is made p c.2) (record {
      name = name.1;
      number = file.2;
      whole = h.0 ∙ ap (λ (w : List ℕ). w then f.1 then f.2) (sym h.1 ∙ first)
          ∙ ap (λ (t : List ℕ). word then t then f.2) name.0
          ∙ ap (λ (t : List ℕ). word then b.0 then t) file.0;
    })

abbrev write_item : NamedFile → Item
write_item f = Line (planned.Write f.0 f.1)

abbrev writedir_item : NamedFile → Item
writedir_item f = Line (planned.WriteDir f.0 f.1)

-- a line of a word, a name and a number
named_line_takes : (line word : List ℕ) (make : NamedFile → Item) (item : Item) → ((f : NamedFile) → HasNamed line word f → Is line (make f)) → first_field line ≡ word → (named_file_of line >>= λ f. Ok (make f)) ≡ Ok item → Is line item
named_line_takes line word make item is first e =
    let a = made_of (named_file_of line) make item e in
    subst (Is line) a.2 (is a.0 (named_takes line word a.0 first a.1))

write_takes : (line : List ℕ) (item : Item) → first_field line ≡ codes "write" → write_of line ≡ Ok item → Is line item
unfolding write_of
write_takes line item word e = named_line_takes line (codes "write") write_item item (λ f h. ((h.name, h.number), h.whole)) word e

writedir_takes : (line : List ℕ) (item : Item) → first_field line ≡ codes "writedir" → writedir_of line ≡ Ok item → Is line item
unfolding writedir_of
writedir_takes line item word e = named_line_takes line (codes "writedir") writedir_item item (λ f h. ((h.name, h.number), h.whole)) word e

-- ---- APK devices

abbrev Four : Type 0
Four = List ℕ × List ℕ × List ℕ × List ℕ

abbrev joined : Four → List ℕ
joined f = f.0 then f.1 then f.2 then f.3

record HasApk (line : List ℕ) (f : Four) : Type 0 where
  word : List ℕ
  first : first_field line ≡ word
  whole : line ≡ word then joined f

apk_fields_take : (line : List ℕ) (f : Four) → apk_fields line ≡ Ok f → HasApk line f
unfolding apk_fields
apk_fields_take line f e =
    let a = bind_ok (field line) (λ word. field word.1 >>= λ disk. field disk.1 >>= λ apk. field apk.1 >>= λ idsig. Ok (disk.0, apk.0, idsig.0, idsig.1)) f e in
    let b = bind_ok (field a.0.1) (λ disk. field disk.1 >>= λ apk. field apk.1 >>= λ idsig. Ok (disk.0, apk.0, idsig.0, idsig.1)) f a.2 in
    let c = bind_ok (field b.0.1) (λ apk. field apk.1 >>= λ idsig. Ok (b.0.0, apk.0, idsig.0, idsig.1)) f b.2 in
    let d = bind_ok (field c.0.1) (λ idsig. Ok (b.0.0, c.0.0, idsig.0, idsig.1)) f c.2 in
    let made : Four = (b.0.0, c.0.0, d.0.0, d.0.1) in
    let p = field_takes line a.0 a.1 in
    let q = field_takes a.0.1 b.0 b.1 in
    let r = field_takes b.0.1 c.0 c.1 in
    let s = field_takes c.0.1 d.0 d.1 in
    subst (HasApk line) (ok_is made f d.2) (record {
      word = a.0.0;
      first = p.1;
      whole = p.0 ∙ ap (λ (t : List ℕ). a.0.0 then t) q.0 ∙ ap (λ (t : List ℕ). a.0.0 then b.0.0 then t) r.0 ∙ ap (λ (t : List ℕ). a.0.0 then b.0.0 then c.0.0 then t) s.0;
    })

abbrev Places : Type 0
Places = ℕ × List ℕ × List ℕ

record ArePlaces (d a i : List ℕ) (p : Places) : Type 0 where
  number : IsHostNumber p.0
  first : is_part p.1 ≡ true
  second : is_part p.2 ≡ true
  spelled : (rest : List ℕ) → (d then a then i then rest) ≡ (decimal p.0 then p.1 then p.2 then rest)

places_take : (d a i : List ℕ) (p : Places) → places_of d a i ≡ Ok p → ArePlaces d a i p
unfolding places_of
places_take d a i p e =
    let x = bind_ok (host_number d) (λ disk. part_of a >>= λ apk. part_of i >>= λ idsig. Ok (disk, apk, idsig)) p e in
    let y = bind_ok (part_of a) (λ apk. part_of i >>= λ idsig. Ok (x.0, apk, idsig)) p x.2 in
    let z = bind_ok (part_of i) (λ idsig. Ok (x.0, y.0, idsig)) p y.2 in
    let made : Places = (x.0, y.0, z.0) in
    let disk = number_takes 0 2147483648 d x.0 (omega arith) x.1 in
    let apk = part_takes a y.0 y.1 in
    let idsig = part_takes i z.0 z.1 in
    subst (ArePlaces d a i) (ok_is made p z.2) (record {
      number = disk.2;
      first = apk.1;
      second = idsig.1;
      spelled = λ rest. ap (λ (t : List ℕ). t then a then i then rest) disk.0 ∙ ap (λ (t : List ℕ). decimal x.0 then t then i then rest) apk.0 ∙ ap (λ (t : List ℕ). decimal x.0 then y.0 then t then rest) idsig.0;
    })

places_again : (disk : ℕ) (apk idsig : List ℕ) → IsHostNumber disk → is_part apk ≡ true → is_part idsig ≡ true → places_of (decimal disk) apk idsig ≡ Ok (disk, apk, idsig)
unfolding places_of
places_again disk apk idsig n a i = rw (number_again 0 2147483648 disk (omega arith) (omega arith) n, part_again apk a, part_again idsig i) refl

abbrev apk_item : Places → How → Item
apk_item p how = Line (planned.Apk p.0 p.1 p.2 how)

-- what the fields of an APK's line are that read as this item
abbrev IsApk : Four → Item → Type 0
IsApk f item = IsItem item × ((codes "apk" then joined f) ≡ item_text item)

apk_is : (f : Four) (p : Places) (how : How) → ArePlaces f.0 f.1 f.2 p → IsMeasuredBy how → f.3 ≡ how_text how → IsApk f (apk_item p how)
apk_is f p how places by tail =
    ((places.number, places.first, places.second, by), ap (λ (t : List ℕ). codes "apk" then t) (places.spelled f.3 ∙ ap (λ (t : List ℕ). decimal p.0 then p.1 then p.2 then t) tail))

fixed_takes : (f : Four) (item : Item) → first_field f.3 ≡ codes "fixed" → apk_fixed_of f ≡ Ok item → IsApk f item
unfolding apk_fixed_of
fixed_takes f item word e =
    let a = bind_ok (four_fields f.3) (λ g. places_of f.0 f.1 f.2 >>= λ p. measure_of g.1 g.2 g.3 >>= λ m. Ok (apk_item p (Fixed m))) item e in
    let g = a.0 in
    let b = bind_ok (places_of f.0 f.1 f.2) (λ p. measure_of g.1 g.2 g.3 >>= λ m. Ok (apk_item p (Fixed m))) item a.2 in
    let c = bind_ok (measure_of g.1 g.2 g.3) (λ m. Ok (apk_item b.0 (Fixed m))) item b.2 in
    let h = four_take f.3 g a.1 in
    let m = measure_takes g.1 g.2 g.3 c.0 c.1 in
    let tail : f.3 ≡ how_text (Fixed c.0) = h.0 ∙ ap (λ (w : List ℕ). w then g.1 then g.2 then g.3) (sym h.1 ∙ word) ∙ ap (λ (t : List ℕ). codes "fixed" then t) m.spelled in
    subst (IsApk f) (ok_is (apk_item b.0 (Fixed c.0)) item c.2) (apk_is f b.0 (Fixed c.0) (places_take f.0 f.1 f.2 b.0 b.1) m.device tail)

alone_from : (rest x : List ℕ) (o : Option (List ℕ × List ℕ)) → last_from rest o ≡ Ok x → first_or rest o ≡ rest
alone_from rest x None e = refl
alone_from rest x (Some p) e = absurd cc

alone : (rest x : List ℕ) → last_field rest ≡ Ok x → first_field rest ≡ rest
unfolding last_field first_field
alone rest x e = alone_from rest x (cut 32 rest) e

first_takes : (f : Four) (item : Item) → first_field f.3 ≡ codes "first" → apk_first_of f ≡ Ok item → IsApk f item
unfolding apk_first_of
first_takes f item word e =
    let a = bind_ok (last_field f.3) (λ g. places_of f.0 f.1 f.2 >>= λ p. Ok (apk_item p First)) item e in
    let b = bind_ok (places_of f.0 f.1 f.2) (λ p. Ok (apk_item p First)) item a.2 in
    subst (IsApk f) (ok_is (apk_item b.0 First) item b.2) (apk_is f b.0 First (places_take f.0 f.1 f.2 b.0 b.1) tt (sym (alone f.3 a.0 a.1) ∙ word))

kept_takes : (f : Four) (item : Item) → first_field f.3 ≡ codes "record" → apk_kept_of f ≡ Ok item → IsApk f item
unfolding apk_kept_of
kept_takes f item word e =
    let a = bind_ok (two_fields f.3) (λ g. places_of f.0 f.1 f.2 >>= λ p. uuid_of g.1 >>= λ guid. Ok (apk_item p (Kept guid))) item e in
    let g = a.0 in
    let b = bind_ok (places_of f.0 f.1 f.2) (λ p. uuid_of g.1 >>= λ guid. Ok (apk_item p (Kept guid))) item a.2 in
    let c = bind_ok (uuid_of g.1) (λ guid. Ok (apk_item b.0 (Kept guid))) item b.2 in
    let h = two_take f.3 g a.1 in
    let u = uuid_takes g.1 c.0 c.1 in
    let tail : f.3 ≡ how_text (Kept c.0) = h.0 ∙ ap (λ (w : List ℕ). w then g.1) (sym h.1 ∙ word) ∙ ap (λ (t : List ℕ). codes "record" then t) u.0 in
    subst (IsApk f) (ok_is (apk_item b.0 (Kept c.0)) item c.2) (apk_is f b.0 (Kept c.0) (places_take f.0 f.1 f.2 b.0 b.1) u.1 tail)

abbrev item_done : Item → Result Item PlanKind
item_done x = Ok x

apk_by_takes : (f : Four) (item : Item) → apk_by f ≡ Ok item → IsApk f item
unfolding apk_by
apk_by_takes f item e =
    let w : List ℕ = first_field f.3 in
    by_word w (codes "fixed") (apk_fixed_of f) _ (item_done item) (fixed_takes f item) (
    by_word w (codes "first") (apk_first_of f) _ (item_done item) (first_takes f item) (
    by_word w (codes "record") (apk_kept_of f) (Err kinds.Word) (item_done item) (kept_takes f item) (λ r. absurd (cc (r))))) e

apk_takes : (line : List ℕ) (item : Item) → first_field line ≡ codes "apk" → apk_of line ≡ Ok item → Is line item
unfolding apk_of
apk_takes line item word e =
    let a = bind_ok (apk_fields line) apk_by item e in
    let f = apk_fields_take line a.0 a.1 in
    let is = apk_by_takes a.0 item a.2 in
    (is.0, f.whole ∙ ap (λ (w : List ℕ). w then joined a.0) (sym f.first ∙ word) ∙ is.1)

item_takes : (line : List ℕ) (item : Item) → item_of line ≡ Ok item → Is line item
unfolding item_of
item_takes line item e =
    let w : List ℕ = first_field line in
    by_word w (codes "secret") (secret_of line) _ (item_done item) (secret_takes line item) (
    by_word w (codes "salt") (instance_salt_of line) _ (item_done item) (instance_salt_takes line item) (
    by_word w (codes "instance") (instance_of line) _ (item_done item) (instance_takes line item) (
    by_word w (codes "blob") (blob_of line) _ (item_done item) (blob_takes line item) (
    by_word w (codes "apk") (apk_of line) _ (item_done item) (apk_takes line item) (
    by_word w (codes "file") (file_of line) _ (item_done item) (file_takes line item) (
    by_word w (codes "write") (write_of line) _ (item_done item) (write_takes line item) (
    by_word w (codes "writedir") (writedir_of line) (Err kinds.Word) (item_done item) (writedir_takes line item) (λ r. absurd (cc (r)))))))))) e

-- ---- what is spelled so is read

name_free : (x : List ℕ) → is_name x ≡ true → printed x ≡ true
name_free x h = name_bytes_printed x (name_printed x h)

part_free : (x : List ℕ) → is_part x ≡ true → printed x ≡ true
part_free x h = name_bytes_printed x (part_printed x h)

number_free : (n : ℕ) → IsHostNumber n → printed (decimal n) ≡ true
number_free n h = decimal_printed n (omega arith)

blocks_free : (m : Measure) → IsDevice m → printed (decimal m.blocks) ≡ true
blocks_free m h = let high = h.high in decimal_printed m.blocks (omega arith)

secret_again : (bytes : List ℕ) → IsHexed 32 bytes → item_of (item_text (Secret bytes)) ≡ Ok (Secret bytes)
unfolding item_of secret_of
secret_again bytes h =
    let t : List ℕ = encode_lower bytes in
    rw (first_again (codes "secret") t refl, two_again (codes "secret") t refl (free t (hex_printed bytes h.1)), hex_again 32 bytes h) refl

instance_salt_again : (bytes : List ℕ) → IsHexed 64 bytes → item_of (item_text (InstanceSalt bytes)) ≡ Ok (InstanceSalt bytes)
unfolding item_of instance_salt_of
instance_salt_again bytes h =
    let t : List ℕ = encode_lower bytes in
    rw (first_again (codes "salt") t refl, two_again (codes "salt") t refl (free t (hex_printed bytes h.1)), hex_again 64 bytes h) refl

instance_again : (disk : ℕ) (part : List ℕ) → IsItem (instance_item disk part) → item_of (item_text (instance_item disk part)) ≡ Ok (instance_item disk part)
unfolding item_of instance_of
instance_again disk part h =
    let d : List ℕ = decimal disk in
    rw (first_again (codes "instance") (d then part) refl, three_again (codes "instance") d part refl (free d (number_free disk h.0)) (free part (part_free part h.1)), number_again 0 2147483648 disk (omega arith) (omega arith) h.0, part_again part h.1) refl

blob_again : (file : ℕ) (m : Measure) → IsItem (blob file m) → item_of (item_text (blob file m)) ≡ Ok (blob file m)
unfolding item_of blob_of
blob_again file m h =
    let d : List ℕ = decimal file in
    let n : List ℕ = decimal m.blocks in
    let s : List ℕ = salt_text m.salt in
    let t : List ℕ = encode_lower m.root.0 in
    rw (
      first_again (codes "blob") (d then n then s then t) refl,
      five_again (codes "blob") d n s t refl (free d (number_free file h.0)) (free n (blocks_free m h.1)) (free s (salt_printed m.salt h.1.salt.1)) (free t (hex_printed m.root.0 h.1.root.1)),
      number_again 0 2147483648 file (omega arith) (omega arith) h.0,
      measure_again m h.1,
    ) refl

file_again : (name : List ℕ) (file : ℕ) (digest : List ℕ) → IsItem (file_item name file digest) → item_of (item_text (file_item name file digest)) ≡ Ok (file_item name file digest)
unfolding item_of file_of
file_again name file digest h =
    let d : List ℕ = decimal file in
    let t : List ℕ = encode_lower digest in
    rw (first_again (codes "file") (name then d then t) refl, four_again (codes "file") name d t refl (free name (name_free name h.0)) (free d (number_free file h.1)) (free t (hex_printed digest h.2.1)), name_again name h.0, number_again 0 2147483648 file (omega arith) (omega arith) h.1, hex_again 32 digest h.2) refl

named_again : (word name : List ℕ) (file : ℕ) → Free word → is_name name ≡ true → IsHostNumber file → let f : NamedFile = (name, file) in named_file_of (word then name then decimal file) ≡ Ok f
unfolding named_file_of
named_again word name file plain n h =
    let d : List ℕ = decimal file in
    rw (three_again word name d plain (free name (name_free name n)) (free d (number_free file h)), name_again name n, number_again 0 2147483648 file (omega arith) (omega arith) h) refl

write_again : (name : List ℕ) (file : ℕ) → IsItem (write_item (name, file)) → item_of (item_text (write_item (name, file))) ≡ Ok (write_item (name, file))
unfolding item_of write_of
write_again name file h = rw (first_again (codes "write") (name then decimal file) refl, named_again (codes "write") name file refl h.0 h.1) refl

writedir_again : (name : List ℕ) (file : ℕ) → IsItem (writedir_item (name, file)) → item_of (item_text (writedir_item (name, file))) ≡ Ok (writedir_item (name, file))
unfolding item_of writedir_of
writedir_again name file h = rw (first_again (codes "writedir") (name then decimal file) refl, named_again (codes "writedir") name file refl h.0 h.1) refl

apk_fields_again : (w d a i rest : List ℕ) → Free w → Free d → Free a → Free i → apk_fields (w then d then a then i then rest) ≡ Ok (d, a, i, rest)
unfolding apk_fields
apk_fields_again w d a i rest hw hd ha hi = rw (field_again w (d then a then i then rest) hw, field_again d (a then i then rest) hd, field_again a (i then rest) ha, field_again i rest hi) refl

fixed_again : (disk : ℕ) (apk idsig : List ℕ) (m : Measure) → IsHostNumber disk → is_part apk ≡ true → is_part idsig ≡ true → IsDevice m → apk_by (decimal disk, apk, idsig, how_text (Fixed m)) ≡ Ok (apk_item (disk, apk, idsig) (Fixed m))
unfolding apk_by apk_fixed_of
fixed_again disk apk idsig m n a i h =
    let b : List ℕ = decimal m.blocks in
    let s : List ℕ = salt_text m.salt in
    let t : List ℕ = encode_lower m.root.0 in
    rw (
      first_again (codes "fixed") (b then s then t) refl,
      four_again (codes "fixed") b s t refl (free b (blocks_free m h)) (free s (salt_printed m.salt h.salt.1)) (free t (hex_printed m.root.0 h.root.1)),
      places_again disk apk idsig n a i,
      measure_again m h,
    ) refl

first_how_again : (disk : ℕ) (apk idsig : List ℕ) → IsHostNumber disk → is_part apk ≡ true → is_part idsig ≡ true → apk_by (decimal disk, apk, idsig, how_text First) ≡ Ok (apk_item (disk, apk, idsig) First)
unfolding apk_by apk_first_of first_field last_field
first_how_again disk apk idsig n a i = rw (places_again disk apk idsig n a i) refl

kept_again : (disk : ℕ) (apk idsig : List ℕ) (g : Guid) → IsHostNumber disk → is_part apk ≡ true → is_part idsig ≡ true → guid_of (guid_text g.0) ≡ Some g → apk_by (decimal disk, apk, idsig, how_text (Kept g)) ≡ Ok (apk_item (disk, apk, idsig) (Kept g))
unfolding apk_by apk_kept_of
kept_again disk apk idsig g n a i h =
    let u : List ℕ = guid_text g.0 in
    rw (first_again (codes "record") u refl, two_again (codes "record") u refl (free u (name_bytes_printed u (guid_printed g.0))), places_again disk apk idsig n a i, uuid_again g h) refl

by_again : (disk : ℕ) (apk idsig : List ℕ) (how : How) → IsHostNumber disk → is_part apk ≡ true → is_part idsig ≡ true → IsMeasuredBy how → apk_by (decimal disk, apk, idsig, how_text how) ≡ Ok (apk_item (disk, apk, idsig) how)
by_again disk apk idsig (Fixed m) n a i h = fixed_again disk apk idsig m n a i h
by_again disk apk idsig First n a i h = first_how_again disk apk idsig n a i
by_again disk apk idsig (Kept g) n a i h = kept_again disk apk idsig g n a i h

apk_line : (rest : List ℕ) → item_of (codes "apk" then rest) ≡ apk_of (codes "apk" then rest)
unfolding item_of
apk_line rest = rw (first_again (codes "apk") rest refl) refl

apk_again : (disk : ℕ) (apk idsig : List ℕ) (how : How) → IsItem (apk_item (disk, apk, idsig) how) → item_of (item_text (apk_item (disk, apk, idsig) how)) ≡ Ok (apk_item (disk, apk, idsig) how)
unfolding apk_of
apk_again disk apk idsig how h =
    let d : List ℕ = decimal disk in
    apk_line (d then apk then idsig then how_text how)
    ∙ ap (λ (r : Result Four PlanKind). r >>= apk_by) (apk_fields_again (codes "apk") d apk idsig (how_text how) refl (free d (number_free disk h.0)) (free apk (part_free apk h.1)) (free idsig (part_free idsig h.2)))
    ∙ by_again disk apk idsig how h.0 h.1 h.2 h.3

item_again : (item : Item) → IsItem item → item_of (item_text item) ≡ Ok item
item_again (Secret bytes) h = secret_again bytes h
item_again (InstanceSalt bytes) h = instance_salt_again bytes h
item_again (Line (planned.Instance disk part)) h = instance_again disk part h
item_again (Line (planned.Blob file m)) h = blob_again file m h
item_again (Line (planned.Apk disk apk idsig how)) h = apk_again disk apk idsig how h
item_again (Line (planned.File name file digest)) h = file_again name file digest.0 h
item_again (Line (planned.Write name file)) h = write_again name file h
item_again (Line (planned.WriteDir name file)) h = writedir_again name file h

-- ---- a measure by itself

measure_in_takes : (text : List ℕ) (m : Measure) → measure_in text ≡ Ok m → IsMeasureText text m
unfolding measure_in
measure_in_takes text m e =
    let a = bind_ok (three_fields text) (λ f. measure_of f.0 f.1 f.2) m e in
    let f = a.0 in
    subst (λ (t : List ℕ). IsMeasureText t m) (sym (three_take text f a.1).0) (measure_takes f.0 f.1 f.2 m a.2)

measure_in_again : (m : Measure) → IsDevice m → measure_in (measure_text m) ≡ Ok m
unfolding measure_in
measure_in_again m h =
    let n : List ℕ = decimal m.blocks in let s : List ℕ = salt_text m.salt in let t : List ℕ = encode_lower m.root.0 in
    rw (three_again n s t (free n (blocks_free m h)) (free s (salt_printed m.salt h.salt.1)) (free t (hex_printed m.root.0 h.root.1))) (measure_again m h)

not_both : (r : Result Measure PlanKind) (m : Measure) (k : PlanKind) → r ≡ Ok m → r ≡ Err k → ⊥
not_both r m k a b = cc

pub measure_is : (text : List ℕ) (m : Measure) → measure_in text ≡ Ok m → SaysMeasure text (Some m)
measure_is text m e = measure_in_takes text m e

pub measure_is_none : (text : List ℕ) (why : LineFault) → Fails why (measure_in text) → IsKind why → SaysMeasure text None
measure_is_none text (fault.Kind k) e kind = λ m is. not_both (measure_in text) m k (ap measure_in is.spelled ∙ measure_in_again m is.device) e
measure_is_none text fault.Memory e kind = absurd kind

-- ---- no line feed

measure_one : (m : Measure) → IsDevice m → OneLine (measure_text m)
measure_one m h =
    let n : List ℕ = decimal m.blocks in let s : List ℕ = salt_text m.salt in let t : List ℕ = encode_lower m.root.0 in
    then_one n (s then t) (one n (blocks_free m h)) (then_one s t (one s (salt_printed m.salt h.salt.1)) (one t (hex_printed m.root.0 h.root.1)))

how_one : (how : How) → IsMeasuredBy how → OneLine (how_text how)
how_one (Fixed m) h = then_one (codes "fixed") (measure_text m) refl (measure_one m h)
how_one First h = refl
how_one (Kept g) h = let u : List ℕ = guid_text g.0 in then_one (codes "record") u refl (one u (name_bytes_printed u (guid_printed g.0)))

item_one : (item : Item) → IsItem item → OneLine (item_text item)
item_one (Secret bytes) h = let t : List ℕ = encode_lower bytes in then_one (codes "secret") t refl (one t (hex_printed bytes h.1))
item_one (InstanceSalt bytes) h = let t : List ℕ = encode_lower bytes in then_one (codes "salt") t refl (one t (hex_printed bytes h.1))
item_one (Line (planned.Instance disk part)) h =
    let d : List ℕ = decimal disk in
    then_one (codes "instance") (d then part) refl (then_one d part (one d (number_free disk h.0)) (one part (part_free part h.1)))
item_one (Line (planned.Blob file m)) h =
    let d : List ℕ = decimal file in
    then_one (codes "blob") (d then measure_text m) refl (then_one d (measure_text m) (one d (number_free file h.0)) (measure_one m h.1))
item_one (Line (planned.Apk disk apk idsig how)) h =
    let d : List ℕ = decimal disk in
    then_one (codes "apk") (d then apk then idsig then how_text how) refl (then_one d (apk then idsig then how_text how) (one d (number_free disk h.0)) (then_one apk (idsig then how_text how) (one apk (part_free apk h.1)) (then_one idsig (how_text how) (one idsig (part_free idsig h.2)) (how_one how h.3))))
item_one (Line (planned.File name file digest)) h =
    let d : List ℕ = decimal file in let t : List ℕ = encode_lower digest.0 in
    then_one (codes "file") (name then d then t) refl (then_one name (d then t) (one name (name_free name h.0)) (then_one d t (one d (number_free file h.1)) (one t (hex_printed digest.0 h.2.1))))
item_one (Line (planned.Write name file)) h =
    let d : List ℕ = decimal file in
    then_one (codes "write") (name then d) refl (then_one name d (one name (name_free name h.0)) (one d (number_free file h.1)))
item_one (Line (planned.WriteDir name file)) h =
    let d : List ℕ = decimal file in
    then_one (codes "writedir") (name then d) refl (then_one name d (one name (name_free name h.0)) (one d (number_free file h.1)))

items_read : IsRead item_of IsItem item_text
items_read = record { takes = item_takes; again = item_again; one = item_one }

-- ---- the whole text

pub plan_takes : (bytes : List ℕ) (k : Known) → plan_of bytes ≡ Ok k → IsPlan bytes k
plan_takes bytes k e =
    let c = completed_ok missing (text_of plan_header (adds item_of add) nothing bytes) k e in
    record { items = text_takes plan_header item_of add IsItem item_text items_read nothing bytes k c.0; complete = c.1 }

pub plan_again : (bytes : List ℕ) (k : Known) → IsPlan bytes k → plan_of bytes ≡ Ok k
plan_again bytes k h =
    ap (completed missing) (text_again plan_header item_of add IsItem item_text items_read refl nothing bytes k h.items) ∙ ap (complete_by k) h.complete

pub found_is : (bytes : List ℕ) (r : Result Plan PlanFault) → Tells r (plan_of bytes) → IfOk r (λ p. IsPlan bytes (known p))
found_is bytes (Ok p) told = plan_takes bytes (known p) told
found_is bytes (Err f) told = tt
