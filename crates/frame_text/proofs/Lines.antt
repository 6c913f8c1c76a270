-- A line is read as a frame exactly where it is the frame's line.
use Rattle.std.proofs.Common.{◌≡◌, ◌≤◌, ◌+◌, ◌^◌, ℕ, zero, suc, List, [], ◌∷◌, ◌++◌, length, length-append, take, drop, true, cond, Result, Ok, Err, refl, sym, ap, subst, ◌∙◌, arith, inl, inr}
use Rattle.std.proofs.lemmas.List.{take-append-drop, length-take, length-drop}
use Rattle.std.specs.Prelude.{codes}
use Rattle.std.specs.Str.{bytes_eq}
use Rattle.std.specs.Fmt.{decimal}
use Rattle.hex.specs.Hex.{IsBytes}
use Rattle.guid_crc.specs.Guids.{guid_text}
use Rattle.text_lines.specs.declared.kinds.PlanKind.{PlanKind}
use Rattle.text_lines.specs.declared.kinds.PlanKind.TheVariants as kinds
use Rattle.text_lines.specs.Fields.{◌>>=◌, first_field, two_fields, three_fields, four_fields}
use Rattle.text_lines.specs.Values.{number_in}
use Rattle.text_lines.specs.Spelling.{◌then◌}
use Rattle.text_lines.proofs.Fielded.{OneLine, two_take, two_again, three_take, three_again, four_take, four_again, first_again}
use Rattle.text_lines.proofs.Printed.{printed, decimal_printed, free, name_bytes_printed, one, then_one}
use Rattle.text_lines.proofs.Numbers.{bind_ok, chosen, number_takes, number_again, text_is}
use Rattle.session_frames.specs.Frames.{Framed}
use Rattle.guest_plan.specs.Items.{uuid_of}
use Rattle.guest_plan.proofs.Uuids.{guid_printed}
use Rattle.guest_rules.specs.Machine.{item_read}
use Rattle.frame_text.specs.Spelling.{bytes_text, message_line, read_line, get_line, put_line}
use Rattle.frame_text.specs.Requests.{IsRequest, line_of, line_on}
use Rattle.frame_text.specs.Reading.{bytes_in, frame_of, framed, get_of, message_of, payload_with, put_of, read_of}
use Rattle.frame_text.proofs.Digits.{bytes_takes, bytes_again, bytes_printed}
use Rattle.frame_text.proofs.Payloads.{again_is, fits, is_read, joined_bytes, firsts, lasts, says}
use Rattle.frame_text.proofs.Uuids.{Is, uuid_is, uuid_back}

-- this line is that of this request
pub record Says (line : List ℕ) (f : Framed) : Type 0 where
  pub is : IsRequest f
  pub spelled : line ≡ line_of f

-- ---- a line that is read

abbrev message_word : List ℕ
message_word = codes "message"

abbrev read_word : List ℕ
read_word = codes "read"

abbrev get_word : List ℕ
get_word = codes "get"

abbrev put_word : List ℕ
put_word = codes "put"

message_takes : (line : List ℕ) (f : Framed) → first_field line ≡ message_word → message_of line ≡ Ok f → Says line f
unfolding message_of
message_takes line f w e =
    let a = bind_ok (two_fields line) (λ fields. bytes_in 40 135168 fields.1 >>= λ bytes. Ok (framed 0 bytes)) f e in
    let b = bind_ok (bytes_in 40 135168 a.0.1) (λ bytes. Ok (framed 0 bytes)) f a.2 in
    let made : framed 0 b.0 ≡ f = cc (b.2) in
    let h = two_take line a.0 a.1 in
    let is_word : a.0.0 ≡ message_word = sym h.1 ∙ w in
    let d = bytes_takes 40 135168 a.0.1 b.0 b.1 in
    subst (Says line) made (record {
      is = record {
        suits = record { channels = omega arith; least = omega (arith, d.least_is); most = d.most_is; message = λ _. d.least_is; item = λ no. absurd (omega arith); uuid = λ no. absurd (omega arith) };
        bytes = d.each;
      };
      spelled = h.0 ∙ ap (λ (x : List ℕ). x then a.0.1) is_word ∙ ap (λ (x : List ℕ). message_word then x) d.text_is;
    })

read_takes : (line : List ℕ) (f : Framed) → first_field line ≡ read_word → read_of line ≡ Ok f → Says line f
unfolding read_of
read_takes line f w e =
    let a = bind_ok (four_fields line) (λ fields. number_in 0 (2 ^ 32) fields.1 >>= λ item. number_in 0 (2 ^ 64) fields.2 >>= λ offset. number_in 0 (2 ^ 32) fields.3 >>= λ size. Ok (framed 1 (payload_with item offset size))) f e in
    let b = bind_ok (number_in 0 (2 ^ 32) a.0.1) (λ item. number_in 0 (2 ^ 64) a.0.2 >>= λ offset. number_in 0 (2 ^ 32) a.0.3 >>= λ size. Ok (framed 1 (payload_with item offset size))) f a.2 in
    let c = bind_ok (number_in 0 (2 ^ 64) a.0.2) (λ offset. number_in 0 (2 ^ 32) a.0.3 >>= λ size. Ok (framed 1 (payload_with b.0 offset size))) f b.2 in
    let d = bind_ok (number_in 0 (2 ^ 32) a.0.3) (λ size. Ok (framed 1 (payload_with b.0 c.0 size))) f c.2 in
    let made : framed 1 (payload_with b.0 c.0 d.0) ≡ f = cc (d.2) in
    let h = four_take line a.0 a.1 in
    let is_word : a.0.0 ≡ read_word = sym h.1 ∙ w in
    let item = number_takes 0 (2 ^ 32) a.0.1 b.0 (omega arith) b.1 in
    let offset = number_takes 0 (2 ^ 64) a.0.2 c.0 (omega arith) c.1 in
    let size = number_takes 0 (2 ^ 32) a.0.3 d.0 (omega arith) d.1 in
    let k = is_read b.0 c.0 d.0 in
    subst (Says line) made (record {
      is = record {
        suits = record { channels = omega arith; least = omega (arith, k.0); most = omega (arith, k.0); message = λ no. absurd (omega arith); item = λ _. k.0; uuid = λ no. absurd (omega arith) };
        bytes = k.1;
      };
      spelled = h.0
          ∙ ap (λ (x : List ℕ). x then a.0.1 then a.0.2 then a.0.3) is_word
          ∙ ap (λ (x : List ℕ). read_word then x then a.0.2 then a.0.3) item.0
          ∙ ap (λ (x : List ℕ). read_word then decimal b.0 then x then a.0.3) offset.0
          ∙ ap (λ (x : List ℕ). read_word then decimal b.0 then decimal c.0 then x) size.0
          ∙ ap read_line (sym (says b.0 c.0 d.0 item.2 offset.2 size.2));
    })

get_takes : (line : List ℕ) (f : Framed) → first_field line ≡ get_word → get_of line ≡ Ok f → Says line f
unfolding get_of
get_takes line f w e =
    let a = bind_ok (two_fields line) (λ fields. uuid_of fields.1 >>= λ uuid. Ok (framed 2 uuid.0)) f e in
    let b = bind_ok (uuid_of a.0.1) (λ uuid. Ok (framed 2 uuid.0)) f a.2 in
    let made : framed 2 b.0.0 ≡ f = cc (b.2) in
    let h = two_take line a.0 a.1 in
    let is_word : a.0.0 ≡ get_word = sym h.1 ∙ w in
    let u = uuid_is a.0.1 b.0 b.1 in
    subst (Says line) made (record {
      is = record {
        suits = record { channels = omega arith; least = omega (arith, u.1.len); most = omega (arith, u.1.len); message = λ no. absurd (omega arith); item = λ no. absurd (omega arith); uuid = λ _. u.1.len };
        bytes = u.1.bytes;
      };
      spelled = h.0 ∙ ap (λ (x : List ℕ). x then a.0.1) is_word ∙ ap (λ (x : List ℕ). get_word then x) u.0;
    })

front : (uuid text : List ℕ) → take (length uuid) (uuid ++ text) ≡ uuid
front [] text = refl
front (b ∷ uuid) text = ap (λ (x : List ℕ). b ∷ x) (front uuid text)

behind : (uuid text : List ℕ) → drop (length uuid) (uuid ++ text) ≡ text
behind [] text = refl
behind (b ∷ uuid) text = behind uuid text

sixteen : (uuid text : List ℕ) → length uuid ≡ 16 → (take 16 (uuid ++ text) ≡ uuid) × (drop 16 (uuid ++ text) ≡ text)
sixteen uuid text len = (ap (λ (n : ℕ). take n (uuid ++ text)) (sym len) ∙ front uuid text, ap (λ (n : ℕ). drop n (uuid ++ text)) (sym len) ∙ behind uuid text)

put_says : (line uuid text : List ℕ) → line ≡ put_line uuid text → Is uuid → IsBytes text → length text ≤ 135152 → Says line (framed 3 (uuid ++ text))
put_says line uuid text e u each most =
    let len : length (uuid ++ text) ≡ 16 + length text = length-append uuid text ∙ ap (λ (n : ℕ). n + length text) u.len in
    let pieces = sixteen uuid text u.len in
    record {
      is = record {
        suits = record { channels = omega arith; least = omega (arith, len); most = omega (arith, len); message = λ no. absurd (omega arith); item = λ no. absurd (omega arith); uuid = λ no. absurd (omega arith) };
        bytes = joined_bytes uuid text u.bytes each;
      };
      spelled = e ∙ ap (λ (x : List ℕ). put_line x text) (sym pieces.0) ∙ ap (λ (x : List ℕ). put_line (take 16 (uuid ++ text)) x) (sym pieces.1);
    }

put_takes : (line : List ℕ) (f : Framed) → first_field line ≡ put_word → put_of line ≡ Ok f → Says line f
unfolding put_of
put_takes line f w e =
    let a = bind_ok (three_fields line) (λ fields. uuid_of fields.1 >>= λ uuid. bytes_in 0 135152 fields.2 >>= λ text. Ok (framed 3 (uuid.0 ++ text))) f e in
    let b = bind_ok (uuid_of a.0.1) (λ uuid. bytes_in 0 135152 a.0.2 >>= λ text. Ok (framed 3 (uuid.0 ++ text))) f a.2 in
    let c = bind_ok (bytes_in 0 135152 a.0.2) (λ text. Ok (framed 3 (b.0.0 ++ text))) f b.2 in
    let made : framed 3 (b.0.0 ++ c.0) ≡ f = cc (c.2) in
    let h = three_take line a.0 a.1 in
    let is_word : a.0.0 ≡ put_word = sym h.1 ∙ w in
    let u = uuid_is a.0.1 b.0 b.1 in
    let d = bytes_takes 0 135152 a.0.2 c.0 c.1 in
    let spelled : line ≡ put_line b.0.0 c.0 = h.0 ∙ ap (λ (x : List ℕ). x then a.0.1 then a.0.2) is_word ∙ ap (λ (x : List ℕ). put_word then x then a.0.2) u.0 ∙ ap (λ (x : List ℕ). put_word then guid_text b.0.0 then x) d.text_is in
    subst (Says line) made (put_says line b.0.0 c.0 spelled u.1 d.each d.most_is)

abbrev by_put : List ℕ → Result Framed PlanKind
by_put line = cond (bytes_eq (first_field line) put_word) (put_of line) (Err kinds.Word)

abbrev by_get : List ℕ → Result Framed PlanKind
by_get line = cond (bytes_eq (first_field line) get_word) (get_of line) (by_put line)

abbrev by_read : List ℕ → Result Framed PlanKind
by_read line = cond (bytes_eq (first_field line) read_word) (read_of line) (by_get line)

pub line_takes : (line : List ℕ) (f : Framed) → frame_of line ≡ Ok f → Says line f
unfolding frame_of
line_takes line f e =
    elim (chosen (bytes_eq (first_field line) message_word) (message_of line) (by_read line) (Ok f) e) [
      | inl h ↦ message_takes line f (text_is (first_field line) message_word h.0) h.1
      | inr g ↦
          elim (chosen (bytes_eq (first_field line) read_word) (read_of line) (by_get line) (Ok f) g.1) [
            | inl h ↦ read_takes line f (text_is (first_field line) read_word h.0) h.1
            | inr k ↦
                elim (chosen (bytes_eq (first_field line) get_word) (get_of line) (by_put line) (Ok f) k.1) [
                  | inl h ↦ get_takes line f (text_is (first_field line) get_word h.0) h.1
                  | inr l ↦
                      elim (chosen (bytes_eq (first_field line) put_word) (put_of line) (Err kinds.Word) (Ok f) l.1) [
                        | inl h ↦ put_takes line f (text_is (first_field line) put_word h.0) h.1
                        | inr m ↦ absurd (cc (m.1))
                      ]
                ]
          ]
    ]

-- ---- the line of a request

uuid_printed : (uuid : List ℕ) → printed (guid_text uuid) ≡ true
uuid_printed uuid = name_bytes_printed (guid_text uuid) (guid_printed uuid)

message_again : (payload : List ℕ) → IsRequest (framed 0 payload) → frame_of (message_line payload) ≡ Ok (framed 0 payload)
unfolding frame_of message_of
message_again payload h =
    let first : first_field (message_line payload) ≡ message_word = first_again message_word (bytes_text payload) refl in
    let fields = two_again message_word (bytes_text payload) refl (free (bytes_text payload) (bytes_printed payload h.bytes)) in
    rw (first, fields, bytes_again 40 135168 payload h.bytes (h.suits.message refl) h.suits.most) refl

read_again : (payload : List ℕ) → IsRequest (framed 1 payload) → frame_of (read_line (item_read payload)) ≡ Ok (framed 1 payload)
unfolding frame_of read_of
read_again payload h =
    let r = item_read payload in
    let k = fits payload (h.suits.item refl, h.bytes) in
    let first : first_field (read_line r) ≡ read_word = first_again read_word (decimal r.item then decimal r.offset then decimal r.size) refl in
    let fields = four_again read_word (decimal r.item) (decimal r.offset) (decimal r.size) refl (free (decimal r.item) (decimal_printed r.item (omega (arith, k.item)))) (free (decimal r.offset) (decimal_printed r.offset k.offset)) (free (decimal r.size) (decimal_printed r.size (omega (arith, k.size)))) in
    let item = number_again 0 (2 ^ 32) r.item (omega arith) (omega arith) k.item in
    let offset = number_again 0 (2 ^ 64) r.offset (omega arith) (omega arith) k.offset in
    let size = number_again 0 (2 ^ 32) r.size (omega arith) (omega arith) k.size in
    let back = again_is payload (h.suits.item refl, h.bytes) in
    rw (first, fields, item, offset, size) (ap (λ (x : List ℕ). let made : Result Framed PlanKind = Ok (framed 1 x) in made) back)

get_again : (payload : List ℕ) → IsRequest (framed 2 payload) → frame_of (get_line payload) ≡ Ok (framed 2 payload)
unfolding frame_of get_of
get_again payload h =
    let first : first_field (get_line payload) ≡ get_word = first_again get_word (guid_text payload) refl in
    let fields = two_again get_word (guid_text payload) refl (free (guid_text payload) (uuid_printed payload)) in
    rw (first, fields, uuid_back payload (record { len = h.suits.uuid refl; bytes = h.bytes })) refl

put_again : (payload : List ℕ) → IsRequest (framed 3 payload) → frame_of (put_line (take 16 payload) (drop 16 payload)) ≡ Ok (framed 3 payload)
unfolding frame_of put_of
put_again payload h =
    let uuid : List ℕ = take 16 payload in
    let text : List ℕ = drop 16 payload in
    let each : IsBytes text = lasts 16 payload h.bytes in
    let first : first_field (put_line uuid text) ≡ put_word = first_again put_word (guid_text uuid then bytes_text text) refl in
    let fields = three_again put_word (guid_text uuid) (bytes_text text) refl (free (guid_text uuid) (uuid_printed uuid)) (free (bytes_text text) (bytes_printed text each)) in
    let is : Is uuid = record { len = omega (arith, length-take 16 payload, h.suits.least); bytes = firsts 16 payload h.bytes } in
    let most : length text ≤ 135152 = omega (arith, length-drop 16 payload, h.suits.most) in
    rw (first, fields, uuid_back uuid is, bytes_again 0 135152 text each (omega arith) most)
    (ap (λ (x : List ℕ). let made : Result Framed PlanKind = Ok (framed 3 x) in made) (take-append-drop 16 payload))

on_channel : (channel : ℕ) (payload : List ℕ) → IsRequest (framed channel payload) → frame_of (line_on channel payload) ≡ Ok (framed channel payload)
on_channel zero payload h = message_again payload h
on_channel (suc zero) payload h = read_again payload h
on_channel (suc (suc zero)) payload h = get_again payload h
on_channel (suc (suc (suc zero))) payload h = put_again payload h
on_channel (suc (suc (suc (suc n)))) payload h = absurd (omega (arith, h.suits.channels))

pub line_again : (f : Framed) → IsRequest f → frame_of (line_of f) ≡ Ok f
line_again f h = on_channel f.channel f.payload h

one_on : (channel : ℕ) (payload : List ℕ) → IsRequest (framed channel payload) → OneLine (line_on channel payload)
one_on zero payload h = then_one message_word (bytes_text payload) refl (one (bytes_text payload) (bytes_printed payload h.bytes))
one_on (suc zero) payload h =
    let r = item_read payload in
    let k = fits payload (h.suits.item refl, h.bytes) in
    then_one read_word (decimal r.item then decimal r.offset then decimal r.size) refl (then_one (decimal r.item) (decimal r.offset then decimal r.size) (one (decimal r.item) (decimal_printed r.item (omega (arith, k.item))))
    (then_one (decimal r.offset) (decimal r.size) (one (decimal r.offset) (decimal_printed r.offset k.offset)) (one (decimal r.size) (decimal_printed r.size (omega (arith, k.size))))))
one_on (suc (suc zero)) payload h = then_one get_word (guid_text payload) refl (one (guid_text payload) (uuid_printed payload))
one_on (suc (suc (suc zero))) payload h =
    let uuid : List ℕ = take 16 payload in
    let text : List ℕ = drop 16 payload in
    then_one put_word (guid_text uuid then bytes_text text) refl (then_one (guid_text uuid) (bytes_text text) (one (guid_text uuid) (uuid_printed uuid)) (one (bytes_text text) (bytes_printed text (lasts 16 payload h.bytes))))
one_on (suc (suc (suc (suc n)))) payload h = absurd (omega (arith, h.suits.channels))

pub line_one : (f : Framed) → IsRequest f → OneLine (line_of f)
line_one f h = one_on f.channel f.payload h
