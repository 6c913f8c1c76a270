-- Fields: what is spelled is read, and what is read is spelled.
use Rattle.std.proofs.Common.{◌≡◌, ◌<◌, ◌+◌, ◌*◌, ◌/◌, ◌%◌, ℕ, List, [], ◌∷◌, ◌++◌, length, map, take, drop, ltb, eqb, cond, true, false, Bool, Result, Ok, Err, refl, sym, ap, subst, ◌∙◌, arith, inl, inr, append_assoc, length-append, length-take}
use Rattle.std.proofs.lemmas.Bool.{le-ltb, ltb-true, ltb-false, eqb-true, eqb-false, or_cases}
use Rattle.std.proofs.lemmas.List.{take_at, drop_at, take-append-drop}
use Rattle.composite_spec.specs.declared.kinds.SpecFault.{SpecFault}
use Rattle.composite_spec.specs.declared.kinds.SpecFault.TheVariants as faults
use Rattle.composite_spec.specs.declared.wire.Message.{Message}
use Rattle.composite_spec.specs.declared.wire.Message.TheVariants as messages
use Rattle.composite_spec.specs.Wire.{◌>>=◌, check, Content, counted, bytes_of, skipped, Field, place, varint, front, value_of, is_wire, allows, field}
use Rattle.composite_spec.specs.Spelling.{IsVarint, Entry, entry_bytes, IsValue, IsEntry}
use Rattle.composite_spec.proofs.Steps.{bind_ok, check_ok, chosen, done_is, all_behind}
use Rattle.composite_spec.proofs.Varints.{AreBytes, varint_reads, varint_spelled}

-- ---- what is spelled is read

front_reads : (at n : ℕ) (bytes rest : List ℕ) → length bytes ≡ n → front at n (bytes ++ rest) ≡ Ok (bytes, rest)
unfolding front
front_reads at n bytes rest size = rw (le-ltb (length (bytes ++ rest)) n (omega (arith, length-append bytes rest)), take_at bytes rest n size, drop_at bytes rest n size) refl

value_reads : (end wire : ℕ) (value : Content) (body rest : List ℕ) → IsValue wire value body → value_of end wire (body ++ rest) ≡ Ok (value, rest)
unfolding value_of
value_reads end wire (counted n) body rest h = rw (h.0, varint_reads body n end rest h.1) refl
value_reads end wire (bytes_of bytes) body rest h =
    let sized = h.1 in
    let parts : body ++ rest ≡ sized.0 ++ (bytes ++ rest) = ap (λ (x : List ℕ). x ++ rest) sized.2 ∙ append_assoc sized.0 bytes rest in
    rw (h.0, parts, varint_reads sized.0 (length bytes) end (bytes ++ rest) sized.1, front_reads (place end (sized.0 ++ (bytes ++ rest))) (length bytes) bytes rest refl) refl
value_reads end wire skipped body rest (inl h) = rw (h.0, front_reads (place end (body ++ rest)) 8 body rest h.1) refl
value_reads end wire skipped body rest (inr h) = rw (h.0, front_reads (place end (body ++ rest)) 4 body rest h.1) refl

wire_few : (wire : ℕ) (value : Content) (body : List ℕ) → IsValue wire value body → wire < 8
wire_few wire (counted n) body h = let k = h.0 in omega arith
wire_few wire (bytes_of bytes) body h = let k = h.0 in omega arith
wire_few wire skipped body (inl h) = let k = h.0 in omega arith
wire_few wire skipped body (inr h) = let k = h.0 in omega arith

pub field_reads : (message : Message) (end : ℕ) (e : Entry) (rest : List ℕ) → IsEntry message e → field message end (entry_bytes e ++ rest) ≡ Ok (record { number = e.number; value = e.value; rest = rest })
unfolding field
field_reads message end e rest h =
    let few = wire_few e.wire e.value e.body h.spelled in
    let parts : entry_bytes e ++ rest ≡ e.tag ++ (e.body ++ rest) = append_assoc e.tag e.body rest in
    let tag = varint_reads e.tag (8 * e.number + e.wire) end (e.body ++ rest) h.tagged in
    let number : (8 * e.number + e.wire) / 8 ≡ e.number = omega arith in
    let wire : (8 * e.number + e.wire) % 8 ≡ e.wire = omega arith in
    rw (parts, tag, number, wire, h.allowed, value_reads end e.wire e.value e.body rest h.spelled) refl

-- a field has a byte
varint_some : (bytes : List ℕ) (n : ℕ) → IsVarint bytes n → 0 < length bytes
varint_some bytes n h = omega (arith, ap length h.bytes_are, length-append (map (λ (d : ℕ). 128 + d) h.low) (h.last ∷ []))

pub entry_some : (message : Message) (e : Entry) → IsEntry message e → 0 < length (entry_bytes e)
entry_some message e h = let some = varint_some e.tag (8 * e.number + e.wire) h.tagged in omega (arith, length-append e.tag e.body)

-- ---- what is read is spelled

record Taken (text : List ℕ) (n : ℕ) (bytes rest : List ℕ) : Type 0 where
  size : length bytes ≡ n
  joined : text ≡ bytes ++ rest

front_spelled : (at n : ℕ) (text : List ℕ) (p : List ℕ × List ℕ) → front at n text ≡ Ok p → Taken text n p.0 p.1
unfolding front
front_spelled at n text p e =
    elim (chosen (ltb (length text) n) (Err (faults.Truncated at)) (Ok (take n text, drop n text)) (Ok p) e) [
      | inl h ↦ absurd (cc (h.1))
      | inr h ↦
          let long = ltb-false (length text) n h.0 in
          let whole : Taken text n (take n text) (drop n text) = record { size = omega (arith, length-take n text); joined = sym (take-append-drop n text) } in
          subst (λ (x : List ℕ × List ℕ). Taken text n x.0 x.1) (done_is (take n text, drop n text) p h.1) whole
    ]

-- a value at the front of a text, and what is behind it
record ValueFront (text : List ℕ) (wire : ℕ) (value : Content) (rest : List ℕ) : Type 0 where
  body : List ℕ
  is : IsValue wire value body
  joined : text ≡ body ++ rest

abbrev ValuePair : List ℕ → ℕ → Content × List ℕ → Type 0
ValuePair text wire p = ValueFront text wire p.0 p.1

abbrev Value : Type 0
Value = Result (Content × List ℕ) SpecFault

counted_spelled : (end wire : ℕ) (text : List ℕ) (p : Content × List ℕ) → AreBytes text → wire ≡ 0 → (varint end text >>= λ n. Ok (counted n.0, n.1)) ≡ Ok p → ValuePair text wire p
counted_spelled end wire text p each is e =
    let a = bind_ok (varint end text) (λ n. let r : Value = Ok (counted n.0, n.1) in r) p e in
    let h = varint_spelled text end a.0 each a.1 in
    let whole : ValueFront text wire (counted a.0.0) a.0.1 = record { body = h.bytes; is = (is, h.is); joined = h.front } in
    subst (λ (x : Content × List ℕ). ValuePair text wire x) (done_is (counted a.0.0, a.0.1) p a.2) whole

fixed_spelled : (at n wire : ℕ) (text : List ℕ) (p : Content × List ℕ) → ((body : List ℕ) → length body ≡ n → IsValue wire skipped body) → (front at n text >>= λ b. Ok (skipped, b.1)) ≡ Ok p → ValuePair text wire p
fixed_spelled at n wire text p is e =
    let a = bind_ok (front at n text) (λ b. let r : Value = Ok (skipped, b.1) in r) p e in
    let h = front_spelled at n text a.0 a.1 in
    let whole : ValueFront text wire skipped a.0.1 = record { body = a.0.0; is = is a.0.0 h.size; joined = h.joined } in
    subst (λ (x : Content × List ℕ). ValuePair text wire x) (done_is (skipped, a.0.1) p a.2) whole

sized_spelled : (end at wire : ℕ) (text : List ℕ) (p : Content × List ℕ) → AreBytes text → wire ≡ 2 → (varint end text >>= λ n. front at n.0 n.1 >>= λ b. Ok (bytes_of b.0, b.1)) ≡ Ok p → ValuePair text wire p
sized_spelled end at wire text p each is e =
    let a = bind_ok (varint end text) (λ n. front at n.0 n.1 >>= λ b. let r : Value = Ok (bytes_of b.0, b.1) in r) p e in
    let h = varint_spelled text end a.0 each a.1 in
    let b = bind_ok (front at a.0.0 a.0.1) (λ b. let r : Value = Ok (bytes_of b.0, b.1) in r) p a.2 in
    let t = front_spelled at a.0.0 a.0.1 b.0 b.1 in
    let size : IsVarint h.bytes (length b.0.0) = subst (λ (n : ℕ). IsVarint h.bytes n) (sym t.size) h.is in
    let joined : text ≡ (h.bytes ++ b.0.0) ++ b.0.1 = h.front ∙ ap (λ (x : List ℕ). h.bytes ++ x) t.joined ∙ sym (append_assoc h.bytes b.0.0 b.0.1) in
    let whole : ValueFront text wire (bytes_of b.0.0) b.0.1 = record { body = h.bytes ++ b.0.0; is = (is, (h.bytes, size, refl)); joined = joined } in
    subst (λ (x : Content × List ℕ). ValuePair text wire x) (done_is (bytes_of b.0.0, b.0.1) p b.2) whole

last_wire : (wire : ℕ) → is_wire wire ≡ true → (wire ≡ 0 → ⊥) → (wire ≡ 1 → ⊥) → (wire ≡ 2 → ⊥) → wire ≡ 5
last_wire wire e n0 n1 n2 =
    elim (or_cases (ltb wire 3) (eqb wire 5) e) [
      | inl h ↦ let few = ltb-true wire 3 h in grind (arith, n0, n1, n2)
      | inr h ↦ eqb-true wire 5 h
    ]

value_spelled : (end wire : ℕ) (text : List ℕ) (p : Content × List ℕ) → AreBytes text → is_wire wire ≡ true → value_of end wire text ≡ Ok p → ValuePair text wire p
unfolding value_of
value_spelled end wire text p each known e =
    elim (chosen (eqb wire 0) _ _ (Ok p) e) [
      | inl h ↦ counted_spelled end wire text p each (eqb-true wire 0 h.0) h.1
      | inr h ↦ elim (chosen (eqb wire 1) _ _ (Ok p) h.1) [
        | inl g ↦ fixed_spelled (place end text) 8 wire text p (λ body size. inl (eqb-true wire 1 g.0, size)) g.1
        | inr g ↦ elim (chosen (eqb wire 2) _ _ (Ok p) g.1) [
          | inl k ↦ sized_spelled end (place end text) wire text p each (eqb-true wire 2 k.0) k.1
          | inr k ↦ fixed_spelled (place end text) 4 wire text p (λ body size. inr (last_wire wire known (eqb-false wire 0 h.0) (eqb-false wire 1 g.0) (eqb-false wire 2 k.0), size)) k.1
        ]
      ]
    ]

-- a field that may stand in a message has a wire type
two_is : (wire : ℕ) → eqb wire 2 ≡ true → is_wire wire ≡ true
two_is wire e = rw (eqb-true wire 2 e) refl

zero_is : (wire : ℕ) → eqb wire 0 ≡ true → is_wire wire ≡ true
zero_is wire e = rw (eqb-true wire 0 e) refl

allowed_wire : (b0 b2 b4 : Bool) (wire : ℕ) → cond b0 false (cond b2 (eqb wire 2) (cond b4 (eqb wire 0) (is_wire wire))) ≡ true → is_wire wire ≡ true
allowed_wire true b2 b4 wire e = absurd cc
allowed_wire false true b4 wire e = two_is wire e
allowed_wire false false true wire e = zero_is wire e
allowed_wire false false false wire e = e

wire_is : (message : Message) (number wire : ℕ) → allows message number wire ≡ true → is_wire wire ≡ true
wire_is messages.Disk number wire e = allowed_wire (eqb number 0) (eqb number 2) (ltb number 4) wire e
wire_is messages.Component number wire e = allowed_wire (eqb number 0) (eqb number 1) (ltb number 4) wire e

-- a field at the front of a text
pub record FieldFront (message : Message) (text : List ℕ) (f : Field) : Type 0 where
  pub entry : Entry
  pub is : IsEntry message entry
  pub number : entry.number ≡ f.number
  pub value : entry.value ≡ f.value
  pub joined : text ≡ entry_bytes entry ++ f.rest
  pub some : 0 < length (entry_bytes entry)

pub field_spelled : (message : Message) (end : ℕ) (text : List ℕ) (f : Field) → AreBytes text → field message end text ≡ Ok f → FieldFront message text f
unfolding field
field_spelled message end text f each e =
    let a = bind_ok (varint end text) _ f e in
    let tag = varint_spelled text end a.0 each a.1 in
    let number : ℕ = a.0.0 / 8 in
    let wire : ℕ = a.0.0 % 8 in
    let b = bind_ok (check (allows message number wire) (faults.Wire (place end text)) a.0) _ f a.2 in
    let b1 = check_ok (allows message number wire) (faults.Wire (place end text)) a.0 b.0 b.1 in
    let g = bind_ok (value_of end wire a.0.1) _ f b.2 in
    let behind : AreBytes a.0.1 = all_behind (λ (x : ℕ). x < 256) tag.bytes a.0.1 (subst AreBytes tag.front each) in
    let h = value_spelled end wire a.0.1 g.0 behind (wire_is message number wire b1.0) g.1 in
    let whole : a.0.0 ≡ 8 * number + wire = omega arith in
    let entry : Entry = record { number = number; wire = wire; value = g.0.0; tag = tag.bytes; body = h.body } in
    let made : Field = record { number = number; value = g.0.0; rest = g.0.1 } in
    let some = tag.some in
    let front : FieldFront message text made = record {
      entry = entry;
      is = record { tagged = subst (λ (n : ℕ). IsVarint tag.bytes n) whole tag.is; allowed = b1.0; spelled = h.is };
      number = refl;
      value = refl;
      joined = tag.front ∙ ap (λ (x : List ℕ). tag.bytes ++ x) h.joined ∙ sym (append_assoc tag.bytes h.body g.0.1);
      some = omega (arith, length-append tag.bytes h.body);
    } in
    subst (λ (x : Field). FieldFront message text x) (done_is made f g.2) front
