-- What the rules on components and on the disk take is a description, and a description is taken.
use Rattle.std.proofs.Common.{◌≡◌, ◌<◌, ◌≤◌, ◌+◌, ◌^◌, ℕ, zero, suc, List, [], ◌∷◌, length, map, take, drop, Bool, true, false, cond, not, ◌&&◌, eqb, ltb, Option, Some, None, Result, Ok, Err, refl, ap, subst, ◌∙◌, arith}
use Rattle.std.specs.Prelude.{IfOk}
use Rattle.std.specs.List.{AllByRecursion}
use Rattle.std.specs.Str.{bytes_eq}
use Rattle.std.proofs.lemmas.Bool.{eqb-true, ltb-true, ltb-false}
use Rattle.std.proofs.lemmas.List.{length-map}
use Rattle.composite_spec.specs.declared.kinds.SpecFault.{SpecFault}
use Rattle.composite_spec.specs.declared.kinds.SpecFault.TheVariants as faults
use Rattle.composite_spec.specs.Wire.{◌>>=◌, check}
use Rattle.composite_spec.specs.Said.{magic, Placed, Composite, IsPath, Follows, Rise, IsLength, IsComposite, offset_of}
use Rattle.composite_spec.proofs.Steps.{bind_ok, check_ok, both, done_is}
use Rattle.composite_spec.specs.Reading.{Part, Disk, Gives, stated, stated_offset, is_path, follows, placed_of, all_placed, is_length, judged, decoded, disk_of}

path_takes : (path : List ℕ) → is_path path ≡ true → IsPath path
unfolding is_path
path_takes path e =
    let k = both _ _ e in
    let j = both _ _ k.0 in
    record { some = ltb-true _ _ j.0; few = ltb-true _ _ j.1; text = k.1 }

follows_takes : (before : Option ℕ) (offset : ℕ) → follows before offset ≡ true → Follows before offset
follows_takes None offset e = eqb-true offset 0 e
follows_takes (Some b) offset e = ltb-true b offset e

capability_is : (n : ℕ) → n < 2 → n ≡ cond (eqb n 1) 1 0
capability_is zero lt = refl
capability_is (suc zero) lt = refl
capability_is (suc (suc n)) lt = absurd (omega arith)

record Takes (i : ℕ) (before : Option ℕ) (p : Part) (c : Placed) : Type 0 where
  path : IsPath c.path
  place : Follows before c.offset
  few : i < 1024
  offset : p.offset ≡ c.offset
  is : p ≡ stated c

placed_takes : (i : ℕ) (before : Option ℕ) (p : Part) (c : Placed) → placed_of i before p ≡ Ok c → Takes i before p c
unfolding placed_of
placed_takes i before p c e =
    let a = bind_ok (check (is_path p.path) (faults.Path i) p.path) _ c e in
    let a1 = check_ok (is_path p.path) (faults.Path i) p.path a.0 a.1 in
    let b = bind_ok (check (ltb p.capability 2) (faults.Capability i p.capability) p.capability) _ c a.2 in
    let b1 = check_ok (ltb p.capability 2) (faults.Capability i p.capability) p.capability b.0 b.1 in
    let d = bind_ok (check (follows before p.offset && ltb i 1024) (faults.Order i) p.offset) _ c b.2 in
    let d1 = check_ok (follows before p.offset && ltb i 1024) (faults.Order i) p.offset d.0 d.1 in
    let d2 = both _ _ d1.0 in
    let made : Placed = record { path = p.path; offset = p.offset; write = eqb p.capability 1 } in
    let is : made ≡ c = done_is made c d.2 in
    let one : p ≡ stated made = ap (λ (n : ℕ). let q : Part = record { path = p.path; offset = p.offset; capability = n } in q) (capability_is p.capability (ltb-true _ _ b1.0)) in
    let whole : Takes i before p made = record { path = path_takes p.path a1.0; place = follows_takes before p.offset d2.0; few = ltb-true _ _ d2.1; offset = refl; is = one } in
    subst (λ (x : Placed). Takes i before p x) is whole

record AllTakes (i : ℕ) (before : Option ℕ) (ps : List Part) (cs : List Placed) : Type 0 where
  paths : AllByRecursion (λ (c : Placed). IsPath c.path) cs
  rise : Rise before (map offset_of cs)
  few : 0 < length cs → i + length cs ≤ 1024
  are : ps ≡ map stated cs

counted_more : (i n : ℕ) → i < 1024 → (0 < n → (i + 1) + n ≤ 1024) → i + suc n ≤ 1024
counted_more i zero lt h = omega arith
counted_more i (suc n) lt h = let k : (i + 1) + suc n ≤ 1024 = h (omega arith) in omega arith

all_takes : (i : ℕ) (before : Option ℕ) (ps : List Part) (cs : List Placed) → all_placed i before ps ≡ Ok cs → AllTakes i before ps cs
unfolding all_placed
all_takes i before [] cs e =
    let none : List Placed = [] in
    let whole : AllTakes i before [] none = record { paths = tt; rise = tt; few = λ h. absurd (omega arith); are = refl } in
    subst (λ (x : List Placed). AllTakes i before [] x) (done_is none cs e) whole
all_takes i before (p ∷ ps) cs e =
    let a = bind_ok (placed_of i before p) _ cs e in
    let b = bind_ok (all_placed (i + 1) (Some p.offset) ps) _ cs a.2 in
    let first = placed_takes i before p a.0 a.1 in
    let later = all_takes (i + 1) (Some p.offset) ps b.0 b.1 in
    let whole : AllTakes i before (p ∷ ps) (a.0 ∷ b.0) = record {
      paths = (first.path, later.paths);
      rise = (first.place, subst (λ (o : ℕ). Rise (Some o) (map offset_of b.0)) first.offset later.rise);
      few = λ h. counted_more i (length b.0) first.few later.few;
      are = ap (λ (x : Part). x ∷ ps) first.is ∙ ap (λ (x : List Part). stated a.0 ∷ x) later.are;
    } in
    subst (λ (x : List Placed). AllTakes i before (p ∷ ps) x) (done_is (a.0 ∷ b.0) cs b.2) whole

flipped : (b : Bool) → not b ≡ true → b ≡ false
flipped false e = refl
flipped true e = absurd cc

not_less : (n : ℕ) → not (ltb (2 ^ 40) n) ≡ true → n ≤ 2 ^ 40
not_less n e = ltb-false (2 ^ 40) n (flipped (ltb (2 ^ 40) n) e)

length_takes : (n : ℕ) (offsets : List ℕ) → is_length n offsets ≡ true → IsLength n offsets
unfolding is_length
length_takes n offsets e =
    let a = both _ _ e in
    let b = both _ _ a.0 in
    let d = both _ _ b.0 in
    record { some = ltb-true _ _ d.0; beyond = ltb-true _ _ d.1; sectors = eqb-true _ _ b.1; bound = not_less n a.1 }

pub offsets_same : (cs : List Placed) → map stated_offset (map stated cs) ≡ map offset_of cs
offsets_same [] = refl
offsets_same (c ∷ cs) = ap (λ (x : List ℕ). c.offset ∷ x) (offsets_same cs)

pub record JudgedTakes (d : Disk) (s : Composite) : Type 0 where
  pub describes : IsComposite s
  pub is : let said : Disk = record { version = 2; parts = map stated s.components; length = s.length } in d ≡ said

pub judged_takes : (d : Disk) (s : Composite) → judged d ≡ Ok s → JudgedTakes d s
unfolding judged
judged_takes d s e =
    let a = bind_ok (check (eqb d.version 2) (faults.Version d.version) d.version) _ s e in
    let a1 = check_ok (eqb d.version 2) (faults.Version d.version) d.version a.0 a.1 in
    let b = bind_ok (all_placed 0 None d.parts) _ s a.2 in
    let g = bind_ok (check (is_length d.length (map stated_offset d.parts)) (faults.Length d.length) d.length) _ s b.2 in
    let g1 = check_ok (is_length d.length (map stated_offset d.parts)) (faults.Length d.length) d.length g.0 g.1 in
    let all = all_takes 0 None d.parts b.0 b.1 in
    let two : d.version ≡ 2 = eqb-true _ _ a1.0 in
    let made : Composite = record { components = b.0; length = d.length } in
    let offsets : map stated_offset d.parts ≡ map offset_of b.0 = ap (map stated_offset) all.are ∙ offsets_same b.0 in
    let long : IsLength d.length (map offset_of b.0) = subst (λ (x : List ℕ). IsLength d.length x) offsets (length_takes d.length (map stated_offset d.parts) g1.0) in
    let some = long.some in
    let count = length-map b.0 offset_of in
    let few : 0 + length b.0 ≤ 1024 = all.few (omega arith) in
    let whole : JudgedTakes d made = record {
      describes = record { paths = all.paths; rise = all.rise; few = omega arith; length_is = long };
      is = ap (λ (v : ℕ). let x : Disk = record { version = v; parts = d.parts; length = d.length } in x) two ∙ ap (λ (v : List Part). let x : Disk = record { version = 2; parts = v; length = d.length } in x) all.are;
    } in
    subst (λ (x : Composite). JudgedTakes d x) (done_is made s g.2) whole

-- what a file states, behind the magic
pub record Stated (bytes : List ℕ) (s : Composite) : Type 0 where
  pub disk : Disk
  pub begins : bytes_eq (take 15 bytes) magic ≡ true
  pub small : length bytes ≤ 1048576
  pub states : disk_of (length bytes) (drop 15 bytes) ≡ Ok disk
  pub judges : judged disk ≡ Ok s

pub decoded_states : (bytes : List ℕ) (s : Composite) → decoded bytes ≡ Ok s → Stated bytes s
unfolding decoded
decoded_states bytes s e =
    let small_check = check (not (ltb 1048576 (length bytes))) (faults.Truncated 1048576) bytes in
    let a = bind_ok (check (bytes_eq (take 15 bytes) magic) faults.Magic bytes) (λ x. small_check >>= λ y. disk_of (length bytes) (drop 15 bytes) >>= λ d. judged d) s e in
    let a1 = check_ok (bytes_eq (take 15 bytes) magic) faults.Magic bytes a.0 a.1 in
    let b = bind_ok small_check (λ y. disk_of (length bytes) (drop 15 bytes) >>= λ d. judged d) s a.2 in
    let b1 = check_ok (not (ltb 1048576 (length bytes))) (faults.Truncated 1048576) bytes b.0 b.1 in
    let g = bind_ok (disk_of (length bytes) (drop 15 bytes)) (λ d. judged d) s b.2 in
    record { disk = g.0; begins = a1.0; small = ltb-false _ _ (flipped _ b1.0); states = g.1; judges = g.2 }

-- what a file describes can be described
decoded_describes : (bytes : List ℕ) (s : Composite) → decoded bytes ≡ Ok s → IsComposite s
decoded_describes bytes s e = let k = decoded_states bytes s e in (judged_takes k.disk s k.judges).describes

pub reads_description : {X : Type 0} (view : X → Composite) (bytes : List ℕ) (r : Result X SpecFault) → Gives view r (decoded bytes) → IfOk r (λ x. IsComposite (view x))
reads_description view bytes (Ok x) e = decoded_describes bytes (view x) e
reads_description view bytes (Err f) e = tt
