-- An honest host that has a file fails no call on it.
use Rattle.std.proofs.Common.{true, ◌≡◌, ◌⊎◌, ℕ, ◌+◌, ◌-◌, ◌*◌, ◌∙◌, List, [], ◌∷◌, min, take, drop, Option, Some, None, refl, ap, sym, subst, arith, inl, inr, eq-eqb}
use Rattle.std.specs.Prelude.{Bool, nat_eq}
use Rattle.std.proofs.lemmas.Map.{update_same}
use Rattle.host_traits.specs.declared.calls.Call.{Call}
use Rattle.host_traits.specs.declared.calls.Call.TheVariants.{FileRead, TreeRead, TreeWrite, FileWrite, Resize}
use Rattle.host_traits.specs.declared.calls.Said.{Said}
use Rattle.host_traits.specs.declared.calls.Said.TheVariants.{Bytes, Done}
use Rattle.host_traits.specs.Held.{Held, File, serve, with_file, tree_with, over, resized}
use Rattle.host_traits.specs.Told.{Told, Talked, Made, Rose, Calm, Serves, ServesAll, HeldAfter, failures_of, one_failure}
use Rattle.host_traits.specs.Did.{Each}
use Rattle.leaf_tree.specs.Outcomes.{IsTreeCall}
use Rattle.rw_file.specs.Contents.{IsAtHost}
use Rattle.rw_file.specs.Calls.{IsForFileRead, IsForFileWrite, IsForCut}
use Rattle.rw_file.specs.Faithful.{after_said, after_one, after_calls, WritesAreHeld, CutsAreHeld}

-- a call on a file's bytes, its tree or its size
abbrev pub OnFile : ℕ → Call → Type 0
OnFile file call =
    ((at : ℕ) × (want : ℕ) × (call ≡ FileRead file at want)) ⊎ (((level : ℕ) × (index : ℕ) × ((call ≡ TreeRead file level index) ⊎ (call ≡ TreeWrite file level index)))
    ⊎ (((at : ℕ) × (count : ℕ) × (call ≡ FileWrite file at count)) ⊎ ((size : ℕ) × (call ≡ Resize file size))))

record IsServing (bytes : List ℕ) (h : Held) (file : ℕ) (call : Call) (given : List ℕ) : Type 0 where
  said : Said
  now : Held
  found : File
  is : serve h call given ≡ Some (said, now)
  there : now.file file ≡ Some found
  kept : found.bytes ≡ after_said bytes call given

module _ (h : Held) (file : ℕ) (f : File) (is : h.file file ≡ Some f) (given : List ℕ) where
  put_there : (g : File) → (with_file h file g).file file ≡ Some g
  put_there g = update_same nat_eq h.file file (Some g) file (eq-eqb file file refl)

  serves_read : (at want : ℕ) → IsServing f.bytes h file (FileRead file at want) given
  unfolding serve
  serves_read at want = record { said = Bytes (take want (drop at f.bytes)); now = h; found = f; is = rw is refl; there = is; kept = refl }

  serves_tree : (level index : ℕ) → IsServing f.bytes h file (TreeRead file level index) given
  unfolding serve
  serves_tree level index = record { said = Bytes (take 4096 (f.tree level index)); now = h; found = f; is = rw is refl; there = is; kept = refl }

  serves_write : (at count : ℕ) → IsServing f.bytes h file (FileWrite file at count) given
  unfolding serve
  serves_write at count =
      let g : File = record f { bytes = over f.bytes at given } in
      record { said = Done; now = with_file h file g; found = g; is = rw is refl; there = put_there g; kept = refl }

  serves_page : (level index : ℕ) → IsServing f.bytes h file (TreeWrite file level index) given
  unfolding serve
  serves_page level index =
      let g : File = record f { tree = tree_with f.tree level index given } in
      record { said = Done; now = with_file h file g; found = g; is = rw is refl; there = put_there g; kept = refl }

  serves_size : (size : ℕ) → IsServing f.bytes h file (Resize file size) given
  unfolding serve
  serves_size size =
      let g : File = record f { bytes = resized f.bytes size } in
      record { said = Done; now = with_file h file g; found = g; is = rw is refl; there = put_there g; kept = refl }

  serves_on : (call : Call) → OnFile file call → IsServing f.bytes h file call given
  serves_on call (inl r) = subst (λ (c : Call). IsServing f.bytes h file c given) (sym r.2) (serves_read r.0 r.1)
  serves_on call (inr (inl (level, index, inl e))) = subst (λ (c : Call). IsServing f.bytes h file c given) (sym e) (serves_tree level index)
  serves_on call (inr (inl (level, index, inr e))) = subst (λ (c : Call). IsServing f.bytes h file c given) (sym e) (serves_page level index)
  serves_on call (inr (inr (inl w))) = subst (λ (c : Call). IsServing f.bytes h file c given) (sym w.2) (serves_write w.0 w.1)
  serves_on call (inr (inr (inr s))) = subst (λ (c : Call). IsServing f.bytes h file c given) (sym s.1) (serves_size s.0)

some_none : (x : Said × Held) → Some x ≡ None → ⊥
some_none x e = cc

held_is : (p q : Said × Held) → Some p ≡ Some q → p.1 ≡ q.1
held_is p q e = let same : p ≡ q = cc in ap (λ (z : Said × Held). z.1) same

one_fails : (h mid : Held) (call : Call) (given : List ℕ) (came : Option Said) (said : Said) (now : Held) (rest : ℕ) →
    serve h call given ≡ Some (said, now) → Serves true h call given came mid → (now ≡ mid → rest ≡ 0) → one_failure came + rest ≡ 0
one_fails h mid call given None said now rest is one later = absurd (some_none (said, now) (sym is ∙ one.1 refl))
one_fails h mid call given (Some x) said now rest is one later = let none = later (held_is (said, now) (x, mid) (sym is ∙ one)) in omega (arith, none)

none_fail : (F : Call → Type 0) (file : ℕ) (own : List Made) (h k : Held) (f : File) → h.file file ≡ Some f →
    ((call : Call) → F call → OnFile file call) → ServesAll true h own k → Each (λ call given. F call) own → failures_of own ≡ 0
none_fail F file [] h k f is on s each = refl
none_fail F file (m ∷ own) h k f is on s each =
    let v = serves_on h file f is m.given m.call (on m.call each.0) in
    one_fails h s.0 m.call m.given m.came v.said v.now (failures_of own) v.is s.1 (λ same. none_fail F file own s.0 k v.found (ap (λ (z : Held). z.file file) (sym same) ∙ v.there) on s.2 each.1)

-- so none fails, or the count doesn't rise
pub stays : (F : Call → Type 0) (file : ℕ) (own : List Made) (x y : Told) (c : List ℕ) → ((call : Call) → F call → OnFile file call) →
    IsAtHost x.held file c → Talked x y own → Each (λ call given. F call) own → Calm x y
    → failures_of own ≡ 1 → Rose x.faults y.faults → ⊥
stays F file own x y c on held t each (inl calm) one rose = calm rose
stays F file own x y c on held t each (inr honest) one rose =
    let after : (k : Held) × (y.held ≡ Some k) × ServesAll x.honest held.all own k = subst (λ z. HeldAfter x.honest z own y.held) held.told t.held in
    let none = none_fail F file own held.all after.0 held.found held.file_is on (subst (λ z. ServesAll z held.all own after.0) honest after.2) each in
    omega (arith, none, one)

-- the calls of the requests
pub tree_on : (is_local : Type 0) (file a b : ℕ) (call : Call) → IsTreeCall is_local file a b call → OnFile file call
tree_on is_local file a b call t = inr (inl (t.level, t.index, t.call_is))

pub read_on : (is_local : Type 0) (file size at len : ℕ) (call : Call) → IsForFileRead is_local file size at len call → OnFile file call
read_on is_local file size at len call (some, inl r) = inl (4096 * r.block, min (size - 4096 * r.block) 4096, r.call_is)
read_on is_local file size at len call (some, inr t) = tree_on is_local file _ _ call t

pub write_on : (is_local : Type 0) (file size at len : ℕ) (call : Call) → IsForFileWrite is_local file size at len call → OnFile file call
write_on is_local file size at len call (some, inl r) = inl (4096 * r.block, min (size - 4096 * r.block) 4096, r.call_is)
write_on is_local file size at len call (some, inr (inl w)) = inr (inr (inl (_, _, w.call_is)))
write_on is_local file size at len call (some, inr (inr t)) = tree_on is_local file _ _ call t

pub cut_on : (is_local : Type 0) (file size to : ℕ) (call : Call) → IsForCut is_local file size to call → OnFile file call
cut_on is_local file size to call (other, inl r) = inl (_, _, r.2)
cut_on is_local file size to call (other, inr (inl s)) = inr (inr (inr (to, s)))
cut_on is_local file size to call (other, inr (inr t)) = tree_on is_local file _ _ call t

-- ---- what is held after the calls

hold_one : (file : ℕ) (honest : Bool) (h mid : Held) (call : Call) (given : List ℕ) (came : Option Said) (f : File) → h.file file ≡ Some f →
    IsServing f.bytes h file call given → Serves honest h call given came mid
    → (g : File) × (mid.file file ≡ Some g) × (g.bytes ≡ after_one f.bytes call given came)
hold_one file honest h mid call given None f is v s = (f, ap (λ (z : Held). z.file file) s.0 ∙ is, refl)
hold_one file honest h mid call given (Some x) f is v s =
    (v.found, ap (λ (z : Held). z.file file) (sym (held_is (v.said, v.now) (x, mid) (sym v.is ∙ s))) ∙ v.there, v.kept)

hold_all : (F : Call → Type 0) (file : ℕ) (honest : Bool) (own : List Made) (h k : Held) (f : File) → h.file file ≡ Some f →
    ((call : Call) → F call → OnFile file call) → ServesAll honest h own k → Each (λ call given. F call) own
    → (g : File) × (k.file file ≡ Some g) × (g.bytes ≡ after_calls f.bytes own)
hold_all F file honest [] h k f is on s each = (f, ap (λ (z : Held). z.file file) s ∙ is, refl)
hold_all F file honest (m ∷ own) h k f is on s each =
    let one = hold_one file honest h s.0 m.call m.given m.came f is (serves_on h file f is m.given m.call (on m.call each.0)) s.1 in
    let rest = hold_all F file honest own s.0 k one.0 one.1 on s.2 each.1 in
    (rest.0, rest.1, rest.2 ∙ ap (λ (b : List ℕ). after_calls b own) one.2)

pub held_after : (F : Call → Type 0) (file : ℕ) (x y : Told) (own : List Made) (c : List ℕ) → ((call : Call) → F call → OnFile file call) →
    Talked x y own → Each (λ call given. F call) own → IsAtHost x.held file c → IsAtHost y.held file (after_calls c own)
held_after F file x y own c on t each held =
    let after : (k : Held) × (y.held ≡ Some k) × ServesAll x.honest held.all own k = subst (λ z. HeldAfter x.honest z own y.held) held.told t.held in
    let all = hold_all F file x.honest own held.all after.0 held.found held.file_is on after.2 each in
    record { all = after.0; told = after.1; found = all.0; file_is = all.1; bytes = all.2 ∙ ap (λ (b : List ℕ). after_calls b own) held.bytes }

pub writes_held : (is_local : Type 0) → WritesAreHeld is_local
writes_held is_local file size at len x y own c t each held =
    held_after (IsForFileWrite is_local file size at len) file x y own c (write_on is_local file size at len) t each held

pub cuts_held : (is_local : Type 0) → CutsAreHeld is_local
cuts_held is_local file size to x y own c t each held =
    held_after (IsForCut is_local file size to) file x y own c (cut_on is_local file size to) t each held
