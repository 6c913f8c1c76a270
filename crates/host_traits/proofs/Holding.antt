-- A call that was made, over what is held.
use Rattle.std.proofs.Common.{Bool, true, inl, inr, ◌≡◌, ℕ, ◌+◌, ◌*◌, ◌≤◌, List, [], ◌∷◌, length, take, drop, Option, Some, None, refl, ap, sym, ◌∙◌, subst, arith}
use Rattle.std.specs.Prelude.{nat_le}
use Rattle.std.proofs.lemmas.Bool.Decides.{nat_tests}
use Rattle.host_traits.specs.declared.calls.Call.{Call}
use Rattle.host_traits.specs.declared.calls.Call.TheVariants.{BlockRead, FileRead, TreeRead, Descriptor}
use Rattle.host_traits.specs.declared.calls.Said.{Said}
use Rattle.host_traits.specs.declared.calls.Said.TheVariants.{Bytes}
use Rattle.host_traits.specs.Held.{Held, Disk, File, serve}
use Rattle.host_traits.specs.Told.{Told, Made, made_of, HeldAfter, Answered, Refused, Unheard, Calm}

same_held : (h k : Held) → Some h ≡ Some k → h ≡ k
same_held h k e = cc

-- what is held after some calls, where this was held before them
held_from : (honest : Bool) (old new : Option Held) (own : List Made) (h : Held) → old ≡ Some h → HeldAfter honest old own new → HeldAfter honest (Some h) own new
held_from honest old new own h is after = subst (λ (z : Option Held). HeldAfter honest z own new) is after

-- an answered call was served by what was held
pub held_answered : (call : Call) (given : List ℕ) (said : Said) (old new : Told) (h : Held) → old.held ≡ Some h → Answered call given said old new
    → (k : Held) × (new.held ≡ Some k) × (serve h call given ≡ Some (said, k))
held_answered call given said old new h is a =
    let after = held_from old.honest old.held new.held _ h is a.held in
    (after.2.0, after.1 ∙ ap Some after.2.2, after.2.1)

-- one that failed changed nothing, and an honest host had to refuse it
pub held_refused : (call : Call) (given : List ℕ) (old new : Told) (h : Held) → old.held ≡ Some h → Refused call given old new
    → (new.held ≡ Some h) × (old.honest ≡ true → serve h call given ≡ None)
held_refused call given old new h is r =
    let after = held_from old.honest old.held new.held _ h is r.held in
    (after.1 ∙ ap Some (after.2.2 ∙ after.2.1.0), after.2.1.1)

pub held_unheard : (old new : Told) (h : Held) → old.held ≡ Some h → Unheard old new → new.held ≡ Some h
held_unheard old new h is u =
    let after = held_from old.honest old.held new.held _ h is u.talked.held in
    after.1 ∙ ap Some after.2

-- what is served isn't refused, and is one thing
pub not_both : (x : Option (Said × Held)) (v : Said × Held) → x ≡ None → x ≡ Some v → ⊥
not_both x v none some = absurd cc

pub same_answer : (a b : List ℕ) (h k : Held) (x : Option (Said × Held)) → x ≡ Some (Bytes a, h) → x ≡ Some (Bytes b, k) → (b ≡ a) × (k ≡ h)
same_answer a b h k x p q =
    let pair : Some (Bytes b, k) ≡ Some (Bytes a, h) = sym q ∙ p in
    let inner : (Bytes b, k) ≡ (Bytes a, h) = cc in
    let said : Bytes b ≡ Bytes a = ap (λ (z : Said × Held). z.0) inner in
    (cc, ap (λ (z : Said × Held). z.1) inner)

-- ---- where no count rose, or the host is honest

pub calm_first : (x y z : Told) → y.faults ≤ z.faults → Calm x z → Calm x y
calm_first x y z le (inl quiet) = inl (λ rose. quiet (omega (arith, rose, le)))
calm_first x y z le (inr honest) = inr honest

pub calm_rest : (x y z : Told) → x.faults ≤ y.faults → y.honest ≡ x.honest → Calm x z → Calm y z
calm_rest x y z le same (inl quiet) = inl (λ rose. quiet (omega (arith, rose, le)))
calm_rest x y z le same (inr honest) = inr (same ∙ honest)

-- no call failed that what was held can serve
pub calm_served : (call : Call) (given : List ℕ) (old new : Told) (h : Held) (v : Said × Held) → old.held ≡ Some h → Refused call given old new
    → Calm old new → serve h call given ≡ Some v → ⊥
calm_served call given old new h v is r (inl quiet) some = quiet (omega (arith, r.counted))
calm_served call given old new h v is r (inr honest) some =
    not_both (serve h call given) v ((held_refused call given old new h is r).1 honest) some

-- ---- how reads are served

is_le : (a b : ℕ) → a ≤ b → nat_le a b ≡ true
is_le a b le = grind (arith, nat_tests, le)

pub file_served : (h : Held) (file at want : ℕ) (f : File) (given : List ℕ) → h.file file ≡ Some f
    → serve h (FileRead file at want) given ≡ Some (Bytes (take want (drop at f.bytes)), h)
unfolding serve
file_served h file at want f given there = rw there refl

pub tree_served : (h : Held) (file level index : ℕ) (f : File) (given : List ℕ) → h.file file ≡ Some f
    → serve h (TreeRead file level index) given ≡ Some (Bytes (take 4096 (f.tree level index)), h)
unfolding serve
tree_served h file level index f given there = rw there refl

pub sectors_served : (h : Held) (disk sector count : ℕ) (d : Disk) (given : List ℕ) → h.disk disk ≡ Some d → 512 * (sector + count) ≤ length d.bytes
    → serve h (BlockRead disk sector count) given ≡ Some (Bytes (take (512 * count) (drop (512 * sector) d.bytes)), h)
unfolding serve
sectors_served h disk sector count d given there le = let fits = is_le _ _ le in rw (there, fits) refl

pub descriptor_served : (h : Held) (file : ℕ) (f : File) (given : List ℕ) → h.file file ≡ Some f
    → serve h (Descriptor file) given ≡ Some (Bytes (take 256 f.descriptor), h)
unfolding serve
descriptor_served h file f given there = rw there refl
