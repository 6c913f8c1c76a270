-- What a host that answers by what it holds answers to some calls, and that it fails none that it can serve.
use Rattle.std.proofs.Common.{true, ◌≡◌, ℕ, min, zero, suc, ◌+◌, ◌-◌, ◌*◌, ◌≤◌, ◌^◌, List, [], ◌∷◌, ◌++◌, length, take, drop, Option, Some, None, refl, ap, sym, ◌∙◌, subst, arith, inl, inr}
use Rattle.std.specs.Prelude.{Bool}
use Rattle.host_traits.specs.declared.calls.Call.{Call}
use Rattle.host_traits.specs.declared.calls.Call.TheVariants.{BlockRead}
use Rattle.host_traits.specs.declared.calls.Said.{Said}
use Rattle.host_traits.specs.declared.calls.Said.TheVariants.{Bytes}
use Rattle.host_traits.specs.Held.{Held, Disk, serve}
use Rattle.host_traits.specs.Told.{Told, Talked, Exchanges, Made, Rose, Calm, Serves, ServesAll, HeldAfter, heard_of, exchange_of, failures_of, one_failure}
use Rattle.host_traits.specs.Did.{Each, reads}
use Rattle.host_traits.proofs.Holding.{sectors_served}

-- one answer after another, each by what is held then
abbrev pub Answers : Held → Exchanges → Held → Type 0
Answers h [] new = new ≡ h
Answers h (x ∷ more) new = (given : List ℕ) × (mid : Held) × (serve h x.0 given ≡ Some (x.1, mid)) × Answers mid more new

answers_one : (honest : Bool) (call : Call) (given : List ℕ) (came : Option Said) (more : Exchanges) (h mid k : Held) → Serves honest h call given came mid → Answers mid more k → Answers h (exchange_of call came ++ more) k
answers_one honest call given None more h mid k s rest = subst (λ z. Answers z more k) s.0 rest
answers_one honest call given (Some said) more h mid k s rest = (given, mid, s, rest)

pub answers : (honest : Bool) (own : List Made) (h k : Held) → ServesAll honest h own k → Answers h (heard_of own) k
answers honest [] h k s = s
answers honest (m ∷ own) h k s = answers_one honest m.call m.given m.came (heard_of own) h s.0 k s.1 (answers honest own s.0 k s.2)

-- what a host that told what it holds holds after some calls
pub holds_after : (h : Held) (a b : Told) (own : List Made) → a.held ≡ Some h → Talked a b own → (k : Held) × (b.held ≡ Some k) × ServesAll a.honest h own k
holds_after h a b own is t = subst (λ z. HeldAfter a.honest z own b.held) is t.held

-- the host can serve a call, which changes nothing that is held
abbrev pub CanServe : Held → Call → Type 0
CanServe h call = (said : Said) × (serve h call [] ≡ Some (said, h))

some_none : (x : Said × Held) → Some x ≡ None → ⊥
some_none x e = cc

held_is : (p q : Said × Held) → Some p ≡ Some q → p.1 ≡ q.1
held_is p q e = let same : p ≡ q = cc in ap (λ x. x.1) same

-- such a call changes nothing, answered or not
one_keeps : (honest : Bool) (h mid : Held) (call : Call) (given : List ℕ) (came : Option Said) → CanServe h call → given ≡ [] → Serves honest h call given came mid → h ≡ mid
one_keeps honest h mid call given None c none s = sym s.0
one_keeps honest h mid call given (Some said) c none s = held_is (c.0, h) (said, mid) (sym c.1 ∙ subst (λ g. serve h call g ≡ Some (said, mid)) none s)

-- and an honest host doesn't fail it
one_served : (h mid : Held) (call : Call) (given : List ℕ) (came : Option Said) → CanServe h call → given ≡ [] → Serves true h call given came mid → one_failure came ≡ 0
one_served h mid call given None c none s = absurd (some_none (c.0, h) (sym c.1 ∙ subst (λ g. serve h call g ≡ None) none (s.1 refl)))
one_served h mid call given (Some said) c none s = refl

-- nor do some such calls
pub reads_keep : (F : Call → Type 0) (honest : Bool) (own : List Made) (h k : Held) → ((call : Call) → F call → CanServe h call) → ServesAll honest h own k → Each (reads F) own → k ≡ h
reads_keep F honest [] h k can s each = s
reads_keep F honest (m ∷ own) h k can s each =
    let same : h ≡ s.0 = one_keeps honest h s.0 m.call m.given m.came (can m.call each.0.0) each.0.1 s.1 in
    reads_keep F honest own h k can (subst (λ z. ServesAll honest z own k) (sym same) s.2) each.1

none_fail : (F : Call → Type 0) (own : List Made) (h k : Held) → ((call : Call) → F call → CanServe h call) → ServesAll true h own k → Each (reads F) own → failures_of own ≡ 0
none_fail F [] h k can s each = refl
none_fail F (m ∷ own) h k can s each =
    let c = can m.call each.0.0 in
    let same : h ≡ s.0 = one_keeps true h s.0 m.call m.given m.came c each.0.1 s.1 in
    let one = one_served h s.0 m.call m.given m.came c each.0.1 s.1 in
    let rest = none_fail F own h k can (subst (λ z. ServesAll true z own k) (sym same) s.2) each.1 in
    omega (arith, one, rest)

-- where the count didn't rise, no call failed
pub quiet_none : (a b : Told) (own : List Made) → Talked a b own → (Rose a.faults b.faults → ⊥) → failures_of own ≡ 0
quiet_none a b own t quiet = by_count (failures_of own) t.counted where
  by_count : (n : ℕ) → min b.faults (2 ^ 64 - 1) ≡ min (a.faults + n) (2 ^ 64 - 1) → n ≡ 0
  by_count zero e = refl
  by_count (suc n) e = absurd (quiet (omega (arith, e)))

pub no_failure : (F : Call → Type 0) (own : List Made) (h k : Held) (a b : Told) → Talked a b own → Each (reads F) own → ((call : Call) → F call → CanServe h call) → ServesAll a.honest h own k
    → Calm a b → failures_of own ≡ 0
no_failure F own h k a b t each can s (inl quiet) = quiet_none a b own t quiet
no_failure F own h k a b t each can s (inr honest) = none_fail F own h k can (subst (λ z. ServesAll z h own k) honest s) each

-- sectors that a disk has can be read
pub can_read : (h : Held) (disk sector count : ℕ) (d : Disk) → h.disk disk ≡ Some d → 512 * (sector + count) ≤ length d.bytes → CanServe h (BlockRead disk sector count)
can_read h disk sector count d is room = (Bytes (take (512 * count) (drop (512 * sector) d.bytes)), sectors_served h disk sector count d [] is room)
