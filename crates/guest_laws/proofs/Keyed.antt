-- A plan in the grammar with an instance line has a secret of 32 bytes.
use Rattle.std.proofs.Common.{◌≡◌, ◌+◌, ℕ, zero, suc, Bool, true, false, List, [], ◌∷◌, length, Option, Some, None, is_some, Ok, refl, subst, arith, if◌then◌else◌}
use Rattle.std.specs.Prelude.{slice_get, not, ◌&&◌}
use Rattle.std.specs.List.{AllByRecursion}
use Rattle.text_lines.specs.Spelling.{collect}
use Rattle.guest_plan.specs.declared.plan.PlanLine.{PlanLine}
use Rattle.guest_plan.specs.declared.plan.PlanLine.TheVariants as line
use Rattle.guest_plan.specs.declared.plan.Item.{Item}
use Rattle.guest_plan.specs.declared.plan.Item.TheVariants.{Secret, InstanceSalt, Line}
use Rattle.guest_plan.specs.Plans.{Known, nothing, add, lacks, first_lacking, has_keys, has_instance}
use Rattle.guest_plan.specs.Spelling.{IsItem}
use Rattle.guest_boot.proofs.Plans.{chosen, bound, plan_numbered}
use Rattle.guest_laws.specs.Seals.{InstancesHaveSecrets}
use Rattle.guest_laws.proofs.Lines.{same_line}

rest_none : (b : Bool) (n : ℕ) (r : Option ℕ) → (if b then Some n else r) ≡ None → (b ≡ false) × (r ≡ None)
rest_none true n r e = absurd cc
rest_none false n r e = (refl, e)

not_false : (b : Bool) → not b ≡ false → b ≡ true
not_false true e = refl
not_false false e = absurd cc

first_true : (a b : Bool) → (a && b) ≡ true → a ≡ true
first_true true b e = refl
first_true false b e = absurd cc

-- where no line lacks anything, a plan with an instance line has its keys
keyed_at : (keyed there : Bool) (lines : List PlanLine) (numbers : List ℕ) (at disk : ℕ) (part : List ℕ) → length numbers ≡ length lines → first_lacking keyed there lines numbers ≡ None
    → slice_get lines at ≡ Some (line.Instance disk part) → keyed ≡ true
keyed_at keyed there [] numbers at disk part even e is = absurd cc
keyed_at keyed there (l ∷ lines) [] at disk part even e is = absurd (omega (arith, even))
keyed_at keyed there (l ∷ lines) (m ∷ numbers) zero disk part even e is =
    let whole = subst (λ (x : PlanLine). (if lacks keyed there x then Some m else first_lacking keyed there lines numbers) ≡ None) (same_line l (line.Instance disk part) is) e in
    not_false keyed (rest_none (not keyed) m (first_lacking keyed there lines numbers) whole).0
keyed_at keyed there (l ∷ lines) (m ∷ numbers) (suc at) disk part even e is =
    keyed_at keyed there lines numbers at disk part (omega (arith, even)) (rest_none (lacks keyed there l) m (first_lacking keyed there lines numbers) e).1 is

-- a secret has 32 bytes
abbrev IsLong : Option (List ℕ) → Type 0
IsLong None = Unit {0}
IsLong (Some bytes) = length bytes ≡ 32

long_added : (k later : Known) (n : ℕ) (item : Item) → IsLong k.secret → IsItem item → add k n item ≡ Ok later → IsLong later.secret
unfolding add
long_added k later n (Secret bytes) s one e = subst (λ (z : Known). IsLong z.secret) (chosen _ _ _ _ e) one.0
long_added k later n (InstanceSalt bytes) s one e = subst (λ (z : Known). IsLong z.secret) (chosen _ _ _ _ e) s
long_added k later n (Line l) s one e = subst (λ (z : Known). IsLong z.secret) (chosen _ _ _ _ e) s

long : (n : ℕ) (k later : Known) (items : List Item) → IsLong k.secret → AllByRecursion IsItem items → collect add n k items ≡ Ok later → IsLong later.secret
unfolding collect
long n k later [] s each e = let same : k ≡ later = cc in subst (λ (z : Known). IsLong z.secret) same s
long n k later (item ∷ items) s each e =
    let b = bound (add k n item) _ later e in
    long (n + 1) b.0 later items (long_added k b.0 n item s each.0 b.1) each.1 b.2

there_is : (secret : Option (List ℕ)) → IsLong secret → is_some secret ≡ true → (bytes : List ℕ) × (secret ≡ Some bytes) × (length bytes ≡ 32)
there_is None s e = absurd cc
there_is (Some bytes) s e = (bytes, refl, s)

pub secrets_there : InstancesHaveSecrets
secrets_there text plan at disk part p is =
    there_is plan.secret (long 2 nothing plan p.items.items tt p.items.each p.items.says)
    (first_true (is_some plan.secret) (is_some plan.salt) (keyed_at (has_keys plan) (has_instance plan) plan.lines plan.numbers at disk part (plan_numbered text plan p) p.complete is))
