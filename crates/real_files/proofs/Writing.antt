-- A write that goes on.
use Rattle.std.proofs.Common.{◌≡◌, ◌≤◌, ℕ, ◌+◌, ◌-◌, List, ◌++◌, length, take, drop, ap, sym, ◌∙◌, subst, arith, Option, Some, None, append_assoc}
use Rattle.std.proofs.Math.Seq.{take-add}
use Rattle.std.proofs.lemmas.Grind.{common_steps}
use Rattle.std.proofs.lemmas.List.{take_rest}
use Rattle.std.specs.Io.KnownBytes.{Appends, Keeps}

appends_more : (old mid new : Option (List ℕ)) (bytes : List ℕ) (done n : ℕ) → Appends old mid (take done bytes)
    → Appends mid new (take n (drop done bytes)) → Appends old new (take (done + n) bytes)
appends_more None mid new bytes done n p q = tt
appends_more (Some us) None new bytes done n p q = absurd p
appends_more (Some us) (Some bs) None bytes done n p q = absurd q
appends_more (Some us) (Some bs) (Some cs) bytes done n p q =
    q ∙ ap (λ z. z ++ take n (drop done bytes)) p ∙ append_assoc us _ _ ∙ ap (λ z. us ++ z) (sym (take-add done n bytes))

few_more : (bytes : List ℕ) (done n : ℕ) → done ≤ length bytes → n ≤ length (drop done bytes) → done + n ≤ length bytes
few_more bytes done n p q = grind (arith, common_steps)

-- a prefix was written, and then the next bytes
pub goes_on : (old mid new : Option (List ℕ)) (bytes : List ℕ) (done n next : ℕ) → next ≡ done + n
    → (done ≤ length bytes) × Appends old mid (take done bytes) → n ≤ length (take (length bytes - done) (drop done bytes))
    → Appends mid new (take n (take (length bytes - done) (drop done bytes))) → (next ≤ length bytes) × Appends old new (take next bytes)
goes_on old mid new bytes done n next e (most, p) few q =
    let rest : take (length bytes - done) (drop done bytes) ≡ drop done bytes = take_rest bytes done in
    let fewer : n ≤ length (drop done bytes) = subst (λ z. n ≤ length z) rest few in
    let later : Appends mid new (take n (drop done bytes)) = subst (λ z. Appends mid new (take n z)) rest q in
    subst (λ z. (z ≤ length bytes) × Appends old new (take z bytes)) (sym e)
    (few_more bytes done n most fewer, appends_more old mid new bytes done n p later)

appends_still : (old mid new : Option (List ℕ)) (bytes : List ℕ) → Appends old mid bytes → Keeps mid new → Appends old new bytes
appends_still None mid new bytes p q = tt
appends_still (Some us) None new bytes p q = absurd p
appends_still (Some us) (Some bs) None bytes p q = absurd q
appends_still (Some us) (Some bs) (Some cs) bytes p q = q ∙ p

-- a prefix was written, and then nothing
pub stands_still : (old mid new : Option (List ℕ)) (bytes : List ℕ) (done next : ℕ) → next ≡ done
    → (done ≤ length bytes) × Appends old mid (take done bytes) → Keeps mid new → (next ≤ length bytes) × Appends old new (take next bytes)
stands_still old mid new bytes done next e (most, p) q =
    subst (λ z. (z ≤ length bytes) × Appends old new (take z bytes)) (sym e) (most, appends_still old mid new _ p q)
