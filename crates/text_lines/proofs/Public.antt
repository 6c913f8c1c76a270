-- What a value's reader says of the field that it read.
use Rattle.std.proofs.Common.{◌≡◌, ◌<◌, ◌≤◌, ◌^◌, ℕ, List, Result, Ok, Err, ap, ◌∙◌, subst, arith}
use Rattle.std.specs.Prelude.{IfOk}
use Rattle.std.specs.Fmt.{decimal}
use Rattle.hex.specs.Hex.{encode_lower}
use Rattle.text_lines.specs.declared.kinds.PlanKind.{PlanKind}
use Rattle.text_lines.specs.declared.kinds.LineFault.{LineFault}
use Rattle.text_lines.specs.Fields.{Gives}
use Rattle.text_lines.specs.Values.{number_in, hex_of, page_salt}
use Rattle.text_lines.specs.Spelling.{IsHexed, IsSalt, salt_text}
use Rattle.text_lines.proofs.Numbers.{number_takes, number_again, hex_takes, hex_again, salt_takes, salt_again}

given_found : {Y : Type 0} (P : Y → Type 0) (r : Result Y LineFault) (read : Result Y PlanKind) → ((y : Y) → read ≡ Ok y → P y) → Gives (λ y. y) r read → IfOk r P
given_found P (Ok x) read law e = law x e
given_found P (Err f) read law e = tt

pub number_found : (low limit : ℕ) (text : List ℕ) (r : Result ℕ LineFault) → limit ≤ 2 ^ 64 → Gives (λ n. n) r (number_in low limit text) → IfOk r (λ n. (text ≡ decimal n) × (low ≤ n) × (n < limit))
number_found low limit text r small e = given_found (λ n. (text ≡ decimal n) × (low ≤ n) × (n < limit)) r (number_in low limit text) (λ n is. number_takes low limit text n small is) e

pub number_only : (low limit : ℕ) (text : List ℕ) (r : Result ℕ LineFault) → limit ≤ 2 ^ 64 → Gives (λ n. n) r (number_in low limit text) → (n : ℕ) → text ≡ decimal n → low ≤ n → n < limit → Gives (λ m. m) r (Ok n)
number_only low limit text r small e n is above below = subst (λ (x : Result ℕ PlanKind). Gives (λ m. m) r x) (ap (number_in low limit) is ∙ number_again low limit n small above below) e

pub number64_found : (text : List ℕ) (r : Result ℕ LineFault) → Gives (λ n. n) r (number_in 0 (2 ^ 64) text) → IfOk r (λ n. text ≡ decimal n)
number64_found text r e = given_found (λ n. text ≡ decimal n) r (number_in 0 (2 ^ 64) text) (λ n is. (number_takes 0 (2 ^ 64) text n (omega arith) is).0) e

pub hex_found : (n : ℕ) (text : List ℕ) (r : Result (List ℕ) LineFault) → Gives (λ b. b) r (hex_of n text) → IfOk r (λ b. text ≡ encode_lower b)
hex_found n text r e = given_found (λ b. text ≡ encode_lower b) r (hex_of n text) (λ b is. (hex_takes n text b is).0) e

pub hex_only : (n : ℕ) (text : List ℕ) (r : Result (List ℕ) LineFault) → Gives (λ b. b) r (hex_of n text) → (b : List ℕ) → IsHexed n b → text ≡ encode_lower b → Gives (λ x. x) r (Ok b)
hex_only n text r e b h is = subst (λ (x : Result (List ℕ) PlanKind). Gives (λ y. y) r x) (ap (hex_of n) is ∙ hex_again n b h) e

pub salt_found : (text : List ℕ) (r : Result (List ℕ) LineFault) → Gives (λ s. s) r (page_salt text) → IfOk r (λ s. IsSalt s × (text ≡ salt_text s))
salt_found text r e = given_found (λ s. IsSalt s × (text ≡ salt_text s)) r (page_salt text) (λ s is. let t = salt_takes text s is in ((t.1, t.2), t.0)) e

pub salt_only : (text : List ℕ) (r : Result (List ℕ) LineFault) → Gives (λ s. s) r (page_salt text) → (s : List ℕ) → IsSalt s → text ≡ salt_text s → Gives (λ x. x) r (Ok s)
salt_only text r e s h is = subst (λ (x : Result (List ℕ) PlanKind). Gives (λ y. y) r x) (ap page_salt is ∙ salt_again s h.0 h.1) e
