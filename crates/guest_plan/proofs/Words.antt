-- Lines that are told apart by a word, and what is made of a line's fields.
use Rattle.std.proofs.Common.{◌≡◌, ℕ, List, cond, Result, Ok, inl, inr}
use Rattle.std.specs.Str.{bytes_eq}
use Rattle.text_lines.specs.declared.kinds.PlanKind.{PlanKind}
use Rattle.text_lines.specs.Fields.{◌>>=◌}
use Rattle.text_lines.proofs.Numbers.{bind_ok, chosen, text_is}

pub ok_is : {A : Type 0} (x y : A) → let r : Result A PlanKind = Ok x in r ≡ Ok y → x ≡ y
ok_is x y e = cc

-- what holds where a field is this word, and where it is another
pub by_word : {A : Type 0} {P : Type 0} (a b : List ℕ) (then_so else_so z : Result A PlanKind) → (a ≡ b → then_so ≡ z → P) → (else_so ≡ z → P) → cond (bytes_eq a b) then_so else_so ≡ z → P
by_word a b then_so else_so z this other e =
    elim (chosen (bytes_eq a b) then_so else_so z e) [
      | inl h ↦ this (text_is a b h.0) h.1
      | inr h ↦ other h.1
    ]

-- what is made of the fields that were read
pub made_of : {A B : Type 0} (r : Result A PlanKind) (make : A → B) (y : B) → (r >>= λ x. Ok (make x)) ≡ Ok y → (x : A) × (r ≡ Ok x) × (make x ≡ y)
made_of r make y e = let a = bind_ok r (λ x. Ok (make x)) y e in (a.0, a.1, ok_is (make a.0) y a.2)
