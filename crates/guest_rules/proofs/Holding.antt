-- What a host that holds an item answers to the calls for its pages.
use Rattle.std.proofs.Common.{◌≡◌, ℕ, List, [], ◌∷◌, refl, ap, sym, subst, inl, inr, Option, Some, None, true, false}
use Rattle.std.specs.Prelude.{Bool}
use Rattle.host_traits.specs.declared.calls.Call.{Call}
use Rattle.host_traits.specs.declared.calls.Call.TheVariants.{BlockRead, FileRead, TreeRead}
use Rattle.host_traits.specs.declared.calls.Said.{Said}
use Rattle.host_traits.specs.Held.{Held, serve, found, when}
use Rattle.host_traits.specs.Told.{Exchanges, Made, Serves, ServesAll, exchange_of, heard_of}
use Rattle.host_traits.specs.Did.{IsIn, Each, reads}
use Rattle.host_traits.proofs.Doing.{in_both}

-- a call that reads a block, a file or a page of a file's tree, and so changes nothing that is held
pub data IsReading : Call → Type 0 where
  of_blocks : (disk sector count : ℕ) → IsReading (BlockRead disk sector count)
  of_file : (file at want : ℕ) → IsReading (FileRead file at want)
  of_tree : (file level index : ℕ) → IsReading (TreeRead file level index)

pub pair_is : (p q : Said × Held) → Some p ≡ Some q → (p.0 ≡ q.0) × (p.1 ≡ q.1)
pair_is p q e = let same : p ≡ q = cc in (ap (λ x. x.0) same, ap (λ x. x.1) same)

pub when_is : (b : Bool) (p q : Said × Held) → when {A = Said × Held} b p ≡ Some q → (b ≡ true) × (Some p ≡ Some q)
when_is true p q e = (refl, e)
when_is false p q e = cc

found_same : {A : Type 0} (o : Option A) (f : A → Option (Said × Held)) (h k : Held) (said : Said) → ((a : A) → f a ≡ Some (said, k) → k ≡ h) → found o f ≡ Some (said, k) → k ≡ h
found_same None f h k said all e = cc
found_same (Some a) f h k said all e = all a e

when_same : (b : Bool) (h k : Held) (answer said : Said) → when {A = Said × Held} b (answer, h) ≡ Some (said, k) → k ≡ h
when_same true h k answer said e = sym (pair_is (answer, h) (said, k) e).1
when_same false h k answer said e = cc

-- a read changes nothing that is held
pub reading_keeps : (h k : Held) (call : Call) (given : List ℕ) (said : Said) → IsReading call → serve h call given ≡ Some (said, k) → k ≡ h
unfolding serve
reading_keeps h k call given said (of_blocks disk sector count) e =
    found_same (h.disk disk) _ h k said (λ d is. when_same _ h k _ said is) e
reading_keeps h k call given said (of_file file at want) e =
    found_same (h.file file) _ h k said (λ f is. sym (pair_is _ (said, k) is).1) e
reading_keeps h k call given said (of_tree file level index) e =
    found_same (h.file file) _ h k said (λ f is. sym (pair_is _ (said, k) is).1) e

-- each of some reads was answered by what is held
pub record AreServed (h : Held) (own : Exchanges) : Type 0 where
  pub each : (call : Call) (said : Said) → IsIn call said own → (given : List ℕ) × (serve h call given ≡ Some (said, h))

same_said : (p q : Call × Said) → p ≡ q → (p.0 ≡ q.0) × (p.1 ≡ q.1)
same_said p q e = (ap (λ x. x.0) e, ap (λ x. x.1) e)

pub keeps_one : (honest : Bool) (h k : Held) (call : Call) (given : List ℕ) (came : Option Said) → IsReading call → Serves honest h call given came k → k ≡ h
keeps_one honest h k call given None reading s = s.0
keeps_one honest h k call given (Some said) reading s = reading_keeps h k call given said reading s

served_one : (honest : Bool) (h : Held) (c : Call) (given : List ℕ) (came : Option Said) → Serves honest h c given came h
    → (call : Call) (said : Said) → IsIn call said (exchange_of c came) → (g : List ℕ) × (serve h call g ≡ Some (said, h))
served_one honest h c given None s call said i = absurd i
served_one honest h c given (Some x) s call said (inl e) = (given, rw ((same_said (call, said) (c, x) e).0, (same_said (call, said) (c, x) e).1) s)
served_one honest h c given (Some x) s call said (inr i) = absurd i

pub reads_keep : (honest : Bool) (own : List Made) (h k : Held) → ServesAll honest h own k → Each (reads IsReading) own → (k ≡ h) × AreServed h (heard_of own)
reads_keep honest [] h k s reading = (s, record { each = λ call said i. absurd i })
reads_keep honest (m ∷ own) h k s reading =
    let same = keeps_one honest h s.0 m.call m.given m.came reading.0.0 s.1 in
    let rest = reads_keep honest own h k (subst (λ z. ServesAll honest z own k) same s.2) reading.1 in (
      rest.0,
      record {
        each = in_both (λ call said. (g : List ℕ) × (serve h call g ≡ Some (said, h))) (exchange_of m.call m.came) (heard_of own)
            (served_one honest h m.call m.given m.came (subst (λ z. Serves honest h m.call m.given m.came z) same s.1)) rest.1.each;
      },
    )
