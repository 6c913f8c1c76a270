-- Words that are written one after another.
use Rattle.std.proofs.Common.{◌≡◌, ℕ, List, ◌++◌, Option, Result, refl, ap, sym, subst, ◌∙◌, append_assoc, append-nil}
use Rattle.std.specs.Prelude.{codes, OnOk, OnErr}
use Rattle.std.specs.Io.KnownBytes.{Appends}
use Rattle.host_traits.specs.Streams.{SomePrefix}
use Rattle.host_traits.proofs.Prefixes.{appends_then, appends_then_ok, prefix_second_err}
use Rattle.std.specs.Fmt.{decimal}
use Rattle.guest_boot.specs.declared.faults.BootCause.{BootCause}
use Rattle.guest_boot.specs.declared.faults.BootCause.TheVariants.{Gpt, NoPart, Apk, File, Image, Get, Put, NoEntropy, MeasureText, Failed, Short, Memory}
use Rattle.guest_boot.specs.declared.faults.BootFault.{BootFault}
use Rattle.guest_boot.specs.Wording.{boot_words, front_words, named, front, boot_end, space, line_feed}

-- the words of a value, where another is that value
pub said : {A : Type 0} (words : A → List ℕ) (x y : A) (row new : List ℕ) → x ≡ y → new ≡ row ++ words y → new ≡ row ++ words x
said {A = A} words x y row new is e = e ∙ ap (λ (z : A). row ++ words z) (sym is)

-- the same where they came in two parts
pub said_then : {A : Type 0} (words : A → List ℕ) (x y : A) (row mid new a b : List ℕ) → x ≡ y → mid ≡ row ++ a → new ≡ mid ++ b → a ++ b ≡ words y → new ≡ row ++ words x
said_then words x y row mid new a b is first then whole =
    said words x y row new is (then ∙ ap (λ (z : List ℕ). z ++ b) first ∙ append_assoc row a b ∙ ap (λ (z : List ℕ). row ++ z) whole)

-- the words before the name, and the name
whole_words : (why : BootCause) → front_words why ++ named why ≡ boot_words why
whole_words (NoPart name) = refl
whole_words (Gpt f) = append-nil (boot_words (Gpt f))
whole_words (Apk f) = append-nil (boot_words (Apk f))
whole_words (File f) = append-nil (boot_words (File f))
whole_words (Image f) = append-nil (boot_words (Image f))
whole_words (Get f) = append-nil (boot_words (Get f))
whole_words (Put f) = append-nil (boot_words (Put f))
whole_words (NoEntropy left) = append-nil (boot_words (NoEntropy left))
whole_words MeasureText = append-nil (boot_words MeasureText)
whole_words (Failed faults) = append-nil (boot_words (Failed faults))
whole_words (Short asked got) = append-nil (boot_words (Short asked got))
whole_words Memory = append-nil (boot_words Memory)

parts : (p d e f : List ℕ) → (p ++ d) ++ (e ++ f) ≡ (p ++ (d ++ e)) ++ f
parts p d e f = sym (append_assoc (p ++ d) e f) ∙ ap (λ (z : List ℕ). z ++ f) (append_assoc p d e)

pub whole_end : (fault : BootFault) → front fault ++ (named fault.why ++ line_feed) ≡ boot_end fault
whole_end fault =
    parts (codes "end 8 boot " ++ decimal fault.line ++ space) (front_words fault.why) (named fault.why) line_feed
    ∙ ap (λ (z : List ℕ). (codes "end 8 boot " ++ decimal fault.line ++ space ++ z) ++ line_feed) (whole_words fault.why)

-- ---- the line in three writes

module _ (a b c d : Option (List ℕ)) (fault : BootFault) (x y : List ℕ) where
  two : x ≡ front fault → y ≡ named fault.why → Appends a b x → Appends b c y → Appends a c (front fault ++ named fault.why)
  two first second p q = appends_then a b c (front fault) (named fault.why) (subst (Appends a b) first p) (subst (Appends b c) second q)

  cut_end : (front fault ++ named fault.why) ++ line_feed ≡ boot_end fault
  cut_end = append_assoc (front fault) (named fault.why) line_feed ∙ whole_end fault

  pub three_ok : {T E : Type 0} (r : Result T E) → x ≡ front fault → y ≡ named fault.why → Appends a b x → Appends b c y → OnOk r (Appends c d line_feed) → OnOk r (Appends a d (boot_end fault))
  three_ok r first second p q last = subst (λ (z : List ℕ). OnOk r (Appends a d z)) cut_end (appends_then_ok a c d (front fault ++ named fault.why) line_feed r (two first second p q) last)

  pub three_err : {T E : Type 0} (r : Result T E) → x ≡ front fault → y ≡ named fault.why → Appends a b x → Appends b c y → OnErr r (SomePrefix c d line_feed) → OnErr r (SomePrefix a d (boot_end fault))
  three_err r first second p q last = subst (λ (z : List ℕ). OnErr r (SomePrefix a d z)) cut_end (prefix_second_err a c d (front fault ++ named fault.why) line_feed r (two first second p q) last)
