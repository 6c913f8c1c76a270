-- Pieces put one behind the other.
use Rattle.std.proofs.Common.{◌≡◌, ℕ, List, ◌++◌, append_assoc, Result, Ok, Err, OnOk}

pub joined2 : (o a b x y : List ℕ) → x ≡ o ++ a → y ≡ x ++ b → y ≡ o ++ (a ++ b)
joined2 o a b x y e f = rw (f, e) (simp append_assoc)

pub joined3 : (o a b c x y z : List ℕ) → x ≡ o ++ a → y ≡ x ++ b → z ≡ y ++ c → z ≡ o ++ (a ++ (b ++ c))
joined3 o a b c x y z e f g = rw (g, f, e) (simp append_assoc)

pub joined4 : (o a b c d x y z w : List ℕ) → x ≡ o ++ a → y ≡ x ++ b → z ≡ y ++ c → w ≡ z ++ d → w ≡ o ++ (a ++ (b ++ (c ++ d)))
joined4 o a b c d x y z w e f g h = rw (h, g, f, e) (simp append_assoc)

pub joined5 : (o a b c d e x y z w v : List ℕ) → x ≡ o ++ a → y ≡ x ++ b → z ≡ y ++ c → w ≡ z ++ d → v ≡ w ++ e → v ≡ o ++ (a ++ (b ++ (c ++ (d ++ e))))
joined5 o a b c d e x y z w v e1 e2 e3 e4 e5 = rw (e5, e4, e3, e2, e1) (simp append_assoc)

pub joined6 : (o a b c d e f x y z w v u : List ℕ) → x ≡ o ++ a → y ≡ x ++ b → z ≡ y ++ c → w ≡ z ++ d → v ≡ w ++ e → u ≡ v ++ f → u ≡ o ++ (a ++ (b ++ (c ++ (d ++ (e ++ f)))))
joined6 o a b c d e f x y z w v u e1 e2 e3 e4 e5 e6 = rw (e6, e5, e4, e3, e2, e1) (simp append_assoc)

pub weaker : {T E : Type 0} {P Q : Type 0} (r : Result T E) → (P → Q) → OnOk r P → OnOk r Q
weaker (Ok x) f p = f p
weaker (Err e) f p = tt
