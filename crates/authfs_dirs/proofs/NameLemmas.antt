-- The names of a directory: one more, and one less.
use Rattle.std.proofs.Common.{if◌then◌else◌, ◌≡◌, ◌+◌, ℕ, Bool, true, false, cond, List, [], ◌∷◌, ◌++◌, length, Option, Some, None, refl, sym, ap, ◌∙◌, subst, arith}
use Rattle.std.specs.Prelude.{nat_eq}
use Rattle.std.specs.Cmp.Lexicographic.{pointwise, bytes_decides}
use Rattle.authfs_dirs.specs.Names.{Entry, is_named, named, unnamed, AreAlone}

-- ---- names as lists of bytes

pub same_name : (a b : List ℕ) → pointwise nat_eq a b ≡ true → a ≡ b
same_name a b e = (bytes_decides a b).0 e

pub same_self : (a : List ℕ) → pointwise nat_eq a a ≡ true
same_self a = (bytes_decides a a).1 refl

pub both_ways : (a b : List ℕ) → pointwise nat_eq a b ≡ pointwise nat_eq b a
both_ways a b = by (pointwise nat_eq a b) (pointwise nat_eq b a) refl refl where
  by : (p q : Bool) → pointwise nat_eq a b ≡ p → pointwise nat_eq b a ≡ q → p ≡ q
  by true true x y = refl
  by false false x y = refl
  by true false x y = let same = same_name a b x in absurd (let own = same_self b in let z : pointwise nat_eq b b ≡ false = subst (λ c. pointwise nat_eq b c ≡ false) same y in cc)
  by false true x y = let same = same_name b a y in absurd (let own = same_self a in let z : pointwise nat_eq a a ≡ false = subst (λ c. pointwise nat_eq a c ≡ false) same x in cc)

-- ---- a name more

not_named : (a b : List ℕ) (x : Entry) → pointwise nat_eq a b ≡ true → is_named a x ≡ false → is_named b x ≡ false
not_named a b x same other = subst (λ n. pointwise nat_eq n x.name ≡ false) (same_name a b same) other

differ : (a b : List ℕ) (x : Entry) → is_named a x ≡ false → is_named b x ≡ true → pointwise nat_eq a b ≡ false
differ a b x other there = by (pointwise nat_eq a b) refl where
  by : (d : Bool) → pointwise nat_eq a b ≡ d → d ≡ false
  by false e = refl
  by true e = absurd (let no = not_named a b x e other in cc)

pub none_tail : (b : Bool) (x : Entry) (o : Option Entry) → cond b (Some x) o ≡ None → (b ≡ false) × (o ≡ None)
none_tail true x o e = absurd cc
none_tail false x o e = (refl, e)

push_by : (name : List ℕ) (x e : Entry) (c : Bool) (o p : Option Entry) → is_named name x ≡ c → is_named e.name x ≡ false → o ≡ cond (pointwise nat_eq e.name name) (Some e) p
    → cond c (Some x) o ≡ cond (pointwise nat_eq e.name name) (Some e) (cond c (Some x) p)
push_by name x e true o p there here rest = rw (differ e.name name x here there) refl
push_by name x e false o p there here rest = rest

pub named-push : (name : List ℕ) (es : List Entry) (e : Entry) → named e.name es ≡ None → named name (es ++ e ∷ []) ≡ cond (pointwise nat_eq e.name name) (Some e) (named name es)
named-push name [] e none = rw (both_ways name e.name) refl
named-push name (x ∷ es) e none =
    let other = none_tail (is_named e.name x) x (named e.name es) none in
    push_by name x e (is_named name x) (named name (es ++ e ∷ [])) (named name es) refl other.0 (named-push name es e other.1)

apart_from : (x e : Entry) → is_named e.name x ≡ false → pointwise nat_eq e.name x.name ≡ false
apart_from x e h = h

pub alone-push : (es : List Entry) (e : Entry) → AreAlone es → named e.name es ≡ None → AreAlone (es ++ e ∷ [])
alone-push [] e is none = (refl, tt)
alone-push (x ∷ es) e is none =
    let other = none_tail (is_named e.name x) x (named e.name es) none in
    (named-push x.name es e other.1 ∙ rw (apart_from x e other.0) is.0, alone-push es e is.1 other.1)

-- ---- a name less

none_by : (name : List ℕ) (b : Bool) (x : Entry) (es fs : List Entry) → is_named name x ≡ false → named name es ≡ None → named name fs ≡ None → named name (if b then es else x ∷ fs) ≡ None
none_by name true x es fs other none rest = none
none_by name false x es fs other none rest = rw other rest

none_unnamed : (name gone : List ℕ) (es : List Entry) → named name es ≡ None → named name (unnamed gone es) ≡ None
none_unnamed name gone [] none = refl
none_unnamed name gone (x ∷ es) none =
    let tail = none_tail (is_named name x) x (named name es) none in
    none_by name (is_named gone x) x es (unnamed gone es) tail.0 tail.1 (none_unnamed name gone es tail.1)

alone_by : (b : Bool) (x : Entry) (es fs : List Entry) → AreAlone es → named x.name fs ≡ None → AreAlone fs → AreAlone (if b then es else x ∷ fs)
alone_by true x es fs is none rest = is
alone_by false x es fs is none rest = (none, rest)

pub alone-unnamed : (gone : List ℕ) (es : List Entry) → AreAlone es → AreAlone (unnamed gone es)
alone-unnamed gone [] is = tt
alone-unnamed gone (x ∷ es) is = alone_by (is_named gone x) x es (unnamed gone es) is.1 (none_unnamed x.name gone es is.0) (alone-unnamed gone es is.1)

none_either : (b : Bool) (o : Option Entry) → o ≡ None → o ≡ cond b None o
none_either true o e = e
none_either false o e = refl

unnamed_by : (name gone : List ℕ) (b c : Bool) (x : Entry) (es fs : List Entry) → is_named gone x ≡ b → pointwise nat_eq gone name ≡ c → named x.name es ≡ None
    → named name fs ≡ cond c None (named name es) → named name (if b then es else x ∷ fs) ≡ cond c None (cond (is_named name x) (Some x) (named name es))
unnamed_by name gone true true x es fs here same none rest =
    let e : name ≡ x.name = sym (same_name gone name same) ∙ same_name gone x.name here in subst (λ n. named n es ≡ None) (sym e) none
unnamed_by name gone true false x es fs here other none rest =
    let no : is_named name x ≡ false = subst (λ n. pointwise nat_eq name n ≡ false) (same_name gone x.name here) (both_ways name gone ∙ other) in
    rw no refl
unnamed_by name gone false true x es fs here same none rest = rw (not_named gone name x same here) rest
unnamed_by name gone false false x es fs here other none rest = ap (cond (is_named name x) (Some x)) rest

pub named-unnamed : (name gone : List ℕ) (es : List Entry) → AreAlone es → named name (unnamed gone es) ≡ cond (pointwise nat_eq gone name) None (named name es)
named-unnamed name gone [] is = none_either (pointwise nat_eq gone name) (named name []) refl
named-unnamed name gone (x ∷ es) is = unnamed_by name gone (is_named gone x) (pointwise nat_eq gone name) x es (unnamed gone es) refl refl is.0 (named-unnamed name gone es is.1)

length_by : (b : Bool) (x e : Entry) (es fs : List Entry) (o : Option Entry) → cond b (Some x) o ≡ Some e → (o ≡ Some e → length fs + 1 ≡ length es) → length (if b then es else x ∷ fs) + 1 ≡ length (x ∷ es)
length_by true x e es fs o at rest = omega arith
length_by false x e es fs o at rest = let r = rest at in omega arith

pub length-unnamed : (name : List ℕ) (es : List Entry) (e : Entry) → named name es ≡ Some e → length (unnamed name es) + 1 ≡ length es
length-unnamed name [] e at = absurd cc
length-unnamed name (x ∷ es) e at = length_by (is_named name x) x e es (unnamed name es) (named name es) at (λ there. length-unnamed name es e there)

kept_all : (b : Bool) (x : Entry) (es fs : List Entry) → b ≡ false → fs ≡ es → (if b then es else x ∷ fs) ≡ x ∷ es
kept_all true x es fs e same = absurd cc
kept_all false x es fs e same = ap (λ ys. x ∷ ys) same

pub unnamed_none : (name : List ℕ) (es : List Entry) → named name es ≡ None → unnamed name es ≡ es
unnamed_none name [] none = refl
unnamed_none name (x ∷ es) none =
    let tail = none_tail (is_named name x) x (named name es) none in
    kept_all (is_named name x) x es (unnamed name es) tail.0 (unnamed_none name es tail.1)
