-- Names as keys of a set.
use Rattle.std.proofs.Common.{if◌then◌else◌, ◌≡◌, ℕ, Bool, true, false, List, [], ◌∷◌, map, ◌||◌, refl, sym, ◌∙◌, ap, subst}
use Rattle.std.specs.Prelude.{nat_eq}
use Rattle.std.specs.Global.{Vec}
use Rattle.std.specs.List.{list_any}
use Rattle.std.specs.Ordering.{nat_cmp, eq_by_cmp}
use Rattle.std.specs.BTreeMap.{is_at}
use Rattle.std.specs.Set.{KeepsOthers}
use Rattle.std.specs.Cmp.Lexicographic.{pointwise, pointwise_decides, slice_cmp, texts_ties}
use Rattle.std.proofs.lemmas.Bool.{false_from_ne_true}
use Rattle.std.proofs.lemmas.Bool.Decides.{Decides-eqb}
use Rattle.host_traits.specs.Held.{name_with}
use Rattle.mem_files.specs.Files.{has_name}

abbrev pub items_of : Vec ℕ → List ℕ
items_of v = v.items

-- does a key have this name?
abbrev pub at_name : List ℕ → Vec ℕ → Bool
at_name name = is_at (λ (k : Vec ℕ). slice_cmp nat_cmp name k.items)

name_is : (a b : List ℕ) → pointwise nat_eq a b ≡ true → a ≡ b
name_is a b e = (pointwise_decides Decides-eqb a b).0 e

name_so : (a : List ℕ) → pointwise nat_eq a a ≡ true
name_so a = (pointwise_decides Decides-eqb a a).1 refl

pub has_key : (name : List ℕ) (keys : List (Vec ℕ)) → list_any (at_name name) keys ≡ has_name (map items_of keys) name
has_key name [] = refl
has_key name (k ∷ ks) = ap (λ b. b || list_any (at_name name) ks) (sym (texts_ties name k.items)) ∙ ap (λ b. pointwise nat_eq name k.items || b) (has_key name ks)

-- a key test of a name
key_test : (name : List ℕ) (x y : Vec ℕ) → at_name name x ≡ true → at_name name y ≡ eq_by_cmp (λ (a b : Vec ℕ). slice_cmp nat_cmp a.items b.items) x y
key_test name x y e = ap (λ z. eq_by_cmp (slice_cmp nat_cmp) z y.items) (name_is name x.items (texts_ties name x.items ∙ e))

apart : (name other : List ℕ) → pointwise nat_eq name other ≡ false → (k : Vec ℕ) → at_name name k ≡ true → at_name other k ≡ false
apart name other differ k e = false_from_ne_true (at_name other k) (λ f.
    let same : name ≡ other = name_is name k.items (texts_ties name k.items ∙ e) ∙ sym (name_is other k.items (texts_ties other k.items ∙ f)) in
    let both : true ≡ false = sym (subst (λ z. pointwise nat_eq name z ≡ true) same (name_so name)) ∙ differ in
    cc)

-- keys of which one name is there or not, and each other as it was
pub renamed : (there : Bool) (name : List ℕ) (old new : List (Vec ℕ)) → list_any (at_name name) new ≡ there
    → KeepsOthers (eq_by_cmp (λ (a b : Vec ℕ). slice_cmp nat_cmp a.items b.items)) (at_name name) old new
    → (other : List ℕ) → has_name (map items_of new) other ≡ name_with (has_name (map items_of old)) name there other
unfolding KeepsOthers
renamed there name old new is keeps other = by_test (pointwise nat_eq name other) refl where
  by_test : (b : Bool) → pointwise nat_eq name other ≡ b → has_name (map items_of new) other ≡ (if b then there else has_name (map items_of old) other)
  by_test true e = ap (has_name (map items_of new)) (sym (name_is name other e)) ∙ sym (has_key name new) ∙ is
  by_test false e = sym (has_key other new) ∙ keeps (at_name other) (key_test other) (apart name other e) ∙ has_key other old
