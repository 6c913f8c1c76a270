-- Levels and indices of tree pages as keys of a map.
use Rattle.std.proofs.Common.{if◌then◌else◌, ◌&&◌, ◌≡◌, ◌+◌, ◌++◌, ℕ, Bool, true, false, cond, List, length, take, drop, refl, ◌∙◌, ap, arith, Some, Option, Less, Equal, Greater, append-nil}
use Rattle.std.specs.Prelude.{nat_eq}
use Rattle.std.specs.Ordering.{nat_cmp, ordering_then, is_eq}
use Rattle.std.specs.BTreeMap.{is_at}
use Rattle.std.specs.Map.{lookup}
use Rattle.std.proofs.lemmas.Bool.Decides.{nat_tests}
use Rattle.std.proofs.lemmas.List.{drop_all}
use Rattle.host_traits.specs.Held.{tree_with}
use Rattle.mem_files.specs.Files.{Pages, page_in, place_cmp, or_zeros}

-- a whole page put over another
pub page_put : (old new : List ℕ) → length new ≡ 4096 → length old ≡ 4096 → take 0 old ++ new ++ drop (0 + length new) old ≡ new
page_put old new is was = rw (drop_all (0 + length new) old (omega (arith, is, was))) (append-nil new)

same_number : (k q : ℕ) → is_eq (nat_cmp k q) ≡ nat_eq k q
same_number k q = grind (arith, nat_tests)

both_same : (k q m n : ℕ) → is_eq (ordering_then (nat_cmp k q) (nat_cmp m n)) ≡ (is_eq (nat_cmp k q) && is_eq (nat_cmp m n))
both_same k q m n = elim (nat_cmp k q) as (λ o. is_eq (ordering_then o (nat_cmp m n)) ≡ (is_eq o && is_eq (nat_cmp m n))) [ Less ↦ refl | Equal ↦ refl | Greater ↦ refl ]

pub place_test : (level index l i : ℕ) → is_at (place_cmp (level, index)) (l, i) ≡ (nat_eq level l && nat_eq index i)
place_test level index l i = both_same level l index i ∙ ap (λ b. b && is_eq (nat_cmp index i)) (same_number level l) ∙ ap (λ b. nat_eq level l && b) (same_number index i)

page_chosen : (b : Bool) (v : List ℕ) (o : Option (List ℕ)) → or_zeros (cond b (Some v) o) ≡ (if b then v else or_zeros o)
page_chosen true v o = refl
page_chosen false v o = refl

-- a page put
pub tree_put : (old new : Pages) (level index : ℕ) (page bytes : List ℕ) → page ≡ bytes
    → ((q : ℕ × ℕ) → lookup (is_at (place_cmp q)) new ≡ cond (is_at (place_cmp (level, index)) q) (Some page) (lookup (is_at (place_cmp q)) old))
    → (l i : ℕ) → page_in new l i ≡ tree_with (page_in old) level index bytes l i
tree_put old new level index page bytes is puts l i =
    ap or_zeros (puts (l, i)) ∙ ap (λ b. or_zeros (cond b (Some page) (lookup (is_at (place_cmp (l, i))) old))) (place_test level index l i)
    ∙ page_chosen (nat_eq level l && nat_eq index i) page (lookup (is_at (place_cmp (l, i))) old) ∙ ap (λ v. if nat_eq level l && nat_eq index i then v else page_in old l i) is
